use Rattle.std.proofs.Common.{◌≡◌, List, ℕ, true, sym, subst, ◌∙◌}
use Rattle.std.proofs.lemmas.List.{length-map}
use Rattle.json_parts.specs.Fields.{rises}
use Rattle.json_parts.specs.Names.{names_of}
use Rattle.json_parts.proofs.FieldsBack.{object-back}
use Rattle.json_parts.proofs.puts.write_object.Goals as goal

pub returns-clause-read : goal.returns-clause-read
returns-clause-read g c =
    let names : List (List ℕ) = names_of c.args.names.now in
    object-back (g.M.Puts.fields names) (g.M.Puts.said c.args.members.now)
    (subst (λ (ns : List (List ℕ)). rises ns ≡ true) (sym (g.met.M.Puts.names_are names (length-map c.args.names.now _ ∙ c.requires.names))) c.requires.rise) c.in_ok-write.ensures.read
