use Rattle.std.proofs.Common.{◌≡◌, sym, subst, ℕ, List, ◌++◌}
use Rattle.std.specs.Prelude.{OnOk, Option, Some}
use Rattle.bound_warnings.specs.Names.{lines_of}
use Rattle.bound_warnings.proofs.names.warn_name.Goals as goal

pub returns-in-Some : goal.returns-in-Some
returns-in-Some c =
    subst (λ (meant : Option (List ℕ)). OnOk c.write_meaning.result (c.write_meaning.new.page ≡ c.args.page.now ++ lines_of c.args.file.now c.args.name.now meant)) (sym c.in-Some.ensures)
    (subst (λ (name : List ℕ). OnOk c.write_meaning.result (c.write_meaning.new.page ≡ c.args.page.now ++ lines_of c.args.file.now name (Some c.in-Some.meaning.now))) c.bytes.ensures.bytes
    c.write_meaning.ensures)
