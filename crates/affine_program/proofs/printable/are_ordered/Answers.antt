use Rattle.std.proofs.Common.{◌≡◌, sym, ap, ◌∙◌, ℕ, map, true, nat_eq, arith}
use Rattle.std.specs.Prelude.{Option, Some, None}
use Rattle.std.specs.Option.{option_eq}
use Rattle.std.proofs.lemmas.Bool.{eqb-true}
use Rattle.std.proofs.lemmas.Bool.Decides.{nat_tests}
use Rattle.affine_program.specs.Parts.{statement_of}
use Rattle.affine_program.specs.Printable.{statement_numbers}
use Rattle.affine_program.proofs.Ordered.{seen_ordered, ordered_seen}
use Rattle.affine_program.proofs.printable.are_ordered.Goals as goal

same : (o : Option ℕ) (n : ℕ) → option_eq nat_eq o (Some n) ≡ true → o ≡ Some n
same None n e = cc
same (Some m) n e = ap Some (eqb-true m n e)

itself : (n : ℕ) → nat_eq n n ≡ true
itself n = grind (arith, nat_tests)

pub returns : goal.returns
returns c = (
  λ yes. seen_ordered 0 (statement_numbers (map statement_of c.args.statements.now)) c.args.arrays (sym c.seen_after_all.ensures ∙ same c.seen_after_all.result c.args.arrays (sym c.eq.ensures ∙ yes)),
  λ h. c.eq.ensures ∙ ap (λ (o : Option ℕ). option_eq nat_eq o (Some c.args.arrays)) (c.seen_after_all.ensures ∙ ordered_seen 0 (statement_numbers (map statement_of c.args.statements.now)) c.args.arrays h) ∙ itself c.args.arrays,
)
