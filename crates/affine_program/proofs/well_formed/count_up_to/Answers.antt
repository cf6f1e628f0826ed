use Rattle.std.proofs.Common.{◌∙◌, ap, sym, length, ℕ}
use Rattle.std.specs.List.{range_with_len}
use Rattle.std.proofs.lemmas.List.FromFn.{length-range_with_len}
use Rattle.std.proofs.lemmas.Bool.{eqb-true}
use Rattle.affine_program.proofs.well_formed.count_up_to.Goals as goal

pub returns-then-numbers-many : goal.returns-then-numbers-many
returns-then-numbers-many c =
    let same = ap (λ (n : ℕ). range_with_len 0 n) c.if-numbers-many.true in
    (λ t. c.are_counted.ensures.0 t ∙ same, λ h. c.are_counted.ensures.1 (h ∙ sym same))

pub returns-else-numbers-many : goal.returns-else-numbers-many
returns-else-numbers-many c = (
  λ t. absurd (c.if-numbers-many.false (eqb-true (length c.args.numbers.now) c.args.many t)),
  λ h. absurd (c.if-numbers-many.false (ap length h ∙ length-range_with_len 0 c.args.many)),
)
