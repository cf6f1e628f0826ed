use Rattle.std.proofs.Common.{◌≡◌, ◌∙◌, ◌+◌, ap, sym, get_or, length, arith}
use Rattle.std.proofs.lemmas.List.FromFn.{get_or-range_with_len}
use Rattle.affine_program.proofs.Decided.{counted-more}
use Rattle.affine_program.proofs.well_formed.are_counted.Goals as goal

pub returns-then-from-i : goal.returns-then-from-i
returns-then-from-i c = (
  λ t. absurd cc,
  λ h.
      let none : 0 + c.loop-i.i ≡ c.loop-i.i = omega arith in
      absurd (c.if-from-i.true (c.from.ensures ∙ ap (λ xs. get_or xs c.loop-i.i 0) h ∙ get_or-range_with_len 0 (length c.args.numbers.now) c.loop-i.i 0 c.loop-i-test.true ∙ none)),
)

pub loop-i-preserved : goal.loop-i-preserved
loop-i-preserved c = counted-more c.args.numbers.now c.loop-i.i c.loop-i-test.true (sym c.from.ensures ∙ c.if-from-i.false) c.loop-i.invariant
