use Rattle.std.proofs.Common.{◌≡◌, ◌+◌, sym, subst, true, ℕ, List, length, arith}
use Rattle.std.specs.List.{AllByRecursion, enumerate_from}
use Rattle.base_laws.proofs.Lists.{All-read}
use Rattle.affine_program.specs.declared.statement.Statement.{Statement}
use Rattle.affine_program.specs.Limits.{IsStatementWithinLimits}
use Rattle.affine_program.specs.Parts.{HasItsWay}
use Rattle.affine_program.proofs.Decided.{placed-more, placed-read}
use Rattle.affine_program.proofs.well_formed.have_their_ways.Goals as goal

pub has_its_way-requires-clause-within : goal.has_its_way-requires-clause-within
has_its_way-requires-clause-within c =
    All-read IsStatementWithinLimits c.as_slice-statement-items.result.now c.loop-number.number c.statement-item.result
    (subst (AllByRecursion IsStatementWithinLimits) (sym c.as_slice-statement-items.ensures.value) c.requires.each) c.loop-number-test.true c.statement-item.is

pub returns-then-not-has_its_way : goal.returns-then-not-has_its_way
returns-then-not-has_its_way c = (
  λ t. absurd cc,
  λ h.
      let P : ℕ × Statement → Type 0 = HasItsWay (length c.args.draft.now.params.items) c.args.draft.now.tree.items in
      let all : AllByRecursion P (enumerate_from 0 c.as_slice-statement-items.result.now) = subst (λ (xs : List Statement). AllByRecursion P (enumerate_from 0 xs)) (sym c.as_slice-statement-items.ensures.value) h in
      let here : P (c.loop-number.number, c.statement-item.result) = placed-read P c.as_slice-statement-items.result.now c.loop-number.number c.statement-item.result all c.loop-number-test.true c.statement-item.is in
      let yes : c.has_its_way.result ≡ true = c.has_its_way.ensures.1 here in
      absurd cc,
)

pub loop-number-preserved : goal.loop-number-preserved
loop-number-preserved c =
    let P : ℕ × Statement → Type 0 = HasItsWay (length c.args.draft.now.params.items) c.args.draft.now.tree.items in
    let none : c.loop-number.number ≡ 0 + c.loop-number.number = omega arith in
    placed-more P 0 c.as_slice-statement-items.result.now c.loop-number.number c.statement-item.result c.loop-number-test.true c.statement-item.is c.loop-number.invariant
    (subst (λ (n : ℕ). P (n, c.statement-item.result)) none (c.has_its_way.ensures.0 c.if-not-has_its_way.false))
