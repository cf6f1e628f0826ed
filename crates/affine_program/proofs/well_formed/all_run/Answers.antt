use Rattle.std.proofs.Common.{◌≡◌, ◌∙◌, ◌+◌, ap, sym, subst, true, map, ℕ, List, arith}
use Rattle.std.specs.List.{AllByRecursion, enumerate_from}
use Rattle.iolb_model.specs.Order.{row_common}
use Rattle.affine_program.specs.declared.statement.Statement.{Statement}
use Rattle.affine_program.specs.declared.item.Item.{Item}
use Rattle.affine_form.specs.Rows.{direction_of}
use Rattle.affine_program.specs.Tree.{row_of}
use Rattle.affine_program.proofs.Decided.{placed-more, placed-read}
use Rattle.affine_program.proofs.well_formed.all_run.Goals as goal

pub returns-then-not-runs : goal.returns-then-not-runs
returns-then-not-runs c = (
  λ t. absurd cc,
  λ h.
      let P : ℕ × Statement → Type 0 = λ placed. row_common (row_of c.args.draft.now.tree.items) placed.0 placed.0 ≡ map direction_of placed.1.down.items in
      let all : AllByRecursion P (enumerate_from 0 c.as_slice-statement-items.result.now) = subst (λ (xs : List Statement). AllByRecursion P (enumerate_from 0 xs)) (sym c.as_slice-statement-items.ensures.value) h in
      let here : P (c.loop-number.number, c.statement-item.result) = placed-read P c.as_slice-statement-items.result.now c.loop-number.number c.statement-item.result all c.loop-number-test.true c.statement-item.is in
      let yes : c.runs.result ≡ true =
      c.runs.ensures.1 (ap (λ (items : List Item). row_common (row_of items) c.loop-number.number c.loop-number.number) c.as_slice-tree.ensures.value ∙ here ∙ ap (map direction_of) (sym c.as_slice.ensures.value)) in
      absurd cc,
)

pub loop-number-preserved : goal.loop-number-preserved
loop-number-preserved c =
    let P : ℕ × Statement → Type 0 = λ placed. row_common (row_of c.args.draft.now.tree.items) placed.0 placed.0 ≡ map direction_of placed.1.down.items in
    let here : P (c.loop-number.number, c.statement-item.result) =
    ap (λ (items : List Item). row_common (row_of items) c.loop-number.number c.loop-number.number) (sym c.as_slice-tree.ensures.value) ∙ c.runs.ensures.0 c.if-not-runs.false ∙ ap (map direction_of) c.as_slice.ensures.value in
    let none : c.loop-number.number ≡ 0 + c.loop-number.number = omega arith in
    placed-more P 0 c.as_slice-statement-items.result.now c.loop-number.number c.statement-item.result c.loop-number-test.true c.statement-item.is c.loop-number.invariant
    (subst (λ (n : ℕ). P (n, c.statement-item.result)) none here)
