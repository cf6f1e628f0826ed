use Rattle.std.proofs.Common.{◌≡◌, ◌∙◌, sym, ap, subst, ℕ, List, ◌++◌, arith, lit<, Bool, true, false}
use Rattle.std.specs.Prelude.{ℤ, pos, flat_map, ◌==◌, if◌then◌else◌}
use Rattle.std.specs.List.{AllByRecursion, range_with_len}
use Rattle.base_laws.proofs.Ranges.{flat-range-more}
use Rattle.base_laws.proofs.Lists.{All-every, All-flat_map, All-map}
use Rattle.affine_form.specs.Form.{IsSmall}
use Rattle.affine_form.specs.Matrix.{HasShape}
use Rattle.execution_laws.specs.Inverse.{scaled_entry}
use Rattle.projective_bounds.specs.Whole.{identity_row}
use Rattle.projective_bounds.proofs.Identities.{identity-shape}
use Rattle.projective_bounds.proofs.matrices.identity.Goals as goal
use Rattle.iolb_model.specs.declared.limits.TheConstants.{NUMBER_SIZE}

entry-small : (row column : ℕ) → IsSmall NUMBER_SIZE (scaled_entry 1 row column)
entry-small row column = by (row == column) where
  by : (b : Bool) → IsSmall NUMBER_SIZE (if b then pos 1 else pos 0)
  by true = lit< tt
  by false = lit< tt

cells-small : (size n : ℕ) → AllByRecursion (IsSmall NUMBER_SIZE) (flat_map (identity_row size) (range_with_len 0 n))
cells-small size n =
    All-flat_map (IsSmall NUMBER_SIZE) (identity_row size) (range_with_len 0 n)
    (All-every (λ (row : ℕ). AllByRecursion (IsSmall NUMBER_SIZE) (identity_row size row))
    (λ row. All-map (IsSmall NUMBER_SIZE) (scaled_entry 1 row) (range_with_len 0 size) (All-every (λ (column : ℕ). IsSmall NUMBER_SIZE (scaled_entry 1 row column)) (entry-small row) (range_with_len 0 size)))
    (range_with_len 0 n))

pub loop-row-preserved : goal.loop-row-preserved
loop-row-preserved c = c.in_ok-cells.ensures ∙ ap (λ (xs : List ℤ). xs ++ identity_row c.args.size c.loop-row.row) c.loop-row.invariant ∙ sym (flat-range-more (identity_row c.args.size) c.loop-row.row)

pub new-requires-clause-shape : goal.new-requires-clause-shape
new-requires-clause-shape c =
    let end : c.loop-row.row ≡ c.args.size = omega (arith, c.loop-row-test.false, c.loop-row.auto.row-end) in
    subst (HasShape c.args.size c.args.size) (sym (c.loop-row.invariant ∙ ap (λ (n : ℕ). flat_map (identity_row c.args.size) (range_with_len 0 n)) end)) (identity-shape c.args.size c.requires)

pub new-requires-clause-small : goal.new-requires-clause-small
new-requires-clause-small c = subst (AllByRecursion (IsSmall NUMBER_SIZE)) (sym c.loop-row.invariant) (cells-small c.args.size c.loop-row.row)
