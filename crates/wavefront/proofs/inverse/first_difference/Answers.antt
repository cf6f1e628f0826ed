use Rattle.std.proofs.Common.{◌≡◌, sym, ◌∙◌, ap, subst, inl, inr, ◌⊎◌, ℕ, ◌+◌, ◌*◌, ◌<◌, List, take, drop, arith}
use Rattle.std.specs.Prelude.{ℤ}
use Rattle.iolb_model.specs.Form.{dot}
use Rattle.execution_laws.specs.Inverse.{product_entry, scaled_entry}
use Rattle.wavefront.specs.Inverse.{coefficients_past}
use Rattle.reuse_paths.specs.MatrixRows.{matrix_rows}
use Rattle.wavefront.specs.Columns.{coefficients_at}
use Rattle.wavefront.proofs.Entries.{entry_is}
use Rattle.wavefront.proofs.inverse.first_difference.Goals as goal

pub returns-in-Some-clause-some : goal.returns-in-Some-clause-some
returns-in-Some-clause-some c =
    let row : ℕ = c.loop-row.row in
    let part : List ℤ = c.entries_of-entries.result.now in
    let rows_in : row < c.args.matrix.now.rows = omega (arith, c.loop-row-test.true, c.rows-row-end.ensures.rows) in
    let is : (col : ℕ) → product_entry (matrix_rows c.args.matrix.now) (coefficients_past c.args.parameters c.args.forms.now) row col ≡ dot part (coefficients_at (c.args.parameters + col) c.args.forms.now) =
    λ col. entry_is c.args.matrix.now c.args.parameters row col c.args.forms.now rows_in ∙ ap (λ (l : List ℤ). dot l (coefficients_at (c.args.parameters + col) c.args.forms.now)) (sym c.entries_of-entries.ensures.entries) in
    record {
      row_there = omega (arith, rows_in, c.requires.rows);
      col_there = c.in-Some.ensures.inside;
      differs = λ e. c.in-Some.ensures.differs (sym (is c.in-Some.col) ∙ e);
      none_before = λ row' col' l m before. let l' : row' < c.args.matrix.now.rows = omega (arith, l, c.requires.rows) in elim before [
        | inl less ↦ entry_is c.args.matrix.now c.args.parameters row' col' c.args.forms.now l' ∙ c.loop-row.invariant row' less col' m
        | inr both ↦ subst (λ (r : ℕ). product_entry (matrix_rows c.args.matrix.now) (coefficients_past c.args.parameters c.args.forms.now) r col' ≡ scaled_entry c.args.scale r col') (sym both.0)
            (is col' ∙ c.in-Some.ensures.before col' both.1)
      ];
    }

pub returns-clause-none : goal.returns-clause-none
returns-clause-none c row col l m =
    let l' : row < c.args.matrix.now.rows = omega (arith, l, c.requires.rows) in
    entry_is c.args.matrix.now c.args.parameters row col c.args.forms.now l' ∙ c.loop-row.invariant row (omega (arith, l', c.loop-row-test.false, c.rows-row-end.ensures.rows)) col m

cases : (r n : ℕ) → r < n + 1 → (r ≡ n) ⊎ (r < n)
cases r n h = grind arith

pub loop-row-preserved : goal.loop-row-preserved
loop-row-preserved c r less col m = elim (cases r c.loop-row.row less) [
  | inl e ↦ subst (λ (k : ℕ). dot (take c.args.matrix.now.columns (drop (k * c.args.matrix.now.columns) c.args.matrix.now.cells)) (coefficients_at (c.args.parameters + col) c.args.forms.now) ≡ scaled_entry c.args.scale k col) (sym e)
      (ap (λ (l : List ℤ). dot l (coefficients_at (c.args.parameters + col) c.args.forms.now)) (sym c.entries_of-entries.ensures.entries) ∙ c.in_default.ensures.none col m)
  | inr below ↦ c.loop-row.invariant r below col m
]
