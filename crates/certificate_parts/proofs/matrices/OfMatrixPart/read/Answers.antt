use Rattle.std.proofs.Common.{◌≡◌, ◌≤◌, ℕ, length, map, subst, sym, ap, ◌∙◌, arith}
use Rattle.std.specs.List.{AllByRecursion}
use Rattle.std.proofs.lemmas.List.{length-map}
use Rattle.affine_form.specs.Form.{IsSmall}
use Rattle.affine_form.specs.Matrix.{HasShape}
use Rattle.json_values.specs.View.{json_data}
use Rattle.certificate_parts.specs.Matrices.{reads_row, all_entries, row_items}
use Rattle.certificate_parts.proofs.MatrixRows.{length-each, has_shape, entries_small}
use Rattle.certificate_parts.proofs.matrices.OfMatrixPart.read.Goals as goal
use Rattle.iolb_model.specs.declared.limits.TheConstants.{NUMBER_SIZE}

pub new-requires-clause-shape : goal.new-requires-clause-shape
new-requires-clause-shape c =
    let rows = c.in_ok-rows.rows.items in
    let many : length rows ≡ length (map json_data c.in_ok-values.values.now) =
    sym (length-map rows row_items) ∙ length-each (reads_row c.columns_of-columns.result) 0 (map json_data c.in_ok-values.values.now) (map row_items rows) c.in_ok-rows.ensures.read in
    let most : length (map json_data c.in_ok-values.values.now) ≤ 6 = omega (arith, length-map c.in_ok-values.values.now json_data, c.in_ok-values.ensures.few) in
    let cells : c.in_ok-cells.cells.items ≡ all_entries (map row_items rows) = c.in_ok-cells.ensures ∙ ap (λ rs. all_entries (map row_items rs)) c.as_slice.ensures.value in
    let count : c.len.result ≡ length rows = c.len.ensures ∙ sym c.as_slice.ensures.len ∙ ap length c.as_slice.ensures.value in
    subst (λ (n : ℕ). HasShape n c.columns_of-columns.result c.in_ok-cells.cells.items) (sym count)
    (has_shape c.columns_of-columns.result rows (map json_data c.in_ok-values.values.now) c.in_ok-cells.cells.items c.in_ok-rows.ensures.shape many most c.columns_of-columns.ensures cells)

pub new-requires-clause-small : goal.new-requires-clause-small
new-requires-clause-small c =
    let cells : c.in_ok-cells.cells.items ≡ all_entries (map row_items c.in_ok-rows.rows.items) = c.in_ok-cells.ensures ∙ ap (λ rs. all_entries (map row_items rs)) c.as_slice.ensures.value in
    subst (AllByRecursion (IsSmall NUMBER_SIZE)) (sym cells) (entries_small c.columns_of-columns.result c.in_ok-rows.rows.items c.in_ok-rows.ensures.shape)
