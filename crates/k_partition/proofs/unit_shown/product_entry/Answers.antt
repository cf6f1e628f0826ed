use Rattle.std.proofs.Common.{◌≡◌, sym, ◌∙◌, ap, subst, ◌<◌, ℕ, [], pos, ◌+ℤ◌, length, List, ℤ, FitsSigned, to_z, of_z, ◌*ℤ◌, get_or, drop, rules, lit≤, arith}
use mir.Syntax.{w128, w32}
use Rattle.std.specs.Prelude.{unsigned_abs}
use Rattle.std.proofs.lemmas.Int.{ints, to_z-of_z, fits_signed_from_abs}
use Rattle.std.proofs.lemmas.List.{drop_all}
use Rattle.iolb_model.specs.Form.{dot}
use Rattle.affine_form.proofs.Lists.{dot-step}
use Rattle.affine_form.proofs.Sizes.{small-bits, sum-step}
use Rattle.execution_laws.specs.Inverse.{column, product_entry}
use Rattle.reuse_paths.specs.MatrixRows.{matrix_rows}
use Rattle.reuse_paths.proofs.Matrices.{row-long}
use Rattle.k_partition.proofs.Entries.{column-long, entry-small, entry-in-column, entry-in-row}
use Rattle.k_partition.proofs.unit_shown.product_entry.Goals as goal
use Rattle.iolb_model.specs.declared.limits.TheConstants.{NUMBER_SIZE}

-- the number that comes behind the first so many
below : (k n m : ℕ) → k < n → n ≡ m → k < m
below k n m l e = subst (λ (x : ℕ). k < x) e l

pub loop-k-preserved : goal.loop-k-preserved
loop-k-preserved c =
    let first = c.args.first.now in
    let second = c.args.second.now in
    let row : List ℤ = get_or (matrix_rows first) c.args.row [] in
    let k : ℕ = c.loop-k.k in
    let sum : ℤ = to_z w128 c.loop-k.sum-bits in
    let x : ℤ = c.entry.result in
    let y : ℤ = c.from.result in
    let there : k < first.columns = omega (arith, c.loop-k-test.true, c.cols-k-end.ensures.columns) in
    let there_second : k < second.rows = omega (arith, there, c.requires.one_size) in
    let long : k < length row = below k first.columns (length row) there (sym (row-long first c.args.row c.cells-first.ensures.shape c.requires.row_in)) in
    let small_x : unsigned_abs x < NUMBER_SIZE = subst (λ (z : ℤ). unsigned_abs z < NUMBER_SIZE) (sym c.entry.ensures) (entry-small first c.args.row k c.cells-first.ensures.small) in
    let small_e : unsigned_abs c.entry-in-loop-k.result < NUMBER_SIZE =
    subst (λ (z : ℤ). unsigned_abs z < NUMBER_SIZE) (sym c.entry-in-loop-k.ensures) (entry-small second k c.args.col c.cells-second.ensures.small) in
    let bits_x : to_z w32 (of_z w32 x) ≡ x = to_z-of_z w32 x (fits_signed_from_abs w32 x (omega (arith, small_x))) in
    let bits_e : to_z w32 (of_z w32 c.entry-in-loop-k.result) ≡ c.entry-in-loop-k.result =
    to_z-of_z w32 c.entry-in-loop-k.result (fits_signed_from_abs w32 c.entry-in-loop-k.result (omega (arith, small_e))) in
    let y_is : y ≡ c.entry-in-loop-k.result = c.from.ensures ∙ bits_e in
    let small_y : unsigned_abs y < NUMBER_SIZE = subst (λ (z : ℤ). unsigned_abs z < NUMBER_SIZE) (sym y_is) small_e in
    let bits_y : to_z w128 (of_z w128 y) ≡ y = small-bits y NUMBER_SIZE small_y (lit≤ tt) in
    let is : c.add_entry-sum.result ≡ sum +ℤ (x *ℤ y) = c.add_entry-sum.ensures ∙ ap (λ (z : ℤ). sum +ℤ (z *ℤ to_z w128 (of_z w128 y))) bits_x ∙ ap (λ (z : ℤ). sum +ℤ (x *ℤ z)) bits_y in
    let fits : FitsSigned w128 c.add_entry-sum.result = search rules in
    rw (to_z-of_z w128 c.add_entry-sum.result fits)
    (record {
      so_far = dot-step row (column c.args.col (matrix_rows second)) k sum _ x y (pos 0) c.add_entry-sum.result long
          (below k second.rows (length (column c.args.col (matrix_rows second))) there_second (sym (column-long second c.args.col)))
          (entry-in-row first c.args.row k x c.requires.row_in there c.entry.ensures long)
          (entry-in-column second k c.args.col y there_second c.requires.col_in (y_is ∙ c.entry-in-loop-k.ensures)) is c.loop-k.invariant.so_far;
      small = sum-step sum c.add_entry-sum.result x y 0 k NUMBER_SIZE NUMBER_SIZE is small_x small_y c.loop-k.invariant.small;
    })

ended : (sum total : ℤ) → sum +ℤ pos 0 ≡ total → sum ≡ total
ended sum total h = omega (arith, ints, h)

pub returns : goal.returns
returns c =
    let row : List ℤ = get_or (matrix_rows c.args.first.now) c.args.row [] in
    let numbers : List ℤ = drop c.loop-k.k (column c.args.col (matrix_rows c.args.second.now)) in
    let entry : ℤ = product_entry (matrix_rows c.args.first.now) (matrix_rows c.args.second.now) c.args.row c.args.col in
    let gone : drop c.loop-k.k row ≡ [] =
    drop_all c.loop-k.k row (omega (arith, c.loop-k-test.false, c.cols-k-end.ensures.columns, row-long c.args.first.now c.args.row c.cells-first.ensures.shape c.requires.row_in)) in
    ended (to_z w128 c.loop-k.sum-bits) entry (subst (λ (xs : List ℤ). (to_z w128 c.loop-k.sum-bits +ℤ dot xs numbers) ≡ entry) gone c.loop-k.invariant.so_far)
