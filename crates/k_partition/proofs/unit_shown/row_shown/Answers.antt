use Rattle.std.specs.Prelude.{codes}
use Rattle.std.proofs.Common.{true, ◌≡◌, List, ap, subst, ℕ, ◌<◌, ◌++◌, ◌∷◌, [], length, arith}
use Rattle.claims.specs.declared.place.Step.{Step}
use Rattle.claims.proofs.Found.{refused-here}
use Rattle.execution_laws.specs.Inverse.{product_entry, scaled_entry}
use Rattle.reuse_paths.specs.MatrixRows.{matrix_rows}
use Rattle.claims.specs.Claims.{IsRefusalAt}
use Rattle.claims.specs.declared.place.Step.TheVariants.{Index, Key}
use Rattle.claims.proofs.Members.{counts-refused, counts-hold}
use Rattle.k_partition.specs.PartitionClaims.{unit_claim}
use Rattle.k_partition.specs.View.{partition_of}
use Rattle.k_partition.proofs.unit_shown.row_shown.Goals as goal

pub returns-then-not-is_unit_entry : goal.returns-then-not-is_unit_entry
returns-then-not-is_unit_entry c =
    let term = partition_of c.args.term.now in
    let place = c.args.place.now in
    let row : ℕ = c.args.row in
    let col : ℕ = c.loop-col.col in
    let each = unit_claim place term row in
    let below : col < length term.nest = omega (arith, c.loop-col-test.true, ap length c.bounds-col-end.ensures) in
    let differs : product_entry (matrix_rows term.inverse) (matrix_rows term.matrix) row col ≡ scaled_entry 1 row col → ⊥ =
    λ e. let yes : c.is_unit_entry.result ≡ true = c.is_unit_entry.ensures.1 e in cc in
    counts-refused each (length term.nest) col c.refusal.result below c.loop-col.invariant
    (refused-here (record { condition = 16; place = place ++ Key (codes "inverse") ∷ Index row ∷ Index col ∷ []; statement = product_entry (matrix_rows term.inverse) (matrix_rows term.matrix) row col ≡ scaled_entry 1 row col }) []
    c.refusal.result differs (subst (λ (p : List Step). IsRefusalAt 16 p c.refusal.result) c.in_ok-entry.ensures c.refusal.ensures))

pub returns : goal.returns
returns c =
    let term = partition_of c.args.term.now in
    counts-hold (unit_claim c.args.place.now term c.args.row) (length term.nest) (λ k less. c.loop-col.invariant k (omega (arith, less, c.loop-col-test.false, ap length c.bounds-col-end.ensures)))
