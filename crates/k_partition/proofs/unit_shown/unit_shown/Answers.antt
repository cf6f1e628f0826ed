use Rattle.std.proofs.Common.{rules, ap, ℕ, length, arith}
use Rattle.claims.specs.Claims.{IsRefusal, counted}
use Rattle.claims.proofs.Members.{counts-refused, counts-hold}
use Rattle.k_partition.specs.PartitionClaims.{unit_claim}
use Rattle.k_partition.specs.View.{partition_of}
use Rattle.k_partition.proofs.unit_shown.unit_shown.Goals as goal

pub returns-in_err-row_shown : goal.returns-in_err-row_shown
returns-in_err-row_shown c =
    let term = partition_of c.args.term.now in
    let each = λ (k : ℕ). counted (unit_claim c.args.place.now term k) 0 (length term.nest) in
    let r = c.in_err-row_shown.field-0.0 in
    let refused : IsRefusal (counted each 0 (length term.nest)) r =
    counts-refused each (length term.nest) c.loop-row.row r (omega (arith, c.loop-row-test.true, ap length c.bounds-row-end.ensures)) c.loop-row.invariant c.in_err-row_shown.ensures in
    search rules

pub returns : goal.returns
returns c =
    let term = partition_of c.args.term.now in
    counts-hold (λ (k : ℕ). counted (unit_claim c.args.place.now term k) 0 (length term.nest)) (length term.nest)
    (λ k less. c.loop-row.invariant k (omega (arith, less, c.loop-row-test.false, ap length c.bounds-row-end.ensures)))
