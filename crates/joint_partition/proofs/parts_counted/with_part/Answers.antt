use Rattle.std.specs.Prelude.{codes}
use Rattle.std.proofs.Common.{ℕ, length, ◌++◌, ◌∷◌, [], rules}
use Rattle.affine_program.specs.Parts.{meaning}
use Rattle.claims.specs.Claims.{Claim, IsRefusal}
use Rattle.claims.specs.declared.place.Step.TheVariants.{Key}
use Rattle.claims.proofs.Found.{refused-first, refused-later}
use Rattle.claims.proofs.Laws.{AllHold-append}
use Rattle.domain_count.specs.CountClaims.{count_claims}
use Rattle.k_partition.specs.CreditSums.{next_claims, HasWithCredit}
use Rattle.joint_partition.specs.Claims.{count_of}
use Rattle.joint_partition.specs.View.{part_of}
use Rattle.k_partition.proofs.CreditSums.{added-refused}
use Rattle.joint_partition.proofs.parts_counted.with_part.Goals as goal

pub returns-in_err-count-clause-refused : goal.returns-in_err-count-clause-refused
returns-in_err-count-clause-refused c =
    let program = meaning c.args.program.now in
    let place = c.args.place.now in
    let credit = count_of (part_of c.args.part.now) in
    let last : Claim = record { condition = 2; place = place ++ Key (codes "sums") ∷ []; statement = HasWithCredit (length c.args.program.now.params) c.args.before.now credit } in
    let refused : IsRefusal (next_claims program place c.args.before.now credit) c.in_err-count.field-0.0 =
    refused-first (count_claims program credit.nest.nest credit.count place) (last ∷ []) c.in_err-count.field-0.0 c.in_err-count.ensures.refused in
    search rules

pub returns-in_err-sum-clause-refused : goal.returns-in_err-sum-clause-refused
returns-in_err-sum-clause-refused c =
    let program = meaning c.args.program.now in
    let place = c.args.place.now in
    let credit = count_of (part_of c.args.part.now) in
    let parameters : ℕ = length c.args.program.now.params in
    let last : Claim = record { condition = 2; place = place ++ Key (codes "sums") ∷ []; statement = HasWithCredit parameters c.args.before.now credit } in
    let refused : IsRefusal (next_claims program place c.args.before.now credit) c.in_err-sum.field-0.0 =
    refused-later (count_claims program credit.nest.nest credit.count place) (last ∷ []) c.in_err-sum.field-0.0 c.in_ok-count.ensures.holds
    (added-refused parameters c.args.before.now c.in_ok-count.count credit (place ++ Key (codes "sums") ∷ []) c.in_err-sum.field-0.0 c.in_ok-count.ensures.right.sums c.in_err-sum.ensures.refused) in
    search rules

pub returns-clause-sum : goal.returns-clause-sum
returns-clause-sum c = (c.in_ok-count.count, (c.in_ok-count.ensures.right.sums, c.in_ok-sum.ensures.sum))

pub returns-clause-holds : goal.returns-clause-holds
returns-clause-holds c =
    let program = meaning c.args.program.now in
    let place = c.args.place.now in
    let credit = count_of (part_of c.args.part.now) in
    let last : Claim = record { condition = 2; place = place ++ Key (codes "sums") ∷ []; statement = HasWithCredit (length c.args.program.now.params) c.args.before.now credit } in
    AllHold-append (count_claims program credit.nest.nest credit.count place) (last ∷ []) c.in_ok-count.ensures.holds
    ((c.in_ok-sum.sum, (c.in_ok-count.count, (c.in_ok-count.ensures.right.sums, c.in_ok-sum.ensures.sum))), tt)
