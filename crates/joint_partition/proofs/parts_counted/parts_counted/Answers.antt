use Rattle.std.proofs.Common.{refl, sym, subst, ℕ, List, ◌+◌, ◌++◌, map, length, drop, take, rules, arith}
use Rattle.std.specs.Prelude.{Ok, Err}
use Rattle.std.proofs.lemmas.List.{drop_all, length-map}
use Rattle.std.proofs.Math.Numerals.{suc-eq-add-one}
use Rattle.base_laws.proofs.Lists.{All-read}
use Rattle.affine_program.specs.Parts.{meaning}
use Rattle.claims.specs.Claims.{Claim, AllHold, IsRefusal, numbered}
use Rattle.claims.specs.declared.place.Step.{Step}
use Rattle.claims.proofs.Found.{refused-first}
use Rattle.claims.proofs.Members.{numbered-ended, numbered-from, numbered-next}
use Rattle.k_partition.specs.CreditSums.{next_claims}
use Rattle.k_partition.specs.PartitionClaims.{no_points, IsCreditsTotal}
use Rattle.k_partition.proofs.Members.{member-of}
use Rattle.joint_partition.specs.Claims.{count_of, inside_claims, part_claims, unit_claims}
use Rattle.joint_partition.specs.Term.{PartTerm}
use Rattle.joint_partition.specs.View.{FitsPart, part_of}
use Rattle.joint_partition.proofs.PartSums.{part-holds, part-next, part-refused}
use Rattle.joint_partition.proofs.parts_counted.parts_counted.Goals as goal

pub part_counted-requires : goal.part_counted-requires
part_counted-requires c =
    let fits : FitsPart c.args.program.now c.requires.0 c.index-parts-i.result = All-read (FitsPart c.args.program.now c.requires.0) c.args.parts.now c.loop-i.i c.index-parts-i.result c.requires.1 c.loop-i-test.true c.index-parts-i.is in
    subst (λ (n : ℕ). FitsPart c.args.program.now n c.index-parts-i.result) (sym fits.fits.long) fits

pub returns-in_err-total-2-clause-refused : goal.returns-in_err-total-2-clause-refused
returns-in_err-total-2-clause-refused c =
    let program = meaning c.args.program.now in
    let place = c.args.place.now in
    let parts : List PartTerm = map part_of c.args.parts.now in
    let i : ℕ = c.loop-i.i in
    let part : PartTerm = part_of c.index-parts-i.result in
    let there = member-of part_of c.args.parts.now c.args.parts.now i c.index-parts-i.result refl c.loop-i-test.true c.index-parts-i.is in
    let each = part_claims program place parts in
    let r = c.in_err-total-2.field-0.0 in
    let refused : IsRefusal (numbered each 0 parts) r =
    c.loop-i.invariant.claims (Err r)
    (subst (λ (cs : List Claim). IsRefusal cs r) (sym (numbered-from each parts i part there.0 there.1))
    (refused-first (each i part) (numbered each (i + 1) (drop (i + 1) parts)) r
    (part-refused program place parts i part c.loop-i.total there.0 there.1 c.loop-i.invariant.total r
    (subst (λ (p : List Step). IsRefusal (next_claims program p c.loop-i.total (count_of part) ++ inside_claims program p part ++ unit_claims program p part) r) c.in_ok-here.ensures c.in_err-total-2.ensures.refused)))) in
    search rules

pub loop-i-preserved : goal.loop-i-preserved
loop-i-preserved c =
    let program = meaning c.args.program.now in
    let place = c.args.place.now in
    let parts : List PartTerm = map part_of c.args.parts.now in
    let i : ℕ = c.loop-i.i in
    let part : PartTerm = part_of c.index-parts-i.result in
    let there = member-of part_of c.args.parts.now c.args.parts.now i c.index-parts-i.result refl c.loop-i-test.true c.index-parts-i.is in
    record {
      total = subst (λ (n : ℕ). IsCreditsTotal (length c.args.program.now.params) no_points (take n (map count_of parts)) c.in_ok-total-2.total) (suc-eq-add-one i)
          (part-next program place parts i part c.loop-i.total there.0 there.1 c.loop-i.invariant.total c.in_ok-total-2.total c.in_ok-total-2.ensures.sum);
      claims = λ found h. c.loop-i.invariant.claims found
          (numbered-next (part_claims program place parts) parts i part there.0 there.1 found
          (part-holds program place parts i part c.loop-i.total there.0 there.1 c.loop-i.invariant.total
          (subst (λ (p : List Step). AllHold (next_claims program p c.loop-i.total (count_of part) ++ inside_claims program p part ++ unit_claims program p part)) c.in_ok-here.ensures c.in_ok-total-2.ensures.holds)) h);
    }

pub returns-clause-holds : goal.returns-clause-holds
returns-clause-holds c =
    let parts : List PartTerm = map part_of c.args.parts.now in
    c.loop-i.invariant.claims (Ok tt)
    (numbered-ended (part_claims (meaning c.args.program.now) c.args.place.now parts) parts c.loop-i.i
    (drop_all c.loop-i.i parts (omega (arith, c.loop-i-test.false, length-map c.args.parts.now part_of))))
