use Rattle.std.proofs.Common.{◌≡◌, refl, sym, ◌∙◌, ap, subst, ℕ, List, ◌+◌, ◌++◌, ◌∷◌, [], map, length, drop, take, append_assoc, rules, arith}
use Rattle.std.specs.Prelude.{Ok, Err, codes}
use Rattle.std.proofs.lemmas.List.{drop_all, length-map}
use Rattle.std.proofs.Math.Numerals.{suc-eq-add-one}
use Rattle.affine_program.specs.Parts.{meaning}
use Rattle.claims.specs.Claims.{Claim, AllHold, IsRefusal, numbered}
use Rattle.claims.specs.declared.place.Step.{Step}
use Rattle.claims.specs.declared.place.Step.TheVariants.{Index, Key}
use Rattle.claims.proofs.Found.{refused-first}
use Rattle.claims.proofs.Members.{numbered-ended, numbered-from, numbered-next}
use Rattle.k_partition.specs.CreditSums.{next_claims}
use Rattle.k_partition.specs.PartitionClaims.{credit_claims, credit_place, no_points, IsCreditsTotal}
use Rattle.k_partition.specs.Term.{CreditTerm}
use Rattle.k_partition.specs.View.{credit_term_of}
use Rattle.k_partition.proofs.CreditSums.{credit-holds, credit-refused, total-next}
use Rattle.k_partition.proofs.Members.{member-of}
use Rattle.k_partition.proofs.credits_counted.credits_counted.Goals as goal

-- the place of a credit
placed : (place list inner : List Step) (i : ℕ) → list ≡ place ++ Key (codes "credits") ∷ [] → inner ≡ list ++ Index i ∷ [] → inner ≡ credit_place place i
placed place list inner i f g = g ∙ ap (λ (l : List Step). l ++ Index i ∷ []) f ∙ append_assoc place (Key (codes "credits") ∷ []) (Index i ∷ [])

pub returns-in_err-total-2-clause-refused : goal.returns-in_err-total-2-clause-refused
returns-in_err-total-2-clause-refused c =
    let program = meaning c.args.program.now in
    let place = c.args.place.now in
    let credits : List CreditTerm = map credit_term_of c.args.credits.now in
    let i : ℕ = c.loop-i.i in
    let credit : CreditTerm = credit_term_of c.index-credits-i.result in
    let there = member-of credit_term_of c.args.credits.now c.args.credits.now i c.index-credits-i.result refl c.loop-i-test.true c.index-credits-i.is in
    let here : c.in_ok-inner.inner ≡ credit_place place i = placed place c.in_ok-list.list c.in_ok-inner.inner i c.in_ok-list.ensures c.in_ok-inner.ensures in
    let each = credit_claims program place credits in
    let r = c.in_err-total-2.field-0.0 in
    let refused : IsRefusal (numbered each 0 credits) r =
    c.loop-i.invariant.claims (Err r)
    (subst (λ (cs : List Claim). IsRefusal cs r) (sym (numbered-from each credits i credit there.0 there.1))
    (refused-first (each i credit) (numbered each (i + 1) (drop (i + 1) credits)) r
    (credit-refused program place credits i credit c.loop-i.total there.0 there.1 c.loop-i.invariant.total r
    (subst (λ (p : List Step). IsRefusal (next_claims program p c.loop-i.total credit) r) here c.in_err-total-2.ensures.refused)))) in
    search rules

pub loop-i-preserved : goal.loop-i-preserved
loop-i-preserved c =
    let program = meaning c.args.program.now in
    let place = c.args.place.now in
    let credits : List CreditTerm = map credit_term_of c.args.credits.now in
    let i : ℕ = c.loop-i.i in
    let credit : CreditTerm = credit_term_of c.index-credits-i.result in
    let there = member-of credit_term_of c.args.credits.now c.args.credits.now i c.index-credits-i.result refl c.loop-i-test.true c.index-credits-i.is in
    let here : c.in_ok-inner.inner ≡ credit_place place i = placed place c.in_ok-list.list c.in_ok-inner.inner i c.in_ok-list.ensures c.in_ok-inner.ensures in
    record {
      total = subst (λ (n : ℕ). IsCreditsTotal (length c.args.program.now.params) no_points (take n credits) c.in_ok-total-2.total) (suc-eq-add-one i)
          (total-next program place credits i credit c.loop-i.total there.0 there.1 c.loop-i.invariant.total c.in_ok-total-2.total c.in_ok-total-2.ensures.sum);
      claims = λ found h. c.loop-i.invariant.claims found
          (numbered-next (credit_claims program place credits) credits i credit there.0 there.1 found
          (credit-holds program place credits i credit c.loop-i.total there.0 there.1 c.loop-i.invariant.total c.in_ok-total-2.total
          (subst (λ (p : List Step). AllHold (next_claims program p c.loop-i.total credit)) here c.in_ok-total-2.ensures.holds) c.in_ok-total-2.ensures.sum) h);
    }

pub returns-clause-holds : goal.returns-clause-holds
returns-clause-holds c =
    let credits : List CreditTerm = map credit_term_of c.args.credits.now in
    c.loop-i.invariant.claims (Ok tt)
    (numbered-ended (credit_claims (meaning c.args.program.now) c.args.place.now credits) credits c.loop-i.i
    (drop_all c.loop-i.i credits (omega (arith, c.loop-i-test.false, length-map c.args.credits.now credit_term_of))))
