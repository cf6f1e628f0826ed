use Rattle.std.proofs.Common.{rules, ◌≡◌, sym, ap, subst, ℕ, suc, ◌+◌, List, [], ◌∷◌, ◌++◌, drop, map, append_assoc, append-nil}
use Rattle.std.specs.List.{AllByRecursion, AllZip}
use Rattle.std.proofs.lemmas.List.{drop_all}
use Rattle.std.proofs.Math.Numerals.{suc-eq-add-one}
use Rattle.base_laws.proofs.Lists.{rest_after}
use Rattle.affine_program.specs.Parts.{meaning}
use Rattle.claims.specs.Claims.{Claim, AllHold, IsRefusal, numbered}
use Rattle.claims.proofs.Found.{refused-first, refused-later}
use Rattle.claims.proofs.Laws.{AllHold-append}
use Rattle.last_writers.specs.Fitting.{FitsOutput}
use Rattle.last_writers.specs.Outputs.{IsSoundOutput}
use Rattle.poly_tree.specs.Poly.{Quotient}
use Rattle.store_bound.specs.Conditions.{AreCountsOf, output_claims_at}
use Rattle.store_bound.specs.Sound.{IsOutputCount}
use Rattle.store_bound.proofs.output_checks.check_outputs.Goals as goal
use Rattle.store_terms.specs.Claims.{OutputClaim, claim_of_output}
use Rattle.store_terms.specs.declared.output.Output.{Output}

pub checked_output-requires : goal.checked_output-requires
checked_output-requires c =
    (subst (AllByRecursion (FitsOutput c.args.program.now)) (rest_after c.args.outputs.now c.loop-index.index c.index-outputs-index.result c.loop-index-test.true c.index-outputs-index.is) c.loop-index.invariant.fits).0

pub loop-index-preserved : goal.loop-index-preserved
loop-index-preserved c =
    let program = c.args.program.now in
    let each : ℕ → OutputClaim → List Claim = output_claims_at (meaning program) in
    let i : ℕ = c.loop-index.index in
    let outputs : List Output = c.args.outputs.now in
    let output : Output = c.index-outputs-index.result in
    let count : Quotient = c.in_ok-count.count in
    let split = rest_after outputs i output c.loop-index-test.true c.index-outputs-index.is in
    let fits = subst (AllByRecursion (FitsOutput program)) split c.loop-index.invariant.fits in
    let more : drop (suc i) outputs ≡ drop (i + 1) outputs = ap (λ (n : ℕ). drop n outputs) (suc-eq-add-one i) in
    let old : List Quotient = c.loop-index.counts.items in
    let items = c.in-Ok.ensures.items in
    let here : List Claim = each i (claim_of_output output) in
    let rest : List Claim = numbered each (suc i) (map claim_of_output (drop (suc i) outputs)) in
    let accepted : AllHold here = c.in_ok-count.ensures.accepted in
    record {
      fits = subst (AllByRecursion (FitsOutput program)) more fits.1;
      accepted = λ h. c.loop-index.invariant.accepted (subst (λ (l : List Output). AllHold (numbered each i (map claim_of_output l))) (sym split)
          (AllHold-append here rest accepted (subst (λ (n : ℕ). AllHold (numbered each n (map claim_of_output (drop n outputs)))) (sym (suc-eq-add-one i)) h)));
      counted = λ others h. subst (λ (l : List Quotient). AllZip (IsOutputCount program) outputs (l ++ others)) (sym items)
          (subst (AllZip (IsOutputCount program) outputs) (sym (append_assoc old (count ∷ []) others))
          (c.loop-index.invariant.counted (count ∷ others) (subst (λ (l : List Output). AllZip (IsOutputCount program) l (count ∷ others)) (sym split)
          (c.in_ok-count.ensures.counted, subst (λ (n : ℕ). AllZip (IsOutputCount program) (drop n outputs) others) (sym (suc-eq-add-one i)) h))));
      values = λ others h. subst (λ (l : List Quotient). AreCountsOf (meaning program) (map claim_of_output outputs) (l ++ others)) (sym items)
          (subst (AreCountsOf (meaning program) (map claim_of_output outputs)) (sym (append_assoc old (count ∷ []) others))
          (c.loop-index.invariant.values (count ∷ others) (subst (λ (l : List Output). AreCountsOf (meaning program) (map claim_of_output l) (count ∷ others)) (sym split)
          (c.in_ok-count.ensures.value, subst (λ (n : ℕ). AreCountsOf (meaning program) (map claim_of_output (drop n outputs)) others) (sym (suc-eq-add-one i)) h))));
      sound = λ h. c.loop-index.invariant.sound (subst (λ (l : List Output). AllByRecursion (IsSoundOutput (meaning program)) (map claim_of_output l)) (sym split)
          (c.in_ok-count.ensures.sound, subst (λ (l : List Output). AllByRecursion (IsSoundOutput (meaning program)) (map claim_of_output l)) (sym more) h));
      refused = λ r h. c.loop-index.invariant.refused r (subst (λ (l : List Output). IsRefusal (numbered each i (map claim_of_output l)) r) (sym split)
          (refused-later here rest r accepted (subst (λ (n : ℕ). IsRefusal (numbered each n (map claim_of_output (drop n outputs))) r) (sym (suc-eq-add-one i)) h)));
    }

pub returns-in_err-count-clause-refused : goal.returns-in_err-count-clause-refused
returns-in_err-count-clause-refused c =
    let program = c.args.program.now in
    let each : ℕ → OutputClaim → List Claim = output_claims_at (meaning program) in
    let i : ℕ = c.loop-index.index in
    let outputs : List Output = c.args.outputs.now in
    let output : Output = c.index-outputs-index.result in
    let split = rest_after outputs i output c.loop-index-test.true c.index-outputs-index.is in
    let r = c.in_err-count.field-0.0 in
    let first : IsRefusal (each i (claim_of_output output)) r = c.in_err-count.ensures.refused in
    let refused : IsRefusal (numbered each 0 (map claim_of_output outputs)) r =
    c.loop-index.invariant.refused r (subst (λ (l : List Output). IsRefusal (numbered each i (map claim_of_output l)) r) (sym split)
    (refused-first (each i (claim_of_output output)) (numbered each (suc i) (map claim_of_output (drop (suc i) outputs))) r first)) in
    search rules

pub returns-clause-counted : goal.returns-clause-counted
returns-clause-counted c =
    let outputs : List Output = c.args.outputs.now in
    let ended : drop c.loop-index.index outputs ≡ [] = drop_all c.loop-index.index outputs c.loop-index-test.false in
    subst (AllZip (IsOutputCount c.args.program.now) outputs) (append-nil c.loop-index.counts.items)
    (c.loop-index.invariant.counted [] (subst (λ (l : List Output). AllZip (IsOutputCount c.args.program.now) l []) (sym ended) tt))

pub returns-clause-values : goal.returns-clause-values
returns-clause-values c =
    let outputs : List Output = c.args.outputs.now in
    let ended : drop c.loop-index.index outputs ≡ [] = drop_all c.loop-index.index outputs c.loop-index-test.false in
    subst (AreCountsOf (meaning c.args.program.now) (map claim_of_output outputs)) (append-nil c.loop-index.counts.items)
    (c.loop-index.invariant.values [] (subst (λ (l : List Output). AreCountsOf (meaning c.args.program.now) (map claim_of_output l) []) (sym ended) tt))
