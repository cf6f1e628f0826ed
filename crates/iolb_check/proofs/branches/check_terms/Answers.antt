use Rattle.std.proofs.Common.{rules, ◌≡◌, refl, sym, ap, subst, ℕ, suc, ◌+◌, List, [], ◌∷◌, ◌++◌, drop, map, append_assoc, append-nil}
use Rattle.std.specs.List.{AllByRecursion}
use Rattle.std.proofs.lemmas.List.{drop_all}
use Rattle.std.proofs.Math.Numerals.{suc-eq-add-one}
use Rattle.base_laws.proofs.Lists.{rest_after}
use Rattle.affine_program.specs.Parts.{meaning}
use Rattle.claims.specs.Claims.{Claim, AllHold, IsRefusal, numbered}
use Rattle.claims.proofs.Found.{refused-first, refused-later}
use Rattle.claims.proofs.Laws.{AllHold-append}
use Rattle.dep_quast.specs.Quasts.{trees_of}
use Rattle.iolb_check.specs.declared.term.Term.{Term}
use Rattle.iolb_check.specs.declared.bound.Value.{Value}
use Rattle.iolb_check.specs.Claims.{TermClaim, claim_of_term}
use Rattle.iolb_check.specs.Fit.{HasPieces, TermFits}
use Rattle.iolb_check.specs.Conditions.{AreValuesOf, term_claims_at, terms_claims}
use Rattle.iolb_check.specs.Holds.{TermsHold}
use Rattle.iolb_check.specs.Sound.{IsSound}
use Rattle.iolb_check.proofs.branches.check_terms.Goals as goal

pub loop-index-preserved : goal.loop-index-preserved
loop-index-preserved c =
    let program = c.args.program.now in
    let trees = trees_of c.args.quasts.now in
    let each : ℕ → TermClaim → List Claim = term_claims_at (meaning program) trees c.args.place.now in
    let i : ℕ = c.loop-index.index in
    let terms : List Term = c.args.terms.now in
    let term : Term = c.index-terms-index.result in
    let value : Value = c.in_ok-value.value in
    let split = rest_after terms i term c.loop-index-test.true c.index-terms-index.is in
    let fits = subst (AllByRecursion (TermFits program trees)) split c.loop-index.invariant.fits in
    let more : drop (suc i) terms ≡ drop (i + 1) terms = ap (λ (n : ℕ). drop n terms) (suc-eq-add-one i) in
    let here : List Claim = each i (claim_of_term term) in
    let rest : List Claim = numbered each (suc i) (map claim_of_term (drop (suc i) terms)) in
    record {
      fits = subst (AllByRecursion (TermFits program trees)) more fits.1;
      accepted = λ h. c.loop-index.invariant.accepted (subst (λ (l : List Term). AllHold (numbered each i (map claim_of_term l))) (sym split)
          (AllHold-append here rest c.in_ok-value.ensures.accepted (subst (λ (n : ℕ). AllHold (numbered each n (map claim_of_term (drop n terms)))) (sym (suc-eq-add-one i)) h)));
      values = λ others h. subst (λ (items : List Value). AreValuesOf (meaning program) (map claim_of_term terms) (items ++ others)) (sym c.in-Ok.ensures.items)
          (subst (AreValuesOf (meaning program) (map claim_of_term terms)) (sym (append_assoc c.loop-index.values.items (value ∷ []) others))
          (c.loop-index.invariant.values (value ∷ others) (subst (λ (l : List Term). AreValuesOf (meaning program) (map claim_of_term l) (value ∷ others)) (sym split)
          (c.in_ok-value.ensures.value, subst (λ (n : ℕ). AreValuesOf (meaning program) (map claim_of_term (drop n terms)) others) (sym (suc-eq-add-one i)) h))));
      hold = λ others h. subst (λ (items : List Value). TermsHold program trees terms (items ++ others)) (sym c.in-Ok.ensures.items)
          (subst (TermsHold program trees terms) (sym (append_assoc c.loop-index.values.items (value ∷ []) others))
          (c.loop-index.invariant.hold (value ∷ others) (subst (λ (l : List Term). TermsHold program trees l (value ∷ others)) (sym split)
          (c.in_ok-value.ensures.holds, subst (λ (n : ℕ). TermsHold program trees (drop n terms) others) (sym (suc-eq-add-one i)) h))));
      pieces = λ h. c.loop-index.invariant.pieces (subst (AllByRecursion (HasPieces program trees)) (sym split)
          (c.in_ok-value.ensures.pieces, subst (AllByRecursion (HasPieces program trees)) (sym more) h));
      sound = λ h. c.loop-index.invariant.sound (subst (AllByRecursion (IsSound program)) (sym split) (c.in_ok-value.ensures.sound, subst (AllByRecursion (IsSound program)) (sym more) h));
      refused = λ r h. c.loop-index.invariant.refused r (subst (λ (l : List Term). IsRefusal (numbered each i (map claim_of_term l)) r) (sym split)
          (refused-later here rest r c.in_ok-value.ensures.accepted (subst (λ (n : ℕ). IsRefusal (numbered each n (map claim_of_term (drop n terms))) r) (sym (suc-eq-add-one i)) h)));
    }

pub returns-in_err-value-clause-refused : goal.returns-in_err-value-clause-refused
returns-in_err-value-clause-refused c =
    let program = c.args.program.now in
    let trees = trees_of c.args.quasts.now in
    let each : ℕ → TermClaim → List Claim = term_claims_at (meaning program) trees c.args.place.now in
    let i : ℕ = c.loop-index.index in
    let terms : List Term = c.args.terms.now in
    let term : Term = c.index-terms-index.result in
    let split = rest_after terms i term c.loop-index-test.true c.index-terms-index.is in
    let r = c.in_err-value.field-0.0 in
    let refused : IsRefusal (terms_claims (meaning program) trees c.args.place.now (map claim_of_term terms)) r =
    c.loop-index.invariant.refused r (subst (λ (l : List Term). IsRefusal (numbered each i (map claim_of_term l)) r) (sym split)
    (refused-first (each i (claim_of_term term)) (numbered each (suc i) (map claim_of_term (drop (suc i) terms))) r c.in_err-value.ensures.refused)) in
    search rules

pub returns-clause-values : goal.returns-clause-values
returns-clause-values c =
    let terms : List Term = c.args.terms.now in
    let ended : drop c.loop-index.index terms ≡ [] = drop_all c.loop-index.index terms c.loop-index-test.false in
    subst (AreValuesOf (meaning c.args.program.now) (map claim_of_term terms)) (append-nil c.loop-index.values.items)
    (c.loop-index.invariant.values [] (subst (λ (l : List Term). AreValuesOf (meaning c.args.program.now) (map claim_of_term l) []) (sym ended) refl))

pub returns-clause-hold : goal.returns-clause-hold
returns-clause-hold c =
    let trees = trees_of c.args.quasts.now in
    let terms : List Term = c.args.terms.now in
    let ended : drop c.loop-index.index terms ≡ [] = drop_all c.loop-index.index terms c.loop-index-test.false in
    subst (TermsHold c.args.program.now trees terms) (append-nil c.loop-index.values.items)
    (c.loop-index.invariant.hold [] (subst (λ (l : List Term). TermsHold c.args.program.now trees l []) (sym ended) tt))
