use Rattle.std.proofs.Common.{rules, ◌≡◌, refl, sym, ◌∙◌, ap, subst, ℕ, suc, ◌+◌, List, [], ◌∷◌, ◌++◌, drop, map, append_assoc, append-nil, Vec, Global}
use Rattle.std.specs.List.{AllByRecursion}
use Rattle.std.proofs.lemmas.List.{drop_all, map-append}
use Rattle.std.proofs.Math.Numerals.{suc-eq-add-one}
use Rattle.base_laws.proofs.Lists.{rest_after}
use Rattle.affine_program.specs.Parts.{meaning}
use Rattle.claims.specs.Claims.{Claim, AllHold, IsRefusal, numbered}
use Rattle.claims.proofs.Found.{refused-first, refused-later}
use Rattle.claims.proofs.Laws.{AllHold-append}
use Rattle.dep_quast.specs.Quasts.{trees_of}
use Rattle.iolb_check.specs.declared.term.Branch.{Branch}
use Rattle.iolb_check.specs.declared.bound.Value.{Value}
use Rattle.iolb_check.specs.Bounds.{lists}
use Rattle.iolb_check.specs.Claims.{BranchClaim, claim_of_branch, claim_of_term}
use Rattle.iolb_check.specs.Fit.{BranchesFit}
use Rattle.iolb_check.specs.Conditions.{AreBranchValues, AreValuesOf, branch_claims}
use Rattle.iolb_check.specs.Holds.{BranchesHold}
use Rattle.iolb_check.specs.Sound.{IsSoundBranch}
use Rattle.iolb_check.proofs.branches.check_branches.Goals as goal

grown : (old : List (Vec Value Global)) (v : Vec Value Global) → lists (old ++ v ∷ []) ≡ lists old ++ v.items ∷ []
grown old v = map-append (λ (terms : Vec Value Global). terms.items) old (v ∷ [])

pub loop-number-preserved : goal.loop-number-preserved
loop-number-preserved c =
    let program = c.args.program.now in
    let trees = trees_of c.args.quasts.now in
    let each : ℕ → BranchClaim → List Claim = branch_claims (meaning program) trees in
    let i : ℕ = c.loop-number.number in
    let branches : List Branch = c.args.branches.now in
    let branch : Branch = c.index-branches-number.result in
    let value : Vec Value Global = c.in_ok-terms.terms in
    let split = rest_after branches i branch c.loop-number-test.true c.index-branches-number.is in
    let fits = subst (BranchesFit program trees) split c.loop-number.invariant.fits in
    let more : drop (suc i) branches ≡ drop (i + 1) branches = ap (λ (n : ℕ). drop n branches) (suc-eq-add-one i) in
    let old : List (Vec Value Global) = c.loop-number.values.items in
    let items = ap lists c.in-Ok.ensures.items ∙ grown old value in
    let here : List Claim = each i (claim_of_branch branch) in
    let rest : List Claim = numbered each (suc i) (map claim_of_branch (drop (suc i) branches)) in
    let accepted : AllHold here = c.in_ok-terms.ensures.accepted in
    let valued : AreValuesOf (meaning program) (map claim_of_term branch.terms.items) value.items = c.in_ok-terms.ensures.values in
    record {
      fits = subst (BranchesFit program trees) more fits.1;
      accepted = λ h. c.loop-number.invariant.accepted (subst (λ (l : List Branch). AllHold (numbered each i (map claim_of_branch l))) (sym split)
          (AllHold-append here rest accepted (subst (λ (n : ℕ). AllHold (numbered each n (map claim_of_branch (drop n branches)))) (sym (suc-eq-add-one i)) h)));
      values = λ others h. subst (λ (l : List (List Value)). AreBranchValues (meaning program) (map claim_of_branch branches) (l ++ others)) (sym items)
          (subst (AreBranchValues (meaning program) (map claim_of_branch branches)) (sym (append_assoc (lists old) (value.items ∷ []) others))
          (c.loop-number.invariant.values (value.items ∷ others) (subst (λ (l : List Branch). AreBranchValues (meaning program) (map claim_of_branch l) (value.items ∷ others)) (sym split)
          (valued, subst (λ (n : ℕ). AreBranchValues (meaning program) (map claim_of_branch (drop n branches)) others) (sym (suc-eq-add-one i)) h))));
      hold = λ others h. subst (λ (l : List (List Value)). BranchesHold program branches (l ++ others)) (sym items)
          (subst (BranchesHold program branches) (sym (append_assoc (lists old) (value.items ∷ []) others))
          (c.loop-number.invariant.hold (value.items ∷ others) (subst (λ (l : List Branch). BranchesHold program l (value.items ∷ others)) (sym split)
          (c.in_ok-terms.ensures.holds, subst (λ (n : ℕ). BranchesHold program (drop n branches) others) (sym (suc-eq-add-one i)) h))));
      sound = λ h. c.loop-number.invariant.sound (subst (AllByRecursion (IsSoundBranch program)) (sym split) (c.in_ok-terms.ensures.sound, subst (AllByRecursion (IsSoundBranch program)) (sym more) h));
      refused = λ r h. c.loop-number.invariant.refused r (subst (λ (l : List Branch). IsRefusal (numbered each i (map claim_of_branch l)) r) (sym split)
          (refused-later here rest r accepted (subst (λ (n : ℕ). IsRefusal (numbered each n (map claim_of_branch (drop n branches))) r) (sym (suc-eq-add-one i)) h)));
    }

pub returns-in_err-terms-clause-refused : goal.returns-in_err-terms-clause-refused
returns-in_err-terms-clause-refused c =
    let program = c.args.program.now in
    let trees = trees_of c.args.quasts.now in
    let each : ℕ → BranchClaim → List Claim = branch_claims (meaning program) trees in
    let i : ℕ = c.loop-number.number in
    let branches : List Branch = c.args.branches.now in
    let branch : Branch = c.index-branches-number.result in
    let split = rest_after branches i branch c.loop-number-test.true c.index-branches-number.is in
    let r = c.in_err-terms.field-0.0 in
    let first : IsRefusal (each i (claim_of_branch branch)) r = c.in_err-terms.ensures.refused in
    let refused : IsRefusal (numbered each 0 (map claim_of_branch branches)) r =
    c.loop-number.invariant.refused r (subst (λ (l : List Branch). IsRefusal (numbered each i (map claim_of_branch l)) r) (sym split)
    (refused-first (each i (claim_of_branch branch)) (numbered each (suc i) (map claim_of_branch (drop (suc i) branches))) r first)) in
    search rules

pub returns-clause-values : goal.returns-clause-values
returns-clause-values c =
    let branches : List Branch = c.args.branches.now in
    let ended : drop c.loop-number.number branches ≡ [] = drop_all c.loop-number.number branches c.loop-number-test.false in
    subst (AreBranchValues (meaning c.args.program.now) (map claim_of_branch branches)) (append-nil (lists c.loop-number.values.items))
    (c.loop-number.invariant.values [] (subst (λ (l : List Branch). AreBranchValues (meaning c.args.program.now) (map claim_of_branch l) []) (sym ended) refl))

pub returns-clause-hold : goal.returns-clause-hold
returns-clause-hold c =
    let branches : List Branch = c.args.branches.now in
    let ended : drop c.loop-number.number branches ≡ [] = drop_all c.loop-number.number branches c.loop-number-test.false in
    subst (BranchesHold c.args.program.now branches) (append-nil (lists c.loop-number.values.items))
    (c.loop-number.invariant.hold [] (subst (λ (l : List Branch). BranchesHold c.args.program.now l []) (sym ended) tt))
