-- Ranges that are shown one after another, and claims that fail behind others.
use Rattle.std.proofs.Common.{◌≡◌, sym, subst, ap, ℕ, suc, ◌+◌, List, [], ◌∷◌, ◌++◌, length, take, arith, below_more, inl, inr}
use Rattle.std.proofs.lemmas.List.{get_or_append_left, get_or_push}
use Rattle.iolb_model.specs.Form.{AffineForm}
use Rattle.iolb_model.specs.Program.{AffineProgram}
use Rattle.affine_form.specs.Multipliers.{FarkasMultipliers}
use Rattle.claims.specs.Claims.{Claim, AllHold, FirstFails}
use Rattle.claims.specs.declared.refused.FailedCondition.{FailedCondition}
use Rattle.poly_tree.specs.Poly.{Quotient}
use Rattle.domain_count.specs.Count.{AreShownBelow, IsShown, ShowsRange, bounds_at, multipliers_at}
use Rattle.domain_count.specs.Ranges.{AreAllShown}
use Rattle.domain_count.specs.Summing.{AreSummed}

-- one range more
pub shown-more : (program : AffineProgram) (nest : List (AffineForm × AffineForm)) (shown : List FarkasMultipliers) (m : FarkasMultipliers) (k : ℕ) → length shown ≡ k
    → AreShownBelow program nest shown k → ShowsRange program (take k nest) (bounds_at nest k) m → AreShownBelow program nest (shown ++ m ∷ []) (k + 1)
shown-more program nest shown m k many below here =
    below_more (λ (j : ℕ). IsShown program nest (shown ++ m ∷ []) j) k
    (λ j less. subst (λ (n : FarkasMultipliers). ShowsRange program (take j nest) (bounds_at nest j) n)
    (sym (get_or_append_left shown (m ∷ []) (record { scale = 1; rest = 0; weights = [] }) j (omega (arith, many)))) (below j less))
    (subst (λ (n : FarkasMultipliers). ShowsRange program (take k nest) (bounds_at nest k) n)
    (sym (get_or_push shown m (record { scale = 1; rest = 0; weights = [] }) k many)) here)

-- what is shown by a list is shown somehow
pub all-shown : (program : AffineProgram) (nest : List (AffineForm × AffineForm)) (shown : List FarkasMultipliers) → AreShownBelow program nest shown (length nest) → AreAllShown program nest
all-shown program nest shown below = λ k less. (multipliers_at shown k, below k less)

-- there are as many polynomials as variables
pub sums-many : (v : ℕ) (nest : List (AffineForm × AffineForm)) (sums : List Quotient) (total : Quotient) → AreSummed v nest sums total → length sums ≡ length nest
sums-many v [] sums total h = ap length h.0
sums-many v (b ∷ nest) [] total h = absurd h
sums-many v (b ∷ nest) (s ∷ sums) total h = ap suc (sums-many (suc v) nest sums h.0 h.1.0)

-- what fails first behind claims that hold
pub fails-behind : (xs ys : List Claim) (failed : FailedCondition) → AllHold xs → FirstFails (xs ++ ys) failed → FirstFails ys failed
fails-behind [] ys failed h f = f
fails-behind (x ∷ xs) ys failed h (inl here) = absurd (here.0 h.0)
fails-behind (x ∷ xs) ys failed h (inr later) = fails-behind xs ys failed h.1 later.1
