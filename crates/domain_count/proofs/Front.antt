-- The first variables of a nest: their bounds fit, and their ranges are whole.
use Rattle.std.proofs.Common.{◌≡◌, refl, sym, ap, subst, ℕ, zero, suc, ◌<◌, ◌≤◌, List, [], ◌∷◌, length, take, get_or, arith}
use Rattle.std.proofs.lemmas.List.{length-take-le}
use Rattle.iolb_model.specs.Form.{AffineForm}
use Rattle.iolb_model.specs.Program.{AffineProgram}
use Rattle.affine_form.specs.Multipliers.{FarkasMultipliers}
use Rattle.affine_form.specs.Rows.{BoundsFit}
use Rattle.domain_count.specs.Count.{AreShownBelow, FirstVariablesAreCounted, ShowsRange, bounds_at, multipliers_at}
use Rattle.domain_count.proofs.Counting.{right-claims-count}

pub BoundsFit-take : (vars outer : ℕ) (nest : List (AffineForm × AffineForm)) → BoundsFit vars nest → BoundsFit vars (take outer nest)
BoundsFit-take vars zero nest h = tt
BoundsFit-take vars (suc outer) [] h = tt
BoundsFit-take vars (suc outer) (bounds ∷ nest) h = (h.0, BoundsFit-take (suc vars) outer nest h.1)

take-first : {A : Type 0} (k n : ℕ) (xs : List A) → k ≤ n → take k (take n xs) ≡ take k xs
take-first zero n xs le = refl
take-first (suc k) zero xs le = absurd (omega (arith, le))
take-first (suc k) (suc n) [] le = refl
take-first (suc k) (suc n) (x ∷ xs) le = ap (λ l. x ∷ l) (take-first k n xs (omega (arith, le)))

get_or-first : {A : Type 0} (k n : ℕ) (xs : List A) (d : A) → k < n → get_or (take n xs) k d ≡ get_or xs k d
get_or-first k zero xs d less = absurd (omega (arith, less))
get_or-first k (suc n) [] d less = refl
get_or-first zero (suc n) (x ∷ xs) d less = refl
get_or-first (suc k) (suc n) (x ∷ xs) d less = get_or-first k n xs d (omega (arith, less))

shown-first : (program : AffineProgram) (outer : ℕ) (nest : List (AffineForm × AffineForm)) (shown : List FarkasMultipliers) → outer ≤ length nest
    → AreShownBelow program nest shown (length nest) → AreShownBelow program (take outer nest) shown (length (take outer nest))
shown-first program outer nest shown le h k below =
    let less : k < outer = omega (arith, below, length-take-le outer nest le) in
    subst (λ (before : List (AffineForm × AffineForm)). ShowsRange program before (bounds_at (take outer nest) k) (multipliers_at shown k)) (sym (take-first k outer nest (omega (arith, less))))
    (subst (λ (b : AffineForm × AffineForm). ShowsRange program (take k nest) b (multipliers_at shown k)) (sym (get_or-first k outer nest (bounds_at [] 0) less)) (h k (omega (arith, less, le))))

pub first-counted : FirstVariablesAreCounted
first-counted program outer nest shown sums total formed fit le h is =
    right-claims-count program (take outer nest) (record { shown = shown; sums = sums }) total formed (BoundsFit-take (length program.parameters) outer nest fit)
    (record { shown = shown-first program outer nest shown le h; sums = is })
