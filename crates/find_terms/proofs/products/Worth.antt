-- Branches of cold terms that count a square each, at matrices of 64 by 64 numbers.
use Rattle.std.proofs.Common.{◌≡◌, refl, ap, subst, inl, inr, ℕ, ◌+◌, ◌*◌, ◌≤◌, List, [], ◌∷◌, length, map, arith}
use Rattle.std.specs.List.{AllByRecursion}
use Rattle.std.proofs.Math.IntN.{ℤ, pos}
use Rattle.std.proofs.lemmas.List.Sums.{sum_by-cons}
use Rattle.iolb_model.specs.Bound.{BoundTerm, branch_value, term_value}
use Rattle.iolb_check.specs.Bounds.{HasWideTerm, IsWideBranch, IsWideTerm, term_of, terms_of}
use Rattle.iolb_check.specs.declared.bound.Value.{Value}
use Rattle.iolb_check.specs.declared.bound.Value.TheVariants.{Cold}
use Rattle.projective.proofs.Summed.{whole}
use Rattle.find_terms.proofs.products.Squares.{square-size, square_tree}

abbrev pub sizes : List ℤ
sizes = pos 64 ∷ []

abbrev pub AreSquares : List Value → Type 0
AreSquares values = AllByRecursion (λ (value : Value). value ≡ Cold (whole square_tree)) values

pub branch-worth : (values : List Value) → AreSquares values → branch_value (terms_of values) sizes 64 ≡ 4096 * length values
branch-worth [] h = refl
branch-worth (v ∷ values) h =
    let first : term_value (term_of v) sizes 64 ≡ 4096 = ap (λ (w : Value). term_value (term_of w) sizes 64) h.0 in
    let rest : branch_value (terms_of values) sizes 64 ≡ 4096 * length values = branch-worth values h.1 in
    let both : branch_value (terms_of (v ∷ values)) sizes 64 ≡ term_value (term_of v) sizes 64 + branch_value (terms_of values) sizes 64 =
    sum_by-cons (λ (m : ℕ). m) (term_value (term_of v) sizes 64) (map (λ (term : BoundTerm). term_value term sizes 64) (terms_of values)) in
    omega (arith, first, rest, both)

not-wide : (values : List Value) → AreSquares values → ¬ HasWideTerm sizes 64 values
not-wide [] h wide = wide
not-wide (v ∷ values) h (inl wide) = let heavy = subst (λ (w : Value). IsWideTerm sizes 64 w) h.0 wide in omega (arith, heavy, square-size)
not-wide (v ∷ values) h (inr wide) = not-wide values h.1 wide

pub narrow : (values : List Value) → AreSquares values → length values ≤ 16 → ¬ IsWideBranch sizes 64 values
narrow values h few (inl wide) = not-wide values h wide
narrow values h few (inr wide) = let worth = branch-worth values h in omega (arith, wide, worth, few)
