-- Values of expansions and their measure.
use Rattle.std.proofs.Common.{◌≡◌, ℕ, zero, suc, ◌+◌, ◌-◌, ◌*◌, ◌<◌, ◌≤◌, ◌^◌, max, min, List, [], ◌∷◌, length, get_or, drop, arith, subst, sym, ◌∙◌, ap, mul-le-mul, mul-le-mul_right}
use Rattle.std.proofs.Math.IntN.{ℤ, pos, ◌*ℤ◌}
use Rattle.std.specs.Prelude.{unsigned_abs}
use Rattle.std.proofs.lemmas.Int.{unsigned_abs-mul}
use Rattle.std.proofs.lemmas.List.{get_or_default}
use Rattle.affine_form.proofs.Sizes.{size-add}
use Rattle.poly_tree.specs.declared.tree.Tree.{Tree}
use Rattle.poly_tree.specs.Expansion.{Expansion, Parts, number, over, none, part, at, value, parts_value, size_at, parts_size_at, IsCanonical, AreCanonical}
use Rattle.poly_tree.specs.Tree.{expansion, parts_of}
use Rattle.poly_tree.proofs.Expansions.{IsCanonical-more}
use Rattle.poly_tree.proofs.LinearLemmas.{capped-left}
use Rattle.poly_tree.proofs.Trees.{parts_of-back}
use Rattle.iolb_model.specs.declared.limits.TheConstants.{MEASURE}

-- a value is no larger than the measure
mutual
  pub value-size : (t : Expansion) (point : ℕ → ℤ) → unsigned_abs (value t point) ≤ size_at t point
  value-size (number n) point = omega arith
  value-size (over v ps) point = parts_value-size ps (point v) point

  pub parts_value-size : (ps : Parts) (x : ℤ) (point : ℕ → ℤ) → unsigned_abs (parts_value ps x point) ≤ parts_size_at ps (max 1 (unsigned_abs x)) point
  parts_value-size none x point = omega arith
  parts_value-size (part t ps) x point =
      let product : unsigned_abs x * unsigned_abs (parts_value ps x point) ≤ max 1 (unsigned_abs x) * parts_size_at ps (max 1 (unsigned_abs x)) point = mul-le-mul (omega arith) (parts_value-size ps x point) in
      omega (arith, size-add (value t point) (x *ℤ parts_value ps x point), unsigned_abs-mul x (parts_value ps x point), value-size t point)

-- the parts from a place on measure no more than all
later : (n k : ℕ) (trees : List Tree) (point : ℕ → ℤ) → 1 ≤ k → parts_size_at (parts_of (drop n trees)) k point ≤ parts_size_at (parts_of trees) k point
later zero k trees point p = omega arith
later (suc n) k [] point p = omega arith
later (suc n) k (t ∷ trees) point p =
    let tail = parts_size_at (parts_of trees) k point in
    let grown : 1 * tail ≤ k * tail = mul-le-mul_right tail p in
    omega (arith, later n k trees point p)

-- a part and those after it, times the base, measure no more than the tree
pub size_at-back : (t : Expansion) (v : ℕ) (trees : List Tree) (done : ℕ) (u : Tree) (point : ℕ → ℤ) → t ≡ over v (parts_of trees) → done < length trees → u ≡ get_or trees (length trees - 1 - done) u
    → size_at (expansion u) point + max 1 (unsigned_abs (point v)) * parts_size_at (parts_of (drop (length trees - done) trees)) (max 1 (unsigned_abs (point v))) point ≤ size_at t point
size_at-back t v trees done u point e below read =
    let k = max 1 (unsigned_abs (point v)) in
    omega (arith, ap (λ (s : Expansion). size_at s point) e, ap (λ (ps : Parts). parts_size_at ps k point) (parts_of-back trees done u below read), later (length trees - (done + 1)) k trees point (omega arith))

-- a capped measure of a part and those after it
pub size-step : (s r k limit a b : ℕ) → 1 ≤ k → a ≡ min s limit → b ≡ min (min r limit * k) limit → min (a + b) limit ≡ min (s + k * r) limit
size-step s r k limit a b p e f =
    let h = capped-left r k limit p in
    let turned : r * k ≡ k * r = turn r k in
    omega (arith, h) where
      turn : (x y : ℕ) → x * y ≡ y * x
      turn x y = omega arith

-- a part of a canonical polynomial is canonical below the same bound
canonical-at : (bound : ℕ) (trees : List Tree) (k : ℕ) (d : Tree) → k < length trees → AreCanonical bound (parts_of trees) → IsCanonical bound (expansion (get_or trees k d))
canonical-at bound [] k d p h = absurd (omega arith)
canonical-at bound (t ∷ trees) zero d p h = h.0
canonical-at bound (t ∷ trees) (suc k) d p h = canonical-at bound trees k d (omega arith) h.1

pub canonical-read : (bound : ℕ) (t : Expansion) (v : ℕ) (trees : List Tree) (k : ℕ) (u : Tree) → t ≡ over v (parts_of trees) → k < length trees → u ≡ get_or trees k u
    → IsCanonical bound t → IsCanonical bound (expansion u)
canonical-read bound t v trees k u e p read c =
    let whole = subst (IsCanonical bound) e c in
    IsCanonical-more v bound (expansion u) (omega (arith, whole.0)) (subst (λ (w : Tree). IsCanonical v (expansion w)) (sym read) (canonical-at v trees k u p whole.1))

-- its variable is below the bound
pub variable-below : (bound : ℕ) (t : Expansion) (v : ℕ) (ps : Parts) → t ≡ over v ps → IsCanonical bound t → v < bound
variable-below bound t v ps e c = (subst (IsCanonical bound) e c).0

-- a step of Horner's rule fits
pub horner-room : (t : Expansion) (v : ℕ) (trees : List Tree) (done : ℕ) (u : Tree) (point : ℕ → ℤ) (a x total : ℤ) → t ≡ over v (parts_of trees) → done < length trees → u ≡ get_or trees (length trees - 1 - done) u
    → a ≡ value (expansion u) point → x ≡ point v → total ≡ parts_value (parts_of (drop (length trees - done) trees)) (point v) point → size_at t point < MEASURE
    → unsigned_abs a + unsigned_abs x * unsigned_abs total < 2 ^ 127
horner-room t v trees done u point a x total e below read p q r small =
    let rest = parts_of (drop (length trees - done) trees) in
    let k = max 1 (unsigned_abs (point v)) in
    let back = size_at-back t v trees done u point e below read in
    let whole = value-size (expansion u) point in
    let product : unsigned_abs (point v) * unsigned_abs (parts_value rest (point v) point) ≤ k * parts_size_at rest k point = mul-le-mul (omega arith) (parts_value-size rest (point v) point) in
    omega (arith, back, whole, product, ap unsigned_abs p, ap (λ (z : ℤ). unsigned_abs z * unsigned_abs total) q, ap (λ (z : ℤ). unsigned_abs (point v) * unsigned_abs z) r)

-- a variable's value that was read
pub at-read : (point : List ℤ) (v k : ℕ) → k ≡ v → v < length point → get_or point k (pos 0) ≡ at point v
at-read point v k e below = ap (λ (n : ℕ). get_or point n (pos 0)) e ∙ get_or_default point v (pos 0) (pos 1) below
