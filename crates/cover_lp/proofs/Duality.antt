-- No packing over one denominator is greater than a cover over another (weak duality; Gale, Kuhn and Tucker 1951).
use Rattle.std.proofs.Common.{◌≡◌, refl, sym, ◌∙◌, ap, ℕ, zero, suc, ◌+◌, ◌*◌, ◌<◌, ◌≤◌, Bool, true, false, cond, List, [], ◌∷◌, length, sum, arith}
use Rattle.std.specs.List.{AllByRecursion}
use Rattle.std.proofs.lemmas.List.Sums.{sum_by-cons}
use Rattle.std.proofs.Math.Nat.{mul-le-mul_left}
use Rattle.cover_lp.specs.Cover.{holds, weight_at, packed_from, IsCover, IsPacking, PairsHaveOneTotal}

-- amounts times weights, added up over the coordinates from one on
abbrev pub paired : ℕ → List ℕ → List (List ℕ) → List ℕ → ℕ
paired first [] sets weights = 0
paired first (amount ∷ amounts) sets weights = amount * weight_at sets weights first + paired (suc first) amounts sets weights

turned : (held : Bool) (amount weight : ℕ) → amount * cond held weight 0 ≡ weight * cond held amount 0
turned true amount weight = omega arith
turned false amount weight = omega arith

split : (first : ℕ) (amounts set : List ℕ) (sets : List (List ℕ)) (weight : ℕ) (weights : List ℕ)
    → paired first amounts (set ∷ sets) (weight ∷ weights) ≡ weight * packed_from first amounts set + paired first amounts sets weights
split first [] set sets weight weights = omega arith
split first (amount ∷ amounts) set sets weight weights = omega (arith, turned (holds set first) amount weight, split (suc first) amounts set sets weight weights)

none : (first : ℕ) (amounts weights : List ℕ) → paired first amounts [] weights ≡ 0
none first [] weights = refl
none first (amount ∷ amounts) weights = omega (arith, none (suc first) amounts weights)

at-most : (q first : ℕ) (amounts : List ℕ) (sets : List (List ℕ)) (weights : List ℕ) → length weights ≡ length sets
    → AllByRecursion (λ (set : List ℕ). packed_from first amounts set ≤ q) sets → paired first amounts sets weights ≤ q * sum weights
at-most q first amounts [] [] same held = omega (arith, none first amounts [])
at-most q first amounts [] (weight ∷ weights) same held = absurd cc
at-most q first amounts (set ∷ sets) [] same held = absurd cc
at-most q first amounts (set ∷ sets) (weight ∷ weights) same (here, later) =
    let scaled : weight * packed_from first amounts set ≤ weight * q = mul-le-mul_left weight here in
    let rest : paired first amounts sets weights ≤ q * sum weights = at-most q first amounts sets weights (omega (arith, same)) later in
    let whole : sum (weight ∷ weights) ≡ weight + sum weights = sum_by-cons (λ (n : ℕ). n) weight weights in
    let spread : q * sum (weight ∷ weights) ≡ q * weight + q * sum weights = ap (λ (n : ℕ). q * n) whole ∙ omega arith in
    omega (arith, split first amounts set sets weight weights, spread, scaled, rest)

at-least : (q first : ℕ) (amounts : List ℕ) (sets : List (List ℕ)) (weights : List ℕ)
    → ((coordinate : ℕ) → first ≤ coordinate → coordinate < first + length amounts → q ≤ weight_at sets weights coordinate)
    → sum amounts * q ≤ paired first amounts sets weights
at-least q first [] sets weights covered = omega arith
at-least q first (amount ∷ amounts) sets weights covered =
    let scaled : amount * q ≤ amount * weight_at sets weights first = mul-le-mul_left amount (covered first (omega arith) (omega arith)) in
    let rest : sum amounts * q ≤ paired (suc first) amounts sets weights =
    at-least q (suc first) amounts sets weights (λ coordinate least most. covered coordinate (omega (arith, least)) (omega (arith, most))) in
    let whole : sum (amount ∷ amounts) ≡ amount + sum amounts = sum_by-cons (λ (n : ℕ). n) amount amounts in
    let spread : sum (amount ∷ amounts) * q ≡ amount * q + sum amounts * q = ap (λ (n : ℕ). n * q) whole ∙ omega arith in
    omega (arith, spread, scaled, rest)

pub dual : (sets : List (List ℕ)) (d q other : ℕ) (weights packing : List ℕ) → IsCover sets d q weights → IsPacking sets d other packing
    → sum packing * q ≤ other * sum weights
dual sets d q other weights packing cover packs = omega (
  arith,
  at-least q 0 packing sets weights (λ coordinate least most. cover.covered coordinate (omega (arith, most, packs.one_each))),
  at-most other 0 packing sets weights cover.one_each packs.held,
)

-- a packing over a denominator that isn't greater has a total that isn't
pub no-greater : (sets : List (List ℕ)) (d q other : ℕ) (weights packing : List ℕ) → 1 ≤ q → other ≤ q → IsCover sets d q weights → IsPacking sets d other packing
    → sum packing ≤ sum weights
no-greater sets d zero other weights packing some less cover packs = elim some [ ]
no-greater sets d (suc q) other weights packing some less cover packs =
    below (sum packing) (sum weights) q other less (dual sets d (suc q) other weights packing cover packs) where
      cancel : (p w q : ℕ) → p * suc q ≤ suc q * w → p ≤ w
      cancel zero w q within = omega arith
      cancel (suc p) zero q within = omega (arith, within)
      cancel (suc p) (suc w) q within = omega (arith, cancel p w q (omega (arith, within)))

      below : (p w q other : ℕ) → other ≤ suc q → p * suc q ≤ other * w → p ≤ w
      below p w q other less within = cancel p w q (omega (arith, within, mul-le-mul_left w less))

-- pairs over two denominators have one total, as a ratio
pub one-total : PairsHaveOneTotal
one-total sets d q other weights packing other_weights other_packing one more =
    let below : sum packing * other ≤ q * sum other_weights = dual sets d other q other_weights packing more.cover one.packs in
    let above : sum other_packing * q ≤ other * sum weights = dual sets d q other weights other_packing one.cover more.packs in
    let left : sum packing * other ≡ sum weights * other = ap (λ (n : ℕ). n * other) (sym one.equal) in
    let right : sum other_packing * q ≡ sum other_weights * q = ap (λ (n : ℕ). n * q) (sym more.equal) in
    omega (arith, below, above, left, right)
