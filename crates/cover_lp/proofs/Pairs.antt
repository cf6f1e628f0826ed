-- Covers and packings of equal totals, by searches for each.
use Rattle.std.proofs.Common.{◌≡◌, refl, sym, ◌∙◌, ap, subst, ℕ, zero, suc, ◌+◌, ◌*◌, ◌<◌, ◌≤◌, List, length, replicate, sum, arith, inl, inr}
use Rattle.std.specs.Prelude.{◌⊎◌, Option, Some, None, IfSome, IfNone}
use Rattle.std.proofs.lemmas.Bool.{cases_eq, cases_lt}
use Rattle.cover_lp.specs.Cover.{IsBare, IsCover, IsPacking, IsPair, IsLeastPair}
use Rattle.cover_lp.specs.Search.{Meets, Fills, IsFound, IsCoverOf, IsPackingOf, IsRatio}
use Rattle.std.specs.Option.{ForSome}
use Rattle.cover_lp.specs.declared.cover.Cover.{Cover}
use Rattle.cover_lp.specs.declared.ratio.Ratio.{Ratio}
use Rattle.cover_lp.proofs.Duality.{no-greater, one-total}
use Rattle.cover_lp.proofs.Search.{covers-met, met-covers, held-fits, fits-held}

cover-meets : (sets : List (List ℕ)) (d q total : ℕ) (weights : List ℕ) → IsCover sets d q weights → sum weights ≡ total → Meets sets (replicate d q) total weights
cover-meets sets d q total weights cover adds = record {
  one_each = cover.one_each;
  met = covers-met sets weights q 0 d (λ coordinate least most. cover.covered coordinate (omega (arith, most)));
  adds_up = adds;
}

pub meets-cover : (sets : List (List ℕ)) (d q total : ℕ) (weights : List ℕ) → Meets sets (replicate d q) total weights → IsCover sets d q weights
meets-cover sets d q total weights meets = record {
  one_each = meets.one_each;
  covered = λ coordinate within. met-covers sets weights q 0 d meets.met coordinate (omega arith) (omega (arith, within));
}

pub fills-packing : (sets : List (List ℕ)) (d q total : ℕ) (amounts : List ℕ) → Fills sets (replicate (length sets) q) 0 d total amounts → IsPacking sets d q amounts
fills-packing sets d q total amounts fills = record { one_each = fills.one_each; held = fits-held sets amounts q 0 fills.fitting }

packing-fills : (sets : List (List ℕ)) (d q total : ℕ) (amounts : List ℕ) → IsPacking sets d q amounts → sum amounts ≡ total → Fills sets (replicate (length sets) q) 0 d total amounts
packing-fills sets d q total amounts packs adds = record { one_each = packs.one_each; fitting = held-fits sets amounts q 0 packs.held; adds_up = adds }

-- a search for weights is one for a cover, and a search for amounts one for a packing
pub found-cover : (sets : List (List ℕ)) (d q total : ℕ) (needs : List ℕ) (found : Option (List ℕ)) → needs ≡ replicate d q
    → IsFound (Meets sets needs total) found → IsFound (IsCoverOf sets d q total) found
found-cover sets d q total needs (Some weights) is meets =
    let all : Meets sets (replicate d q) total weights = subst (λ (list : List ℕ). Meets sets list total weights) is meets in
    record { cover = meets-cover sets d q total weights all; adds_up = all.adds_up }
found-cover sets d q total needs None is none = λ weights h.
    none weights (subst (λ (list : List ℕ). Meets sets list total weights) (sym is) (cover-meets sets d q total weights h.cover h.adds_up))

pub found-packing : (sets : List (List ℕ)) (d q total : ℕ) (rooms : List ℕ) (found : Option (List ℕ)) → rooms ≡ replicate (length sets) q
    → IsFound (Fills sets rooms 0 d total) found → IsFound (IsPackingOf sets d q total) found
found-packing sets d q total rooms (Some amounts) is fills =
    let all : Fills sets (replicate (length sets) q) 0 d total amounts = subst (λ (list : List ℕ). Fills sets list 0 d total amounts) is fills in
    record { packs = fills-packing sets d q total amounts all; adds_up = all.adds_up }
found-packing sets d q total rooms None is none = λ amounts h.
    none amounts (subst (λ (list : List ℕ). Fills sets list 0 d total amounts) (sym is) (packing-fills sets d q total amounts h.packs h.adds_up))

pub no-lesser : (sets : List (List ℕ)) (d q total : ℕ) → ((weights : List ℕ) → sum weights < total → IsCover sets d q weights → ⊥)
    → ((found : List ℕ) → IsCoverOf sets d q total found → ⊥) → (weights : List ℕ) → sum weights < total + 1 → IsCover sets d q weights → ⊥
no-lesser sets d q total lesser none weights within cover = by (cases_eq (sum weights) total) where
  by : (sum weights ≡ total) ⊎ (sum weights ≡ total → ⊥) → ⊥
  by (inl e) = none weights (record { cover = cover; adds_up = e })
  by (inr apart) = lesser weights (omega (arith, within, apart)) cover

-- where a cover of the least total has no packing of that total, there is no pair
pub no-pair : (sets : List (List ℕ)) (d q total : ℕ) (least : List ℕ) → 1 ≤ q → IsCoverOf sets d q total least
    → ((weights : List ℕ) → sum weights < total → IsCover sets d q weights → ⊥) → ((found : List ℕ) → IsPackingOf sets d q total found → ⊥)
    → (weights packing : List ℕ) → IsPair sets d q weights packing → ⊥
no-pair sets d q total least some cover lesser none weights packing is_pair = by (cases_lt (sum weights) total) where
  by : (sum weights < total) ⊎ (total ≤ sum weights) → ⊥
  by (inl less) = lesser weights less is_pair.cover
  by (inr most) = none packing (record {
    packs = is_pair.packs;
    adds_up = omega (arith, most, cover.adds_up, is_pair.equal, no-greater sets d q q least packing some (omega arith) cover.cover is_pair.packs);
  })

-- a cover and a packing of one total are a pair
pub pair-of : (sets : List (List ℕ)) (d q total : ℕ) (weights packing : List ℕ) → IsCoverOf sets d q total weights → IsPackingOf sets d q total packing
    → IsPair sets d q weights packing
pair-of sets d q total weights packing cover packs = record { cover = cover.cover; packs = packs.packs; equal = cover.adds_up ∙ sym packs.adds_up }

-- where a ratio is known, pairs have its total
pub no-other : (sets : List (List ℕ)) (d q total over : ℕ) → IsRatio sets d over total → ((whole : ℕ) → whole ≤ 24 → whole * over ≡ total * q → ⊥)
    → (weights packing : List ℕ) → sum weights ≤ 24 → IsPair sets d q weights packing → ⊥
no-other sets d q total over ratio none weights packing small is_pair = none (sum weights) small
    (one-total sets d q over weights packing ratio.weights ratio.packing is_pair ratio.is_pair ∙ ap (λ (n : ℕ). n * q) ratio.adds_up)

-- and the whole total is the only one
pub only-total : (sets : List (List ℕ)) (d q total over whole : ℕ) → IsRatio sets d over total → whole * over ≡ total * q
    → ((weights packing : List ℕ) → sum weights ≡ whole → IsPair sets d q weights packing → ⊥) → (weights packing : List ℕ) → IsPair sets d q weights packing → ⊥
only-total sets d q total over whole ratio is none weights packing is_pair = none weights packing
    (same (sum weights) whole over ratio.positive
    (one-total sets d q over weights packing ratio.weights ratio.packing is_pair ratio.is_pair ∙ ap (λ (n : ℕ). n * q) ratio.adds_up ∙ sym is)) is_pair where
      same : (m n by : ℕ) → 1 ≤ by → m * by ≡ n * by → m ≡ n
      same m n zero some e = elim some [ ]
      same zero zero (suc by) some e = refl
      same zero (suc n) (suc by) some e = omega (arith, e)
      same (suc m) zero (suc by) some e = omega (arith, e)
      same (suc m) (suc n) (suc by) some e = ap suc (same m n (suc by) some (omega (arith, e)))

pub least-pair : (sets : List (List ℕ)) (d q : ℕ) (weights packing : List ℕ) → 1 ≤ q → sum weights ≤ 24 → IsPair sets d q weights packing
    → ((lesser : ℕ) (weights packing : List ℕ) → 1 ≤ lesser → lesser < q → sum weights ≤ 24 → IsPair sets d lesser weights packing → ⊥) → IsLeastPair sets d q weights packing
least-pair sets d q weights packing some small is_pair none = record { positive = some; is_pair = is_pair; least = least } where
  least : (lesser : ℕ) (other_weights other_packing : List ℕ) → 1 ≤ lesser → IsPair sets d lesser other_weights other_packing → q ≤ lesser
  least lesser other_weights other_packing positive other = by (cases_lt lesser q) where
    by : (lesser < q) ⊎ (q ≤ lesser) → q ≤ lesser
    by (inl less) = absurd (none lesser other_weights other_packing positive less
        (omega (arith, small, other.equal, no-greater sets d q lesser weights other_packing some (omega (arith, less)) is_pair.cover other.packs)) other)
    by (inr most) = most

pub bare-step : (sets : List (List ℕ)) (bound : ℕ) → ((coordinate : ℕ) → coordinate < bound → IsBare sets coordinate → ⊥) → (IsBare sets bound → ⊥)
    → (coordinate : ℕ) → coordinate < bound + 1 → IsBare sets coordinate → ⊥
bare-step sets bound lesser none coordinate within bare = by (cases_eq coordinate bound) where
  by : (coordinate ≡ bound) ⊎ (coordinate ≡ bound → ⊥) → ⊥
  by (inl e) = none (subst (λ (c : ℕ). IsBare sets c) e bare)
  by (inr apart) = lesser coordinate (omega (arith, within, apart)) bare

pub pair-step : (sets : List (List ℕ)) (d bound : ℕ)
    → ((lesser : ℕ) (weights packing : List ℕ) → 1 ≤ lesser → lesser < bound → sum weights ≤ 24 → IsPair sets d lesser weights packing → ⊥)
    → ((weights packing : List ℕ) → sum weights ≤ 24 → IsPair sets d bound weights packing → ⊥)
    → (lesser : ℕ) (weights packing : List ℕ) → 1 ≤ lesser → lesser < bound + 1 → sum weights ≤ 24 → IsPair sets d lesser weights packing → ⊥
pair-step sets d bound below none lesser weights packing positive within small is_pair = by (cases_eq lesser bound) where
  by : (lesser ≡ bound) ⊎ (lesser ≡ bound → ⊥) → ⊥
  by (inl e) = none weights packing small (subst (λ (q : ℕ). IsPair sets d q weights packing) e is_pair)
  by (inr apart) = below lesser weights packing positive (omega (arith, within, apart)) small is_pair

-- what was found over a denominator
pub cover-some : (sets : List (List ℕ)) (d q : ℕ) (found : Option Cover) (cover : Cover) → found ≡ Some cover
    → IfSome found (λ (cover : Cover). (cover.q ≡ q) × IsPair sets d q cover.weights.items cover.packing.items × (sum cover.weights.items ≤ 24))
    → (cover.q ≡ q) × IsPair sets d q cover.weights.items cover.packing.items × (sum cover.weights.items ≤ 24)
cover-some sets d q None cover is some = absurd cc
cover-some sets d q (Some other) cover is some =
    subst (λ (cover : Cover). (cover.q ≡ q) × IsPair sets d q cover.weights.items cover.packing.items × (sum cover.weights.items ≤ 24)) (same other cover is) some where
      same : (one other : Cover) → Some one ≡ Some other → one ≡ other
      same one other e = cc

pub cover-none : (sets : List (List ℕ)) (d q : ℕ) (found : Option Cover) → found ≡ None
    → IfNone found ((weights packing : List ℕ) → sum weights ≤ 24 → IsPair sets d q weights packing → ⊥)
    → (weights packing : List ℕ) → sum weights ≤ 24 → IsPair sets d q weights packing → ⊥
cover-none sets d q None is none = none
cover-none sets d q (Some cover) is none = absurd cc

-- a ratio that is at hand
pub known-ratio : (sets : List (List ℕ)) (d : ℕ) (found : Option Ratio) (ratio : Ratio) → found ≡ Some ratio
    → ForSome found (λ (ratio : Ratio). IsRatio sets d ratio.q ratio.total) → IsRatio sets d ratio.q ratio.total
known-ratio sets d found ratio is known = subst (λ (o : Option Ratio). ForSome o (λ (ratio : Ratio). IsRatio sets d ratio.q ratio.total)) is known ratio refl
