-- Covers of coordinates by weighted sets, and packings of coordinates into sets (Loomis and Whitney 1949; Bollobás and
-- Thomason 1995; the two linear programs and their duality are those of Gale, Kuhn and Tucker 1951), in whole numbers over a
-- common denominator q.
use Rattle.std.specs.Prelude.{◌≡◌, ℕ, suc, ◌+◌, ◌*◌, ◌<◌, ◌≤◌, Bool, false, cond, nat_eq, List, [], ◌∷◌, length, sum}
use Rattle.std.specs.List.{AllByRecursion}
use Rattle.std.specs.Set.{is_member}

-- whether a set, given by its coordinates, holds one
abbrev pub holds : List ℕ → ℕ → Bool
holds set coordinate = is_member nat_eq set coordinate

-- the weights of the sets that hold a coordinate, added up
abbrev pub weight_at : List (List ℕ) → List ℕ → ℕ → ℕ
weight_at [] weights coordinate = 0
weight_at (set ∷ sets) [] coordinate = 0
weight_at (set ∷ sets) (weight ∷ weights) coordinate = cond (holds set coordinate) weight 0 + weight_at sets weights coordinate

-- what is packed at the coordinates that a set holds, added up; the list begins at the coordinate `first`
abbrev pub packed_from : ℕ → List ℕ → List ℕ → ℕ
packed_from first [] set = 0
packed_from first (amount ∷ amounts) set = cond (holds set first) amount 0 + packed_from (suc first) amounts set

-- a weight for each set, such that each of the d coordinates lies in sets of total weight at least q
pub record IsCover (sets : List (List ℕ)) (d q : ℕ) (weights : List ℕ) : Type 0 where
  pub one_each : length weights ≡ length sets
  pub covered : (coordinate : ℕ) → coordinate < d → q ≤ weight_at sets weights coordinate

-- an amount for each of the d coordinates, such that each set holds a total of at most q
pub record IsPacking (sets : List (List ℕ)) (d q : ℕ) (packing : List ℕ) : Type 0 where
  pub one_each : length packing ≡ d
  pub held : AllByRecursion (λ (set : List ℕ). packed_from 0 packing set ≤ q) sets

-- a cover and a packing of equal totals
pub record IsPair (sets : List (List ℕ)) (d q : ℕ) (weights packing : List ℕ) : Type 0 where
  pub cover : IsCover sets d q weights
  pub packs : IsPacking sets d q packing
  pub equal : sum weights ≡ sum packing

-- a pair over the least denominator that has one
pub record IsLeastPair (sets : List (List ℕ)) (d q : ℕ) (weights packing : List ℕ) : Type 0 where
  pub positive : 1 ≤ q
  pub is_pair : IsPair sets d q weights packing
  pub least : (lesser : ℕ) (other_weights other_packing : List ℕ) → 1 ≤ lesser → IsPair sets d lesser other_weights other_packing → q ≤ lesser

-- no set holds the coordinate
abbrev pub IsBare : List (List ℕ) → ℕ → Type 0
IsBare sets coordinate = AllByRecursion (λ (set : List ℕ). holds set coordinate ≡ false) sets

-- the least of the d coordinates that no set holds
pub record IsUncovered (sets : List (List ℕ)) (d coordinate : ℕ) : Type 0 where
  pub there : coordinate < d
  pub bare : IsBare sets coordinate
  pub least : (lesser : ℕ) → lesser < coordinate → IsBare sets lesser → ⊥

-- each of the d coordinates is in a set, and no pair has a denominator from 1 to 12 and a total of at most 24
pub record IsTooFine (sets : List (List ℕ)) (d : ℕ) : Type 0 where
  pub held : (coordinate : ℕ) → coordinate < d → IsBare sets coordinate → ⊥
  pub none : (q : ℕ) (weights packing : List ℕ) → 1 ≤ q → q ≤ 12 → sum weights ≤ 24 → IsPair sets d q weights packing → ⊥

-- a pair with a denominator from 1 to 12 and a total of at most 24
pub record IsPairInReach (sets : List (List ℕ)) (d q : ℕ) (weights packing : List ℕ) : Type 0 where
  pub positive : 1 ≤ q
  pub few : q ≤ 12
  pub light : sum weights ≤ 24
  pub is_pair : IsPair sets d q weights packing

-- A law: where some pair is in reach, so is one over the least denominator that has a pair.
abbrev pub PairsInReachHaveLeast : Type 0
PairsInReachHaveLeast = (sets : List (List ℕ)) (d q : ℕ) (weights packing : List ℕ) → IsPairInReach sets d q weights packing
    → (least : ℕ) × (least_weights : List ℕ) × (least_packing : List ℕ) × IsLeastPair sets d least least_weights least_packing × IsPairInReach sets d least least_weights least_packing

-- A law: pairs over two denominators have one total, as a ratio.
abbrev pub PairsHaveOneTotal : Type 0
PairsHaveOneTotal = (sets : List (List ℕ)) (d q other : ℕ) (weights packing other_weights other_packing : List ℕ)
    → IsPair sets d q weights packing → IsPair sets d other other_weights other_packing → sum weights * other ≡ sum other_weights * q
