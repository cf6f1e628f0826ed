-- What a search for weights, or for amounts, finds.
use Rattle.std.specs.Prelude.{◌≡◌, ⊤, ℕ, suc, ◌-◌, ◌≤◌, cond, List, [], ◌∷◌, length, sum, Option, Some, None}
use Rattle.cover_lp.specs.Cover.{holds, packed_from, weight_at, IsCover, IsPacking, IsPair}

-- something with a property, or nothing where nothing has it
abbrev pub IsFound : (List ℕ → Type 0) → Option (List ℕ) → Type 0
IsFound P (Some found) = P found
IsFound P None = (found : List ℕ) → P found → ⊥

-- the weights meet what the coordinates need, from the coordinate `first` on
abbrev pub AreMet : List (List ℕ) → List ℕ → ℕ → List ℕ → Type 0
AreMet sets weights first [] = ⊤
AreMet sets weights first (need ∷ needs) = (need ≤ weight_at sets weights first) × AreMet sets weights (suc first) needs

-- what is still needed where a set has this weight
abbrev pub lowered : List ℕ → ℕ → ℕ → List ℕ → List ℕ
lowered set weight first [] = []
lowered set weight first (need ∷ needs) = (need - cond (holds set first) weight 0) ∷ lowered set weight (suc first) needs

-- one weight for each set, of this total, that meet the needs
pub record Meets (sets : List (List ℕ)) (needs : List ℕ) (total : ℕ) (weights : List ℕ) : Type 0 where
  pub one_each : length weights ≡ length sets
  pub met : AreMet sets weights 0 needs
  pub adds_up : sum weights ≡ total

-- the amounts, from the coordinate `first` on, fit into the room of each set
abbrev pub AreFitting : List (List ℕ) → List ℕ → ℕ → List ℕ → Type 0
AreFitting [] rooms first amounts = ⊤
AreFitting (set ∷ sets) [] first amounts = ⊥
AreFitting (set ∷ sets) (room ∷ rooms) first amounts = (packed_from first amounts set ≤ room) × AreFitting sets rooms first amounts

-- the room that is left where a coordinate has this amount
abbrev pub left_of : List (List ℕ) → List ℕ → ℕ → ℕ → List ℕ
left_of [] rooms coordinate amount = []
left_of (set ∷ sets) [] coordinate amount = []
left_of (set ∷ sets) (room ∷ rooms) coordinate amount = (room - cond (holds set coordinate) amount 0) ∷ left_of sets rooms coordinate amount

-- one amount for each of so many coordinates from one on, of this total, that fit
pub record Fills (sets : List (List ℕ)) (rooms : List ℕ) (first count total : ℕ) (amounts : List ℕ) : Type 0 where
  pub one_each : length amounts ≡ count
  pub fitting : AreFitting sets rooms first amounts
  pub adds_up : sum amounts ≡ total

-- each set has so much room, if it holds the coordinate
abbrev pub HaveRoom : List (List ℕ) → List ℕ → ℕ → ℕ → Type 0
HaveRoom [] rooms coordinate amount = ⊤
HaveRoom (set ∷ sets) [] coordinate amount = ⊥
HaveRoom (set ∷ sets) (room ∷ rooms) coordinate amount = (cond (holds set coordinate) amount 0 ≤ room) × HaveRoom sets rooms coordinate amount

-- some cover and packing over this denominator have this total
pub record IsRatio (sets : List (List ℕ)) (d q total : ℕ) : Type 0 where
  pub positive : 1 ≤ q
  pub weights : List ℕ
  pub packing : List ℕ
  pub is_pair : IsPair sets d q weights packing
  pub adds_up : sum weights ≡ total

-- a cover of this total
pub record IsCoverOf (sets : List (List ℕ)) (d q total : ℕ) (weights : List ℕ) : Type 0 where
  pub cover : IsCover sets d q weights
  pub adds_up : sum weights ≡ total

-- a packing of this total
pub record IsPackingOf (sets : List (List ℕ)) (d q total : ℕ) (packing : List ℕ) : Type 0 where
  pub packs : IsPacking sets d q packing
  pub adds_up : sum packing ≡ total
