-- What searches for weights and for amounts find.
use Rattle.std.proofs.Common.{◌≡◌, subst, ℕ, zero, suc, ◌+◌, ◌-◌, ◌<◌, ◌≤◌, Bool, true, false, cond, List, [], ◌∷◌, length, replicate, arith, inl, inr}
use Rattle.std.specs.List.{AllByRecursion}
use Rattle.std.specs.Prelude.{◌⊎◌, Option, Some, None, Vec, option_map, IfNone, IfSome}
use Rattle.std.specs.Global.{Global}
use Rattle.std.proofs.lemmas.Bool.{cases_eq, cases_lt}
use Rattle.std.proofs.lemmas.List.Sums.{sum_by-cons}
use Rattle.cover_lp.specs.Cover.{holds, weight_at, packed_from}
use Rattle.cover_lp.specs.Search.{AreMet, lowered, Meets, AreFitting, left_of, HaveRoom, Fills, IsFound}

pub lowered-met : (set : List ℕ) (sets : List (List ℕ)) (weight : ℕ) (weights : List ℕ) (first : ℕ) (needs : List ℕ)
    → AreMet (set ∷ sets) (weight ∷ weights) first needs → AreMet sets weights first (lowered set weight first needs)
lowered-met set sets weight weights first [] met = tt
lowered-met set sets weight weights first (need ∷ needs) (here, later) = (omega (arith, here), lowered-met set sets weight weights (suc first) needs later)

pub met-lowered : (set : List ℕ) (sets : List (List ℕ)) (weight : ℕ) (weights : List ℕ) (first : ℕ) (needs : List ℕ)
    → AreMet sets weights first (lowered set weight first needs) → AreMet (set ∷ sets) (weight ∷ weights) first needs
met-lowered set sets weight weights first [] met = tt
met-lowered set sets weight weights first (need ∷ needs) (here, later) = (omega (arith, here), met-lowered set sets weight weights (suc first) needs later)

pub zero-met : (weights : List ℕ) (first : ℕ) (needs : List ℕ) → AllByRecursion (λ (need : ℕ). need ≡ 0) needs → AreMet [] weights first needs
zero-met weights first [] zeros = tt
zero-met weights first (need ∷ needs) (here, later) = (omega (arith, here), zero-met weights (suc first) needs later)

pub met-zero : (weights : List ℕ) (first : ℕ) (needs : List ℕ) → AreMet [] weights first needs → AllByRecursion (λ (need : ℕ). need ≡ 0) needs
met-zero weights first [] met = tt
met-zero weights first (need ∷ needs) (here, later) = (omega (arith, here), met-zero weights (suc first) needs later)

-- weights that meet the needs, by their first
pub step-meets : (set : List ℕ) (sets : List (List ℕ)) (needs : List ℕ) (total weight : ℕ) (weights : List ℕ) → weight ≤ total
    → Meets sets (lowered set weight 0 needs) (total - weight) weights → Meets (set ∷ sets) needs total (weight ∷ weights)
step-meets set sets needs total weight weights within meets = record {
  one_each = omega (arith, meets.one_each);
  met = met-lowered set sets weight weights 0 needs meets.met;
  adds_up = omega (arith, sum_by-cons (λ (n : ℕ). n) weight weights, meets.adds_up, within);
}

pub rest-meets : (set : List ℕ) (sets : List (List ℕ)) (needs : List ℕ) (total weight : ℕ) (weights : List ℕ)
    → Meets (set ∷ sets) needs total (weight ∷ weights) → Meets sets (lowered set weight 0 needs) (total - weight) weights
rest-meets set sets needs total weight weights meets = record {
  one_each = omega (arith, meets.one_each);
  met = lowered-met set sets weight weights 0 needs meets.met;
  adds_up = omega (arith, sum_by-cons (λ (n : ℕ). n) weight weights, meets.adds_up);
}

pub first-within : (sets : List (List ℕ)) (needs : List ℕ) (total weight : ℕ) (weights : List ℕ) → Meets sets needs total (weight ∷ weights) → weight ≤ total
first-within sets needs total weight weights meets = omega (arith, sum_by-cons (λ (n : ℕ). n) weight weights, meets.adds_up)

-- amounts that fit, by their first
pub left-fits : (sets : List (List ℕ)) (rooms : List ℕ) (first amount : ℕ) (amounts : List ℕ) → AreFitting sets rooms first (amount ∷ amounts)
    → AreFitting sets (left_of sets rooms first amount) (suc first) amounts
left-fits [] rooms first amount amounts fits = tt
left-fits (set ∷ sets) [] first amount amounts fits = absurd fits
left-fits (set ∷ sets) (room ∷ rooms) first amount amounts (here, later) = (omega (arith, here), left-fits sets rooms first amount amounts later)

pub fits-left : (sets : List (List ℕ)) (rooms : List ℕ) (first amount : ℕ) (amounts : List ℕ) → HaveRoom sets rooms first amount
    → AreFitting sets (left_of sets rooms first amount) (suc first) amounts → AreFitting sets rooms first (amount ∷ amounts)
fits-left [] rooms first amount amounts have fits = tt
fits-left (set ∷ sets) [] first amount amounts have fits = absurd have
fits-left (set ∷ sets) (room ∷ rooms) first amount amounts (some, more) (here, later) = (omega (arith, some, here), fits-left sets rooms first amount amounts more later)

-- where a greater amount fits there is room for a lesser one
pub have-room : (sets : List (List ℕ)) (rooms : List ℕ) (first amount lesser : ℕ) (amounts : List ℕ) → lesser ≤ amount → AreFitting sets rooms first (amount ∷ amounts)
    → HaveRoom sets rooms first lesser
have-room [] rooms first amount lesser amounts less fits = tt
have-room (set ∷ sets) [] first amount lesser amounts less fits = absurd fits
have-room (set ∷ sets) (room ∷ rooms) first amount lesser amounts less (here, later) =
    (by (holds set first) here, have-room sets rooms first amount lesser amounts less later) where
      by : (held : Bool) → cond held amount 0 + packed_from (suc first) amounts set ≤ room → cond held lesser 0 ≤ room
      by true within = omega (arith, within, less)
      by false within = omega arith

pub fits-none : (sets : List (List ℕ)) (rooms : List ℕ) (first : ℕ) → length rooms ≡ length sets → AreFitting sets rooms first []
fits-none [] rooms first same = tt
fits-none (set ∷ sets) [] first same = absurd cc
fits-none (set ∷ sets) (room ∷ rooms) first same = (omega arith, fits-none sets rooms first (omega (arith, same)))

-- needs that are all q, and rooms that are all q
pub covers-met : (sets : List (List ℕ)) (weights : List ℕ) (q first count : ℕ)
    → ((coordinate : ℕ) → first ≤ coordinate → coordinate < first + count → q ≤ weight_at sets weights coordinate) → AreMet sets weights first (replicate count q)
covers-met sets weights q first zero covered = tt
covers-met sets weights q first (suc count) covered =
    (covered first (omega arith) (omega arith), covers-met sets weights q (suc first) count (λ coordinate least most. covered coordinate (omega (arith, least)) (omega (arith, most))))

pub met-covers : (sets : List (List ℕ)) (weights : List ℕ) (q first count : ℕ) → AreMet sets weights first (replicate count q)
    → (coordinate : ℕ) → first ≤ coordinate → coordinate < first + count → q ≤ weight_at sets weights coordinate
met-covers sets weights q first zero met coordinate least most = absurd (omega (arith, least, most))
met-covers sets weights q first (suc count) (here, later) coordinate least most =
    by (cases_eq first coordinate) (λ past. met-covers sets weights q (suc first) count later coordinate past (omega (arith, most))) where
      by : (first ≡ coordinate) ⊎ (first ≡ coordinate → ⊥) → (suc first ≤ coordinate → q ≤ weight_at sets weights coordinate) → q ≤ weight_at sets weights coordinate
      by (inl e) next = subst (λ (c : ℕ). q ≤ weight_at sets weights c) e here
      by (inr apart) next = next (omega (arith, least, apart))

pub held-fits : (sets : List (List ℕ)) (amounts : List ℕ) (q first : ℕ) → AllByRecursion (λ (set : List ℕ). packed_from first amounts set ≤ q) sets
    → AreFitting sets (replicate (length sets) q) first amounts
held-fits [] amounts q first held = tt
held-fits (set ∷ sets) amounts q first (here, later) = (here, held-fits sets amounts q first later)

pub fits-held : (sets : List (List ℕ)) (amounts : List ℕ) (q first : ℕ) → AreFitting sets (replicate (length sets) q) first amounts
    → AllByRecursion (λ (set : List ℕ). packed_from first amounts set ≤ q) sets
fits-held [] amounts q first fits = tt
fits-held (set ∷ sets) amounts q first (here, later) = (here, fits-held sets amounts q first later)

-- ---- what was found

pub found-none : (P : List ℕ → Type 0) (found : Option (Vec ℕ Global)) → found ≡ None → IsFound P (option_map (λ (list : Vec ℕ Global). list.items) found) → (list : List ℕ) → P list → ⊥
found-none P None is none = none
found-none P (Some list) is none = absurd cc

pub found-some : (P : List ℕ → Type 0) (found : Option (Vec ℕ Global)) (list : Vec ℕ Global) → found ≡ Some list → IsFound P (option_map (λ (list : Vec ℕ Global). list.items) found) → P list.items
found-some P None list is some = absurd cc
found-some P (Some other) list is some = subst (λ (l : Vec ℕ Global). P l.items) (same other list is) some where
  same : (one other : Vec ℕ Global) → Some one ≡ Some other → one ≡ other
  same one other e = cc

pub room-none : (Has : Type 0) (found : Option (Vec ℕ Global)) → found ≡ None → IfNone found (Has → ⊥) → Has → ⊥
room-none Has None is none = none
room-none Has (Some list) is none = absurd cc

pub room-some : (Has : Type 0) (left : List ℕ) (found : Option (Vec ℕ Global)) (list : Vec ℕ Global) → found ≡ Some list → IfSome found (λ (list : Vec ℕ Global). Has × (list.items ≡ left)) → Has × (list.items ≡ left)
room-some Has left None list is some = absurd cc
room-some Has left (Some other) list is some = subst (λ (l : Vec ℕ Global). Has × (l.items ≡ left)) (same other list is) some where
  same : (one other : Vec ℕ Global) → Some one ≡ Some other → one ≡ other
  same one other e = cc

-- without sets
pub none-meets : (needs : List ℕ) (total : ℕ) (found : List ℕ) → Meets [] needs total found → (0 ≡ total) × AllByRecursion (λ (need : ℕ). need ≡ 0) needs
none-meets needs total [] meets = (meets.adds_up, met-zero [] 0 needs meets.met)
none-meets needs total (weight ∷ weights) meets = let none : suc (length weights) ≡ 0 = meets.one_each in absurd cc

-- no weights with this first one
pub step-none : (set : List ℕ) (sets : List (List ℕ)) (needs : List ℕ) (total bound : ℕ)
    → ((weight : ℕ) (weights : List ℕ) → weight < bound → Meets (set ∷ sets) needs total (weight ∷ weights) → ⊥)
    → ((found : List ℕ) → Meets sets (lowered set bound 0 needs) (total - bound) found → ⊥)
    → (weight : ℕ) (weights : List ℕ) → weight < bound + 1 → Meets (set ∷ sets) needs total (weight ∷ weights) → ⊥
step-none set sets needs total bound lesser none weight weights within meets = by (cases_eq weight bound) where
  by : (weight ≡ bound) ⊎ (weight ≡ bound → ⊥) → ⊥
  by (inl e) = none weights (subst (λ (w : ℕ). Meets sets (lowered set w 0 needs) (total - w) weights) e (rest-meets set sets needs total weight weights meets))
  by (inr apart) = lesser weight weights (omega (arith, within, apart)) meets

pub all-none : (set : List ℕ) (sets : List (List ℕ)) (needs : List ℕ) (total bound : ℕ) → total < bound
    → ((weight : ℕ) (weights : List ℕ) → weight < bound → Meets (set ∷ sets) needs total (weight ∷ weights) → ⊥)
    → (found : List ℕ) → Meets (set ∷ sets) needs total found → ⊥
all-none set sets needs total bound past lesser [] meets = let some : 0 ≡ suc (length sets) = meets.one_each in absurd cc
all-none set sets needs total bound past lesser (weight ∷ weights) meets = lesser weight weights (omega (arith, past, first-within (set ∷ sets) needs total weight weights meets)) meets

-- the same for amounts
pub step-fills : (sets : List (List ℕ)) (rooms : List ℕ) (first count total amount : ℕ) (amounts : List ℕ) → amount ≤ total → 1 ≤ count → HaveRoom sets rooms first amount
    → Fills sets (left_of sets rooms first amount) (first + 1) (count - 1) (total - amount) amounts → Fills sets rooms first count total (amount ∷ amounts)
step-fills sets rooms first count total amount amounts within some have fills = record {
  one_each = omega (arith, fills.one_each, some);
  fitting = fits-left sets rooms first amount amounts have (subst (λ (next : ℕ). AreFitting sets (left_of sets rooms first amount) next amounts) (omega arith) fills.fitting);
  adds_up = omega (arith, sum_by-cons (λ (n : ℕ). n) amount amounts, fills.adds_up, within);
}

rest-fills : (sets : List (List ℕ)) (rooms : List ℕ) (first count total amount : ℕ) (amounts : List ℕ) → Fills sets rooms first count total (amount ∷ amounts)
    → Fills sets (left_of sets rooms first amount) (first + 1) (count - 1) (total - amount) amounts
rest-fills sets rooms first count total amount amounts fills = record {
  one_each = omega (arith, fills.one_each);
  fitting = subst (λ (next : ℕ). AreFitting sets (left_of sets rooms first amount) next amounts) (omega arith) (left-fits sets rooms first amount amounts fills.fitting);
  adds_up = omega (arith, sum_by-cons (λ (n : ℕ). n) amount amounts, fills.adds_up);
}

pub no-fills : (sets : List (List ℕ)) (rooms : List ℕ) (first count total bound : ℕ)
    → ((amount : ℕ) (amounts : List ℕ) → amount < bound → Fills sets rooms first count total (amount ∷ amounts) → ⊥)
    → ((found : List ℕ) → Fills sets (left_of sets rooms first bound) (first + 1) (count - 1) (total - bound) found → ⊥)
    → (amount : ℕ) (amounts : List ℕ) → amount < bound + 1 → Fills sets rooms first count total (amount ∷ amounts) → ⊥
no-fills sets rooms first count total bound lesser none amount amounts within fills = by (cases_eq amount bound) where
  by : (amount ≡ bound) ⊎ (amount ≡ bound → ⊥) → ⊥
  by (inl e) = none amounts (subst (λ (w : ℕ). Fills sets (left_of sets rooms first w) (first + 1) (count - 1) (total - w) amounts) e (rest-fills sets rooms first count total amount amounts fills))
  by (inr apart) = lesser amount amounts (omega (arith, within, apart)) fills

-- where a first amount has no room, no greater one has
pub past-room : (sets : List (List ℕ)) (rooms : List ℕ) (first count total bound : ℕ) → 1 ≤ count
    → ((amount : ℕ) (amounts : List ℕ) → amount < bound → Fills sets rooms first count total (amount ∷ amounts) → ⊥)
    → (HaveRoom sets rooms first bound → ⊥) → (found : List ℕ) → Fills sets rooms first count total found → ⊥
past-room sets rooms first count total bound some lesser none [] fills = let empty : 0 ≡ count = fills.one_each in absurd (omega (arith, empty, some))
past-room sets rooms first count total bound some lesser none (amount ∷ amounts) fills = by (cases_lt amount bound) where
  by : (amount < bound) ⊎ (bound ≤ amount) → ⊥
  by (inl less) = lesser amount amounts less fills
  by (inr most) = none (have-room sets rooms first amount bound amounts most fills.fitting)

pub all-full : (sets : List (List ℕ)) (rooms : List ℕ) (first count total bound : ℕ) → 1 ≤ count → total < bound
    → ((amount : ℕ) (amounts : List ℕ) → amount < bound → Fills sets rooms first count total (amount ∷ amounts) → ⊥)
    → (found : List ℕ) → Fills sets rooms first count total found → ⊥
all-full sets rooms first count total bound some past lesser [] fills = let empty : 0 ≡ count = fills.one_each in absurd (omega (arith, empty, some))
all-full sets rooms first count total bound some past lesser (amount ∷ amounts) fills =
    lesser amount amounts (omega (arith, past, sum_by-cons (λ (n : ℕ). n) amount amounts, fills.adds_up)) fills
