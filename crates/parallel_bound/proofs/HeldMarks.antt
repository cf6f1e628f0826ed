-- Marks that one of several lists has.
use Rattle.std.proofs.Common.{◌≡◌, refl, sym, ◌∙◌, ap, ℕ, zero, suc, ◌+◌, ◌*◌, ◌<◌, ◌≤◌, Bool, true, false, cond, not, List, [], ◌∷◌, length, get_or, set, arith}
use Rattle.std.specs.Prelude.{◌||◌, ◌&&◌}
use Rattle.std.specs.List.{AllByRecursion}
use Rattle.iolb_model.specs.Game.{marked, mark_count}
use Rattle.stretch_laws.proofs.CompletePebblings.{count-cons}

-- whether one of the lists has the mark, and whether one does but for the list at a place
abbrev pub is_held : List (List Bool) → ℕ → Bool
is_held [] v = false
is_held (marks ∷ lists) v = marked marks v || is_held lists v

abbrev pub others_hold : List (List Bool) → ℕ → ℕ → Bool
others_hold [] place v = false
others_hold (marks ∷ lists) zero v = is_held lists v
others_hold (marks ∷ lists) (suc place) v = marked marks v || others_hold lists place v

or_swap : (a b c : Bool) → (a || (b || c)) ≡ (b || (a || c))
or_swap true true c = refl
or_swap true false c = refl
or_swap false b c = refl

-- that a list is held is that it is by the list at a place, or by another
pub held-set : (lists : List (List Bool)) (place : ℕ) (marks : List Bool) (v : ℕ) → place < length lists
    → is_held (set lists place marks) v ≡ (marked marks v || others_hold lists place v)
held-set [] place marks v there = absurd (omega (arith, there))
held-set (other ∷ lists) zero marks v there = refl
held-set (other ∷ lists) (suc place) marks v there =
    ap (λ b. marked other v || b) (held-set lists place marks v (omega (arith, there))) ∙ or_swap (marked other v) (marked marks v) (others_hold lists place v)

pub held-get : (lists : List (List Bool)) (place v : ℕ) → place < length lists → is_held lists v ≡ (marked (get_or lists place []) v || others_hold lists place v)
held-get [] place v there = absurd (omega (arith, there))
held-get (other ∷ lists) zero v there = refl
held-get (other ∷ lists) (suc place) v there =
    ap (λ b. marked other v || b) (held-get lists place v (omega (arith, there))) ∙ or_swap (marked other v) (marked (get_or lists place []) v) (others_hold lists place v)

-- a vertex whose mark isn't changed is held as before
pub held-kept : (lists : List (List Bool)) (place : ℕ) (marks : List Bool) (v : ℕ) → place < length lists → marked marks v ≡ marked (get_or lists place []) v
    → is_held (set lists place marks) v ≡ is_held lists v
held-kept lists place marks v there same =
    held-set lists place marks v there ∙ ap (λ b. b || others_hold lists place v) same ∙ sym (held-get lists place v there)

-- ---- how many vertices have marks

-- the marks that another list hasn't
without : List Bool → List Bool → List Bool
without [] taken = []
without (b ∷ marks) [] = b ∷ marks
without (b ∷ marks) (t ∷ taken) = (b && not t) ∷ without marks taken

without-marked : (marks taken : List Bool) (v : ℕ) → marked (without marks taken) v ≡ true → (marked marks v ≡ true) × (marked taken v ≡ false)
unfolding without
without-marked [] taken v h = absurd cc
without-marked (b ∷ marks) [] v h = (h, refl)
without-marked (b ∷ marks) (t ∷ taken) zero h = both b t h where
  both : (x y : Bool) → (x && not y) ≡ true → (x ≡ true) × (y ≡ false)
  both true true e = absurd cc
  both true false e = (refl, refl)
  both false y e = absurd cc
without-marked (b ∷ marks) (t ∷ taken) (suc v) h = without-marked marks taken v h

without-count : (marks taken : List Bool) → mark_count marks ≤ mark_count (without marks taken) + mark_count taken
unfolding without
without-count [] taken = omega arith
without-count (b ∷ marks) [] = omega arith
without-count (b ∷ marks) (t ∷ taken) =
    omega (arith, one b t, count-cons b marks, count-cons (b && not t) (without marks taken), count-cons t taken, without-count marks taken) where
      one : (x y : Bool) → cond x 1 0 ≤ cond (x && not y) 1 0 + cond y 1 0
      one true true = omega arith
      one true false = omega arith
      one false y = omega arith

-- the marks of all lists together
abbrev pub all_marks : List (List Bool) → ℕ
all_marks [] = 0
all_marks (marks ∷ lists) = mark_count marks + all_marks lists

none-marked : (marks : List Bool) → ((v : ℕ) → marked marks v ≡ true → ⊥) → mark_count marks ≡ 0
none-marked [] h = refl
none-marked (true ∷ marks) h = absurd (h 0 refl)
none-marked (false ∷ marks) h = omega (arith, count-cons false marks, none-marked marks (λ v. h (suc v)))

-- what is held is no more than all lists have
pub held-count : (one : List Bool) (lists : List (List Bool)) → ((v : ℕ) → marked one v ≡ true → is_held lists v ≡ true) → mark_count one ≤ all_marks lists
held-count one [] h = omega (arith, none-marked one (λ v on. no (h v on))) where
  no : false ≡ true → ⊥
  no e = absurd cc
held-count one (marks ∷ lists) h =
    omega (arith, without-count one marks, held-count (without one marks) lists (λ v on. let is = without-marked one marks v on in rest (marked marks v) (is_held lists v) (h v is.0) is.1)) where
      rest : (a b : Bool) → (a || b) ≡ true → a ≡ false → b ≡ true
      rest true b e off = absurd cc
      rest false b e off = e

abbrev pub AreFew : ℕ → List (List Bool) → Type 0
AreFew s lists = AllByRecursion (λ (marks : List Bool). mark_count marks ≤ s) lists

few-all : (s : ℕ) (lists : List (List Bool)) → AreFew s lists → all_marks lists ≤ length lists * s
few-all s [] few = omega arith
few-all s (marks ∷ lists) few = omega (arith, few.0, few-all s lists few.1)

-- where one list has fewer than s, and none more, all have fewer than s for each
pub fewer-all : (s : ℕ) (lists : List (List Bool)) (place : ℕ) → AreFew s lists → place < length lists → mark_count (get_or lists place []) < s
    → all_marks lists < length lists * s
fewer-all s [] place few there fewer = absurd (omega (arith, there))
fewer-all s (marks ∷ lists) zero few there fewer = omega (arith, fewer, few-all s lists few.1)
fewer-all s (marks ∷ lists) (suc place) few there fewer = omega (arith, few.0, fewer-all s lists place few.1 (omega (arith, there)) fewer)

-- ---- what holds of all lists

pub all-set : {A : Type 0} (P : A → Type 0) (xs : List A) (place : ℕ) (x : A) → AllByRecursion P xs → P x → AllByRecursion P (set xs place x)
all-set P [] place x all new = tt
all-set P (y ∷ xs) zero x all new = (new, all.1)
all-set P (y ∷ xs) (suc place) x all new = (all.0, all-set P xs place x all.1 new)

pub all-get : {A : Type 0} (P : A → Type 0) (xs : List A) (place : ℕ) (d : A) → AllByRecursion P xs → place < length xs → P (get_or xs place d)
all-get P [] place d all there = absurd (omega (arith, there))
all-get P (y ∷ xs) zero d all there = all.0
all-get P (y ∷ xs) (suc place) d all there = all-get P xs place d all.1 (omega (arith, there))
