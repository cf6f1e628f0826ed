-- The instances of an execution are in the order of the levels.
use Rattle.std.proofs.Common.{◌≡◌, refl, sym, ◌∙◌, ap, subst, inl, inr, ℕ, zero, suc, ◌<◌, ◌≤◌, Bool, true, false, List, [], ◌∷◌, ◌++◌, map, take, arith, length}
use Rattle.std.specs.Prelude.{◌⊎◌, ◌&&◌, if◌then◌else◌, Option, Some, None, IsSomeAnd, is_some, slice_get, option_map}
use Rattle.std.proofs.lemmas.Int.{ints}
use Rattle.std.proofs.Math.IntN.{ℤ}
use Rattle.iolb_model.specs.Form.{form_value, are_met}
use Rattle.iolb_model.specs.Path.{PathStep, first_of, item_path, row_path, bounded, guarded, bounds_on}
use Rattle.iolb_model.specs.Program.{Direction, upward, downward, Item, assign, loop, guard, Row, done, next, AffineProgram, IsWellFormed, item_statements, row_statements}
use Rattle.iolb_model.specs.Execution.{Instance, loop_values, at_value, item_runs, row_runs, execution}
use Rattle.execution_laws.specs.Domain.{InstancesAreExecutedOnce}
use Rattle.iolb_model.specs.Domain.{LeadAlong}
use Rattle.execution_laws.specs.Order.{OrderIsByLevels}
use Rattle.iolb_model.specs.Order.{GoesBefore, has_both, item_common, row_common, Precedes}
use Rattle.execution_laws.proofs.Members.{Member}
use Rattle.execution_laws.proofs.Ordered.{IsOrdered, Ordered-append, Ordered-weaken, Ordered-map, Ordered-flat_map, Ordered-left, Ordered-right, Ordered-across, Ordered-at, Member-map_from}
use Rattle.execution_laws.proofs.Ranges.{values-ordered}
use Rattle.execution_laws.proofs.Domains.{Rises, some_there, statements-rise, item_path-statement, row_path-statement, in_one, item_runs-within, row_runs-within}

-- one instance comes before another at some level of these loops around both
abbrev pub Before : List Direction → Instance → Instance → Type 0
Before loops a b = (level : ℕ) × Precedes loops level a.statement b.statement a.values b.values

-- one instance of an item, or of a row, comes before another
abbrev pub ItemBefore : Item → Instance → Instance → Type 0
ItemBefore item a b = Before (item_common item a.statement b.statement) a b

abbrev pub RowBefore : Row → Instance → Instance → Type 0
RowBefore row a b = Before (row_common row a.statement b.statement) a b

there : {A : Type 0} (o : Option A) (P : A → Type 0) → IsSomeAnd o P → is_some o ≡ true
there None P h = absurd h
there (Some x) P h = refl

-- an item has the statements of its instances
item_has : (item : Item) (point : List ℤ) (a : Instance) → Rises (item_statements item) → Member a (item_runs item point) → is_some (item_path item a.statement) ≡ true
item_has item point a rise m = there (item_path item a.statement) (λ path. LeadAlong path point a.values) (item_runs-within item point a.statement a.values rise m)

-- and none of those of the items after it
item_lacks : (item : Item) (row : Row) (point : List ℤ) (a : Instance) → Rises (item_statements item ++ row_statements row) → Member a (row_runs row point)
    → is_some (item_path item a.statement) ≡ false
item_lacks item row point a rise m = by (is_some (item_path item a.statement)) refl where
  by : (b : Bool) → b ≡ is_some (item_path item a.statement) → is_some (item_path item a.statement) ≡ false
  by true e = absurd (in_one item row a.statement rise
      (row_path-statement row a.statement (λ path. LeadAlong path point a.values) (row_runs-within row point a.statement a.values (Ordered-right ◌<◌ (item_statements item) (row_statements row) rise) m)) (sym e))
  by false e = sym e

both_first : (item : Item) (row : Row) (t s : ℕ) → is_some (item_path item t) ≡ true → is_some (item_path item s) ≡ true → row_common (next item row) t s ≡ item_common item t s
both_first item row t s p q = ap (λ (b : Bool). if b then item_common item t s else row_common row t s) (ap (λ (b : Bool). b && is_some (item_path item s)) p ∙ q)

and_false : (b c : Bool) → c ≡ false → (b && c) ≡ false
and_false true c e = e
and_false false c e = refl

both_later : (item : Item) (row : Row) (t s : ℕ) → is_some (item_path item s) ≡ false → row_common (next item row) t s ≡ row_common row t s
both_later item row t s q = ap (λ (b : Bool). if b then item_common item t s else row_common row t s) (and_false (is_some (item_path item t)) (is_some (item_path item s)) q)

absent : {A : Type 0} (o p : Option A) → (is_some (first_of o p) ≡ true → ⊥) → is_some o ≡ false
absent None p none = refl
absent (Some x) p none = absurd (none refl)

later : {A : Type 0} (o p : Option A) → (is_some (first_of o p) ≡ true → ⊥) → is_some p ≡ true → ⊥
later None p none e = none e
later (Some x) p none e = none refl

-- a statement that isn't in a row has no loop of the row in common with any
no_common : (row : Row) (t s : ℕ) → (is_some (row_path row t) ≡ true → ⊥) → row_common row t s ≡ []
no_common done t s none = refl
no_common (next item row) t s none =
    ap (λ (b : Bool). if b then item_common item t s else row_common row t s) (ap (λ (b : Bool). b && is_some (item_path item s)) (absent (item_path item t) (row_path row t) none))
    ∙ no_common row t s (later (item_path item t) (row_path row t) none)

-- the items after one have none of the statements of its instances
row_lacks : (item : Item) (row : Row) (point : List ℤ) (a : Instance) → Rises (item_statements item ++ row_statements row) → Member a (item_runs item point)
    → is_some (row_path row a.statement) ≡ true → ⊥
row_lacks item row point a rise m e =
    in_one item row a.statement rise (row_path-statement row a.statement (λ path. Unit {0}) (some_there (row_path row a.statement) e))
    (item_has item point a (Ordered-left ◌<◌ (item_statements item) (row_statements row) rise) m)

-- an instance of an item comes before one of the items after it, by the text
before_across : (item : Item) (row : Row) (point : List ℤ) (a b : Instance) → Rises (item_statements item ++ row_statements row)
    → Member a (item_runs item point) → Member b (row_runs row point) → RowBefore (next item row) a b
before_across item row point a b rise m n =
    let none : row_common (next item row) a.statement b.statement ≡ [] =
    both_later item row a.statement b.statement (item_lacks item row point b rise n) ∙ no_common row a.statement b.statement (row_lacks item row point a rise m) in
    let earlier : a.statement < b.statement = Ordered-across ◌<◌ (item_statements item) (row_statements row) rise a.statement b.statement
    (item_path-statement item a.statement (λ path. LeadAlong path point a.values) (item_runs-within item point a.statement a.values (Ordered-left ◌<◌ (item_statements item) (row_statements row) rise) m))
    (row_path-statement row b.statement (λ path. LeadAlong path point b.values) (row_runs-within row point b.statement b.values (Ordered-right ◌<◌ (item_statements item) (row_statements row) rise) n)) in
    subst (λ (loops : List Direction). Before loops a b) (sym none) (zero, earlier)

-- an instance at a value of the loop has that value first
at_value-first : (value : ℤ) (y : Instance) (runs : List Instance) → Member y (map (at_value value) runs) → (rest : List ℤ) × (y.values ≡ value ∷ rest)
at_value-first value y runs m =
    let inner = Member-map_from (at_value value) y runs m in (inner.0.values, ap (λ (i : Instance). i.values) inner.1.1)

-- instances at an earlier value of a loop come first
before_values : (direction : Direction) (loops : List Direction) (v w : ℤ) (y z : Instance) → GoesBefore direction v w
    → ((rest : List ℤ) × (y.values ≡ v ∷ rest)) → ((rest : List ℤ) × (z.values ≡ w ∷ rest)) → Before (direction ∷ loops) y z
before_values direction loops v w y z before p q = (
  zero,
  subst (λ (ys : List ℤ). Precedes (direction ∷ loops) zero y.statement z.statement ys z.values) (sym p.1)
      (subst (λ (zs : List ℤ). Precedes (direction ∷ loops) zero y.statement z.statement (v ∷ p.0) zs) (sym q.1) before),
)

-- the instances of an item and of a row are in the order of the levels
mutual
  pub item_runs-ordered : (item : Item) (point : List ℤ) → Rises (item_statements item) → IsOrdered (ItemBefore item) (item_runs item point)
  item_runs-ordered (assign number) point rise = (tt, tt)
  item_runs-ordered (loop name direction lower upper body) point rise =
      Ordered-flat_map (GoesBefore direction) (ItemBefore (loop name direction lower upper body)) (λ value. map (at_value value) (row_runs body (point ++ value ∷ [])))
      (loop_values direction (form_value lower point) (form_value upper point)) (values-ordered direction (form_value lower point) (form_value upper point))
      (λ value. Ordered-map (RowBefore body) (ItemBefore (loop name direction lower upper body)) (at_value value) (row_runs body (point ++ value ∷ []))
      (row_runs-ordered body (point ++ value ∷ []) rise) (λ a b before. (suc before.0, (refl, before.1))))
      (λ v w before y z m n. before_values direction (row_common body y.statement z.statement) v w y z before (at_value-first v y (row_runs body (point ++ v ∷ [])) m) (at_value-first w z (row_runs body (point ++ w ∷ [])) n))
  item_runs-ordered (guard rows body) point rise = tested (are_met rows point) (row_runs-ordered body point rise) where
    tested : (b : Bool) → IsOrdered (RowBefore body) (row_runs body point) → IsOrdered (RowBefore body) (if b then row_runs body point else [])
    tested true ordered = ordered
    tested false ordered = tt

  pub row_runs-ordered : (row : Row) (point : List ℤ) → Rises (row_statements row) → IsOrdered (RowBefore row) (row_runs row point)
  row_runs-ordered done point rise = tt
  row_runs-ordered (next item row) point rise =
      Ordered-append (RowBefore (next item row)) (item_runs item point) (row_runs row point)
      (Ordered-weaken (ItemBefore item) (RowBefore (next item row)) (item_runs item point) (item_runs-ordered item point (Ordered-left ◌<◌ (item_statements item) (row_statements row) rise))
      (λ a b m n before. subst (λ (loops : List Direction). Before loops a b)
      (sym (both_first item row a.statement b.statement (item_has item point a (Ordered-left ◌<◌ (item_statements item) (row_statements row) rise) m) (item_has item point b (Ordered-left ◌<◌ (item_statements item) (row_statements row) rise) n))) before))
      (Ordered-weaken (RowBefore row) (RowBefore (next item row)) (row_runs row point) (row_runs-ordered row point (Ordered-right ◌<◌ (item_statements item) (row_statements row) rise))
      (λ a b m n before. subst (λ (loops : List Direction). Before loops a b) (sym (both_later item row a.statement b.statement (item_lacks item row point b rise n))) before))
      (λ a b m n. before_across item row point a b rise m n)

-- two statements have the same loops in common in either order
and-turn : (a b : Bool) → (a && b) ≡ (b && a)
and-turn true true = refl
and-turn true false = refl
and-turn false true = refl
and-turn false false = refl

if-turn : {A : Type 0} (a b : Bool) (x y z w : A) → a ≡ b → x ≡ z → y ≡ w → (if a then x else y) ≡ (if b then z else w)
if-turn a b x y z w p q r = cc

mutual
  item_common-turn : (item : Item) (t s : ℕ) → item_common item t s ≡ item_common item s t
  item_common-turn (assign number) t s = refl
  item_common-turn (loop name direction lower upper body) t s = ap (λ (loops : List Direction). direction ∷ loops) (row_common-turn body t s)
  item_common-turn (guard rows body) t s = row_common-turn body t s

  pub row_common-turn : (row : Row) (t s : ℕ) → row_common row t s ≡ row_common row s t
  row_common-turn done t s = refl
  row_common-turn (next item row) t s =
      if-turn (has_both item t s) (has_both item s t) (item_common item t s) (row_common row t s) (item_common item s t) (row_common row s t)
      (and-turn (is_some (item_path item t)) (is_some (item_path item s))) (item_common-turn item t s) (row_common-turn row t s)

-- the loops that a statement has in common with another are the first of those around it
front-none : (loops own : List Direction) → loops ≡ [] → loops ≡ take (length loops) own
front-none [] own e = refl
front-none (d ∷ loops) own e = absurd cc

both_without : (item : Item) (row : Row) (t s : ℕ) → is_some (item_path item t) ≡ false → row_common (next item row) t s ≡ row_common row t s
both_without item row t s p = ap (λ (b : Bool). if b && is_some (item_path item s) then item_common item t s else row_common row t s) p

front-same : (l m own other : List Direction) → l ≡ m → own ≡ other → m ≡ take (length m) other → l ≡ take (length l) own
front-same l m own other e f h = e ∙ h ∙ ap (λ (ds : List Direction). take (length ds) other) (sym e) ∙ ap (take (length l)) (sym f)

mutual
  item_common-front : (item : Item) (t s : ℕ) → Rises (item_statements item) → item_common item t s ≡ take (length (item_common item t s)) (item_common item t t)
  item_common-front (assign number) t s rise = refl
  item_common-front (loop name direction lower upper body) t s rise = ap (λ (loops : List Direction). direction ∷ loops) (row_common-front body t s rise)
  item_common-front (guard rows body) t s rise = row_common-front body t s rise

  pub row_common-front : (row : Row) (t s : ℕ) → Rises (row_statements row) → row_common row t s ≡ take (length (row_common row t s)) (row_common row t t)
  row_common-front done t s rise = refl
  row_common-front (next item row) t s rise =
      by (is_some (item_path item t)) (is_some (item_path item s)) refl refl
      (item_common-front item t s (Ordered-left ◌<◌ (item_statements item) (row_statements row) rise))
      (row_common-front row t s (Ordered-right ◌<◌ (item_statements item) (row_statements row) rise)) where
        by : (b c : Bool) → is_some (item_path item t) ≡ b → is_some (item_path item s) ≡ c → item_common item t s ≡ take (length (item_common item t s)) (item_common item t t)
            → row_common row t s ≡ take (length (row_common row t s)) (row_common row t t)
            → row_common (next item row) t s ≡ take (length (row_common (next item row) t s)) (row_common (next item row) t t)
        by true true p q inside behind =
            front-same (row_common (next item row) t s) (item_common item t s) (row_common (next item row) t t) (item_common item t t) (both_first item row t s p q) (both_first item row t t p p) inside
        by true false p q inside behind =
            front-none (row_common (next item row) t s) (row_common (next item row) t t)
            (both_later item row t s q ∙ no_common row t s (λ h. in_one item row t rise (row_path-statement row t (λ path. Unit {0}) (some_there (row_path row t) h)) p))
        by false c p q inside behind =
            front-same (row_common (next item row) t s) (row_common row t s) (row_common (next item row) t t) (row_common row t t) (both_without item row t s p) (both_without item row t t p) behind

-- of two instances only one comes before the other
Precedes-one : (loops : List Direction) (k l t s : ℕ) (ys xs : List ℤ) → Precedes loops k t s ys xs → Precedes loops l s t xs ys → ⊥
Precedes-one [] zero zero t s ys xs p q = omega arith
Precedes-one [] zero (suc l) t s ys xs p q = q
Precedes-one [] (suc k) l t s ys xs p q = p
Precedes-one (d ∷ loops) k l t s [] xs p q = p
Precedes-one (d ∷ loops) k l t s (y ∷ ys) [] p q = p
Precedes-one (upward ∷ loops) zero zero t s (y ∷ ys) (x ∷ xs) p q = omega (arith, ints)
Precedes-one (downward ∷ loops) zero zero t s (y ∷ ys) (x ∷ xs) p q = omega (arith, ints)
Precedes-one (upward ∷ loops) zero (suc l) t s (y ∷ ys) (x ∷ xs) p q = omega (arith, ints, q.0)
Precedes-one (downward ∷ loops) zero (suc l) t s (y ∷ ys) (x ∷ xs) p q = omega (arith, ints, q.0)
Precedes-one (upward ∷ loops) (suc k) zero t s (y ∷ ys) (x ∷ xs) p q = omega (arith, ints, p.0)
Precedes-one (downward ∷ loops) (suc k) zero t s (y ∷ ys) (x ∷ xs) p q = omega (arith, ints, p.0)
Precedes-one (d ∷ loops) (suc k) (suc l) t s (y ∷ ys) (x ∷ xs) p q = Precedes-one loops k l t s ys xs p.1 q.1

RowBefore-one : (row : Row) (a b : Instance) → RowBefore row a b → RowBefore row b a → ⊥
RowBefore-one row a b p q =
    let turned : Before (row_common row a.statement b.statement) b a = subst (λ (loops : List Direction). Before loops b a) (row_common-turn row b.statement a.statement) q in
    Precedes-one (row_common row a.statement b.statement) p.0 turned.0 a.statement b.statement a.values b.values p.1 turned.1

-- of two places one is first, or they are one
pub cases_place : (m n : ℕ) → (m < n) ⊎ ((m ≡ n) ⊎ (n < m))
cases_place zero zero = inr (inl refl)
cases_place zero (suc n) = inl (omega arith)
cases_place (suc m) zero = inr (inr (omega arith))
cases_place (suc m) (suc n) = elim (cases_place m n) [ inl p ↦ inl (omega arith) | inr q ↦ elim q [ inl e ↦ inr (inl (ap suc e)) | inr l ↦ inr (inr (omega arith)) ] ]

ordered : (program : AffineProgram) (parameters : List ℤ) → IsWellFormed program → IsOrdered (RowBefore program.tree) (execution program parameters)
ordered program parameters well = row_runs-ordered program.tree parameters (statements-rise program well)

pub executed_once : InstancesAreExecutedOnce
executed_once program parameters instance m n well p q =
    let runs : List Instance = execution program parameters in
    elim (cases_place m n) [
      | inl less ↦ absurd (let before = Ordered-at (RowBefore program.tree) runs m n instance instance (ordered program parameters well) p q less in RowBefore-one program.tree instance instance before before)
      | inr rest ↦ elim rest [
        | inl e ↦ e
        | inr less ↦ absurd (let before = Ordered-at (RowBefore program.tree) runs n m instance instance (ordered program parameters well) q p less in RowBefore-one program.tree instance instance before before)
      ]
    ]

pub order_by_levels : OrderIsByLevels
order_by_levels program parameters m n a b well p q = (
  λ less. Ordered-at (RowBefore program.tree) (execution program parameters) m n a b (ordered program parameters well) p q less,
  λ before. elim (cases_place m n) [
    | inl less ↦ less
    | inr rest ↦ elim rest [
      | inl e ↦ absurd (RowBefore-one program.tree a b before (same_place a b (execution program parameters) m n e p q before))
      | inr less ↦ absurd (RowBefore-one program.tree a b before (Ordered-at (RowBefore program.tree) (execution program parameters) n m b a (ordered program parameters well) q p less))
    ]
  ],
) where
  same_place : (a b : Instance) (runs : List Instance) (m n : ℕ) → m ≡ n → slice_get runs m ≡ Some a → slice_get runs n ≡ Some b → RowBefore program.tree a b → RowBefore program.tree b a
  same_place a b runs m n e p q before =
      let same : a ≡ b = let there : slice_get runs m ≡ slice_get runs n = ap (slice_get runs) e in cc in
      subst (λ (z : Instance). RowBefore program.tree z a) same (subst (λ (z : Instance). RowBefore program.tree a z) (sym same) before)

-- the loops in common are no more than those around the first statement
mutual
  item_common-within : (item : Item) (t s : ℕ) → Rises (item_statements item) → IsSomeAnd (item_path item t) (λ path. Unit {0})
      → IsSomeAnd (item_path item t) (λ path. length (item_common item t s) ≤ length (bounds_on path))
  item_common-within (assign number) t s rise h = weaker (item_path (assign number) t) h where
    weaker : (o : Option (List PathStep)) → IsSomeAnd o (λ path. Unit {0}) → IsSomeAnd o (λ path. 0 ≤ length (bounds_on path))
    weaker None h = h
    weaker (Some path) h = omega arith
  item_common-within (loop name direction lower upper body) t s rise h =
      longer (row_path body t) (row_common-within body t s rise (inside (row_path body t) h)) where
        inside : (o : Option (List PathStep)) → IsSomeAnd (option_map (λ path. bounded lower upper ∷ path) o) (λ path. Unit {0}) → IsSomeAnd o (λ path. Unit {0})
        inside None h = h
        inside (Some path) h = tt

        longer : (o : Option (List PathStep)) → IsSomeAnd o (λ path. length (row_common body t s) ≤ length (bounds_on path))
            → IsSomeAnd (option_map (λ path. bounded lower upper ∷ path) o) (λ path. suc (length (row_common body t s)) ≤ length (bounds_on path))
        longer None h = h
        longer (Some path) h = omega arith
  item_common-within (guard rows body) t s rise h =
      same (row_path body t) (row_common-within body t s rise (inside (row_path body t) h)) where
        inside : (o : Option (List PathStep)) → IsSomeAnd (option_map (λ path. guarded rows ∷ path) o) (λ path. Unit {0}) → IsSomeAnd o (λ path. Unit {0})
        inside None h = h
        inside (Some path) h = tt

        same : (o : Option (List PathStep)) → IsSomeAnd o (λ path. length (row_common body t s) ≤ length (bounds_on path))
            → IsSomeAnd (option_map (λ path. guarded rows ∷ path) o) (λ path. length (row_common body t s) ≤ length (bounds_on path))
        same None h = h
        same (Some path) h = h

  pub row_common-within : (row : Row) (t s : ℕ) → Rises (row_statements row) → IsSomeAnd (row_path row t) (λ path. Unit {0})
      → IsSomeAnd (row_path row t) (λ path. length (row_common row t s) ≤ length (bounds_on path))
  row_common-within done t s rise h = absurd h
  row_common-within (next item row) t s rise h =
      elim (either (item_path item t) (row_path row t) h) [
        | inl here ↦ first (item_path item t) (row_path row t) (is_some (item_path item s)) refl here.0
            (item_common-within item t s (Ordered-left ◌<◌ (item_statements item) (row_statements row) rise) here.1)
            (λ e. in_one item row t rise (row_path-statement row t (λ path. Unit {0}) (some_there (row_path row t) e)) here.0)
        | inr there ↦ second (item_path item t) (row_path row t) there.0 (row_common-within row t s (Ordered-right ◌<◌ (item_statements item) (row_statements row) rise) there.1)
      ]
    where
      either : (o p : Option (List PathStep)) → IsSomeAnd (first_of o p) (λ path. Unit {0})
          → ((is_some o ≡ true) × IsSomeAnd o (λ path. Unit {0})) ⊎ ((is_some o ≡ false) × IsSomeAnd p (λ path. Unit {0}))
      either None p h = inr (refl, h)
      either (Some path) p h = inl (refl, h)

      second : (o p : Option (List PathStep)) → is_some o ≡ false → IsSomeAnd p (λ path. length (row_common row t s) ≤ length (bounds_on path))
          → IsSomeAnd (first_of o p) (λ path. length (if is_some o && is_some (item_path item s) then item_common item t s else row_common row t s) ≤ length (bounds_on path))
      second None p e h = h
      second (Some path) p e h = absurd cc

      first : (o p : Option (List PathStep)) (b : Bool) → b ≡ is_some (item_path item s) → is_some o ≡ true → IsSomeAnd o (λ path. length (item_common item t s) ≤ length (bounds_on path))
          → (is_some (row_path row t) ≡ true → ⊥)
          → IsSomeAnd (first_of o p) (λ path. length (if is_some o && is_some (item_path item s) then item_common item t s else row_common row t s) ≤ length (bounds_on path))
      first None p b e there h none = absurd cc
      first (Some path) p true e there h none = subst (λ (c : Bool). length (if c then item_common item t s else row_common row t s) ≤ length (bounds_on path)) e h
      first (Some path) p false e there h none =
          subst (λ (c : Bool). length (if c then item_common item t s else row_common row t s) ≤ length (bounds_on path)) e
          (subst (λ (loops : List Direction). length loops ≤ length (bounds_on path)) (sym (no_common row t s none)) (omega arith))
