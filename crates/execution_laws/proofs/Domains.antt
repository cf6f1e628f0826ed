-- The instances of an execution are those in the domains of its statements.
use Rattle.std.proofs.Common.{◌≡◌, refl, sym, ap, subst, inl, inr, ℕ, zero, suc, ◌+◌, ◌<◌, ◌≤◌, Bool, true, false, List, [], ◌∷◌, ◌++◌, map, length, arith}
use Rattle.std.specs.Prelude.{◌⊎◌, ◌==◌, if◌then◌else◌, Option, Some, None, IsSomeAnd, is_some, option_map}
use Rattle.std.specs.List.{AllByRecursion, range_with_len}
use Rattle.std.proofs.lemmas.Bool.{eqb-true, eq-eqb}
use Rattle.std.proofs.Math.IntN.{ℤ}
use Rattle.std.proofs.Math.Nat.{eq-or-lt_of_le}
use lib.Signed.{◌≤ℤ◌}
use Rattle.iolb_model.specs.Form.{AffineForm, form_value, AreMet, are_met}
use Rattle.iolb_model.specs.Path.{PathStep, bounded, guarded, first_of, item_path, row_path}
use Rattle.iolb_model.specs.Program.{Item, assign, loop, guard, Row, done, next, AffineProgram, IsWellFormed, item_statements, row_statements}
use Rattle.iolb_model.specs.Execution.{Instance, loop_values, at_value, item_runs, row_runs, execution}
use Rattle.iolb_model.proofs.Forms.{are_met-says, are_met-from}
use Rattle.execution_laws.specs.Domain.{DomainsAreExecuted}
use Rattle.iolb_model.specs.Domain.{IsWithin, LeadAlong}
use Rattle.execution_laws.proofs.Members.{Member, Member-append_left, Member-append_right, Member-map, Member-flat_map, Member-slice_get}
use Rattle.execution_laws.proofs.Ordered.{IsOrdered, Member-append, Member-map_from, Member-flat_map_from, Member-place, Ordered-left, Ordered-right, Ordered-across}
use Rattle.execution_laws.proofs.Ranges.{values-has, values-within}

-- what an option holds that has a property
pub found : {T : Type 0} (o : Option T) (P : T → Type 0) → IsSomeAnd o P → (x : T) × ((o ≡ Some x) × P x)
found None P h = absurd h
found (Some x) P h = (x, (refl, h))

-- the numbers rise
abbrev pub Rises : List ℕ → Type 0
Rises numbers = IsOrdered ◌<◌ numbers

-- numbers counted up rise
Rises-counted : (first count : ℕ) → Rises (range_with_len first count) × AllByRecursion (λ n. first ≤ n) (range_with_len first count)
Rises-counted first zero = (tt, tt)
Rises-counted first (suc count) =
    let rest = Rises-counted (first + 1) count in
    ((above (range_with_len (first + 1) count) rest.1, rest.0), (omega arith, weaker (range_with_len (first + 1) count) rest.1)) where
      above : (ns : List ℕ) → AllByRecursion (λ n. first + 1 ≤ n) ns → AllByRecursion (λ n. first < n) ns
      above [] h = tt
      above (n ∷ ns) h = (omega (arith, h.0), above ns h.1)

      weaker : (ns : List ℕ) → AllByRecursion (λ n. first + 1 ≤ n) ns → AllByRecursion (λ n. first ≤ n) ns
      weaker [] h = tt
      weaker (n ∷ ns) h = (omega (arith, h.0), weaker ns h.1)

-- the statements of a well-formed program rise
pub statements-rise : (program : AffineProgram) → IsWellFormed program → Rises (row_statements program.tree)
statements-rise program h = subst Rises (sym h.numbered) (Rises-counted 0 (length program.statements)).0

-- a statement with a way to it is among the statements
Member-assign : (number s : ℕ) (P : List PathStep → Type 0) (b : Bool) → b ≡ (number == s) → IsSomeAnd (if b then Some [] else None) P → Member s (number ∷ [])
Member-assign number s P true e h = inl (sym (eqb-true number s (sym e)))
Member-assign number s P false e h = absurd h

Some-map : {A B : Type 0} (f : A → B) (o : Option A) (P : B → Type 0) → IsSomeAnd (option_map f o) P → IsSomeAnd o (λ x. P (f x))
Some-map f None P h = h
Some-map f (Some x) P h = h

map-Some : {A B : Type 0} (f : A → B) (o : Option A) (P : B → Type 0) → IsSomeAnd o (λ x. P (f x)) → IsSomeAnd (option_map f o) P
map-Some f None P h = h
map-Some f (Some x) P h = h

Some-first : {A : Type 0} (o p : Option A) (P : A → Type 0) → IsSomeAnd (first_of o p) P → IsSomeAnd o P ⊎ IsSomeAnd p P
Some-first None p P h = inr h
Some-first (Some x) p P h = inl h

first-left : {A : Type 0} (o p : Option A) (P : A → Type 0) → IsSomeAnd o P → IsSomeAnd (first_of o p) P
first-left None p P h = absurd h
first-left (Some x) p P h = h

first-right : {A : Type 0} (o p : Option A) (P : A → Type 0) → (is_some o ≡ true → ⊥) → IsSomeAnd p P → IsSomeAnd (first_of o p) P
first-right None p P none h = h
first-right (Some x) p P none h = absurd (none refl)

mutual
  pub item_path-statement : (item : Item) (s : ℕ) (P : List PathStep → Type 0) → IsSomeAnd (item_path item s) P → Member s (item_statements item)
  item_path-statement (assign number) s P h = Member-assign number s P (number == s) refl h
  item_path-statement (loop name direction lower upper body) s P h =
      row_path-statement body s (λ path. P (bounded lower upper ∷ path)) (Some-map (λ path. bounded lower upper ∷ path) (row_path body s) P h)
  item_path-statement (guard rows body) s P h =
      row_path-statement body s (λ path. P (guarded rows ∷ path)) (Some-map (λ path. guarded rows ∷ path) (row_path body s) P h)

  pub row_path-statement : (row : Row) (s : ℕ) (P : List PathStep → Type 0) → IsSomeAnd (row_path row s) P → Member s (row_statements row)
  row_path-statement done s P h = absurd h
  row_path-statement (next item row) s P h =
      elim (Some-first (item_path item s) (row_path row s) P h) [
        | inl here ↦ Member-append_left s (item_statements item) (row_statements row) (item_path-statement item s P here)
        | inr later ↦ Member-append_right s (item_statements item) (row_statements row) (row_path-statement row s P later)
      ]

-- an option that is there holds something
pub some_there : {A : Type 0} (o : Option A) → is_some o ≡ true → IsSomeAnd o (λ x. Unit {0})
some_there None e = absurd cc
some_there (Some x) e = tt

-- a statement stands in one item of a row
pub in_one : (item : Item) (row : Row) (s : ℕ) → Rises (item_statements item ++ row_statements row) → Member s (row_statements row) → is_some (item_path item s) ≡ true → ⊥
in_one item row s rise later here =
    let twice : s < s = Ordered-across ◌<◌ (item_statements item) (row_statements row) rise s s (item_path-statement item s (λ path. Unit {0}) (some_there (item_path item s) here)) later in
    omega arith

at_value-equal : (value : ℤ) (instance : Instance) (s : ℕ) (values : List ℤ) → record { statement = s; values = values } ≡ at_value value instance
    → (s ≡ instance.statement) × (values ≡ value ∷ instance.values)
at_value-equal value instance s values e = (ap (λ (i : Instance). i.statement) e, ap (λ (i : Instance). i.values) e)

-- a member of a list that stands under a test: the test is passed
tested : {A : Type 0} (x : A) (b : Bool) (xs : List A) → Member x (if b then xs else []) → (b ≡ true) × Member x xs
tested x true xs m = (refl, m)
tested x false xs m = absurd m

passed : {A : Type 0} (x : A) (b : Bool) (xs : List A) → b ≡ true → Member x xs → Member x (if b then xs else [])
passed x true xs e m = m
passed x false xs e m = absurd cc

-- an instance of a statement alone
assigned : (number : ℕ) (point : List ℤ) (s : ℕ) (values : List ℤ) → ◌≡◌ {A = Instance} (record { statement = s; values = values }) (record { statement = number; values = [] })
    → IsSomeAnd (item_path (assign number) s) (λ path. LeadAlong path point values)
assigned number point s values e =
    let same : s ≡ number = ap (λ (i : Instance). i.statement) e in
    let none : values ≡ [] = ap (λ (i : Instance). i.values) e in
    let test : (number == s) ≡ true = eq-eqb number s (sym same) in
    subst (λ (b : Bool). IsSomeAnd (if b then Some [] else None) (λ path. LeadAlong path point values)) (sym test) (subst (λ (vs : List ℤ). LeadAlong [] point vs) (sym none) (tt, tt))

-- values along a way from a loop's body on, and a value of the loop before them
wrapped : (lower upper : AffineForm) (o : Option (List PathStep)) (point : List ℤ) (value : ℤ) (rest values : List ℤ) → values ≡ value ∷ rest
    → (form_value lower point ≤ℤ value) × (value ≤ℤ form_value upper point) → IsSomeAnd o (λ path. LeadAlong path (point ++ value ∷ []) rest)
    → IsSomeAnd (option_map (λ path. bounded lower upper ∷ path) o) (λ path. LeadAlong path point values)
wrapped lower upper None point value rest values e bounds h = absurd h
wrapped lower upper (Some path) point value rest values e bounds h =
    subst (λ (vs : List ℤ). LeadAlong (bounded lower upper ∷ path) point vs) (sym e) ((bounds.0, bounds.1, h.0), h.1)

-- values along a way from a guard's body on, where the guard's rows are met
let_through : (rows : List AffineForm) (o : Option (List PathStep)) (point values : List ℤ) → AreMet rows point
    → IsSomeAnd o (λ path. LeadAlong path point values) → IsSomeAnd (option_map (λ path. guarded rows ∷ path) o) (λ path. LeadAlong path point values)
let_through rows None point values met h = absurd h
let_through rows (Some path) point values met h = (h.0, (met, h.1))

-- the values of an instance that an item or a row has at a point lead along its way
mutual
  pub item_runs-within : (item : Item) (point : List ℤ) (s : ℕ) (values : List ℤ) → Rises (item_statements item)
      → Member (record { statement = s; values = values }) (item_runs item point) → IsSomeAnd (item_path item s) (λ path. LeadAlong path point values)
  item_runs-within (assign number) point s values rise (inl e) = assigned number point s values e
  item_runs-within (assign number) point s values rise (inr m) = absurd m
  item_runs-within (loop name direction lower upper body) point s values rise m =
      let at = Member-flat_map_from (λ value. map (at_value value) (row_runs body (point ++ value ∷ []))) (record { statement = s; values = values }) (loop_values direction (form_value lower point) (form_value upper point)) m in
      let inner = Member-map_from (at_value at.0) (record { statement = s; values = values }) (row_runs body (point ++ at.0 ∷ [])) at.1.1 in
      let is = at_value-equal at.0 inner.0 s values inner.1.1 in
      let bounds = values-within direction (form_value lower point) (form_value upper point) at.0 at.1.0 in
      let there : IsSomeAnd (row_path body inner.0.statement) (λ path. LeadAlong path (point ++ at.0 ∷ []) inner.0.values) =
      row_runs-within body (point ++ at.0 ∷ []) inner.0.statement inner.0.values rise inner.1.0 in
      wrapped lower upper (row_path body s) point at.0 inner.0.values values is.1 bounds
      (subst (λ (n : ℕ). IsSomeAnd (row_path body n) (λ path. LeadAlong path (point ++ at.0 ∷ []) inner.0.values)) (sym is.0) there)
  item_runs-within (guard rows body) point s values rise m =
      let inner = tested (record { statement = s; values = values }) (are_met rows point) (row_runs body point) m in
      let_through rows (row_path body s) point values (are_met-says rows point inner.0) (row_runs-within body point s values rise inner.1)

  pub row_runs-within : (row : Row) (point : List ℤ) (s : ℕ) (values : List ℤ) → Rises (row_statements row)
      → Member (record { statement = s; values = values }) (row_runs row point) → IsSomeAnd (row_path row s) (λ path. LeadAlong path point values)
  row_runs-within done point s values rise m = absurd m
  row_runs-within (next item row) point s values rise m =
      elim (Member-append (record { statement = s; values = values }) (item_runs item point) (row_runs row point) m) [
        | inl here ↦ first-left (item_path item s) (row_path row s) (λ path. LeadAlong path point values)
            (item_runs-within item point s values (Ordered-left ◌<◌ (item_statements item) (row_statements row) rise) here)
        | inr later ↦
            let there : IsSomeAnd (row_path row s) (λ path. LeadAlong path point values) =
            row_runs-within row point s values (Ordered-right ◌<◌ (item_statements item) (row_statements row) rise) later in
            first-right (item_path item s) (row_path row s) (λ path. LeadAlong path point values)
            (in_one item row s rise (row_path-statement row s (λ path. LeadAlong path point values) there)) there
      ]

no_values : (point values : List ℤ) → IsWithin [] point values → values ≡ []
no_values point [] h = refl
no_values point (v ∷ vs) h = absurd h

member-assigned : (number : ℕ) (point : List ℤ) (s : ℕ) (values : List ℤ) (b : Bool) → b ≡ (number == s)
    → IsSomeAnd (if b then Some [] else None) (λ path. LeadAlong path point values) → Member (record { statement = s; values = values }) (item_runs (assign number) point)
member-assigned number point s values true e h =
    let same : number ≡ s = eqb-true number s (sym e) in let none : values ≡ [] = no_values point values h.0 in inl cc
member-assigned number point s values false e h = absurd h

-- the first value of values along a way into a loop, and the rest
entered : (lower upper : AffineForm) (path : List PathStep) (point values : List ℤ) → LeadAlong (bounded lower upper ∷ path) point values
    → (value : ℤ) × ((rest : List ℤ) × ((values ≡ value ∷ rest) × ((form_value lower point ≤ℤ value) × ((value ≤ℤ form_value upper point) × LeadAlong path (point ++ value ∷ []) rest))))
entered lower upper path point [] h = absurd h.0
entered lower upper path point (v ∷ vs) h = (v, (vs, (refl, (h.0.0, (h.0.1, (h.0.2, h.1))))))

-- and an instance whose values lead along its way is one that the item or the row has
mutual
  pub item_runs-has : (item : Item) (point : List ℤ) (s : ℕ) (values : List ℤ) → IsSomeAnd (item_path item s) (λ path. LeadAlong path point values)
      → Member (record { statement = s; values = values }) (item_runs item point)
  item_runs-has (assign number) point s values h = member-assigned number point s values (number == s) refl h
  item_runs-has (loop name direction lower upper body) point s values h =
      let way = found (row_path body s) (λ path. LeadAlong (bounded lower upper ∷ path) point values) (Some-map (λ path. bounded lower upper ∷ path) (row_path body s) (λ path. LeadAlong path point values) h) in
      let into = entered lower upper way.0 point values way.1.1 in
      let inner : Member (record { statement = s; values = into.1.0 }) (row_runs body (point ++ into.0 ∷ [])) =
      row_runs-has body (point ++ into.0 ∷ []) s into.1.0
      (subst (λ (o : Option (List PathStep)). IsSomeAnd o (λ path. LeadAlong path (point ++ into.0 ∷ []) into.1.0)) (sym way.1.0) into.1.1.1.1.1) in
      subst (λ (vs : List ℤ). Member (record { statement = s; values = vs }) (item_runs (loop name direction lower upper body) point)) (sym into.1.1.0)
      (Member-flat_map (λ value. map (at_value value) (row_runs body (point ++ value ∷ []))) into.0 (loop_values direction (form_value lower point) (form_value upper point)) (record { statement = s; values = into.0 ∷ into.1.0 })
      (values-has direction (form_value lower point) (form_value upper point) into.0 into.1.1.1.0 into.1.1.1.1.0)
      (Member-map (at_value into.0) (record { statement = s; values = into.1.0 }) (row_runs body (point ++ into.0 ∷ [])) inner))
  item_runs-has (guard rows body) point s values h =
      let way = found (row_path body s) (λ path. LeadAlong (guarded rows ∷ path) point values) (Some-map (λ path. guarded rows ∷ path) (row_path body s) (λ path. LeadAlong path point values) h) in
      passed (record { statement = s; values = values }) (are_met rows point) (row_runs body point) (are_met-from rows point way.1.1.1.0)
      (row_runs-has body point s values (subst (λ (o : Option (List PathStep)). IsSomeAnd o (λ path. LeadAlong path point values)) (sym way.1.0) (way.1.1.0, way.1.1.1.1)))

  pub row_runs-has : (row : Row) (point : List ℤ) (s : ℕ) (values : List ℤ) → IsSomeAnd (row_path row s) (λ path. LeadAlong path point values)
      → Member (record { statement = s; values = values }) (row_runs row point)
  row_runs-has done point s values h = absurd h
  row_runs-has (next item row) point s values h =
      elim (Some-first (item_path item s) (row_path row s) (λ path. LeadAlong path point values) h) [
        | inl here ↦ Member-append_left (record { statement = s; values = values }) (item_runs item point) (row_runs row point) (item_runs-has item point s values here)
        | inr later ↦ Member-append_right (record { statement = s; values = values }) (item_runs item point) (row_runs row point) (row_runs-has row point s values later)
      ]

pub domains_executed : DomainsAreExecuted
domains_executed program parameters instance well = (
  λ at. row_runs-within program.tree parameters instance.statement instance.values (statements-rise program well) (Member-slice_get (execution program parameters) at.0 instance at.1),
  λ h. Member-place instance (execution program parameters) (row_runs-has program.tree parameters instance.statement instance.values h),
)

-- a statement that is among those of a row has a way to it
mutual
  item_path-there : (item : Item) (s : ℕ) → Member s (item_statements item) → IsSomeAnd (item_path item s) (λ path. Unit {0})
  item_path-there (assign number) s (inl e) = subst (λ (b : Bool). IsSomeAnd {T = List PathStep} (if b then Some [] else None) (λ path. Unit {0})) (sym (eq-eqb number s (sym e))) tt
  item_path-there (assign number) s (inr m) = absurd m
  item_path-there (loop name direction lower upper body) s m = map-Some (λ path. bounded lower upper ∷ path) (row_path body s) (λ path. Unit {0}) (row_path-there body s m)
  item_path-there (guard rows body) s m = map-Some (λ path. guarded rows ∷ path) (row_path body s) (λ path. Unit {0}) (row_path-there body s m)

  pub row_path-there : (row : Row) (s : ℕ) → Member s (row_statements row) → IsSomeAnd (row_path row s) (λ path. Unit {0})
  row_path-there done s m = absurd m
  row_path-there (next item row) s m =
      elim (Member-append s (item_statements item) (row_statements row) m) [
        | inl here ↦ first-left (item_path item s) (row_path row s) (λ path. Unit {0}) (item_path-there item s here)
        | inr later ↦ either (item_path item s) (row_path row s) (row_path-there row s later)
      ] where
        either : (o p : Option (List PathStep)) → IsSomeAnd p (λ path. Unit {0}) → IsSomeAnd (first_of o p) (λ path. Unit {0})
        either None p h = h
        either (Some path) p h = tt

pub counted-has : (first count n : ℕ) → first ≤ n → n < first + count → Member n (range_with_len first count)
counted-has first zero n p q = absurd (omega arith)
counted-has first (suc count) n p q = elim (eq-or-lt_of_le {n = first} {m = n} p) [ inl e ↦ inl (sym e) | inr less ↦ inr (counted-has (first + 1) count n (omega arith) (omega arith)) ]

counted-below : (first count n : ℕ) → Member n (range_with_len first count) → n < first + count
counted-below first zero n m = absurd m
counted-below first (suc count) n (inl e) = omega arith
counted-below first (suc count) n (inr m) = omega (arith, counted-below (first + 1) count n m)

-- a statement of a well-formed program has a way to it
pub way-there : (program : AffineProgram) (s : ℕ) → IsWellFormed program → s < length program.statements → IsSomeAnd (row_path program.tree s) (λ path. Unit {0})
way-there program s well below =
    row_path-there program.tree s (subst (λ (ns : List ℕ). Member s ns) (sym well.numbered) (counted-has 0 (length program.statements) s (omega arith) (omega arith)))

-- and a statement with a way to it is one of the program's
pub way-below : (program : AffineProgram) (s : ℕ) (P : List PathStep → Type 0) → IsWellFormed program → IsSomeAnd (row_path program.tree s) P → s < length program.statements
way-below program s P well h =
    omega (arith, counted-below 0 (length program.statements) s (subst (λ (ns : List ℕ). Member s ns) well.numbered (row_path-statement program.tree s P h)))
