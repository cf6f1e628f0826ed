-- What is used of a projective program, shown.
use Rattle.std.proofs.Common.{◌≡◌, ◌≢◌, refl, sym, ◌∙◌, ap, subst, inl, inr, ℕ, suc, ◌+◌, ◌<◌, ◌≤◌, Bool, true, false, List, [], ◌∷◌, ◌++◌, length, replicate, get_or, arith}
use Rattle.std.specs.Prelude.{◌⊎◌, Option, Some, None, ◌==◌, ◌&&◌, ◌||◌, not, if◌then◌else◌, is_some, option_map, unwrap_or}
use Rattle.std.specs.List.{AllByRecursion, list_any, range_with_len}
use Rattle.std.specs.Ordering.{int_eq}
use Rattle.std.proofs.Math.IntN.{ℤ, pos, negsuc, ◌+ℤ◌}
use Rattle.std.proofs.lemmas.Bool.{cases_lt}
use Rattle.std.proofs.lemmas.List.{append-nil, get_or-set_same, get_or-set_other, length-replicate}
use Rattle.base_laws.proofs.Lists.{All-at}
use Rattle.iolb_model.specs.Form.{AffineForm, form_value}
use Rattle.iolb_model.specs.Order.{item_common, row_common, common_loops}
use Rattle.iolb_model.specs.Path.{PathStep, bounded, guarded, bounds_on, item_path, row_path, first_of}
use Rattle.iolb_model.specs.Program.{Direction, upward, downward, Access, Statement, Item, assign, loop, guard, Row, done, next, AffineProgram, IsWellFormed, item_statements, row_statements, statement_at, read_at, no_statement}
use Rattle.affine_form.specs.Rows.{variable}
use Rattle.affine_form.proofs.Combination.{form_value-constant, coefficient_of-constant}
use Rattle.affine_program.specs.Domain.{bounds_at, depth_of}
use Rattle.dep_quast.specs.Levels.{writers, writers_from}
use Rattle.projective.specs.Projective.{HoldsOfOne, IsBareItem, IsBareRow, IsNestItem, IsNestRow, AllRun, IsLoop, IsProjection, IsProjective, reference_to}
use Rattle.projective.specs.Turns.{width}
use Rattle.projective.proofs.NestRows.{AreUpward, RunsTo, IsAmong}
use Rattle.projective.proofs.TurnWorths.{ends_of, shifted-worth}
use Rattle.projective.proofs.Facts.{NestFacts, IsKeptLoop}

-- ---- the loops' bounds

pub runs-to : (program : AffineProgram) (vars : ℕ) (loops : List (AffineForm × AffineForm)) → length program.parameters ≤ vars → AllRun program vars loops → RunsTo (length program.parameters) (ends_of loops) loops
runs-to program vars [] more h = tt
runs-to program vars (bounds ∷ loops) more h =
    let parameter : ℕ = h.0.0 in
    let below = h.0.1 in
    let value : (q : List ℤ) → form_value bounds.1 q ≡ get_or q parameter (pos 0) +ℤ negsuc 0 =
    λ q. ap (λ (f : AffineForm). form_value f q) below.upper ∙ shifted-worth vars parameter q (omega (arith, below.there)) in (
      (
        (λ q. ap (λ (f : AffineForm). form_value f q) below.lower ∙ form_value-constant vars (pos 0) q),
        (λ q point same. value q ∙ ap (λ (z : ℤ). z +ℤ negsuc 0) (same parameter below.there) ∙ sym (value point)),
      ),
      runs-to program (suc vars) loops (omega arith) h.1,
    )

-- ---- the loops around the statement

-- guards that hold no statement have none, and there is no way to one in them
mutual
  bare-item : (item : Item) → IsBareItem item → (item_statements item ≡ []) × (item_path item 0 ≡ None)
  bare-item (assign number) bare = absurd bare
  bare-item (loop name direction lower upper body) bare = absurd bare
  bare-item (guard rows body) bare = let inner = bare-row body bare in (inner.0, ap (option_map (λ (path : List PathStep). guarded rows ∷ path)) inner.1)

  bare-row : (row : Row) → IsBareRow row → (row_statements row ≡ []) × (row_path row 0 ≡ None)
  bare-row done bare = (refl, refl)
  bare-row (next item row) bare =
      let first = bare-item item bare.0 in
      let rest = bare-row row bare.1 in (
        ap (λ (numbers : List ℕ). numbers ++ row_statements row) first.0 ∙ rest.0,
        ap (λ (o : Option (List PathStep)). first_of o (row_path row 0)) first.1 ∙ rest.1,
      )

-- a nest down to the statement 0 has a way to it, and all loops of it are around the statement twice, and run upward
record HasWay (way : Option (List PathStep)) (common : List Direction) : Type 0 where
  pub path : List PathStep
  pub is : way ≡ Some path
  pub many : length common ≡ length (bounds_on path)
  pub rise : AreUpward common

first_number : (number : ℕ) → number ∷ [] ≡ 0 ∷ [] → (number == 0) ≡ true
first_number number e = ap (λ (k : ℕ). k == 0) (ap (λ (ks : List ℕ). get_or ks 0 0) e)

same-way : (way other : Option (List PathStep)) (common more : List Direction) → way ≡ other → common ≡ more → HasWay other more → HasWay way common
same-way way other common more e f h = record { path = h.path; is = e ∙ h.is; many = ap length f ∙ h.many; rise = subst AreUpward (sym f) h.rise }

mutual
  item-way : (item : Item) → IsNestItem item → item_statements item ≡ 0 ∷ [] → HasWay (item_path item 0) (item_common item 0 0)
  item-way (assign number) nest e = record { path = []; is = ap (λ (b : Bool). if b then Some [] else None) (first_number number e); many = refl; rise = tt }
  item-way (loop name upward lower upper body) nest e =
      let way = row-way body nest e in record { path = bounded lower upper ∷ way.path; is = ap (option_map (λ (path : List PathStep). bounded lower upper ∷ path)) way.is; many = ap suc way.many; rise = way.rise }
  item-way (loop name downward lower upper body) nest e = absurd nest
  item-way (guard rows body) nest e = absurd nest

  row-way : (row : Row) → IsNestRow row → row_statements row ≡ 0 ∷ [] → HasWay (row_path row 0) (row_common row 0 0)
  row-way done nest e = absurd nest
  row-way (next item row) (inl later) e =
      let none = bare-item item later.0 in
      same-way (row_path (next item row) 0) (row_path row 0) (row_common (next item row) 0 0) (row_common row 0 0)
      (ap (λ (o : Option (List PathStep)). first_of o (row_path row 0)) none.1)
      (ap (λ (o : Option (List PathStep)). if is_some o && is_some o then item_common item 0 0 else row_common row 0 0) none.1)
      (row-way row later.1 (ap (λ (numbers : List ℕ). numbers ++ row_statements row) (sym none.0) ∙ e))
  row-way (next item row) (inr here) e =
      let alone : item_statements item ≡ 0 ∷ [] = sym (append-nil (item_statements item)) ∙ ap (λ (numbers : List ℕ). item_statements item ++ numbers) (sym (bare-row row here.1).0) ∙ e in
      let way = item-way item here.0 alone in
      same-way (row_path (next item row) 0) (Some way.path) (row_common (next item row) 0 0) (item_common item 0 0)
      (ap (λ (o : Option (List PathStep)). first_of o (row_path row 0)) way.is)
      (ap (λ (o : Option (List PathStep)). if is_some o && is_some o then item_common item 0 0 else row_common row 0 0) way.is)
      (record { path = way.path; is = refl; many = way.many; rise = way.rise })

common-all : (program : AffineProgram) → IsNestRow program.tree → row_statements program.tree ≡ 0 ∷ [] → (length (common_loops program 0 0) ≡ depth_of program 0) × AreUpward (common_loops program 0 0)
common-all program nest one =
    let way = row-way program.tree nest one in (way.many ∙ sym (ap (λ (o : Option (List PathStep)). length (bounds_on (unwrap_or o []))) way.is), way.rise)

-- ---- subscripts

abbrev pub has_it : ℕ → AffineForm → Bool
has_it place form = not (int_eq (get_or form.coefficients place (pos 0)) (pos 0))

pub has-own : (vars place : ℕ) → place < vars → has_it place (variable vars place) ≡ true
has-own vars place below =
    ap (λ (z : ℤ). not (int_eq z (pos 0))) (get_or-set_same (replicate vars (pos 0)) place (pos 1) (pos 0) (omega (arith, length-replicate {A = ℤ} vars (pos 0))))

pub has-other : (vars place other : ℕ) → other ≢ place → has_it other (variable vars place) ≡ false
has-other vars place other apart =
    ap (λ (z : ℤ). not (int_eq z (pos 0))) (get_or-set_other (replicate vars (pos 0)) place other (pos 1) (pos 0) apart ∙ coefficient_of-constant other vars)

any-true : (test : AffineForm → Bool) (form : AffineForm) (forms : List AffineForm) → IsAmong form forms → test form ≡ true → list_any test forms ≡ true
any-true test form [] h passes = absurd h
any-true test form (f ∷ fs) (inl e) passes = ap (λ (b : Bool). b || list_any test fs) (ap test e ∙ passes)
any-true test form (f ∷ fs) (inr h) passes = ap (λ (b : Bool). test f || b) (any-true test form fs h passes) ∙ or-true (test f) where
  or-true : (b : Bool) → (b || true) ≡ true
  or-true true = refl
  or-true false = refl

or-either : (a b : Bool) → (a || b) ≡ true → (a ≡ true) ⊎ (b ≡ true)
or-either true b e = inl refl
or-either false b e = inr e

pub same-place : (a b : ℕ) → (a ≡ b) ⊎ (a ≢ b)
same-place a b = elim (cases_lt a b) [
  | inl less ↦ inr (λ e. omega (arith, less, e))
  | inr more ↦ elim (cases_lt b a) [
    | inl less ↦ inr (λ e. omega (arith, less, e))
    | inr both ↦ inl (omega (arith, more, both))
  ]
]

-- a loop that stands in subscripts that are loops is one of them
among-place : (params depth place : ℕ) (forms : List AffineForm) → AllByRecursion (IsLoop params depth) forms → list_any (has_it (params + place)) forms ≡ true
    → IsAmong (variable (params + depth) (params + place)) forms
among-place params depth place [] all any = absurd cc
among-place params depth place (f ∷ fs) all any = elim (or-either (has_it (params + place) f) (list_any (has_it (params + place)) fs) any) [
  | inl here ↦ first here
  | inr rest ↦ inr (among-place params depth place fs all.1 rest)
] where
  first : has_it (params + place) f ≡ true → IsAmong (variable (params + depth) (params + place)) (f ∷ fs)
  first here = elim (same-place (params + place) (params + all.0.0)) [
    | inl e ↦ inl (all.0.2 ∙ ap (variable (params + depth)) (sym e))
    | inr apart ↦ absurd (apart_bools (sym here ∙ ap (has_it (params + place)) all.0.2 ∙ has-other (params + depth) (params + all.0.0) (params + place) apart))
  ] where
    apart_bools : true ≡ false → ⊥
    apart_bools e = cc

all-kept : (program : AffineProgram) (forms : List AffineForm) → ((form : AffineForm) → IsAmong form forms → IsAmong form (statement_at program 0).writes.subscripts)
    → AllByRecursion (IsLoop (length program.parameters) (depth_of program 0)) forms → AllByRecursion (IsKeptLoop program) forms
all-kept program [] within all = tt
all-kept program (f ∷ fs) within all = (
  (
    all.0.0,
    all.0.1,
    any-true (has_it (length program.parameters + all.0.0)) f (statement_at program 0).writes.subscripts (within f (inl refl))
        (ap (has_it (length program.parameters + all.0.0)) all.0.2 ∙ has-own (width program) (length program.parameters + all.0.0) (omega (arith, all.0.1))),
    all.0.2,
  ),
  all-kept program fs (λ form h. within form (inr h)) all.1,
)

-- what holds of all members holds of the one that is one of them
pub all-one : (P : Access → Type 0) (access : Access) (reads : List Access) → AllByRecursion P reads → HoldsOfOne (λ (other : Access). other ≡ access) reads → P access
all-one P access [] all h = absurd h
all-one P access (r ∷ reads) all (inl e) = subst P e all.0
all-one P access (r ∷ reads) all (inr h) = all-one P access reads all.1 h

pub facts-of : (program : AffineProgram) → IsWellFormed program → IsProjective program → NestFacts program
facts-of program well is =
    let statement = statement_at program 0 in
    let writes : IsProjection (length program.parameters) (depth_of program 0) statement.writes =
    all-one (IsProjection (length program.parameters) (depth_of program 0)) statement.writes statement.reads is.projects.projections is.projects.accumulates in
    let around = common-all program is.loops.nest (well.numbered ∙ ap (range_with_len 0) is.one) in
    record {
      bare = is.unguarded;
      runs = runs-to program (length program.parameters) (bounds_at program 0) (omega arith) is.loops.loops;
      common = around.0;
      rise = around.1;
      subscripts = all-kept program statement.writes.subscripts (λ form h. h) writes.loops;
      among = λ place below kept. among-place (length program.parameters) (depth_of program 0) place statement.writes.subscripts writes.loops kept;
    }

-- ---- references and writers

some-same : (o : Option Access) (a b : Access) → o ≡ Some a → o ≡ Some b → a ≡ b
some-same o a b p q = ap (λ (x : Option Access). unwrap_or x a) (sym p ∙ q)

-- a read of the array that is written has the subscripts of the reference that is written
pub read-same : (program : AffineProgram) (read : ℕ) → IsProjective program → read < length (statement_at program 0).reads → (read_at program 0 read).array ≡ (statement_at program 0).writes.array
    → read_at program 0 read ≡ (statement_at program 0).writes
read-same program read is there array =
    let statement = statement_at program 0 in
    let P : Access → Type 0 = λ access. reference_to statement.reads access.array ≡ Some access in
    let one : P (read_at program 0 read) = All-at P statement.reads read no_statement.writes is.projects.same there in
    let other : P statement.writes = all-one P statement.writes statement.reads is.projects.same is.projects.accumulates in
    some-same (reference_to statement.reads (read_at program 0 read).array) (read_at program 0 read) statement.writes one
    (ap (reference_to statement.reads) array ∙ other)

one-statement : (statements : List Statement) → length statements ≡ 1 → statements ≡ get_or statements 0 no_statement ∷ []
one-statement [] e = absurd (omega arith)
one-statement (s ∷ []) e = refl
one-statement (s ∷ t ∷ statements) e = absurd (omega arith)

pub writers-are : (program : AffineProgram) (array : ℕ) → length program.statements ≡ 1 → writers program array ≡ (if (statement_at program 0).writes.array == array then 0 ∷ [] else [])
writers-are program array one = ap (λ (statements : List Statement). writers_from 0 statements array) (one-statement program.statements one)
