-- The loops that subscripts name.
use Rattle.std.proofs.Common.{◌≡◌, ◌≢◌, refl, sym, ◌∙◌, ap, subst, ℕ, zero, suc, ◌+◌, ◌<◌, ◌≤◌, Bool, true, false, List, [], ◌∷◌, ◌++◌, length, map, filter, take, replicate, get_or, arith, inl, inr}
use Rattle.std.specs.Prelude.{◌⊎◌, nat_eq, slice_set, ◌||◌, cond, flat_map, T}
use Rattle.std.proofs.Math.Dec.{eqb, eqb_refl}
use Rattle.std.proofs.lemmas.Bool.{eqb-true, or_parts}
use Rattle.std.proofs.lemmas.Grind.{flat_map-append}
use Rattle.std.proofs.lemmas.Map.Steps.{length-le_from_distinct_below}
use Rattle.std.specs.List.{AllByRecursion, IsDistinct, list_any, range_with_len}
use Rattle.std.proofs.Math.IntN.{ℤ, pos}
use Rattle.std.proofs.lemmas.List.{append-nil, length-append, length-map, map-append, take_more, take_all, get_or_default}
use Rattle.std.proofs.lemmas.List.FromFn.{length-range_with_len}
use Rattle.base_laws.proofs.Lists.{All-push, All-read}
use Rattle.base_laws.proofs.Ranges.{filter-few, filter-passed}
use Rattle.iolb_model.specs.Form.{AffineForm}
use Rattle.iolb_model.specs.Program.{AffineProgram}
use Rattle.affine_program.specs.Domain.{depth_of}
use Rattle.dep_quast.specs.Context.{ReadOf, reference_of, variables_at}
use Rattle.flow_deps.specs.Candidates.{loop_variable}
use Rattle.find_terms.specs.Openings.{AreNamed, is_named, named_loops}

-- ---- variables that are one form are one

unit-place : (n a b : ℕ) → a < n → slice_set (replicate n (pos 0)) a (pos 1) ≡ slice_set (replicate n (pos 0)) b (pos 1) → a ≡ b
unit-place zero a b below e = absurd (omega arith)
unit-place (suc n) zero zero below e = refl
unit-place (suc n) zero (suc b) below e = let first : pos 1 ≡ pos 0 = cc in absurd cc
unit-place (suc n) (suc a) zero below e = let first : pos 0 ≡ pos 1 = cc in absurd cc
unit-place (suc n) (suc a) (suc b) below e =
    let rest : slice_set (replicate n (pos 0)) a (pos 1) ≡ slice_set (replicate n (pos 0)) b (pos 1) = cc in
    ap suc (unit-place n a b (omega arith) rest)

module _ (program : AffineProgram) (reader : ReadOf) where
  pub loop-place : (a b : ℕ) → a < depth_of program reader.statement → loop_variable program reader a ≡ loop_variable program reader b → a ≡ b
  loop-place a b below e =
      let same = unit-place (variables_at program reader) (length program.parameters + a) (length program.parameters + b) (omega arith) (ap (λ (f : AffineForm). f.coefficients) e) in
      omega (arith, same)

  -- so the loops that subscripts name are determined
  loops-same : (loops others : List ℕ) → AllByRecursion (λ (loop : ℕ). loop < depth_of program reader.statement) loops
      → map (loop_variable program reader) loops ≡ map (loop_variable program reader) others → loops ≡ others
  loops-same [] [] h e = refl
  loops-same [] (o ∷ others) h e = absurd cc
  loops-same (l ∷ loops) [] h e = absurd cc
  loops-same (l ∷ loops) (o ∷ others) h e =
      let first : loop_variable program reader l ≡ loop_variable program reader o = cc in
      let rest : map (loop_variable program reader) loops ≡ map (loop_variable program reader) others = cc in
      ap (λ (n : ℕ). n ∷ loops) (loop-place l o h.0 first) ∙ ap (λ (ns : List ℕ). o ∷ ns) (loops-same loops others h.1 rest)

  pub named-same : (loops others : List ℕ) → AreNamed program reader loops → AreNamed program reader others → loops ≡ others
  named-same loops others h g = loops-same loops others h.there (sym h.subscripts ∙ g.subscripts)

  -- there are as many as subscripts
  pub named-many : (loops : List ℕ) → AreNamed program reader loops → length (reference_of program reader).subscripts ≡ length loops
  named-many loops h = ap length h.subscripts ∙ length-map loops (loop_variable program reader)

  -- ---- one subscript after another

  -- the subscripts before one are the variables of these loops, which all differ
  pub record AreNamedTo (count : ℕ) (loops : List ℕ) : Type 0 where
    pub there : AllByRecursion (λ (loop : ℕ). loop < depth_of program reader.statement) loops
    pub different : IsDistinct nat_eq loops
    pub subscripts : take count (reference_of program reader).subscripts ≡ map (loop_variable program reader) loops

  -- the loops that all subscripts name begin with those that the first ones name
  map-take : {X Y : Type 0} (f : X → Y) (n : ℕ) (xs : List X) → take n (map f xs) ≡ map f (take n xs)
  map-take f zero [] = refl
  map-take f zero (x ∷ xs) = refl
  map-take f (suc n) [] = refl
  map-take f (suc n) (x ∷ xs) = ap (λ ys. f x ∷ ys) (map-take f n xs)

  pub begins : (count : ℕ) (loops all : List ℕ) → AreNamedTo count loops → AreNamed program reader all → loops ≡ take count all
  begins count loops all h g =
      loops-same loops (take count all) h.there (sym h.subscripts ∙ ap (take count) g.subscripts ∙ map-take (loop_variable program reader) count all)

  map-at : (all : List ℕ) (k : ℕ) (form : AffineForm) → k < length all → form ≡ get_or (map (loop_variable program reader) all) k form
      → (loop : ℕ) × (loop ≡ get_or all k loop) × (form ≡ loop_variable program reader loop)
  map-at [] k form below e = absurd (omega arith)
  map-at (a ∷ all) zero form below e = (a, refl, e)
  map-at (a ∷ all) (suc k) form below e = map-at all k form (omega arith) e

-- ---- membership

member-push : (loops : List ℕ) (n level : ℕ) → list_any (λ (loop : ℕ). nat_eq loop level) loops ≡ false → AllByRecursion (λ (y : ℕ). nat_eq n y ≡ false) loops → nat_eq n level ≡ false
    → AllByRecursion (λ (y : ℕ). nat_eq n y ≡ false) (loops ++ level ∷ [])
member-push [] n level h g e = (e, tt)
member-push (l ∷ loops) n level h g e = (g.0, member-push loops n level (or-right (nat_eq l level) _ h) g.1 e) where
  or-right : (a b : Bool) → (a || b) ≡ false → b ≡ false
  or-right true b p = absurd cc
  or-right false b p = p

distinct-push : (loops : List ℕ) (level : ℕ) → IsDistinct nat_eq loops → list_any (λ (loop : ℕ). nat_eq loop level) loops ≡ false → IsDistinct nat_eq (loops ++ level ∷ [])
unfolding IsDistinct
distinct-push [] level h none = (tt, tt)
distinct-push (l ∷ loops) level h none =
    let both = or_parts (nat_eq l level) (list_any (λ (loop : ℕ). nat_eq loop level) loops) none in
    (member-push loops l level both.1 h.0 both.0, distinct-push loops level h.1 both.1)

-- the loops before one that is different aren't it
distinct-before : (all : List ℕ) (k level : ℕ) → IsDistinct nat_eq all → k < length all → level ≡ get_or all k level → list_any (λ (loop : ℕ). nat_eq loop level) (take k all) ≡ false
unfolding IsDistinct
distinct-before [] k level h below is = absurd (omega arith)
distinct-before (a ∷ all) zero level h below is = refl
distinct-before (a ∷ all) (suc k) level h below is =
    let head : nat_eq a level ≡ false = at all k h.0 (omega arith) is in
    ap (λ (b : Bool). b || list_any (λ (loop : ℕ). nat_eq loop level) (take k all)) head ∙ distinct-before all k level h.1 (omega arith) is where
      at : (ns : List ℕ) (i : ℕ) → AllByRecursion (λ (y : ℕ). nat_eq a y ≡ false) ns → i < length ns → level ≡ get_or ns i level → nat_eq a level ≡ false
      at ns i all_differ inside e = All-read (λ (y : ℕ). nat_eq a y ≡ false) ns i level all_differ inside e

module _ (program : AffineProgram) (reader : ReadOf) (count : ℕ) (form : AffineForm) (loops : List ℕ) (below : count < length (reference_of program reader).subscripts)
    (is : form ≡ get_or (reference_of program reader).subscripts count form) (so_far : AreNamedTo program reader count loops) where
  -- one subscript more
  pub named-more : (level : ℕ) (more : List ℕ) → level < depth_of program reader.statement → form ≡ loop_variable program reader level
      → list_any (λ (loop : ℕ). nat_eq loop level) loops ≡ false → more ≡ loops ++ level ∷ [] → AreNamedTo program reader (count + 1) more
  named-more level more inside names none pushed = subst (AreNamedTo program reader (count + 1)) (sym pushed) (record {
    there = All-push (λ (loop : ℕ). loop < depth_of program reader.statement) loops level so_far.there inside;
    different = distinct-push loops level so_far.different none;
    subscripts = take_more (reference_of program reader).subscripts count form below ∙ ap (λ (f : AffineForm). take count (reference_of program reader).subscripts ++ f ∷ []) (sym is ∙ names)
        ∙ ap (λ (fs : List AffineForm). fs ++ loop_variable program reader level ∷ []) so_far.subscripts ∙ sym (map-append (loop_variable program reader) loops (level ∷ []));
  })

  -- the loop that it names, where all subscripts name loops
  named-here : (all : List ℕ) → AreNamed program reader all → (loop : ℕ) × (count < length all) × (loop ≡ get_or all count loop) × (form ≡ loop_variable program reader loop)
  named-here all h =
      let many = named-many program reader all h in
      let here = map-at program reader all count form (omega (arith, below, many)) (is ∙ ap (λ (fs : List AffineForm). get_or fs count form) h.subscripts) in
      (here.0, omega (arith, below, many), here.1, here.2)

  -- the subscript isn't a loop's variable
  pub named-not : ((loop : ℕ) → loop < depth_of program reader.statement → ¬ (form ≡ loop_variable program reader loop)) → (all : List ℕ) → ¬ AreNamed program reader all
  named-not none all h =
      let here = named-here all h in
      none here.0 (All-read (λ (loop : ℕ). loop < depth_of program reader.statement) all count here.0 h.there here.1 here.2) here.3

  -- it is the variable of one that is named before
  pub named-twice : (level : ℕ) → level < depth_of program reader.statement → form ≡ loop_variable program reader level → list_any (λ (loop : ℕ). nat_eq loop level) loops ≡ true
      → (all : List ℕ) → ¬ AreNamed program reader all
  named-twice level inside names found all h =
      let here = named-here all h in
      let same : level ≡ here.0 = loop-place program reader level here.0 inside (sym names ∙ here.3) in
      let there : level ≡ get_or all count level = same ∙ here.2 ∙ get_or_default all count here.0 level here.1 in
      let not : list_any (λ (loop : ℕ). nat_eq loop level) loops ≡ false =
      ap (list_any (λ (loop : ℕ). nat_eq loop level)) (begins program reader count loops all so_far h) ∙ distinct-before all count level h.different here.1 there in
      both _ found not where
        both : (b : Bool) → b ≡ true → b ≡ false → ⊥
        both true p q = cc
        both false p q = cc

-- before the first subscript
pub named-none : (program : AffineProgram) (reader : ReadOf) (loops : List ℕ) → loops ≡ [] → AreNamedTo program reader 0 loops
unfolding IsDistinct
named-none program reader loops e = subst (AreNamedTo program reader 0) (sym e) (record { there = tt; different = tt; subscripts = take_none (reference_of program reader).subscripts }) where
  take_none : (xs : List AffineForm) → take 0 xs ≡ []
  take_none [] = refl
  take_none (x ∷ xs) = refl

-- all subscripts
pub named-all : (program : AffineProgram) (reader : ReadOf) (count : ℕ) (loops : List ℕ) → length (reference_of program reader).subscripts ≤ count → AreNamedTo program reader count loops → AreNamed program reader loops
named-all program reader count loops past h = record {
  there = h.there;
  different = h.different;
  subscripts = sym (take_all count (reference_of program reader).subscripts past) ∙ h.subscripts;
}

-- ---- the loops that are named, outermost first

-- those below a number that pass, and what is made of them, with one more that passes
pub rows-in : (p : ℕ → Bool) (f : ℕ → List ℤ) (k : ℕ) → p k ≡ true → (length (filter p (range_with_len 0 (k + 1))) ≡ length (filter p (range_with_len 0 k)) + 1)
    × (flat_map f (filter p (range_with_len 0 (k + 1))) ≡ flat_map f (filter p (range_with_len 0 k)) ++ f k)
rows-in p f k is =
    let next : filter p (range_with_len 0 (k + 1)) ≡ filter p (range_with_len 0 k) ++ k ∷ [] = filter-passed p k is in (
      ap length next ∙ length-append (filter p (range_with_len 0 k)) (k ∷ []),
      ap (flat_map f) next ∙ flat_map-append f (filter p (range_with_len 0 k)) (k ∷ []) ∙ ap (λ (xs : List ℤ). flat_map f (filter p (range_with_len 0 k)) ++ xs) (append-nil (f k)),
    )

-- a list has what stands first in it
named-first : (l : ℕ) (loops : List ℕ) → is_named (l ∷ loops) l ≡ true
named-first l loops = ap (λ (b : Bool). b || list_any (λ (loop : ℕ). nat_eq loop l) loops) (T-true (nat_eq l l) (eqb_refl l)) where
  T-true : (b : Bool) → T b → b ≡ true
  T-true true h = refl
  T-true false h = absurd h

-- a number that passes a test stands among those that do
longer-or : (b : Bool) (a : ℕ) (ns : List ℕ) → length (cond b (a ∷ ns) ns) ≡ 0 → (b ≡ false) × (length ns ≡ 0)
longer-or true a ns q = absurd (omega arith)
longer-or false a ns q = (refl, q)

some-pass : (p : ℕ → Bool) (a n k : ℕ) → a ≤ k → k < a + n → p k ≡ true → length (filter p (range_with_len a n)) ≢ 0
some-pass p a zero k le less passes e = absurd (omega arith)
some-pass p a (suc n) k le less passes e =
    let both = longer-or (p a) a (filter p (range_with_len (a + 1) n)) e in
    by (cases a k le) both.0 (λ later. some-pass p (a + 1) n k later (omega (arith, less)) passes both.1) where
      cases : (x y : ℕ) → x ≤ y → (x ≡ y) ⊎ (x + 1 ≤ y)
      cases x y q = grind arith

      clash : (b : Bool) → b ≡ true → b ≡ false → ⊥
      clash true x y = cc
      clash false x y = cc

      by : (a ≡ k) ⊎ (a + 1 ≤ k) → p a ≡ false → (a + 1 ≤ k → ⊥) → ⊥
      by (inl same) fails rest = clash (p a) (ap p same ∙ passes) fails
      by (inr later) fails rest = rest later

-- where none is named, there is no loop
pub none-named : (program : AffineProgram) (reader : ReadOf) (loops : List ℕ) → AllByRecursion (λ (loop : ℕ). loop < depth_of program reader.statement) loops
    → length (named_loops program reader loops) ≡ 0 → length loops ≡ 0
none-named program reader [] h e = refl
none-named program reader (l ∷ loops) h e =
    absurd (some-pass (is_named (l ∷ loops)) 0 (depth_of program reader.statement) l (omega arith) (omega (arith, h.0)) (named-first l loops) e)

-- there are no more loops than around the statement
member-below : (xs : List ℕ) (n q : ℕ) → AllByRecursion (λ (x : ℕ). x < n) xs → list_any (eqb q) xs ≡ true → q < n
member-below [] n q h e = absurd cc
member-below (x ∷ xs) n q h e = by (eqb q x) refl e (member-below xs n q h.1) where
  by : (b : Bool) → b ≡ eqb q x → (b || list_any (eqb q) xs) ≡ true → (list_any (eqb q) xs ≡ true → q < n) → q < n
  by true same found rest = omega (arith, eqb-true q x (sym same), h.0)
  by false same found rest = rest found

pub loops-few : (program : AffineProgram) (reader : ReadOf) (loops : List ℕ) → AreNamed program reader loops → length loops ≤ depth_of program reader.statement
loops-few program reader loops h =
    length-le_from_distinct_below loops (depth_of program reader.statement) h.different (λ q. member-below loops (depth_of program reader.statement) q h.there)

pub named-few : (program : AffineProgram) (reader : ReadOf) (loops : List ℕ) → length (named_loops program reader loops) ≤ depth_of program reader.statement
named-few program reader loops = omega (
  arith,
  filter-few (is_named loops) (range_with_len 0 (depth_of program reader.statement)),
  length-range_with_len 0 (depth_of program reader.statement),
)
