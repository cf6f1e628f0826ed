-- Kinds of names: how many are parameters, the arrays with their numbers of subscripts, and what one name more, or another kind, changes.
use Rattle.std.proofs.Common.{◌≡◌, refl, sym, ◌∙◌, ap, subst, ℕ, zero, suc, ◌<◌, ◌≤◌, List, [], ◌∷◌, ◌++◌, length, arith, ◌+◌, Bool, true, false, cond}
use Rattle.std.specs.Prelude.{⊤, slice_get, slice_set, Some, flat_map, bytes_eq, position, None, Option, option_map, option_and_then, set, nat_lt}
use Rattle.std.specs.List.{AllByRecursion, range_with_len, position_or_len}
use Rattle.std.proofs.lemmas.List.FromFn.{length-range_with_len, get_or-range_with_len}
use Rattle.std.proofs.lemmas.Option.{slice_get_within, get_or_from_slice_get}
use Rattle.c_reading.specs.declared.named.Kind.{Kind}
use Rattle.c_reading.specs.declared.named.Kind.TheVariants.{Parameter, OpenLoop, ClosedLoop, Array}
use Rattle.c_reading.specs.Names.{parameters_among, if_parameter, if_array, arrays_among}
use Rattle.iolb_model.specs.declared.limits.TheConstants.{SUBSCRIPTS}
use Rattle.std.proofs.lemmas.Bool.Decides.{nat_tests}
use Rattle.std.proofs.lemmas.Slice.Eq.{bytes_eq-Decides}
use Rattle.c_reading.specs.Input.{Input}
use Rattle.c_reading.specs.Affine.{kind_of}
use Rattle.c_grammar.proofs.Steps.{bool_cases}

-- a parameter among so many, a loop among so many that are open, or an array with few subscripts
abbrev pub KindFits : ℕ → ℕ → Kind → Type 0
KindFits parameters depth (Parameter k) = k < parameters
KindFits parameters depth (OpenLoop d) = d < depth
KindFits parameters depth ClosedLoop = ⊤
KindFits parameters depth (Array n s) = s ≤ SUBSCRIPTS

-- a parameter counts once
abbrev pub parameter_of : Kind → List ℕ
parameter_of (Parameter k) = k ∷ []
parameter_of _ = []

-- how many are parameters
abbrev pub parameter_count : List Kind → ℕ
parameter_count kinds = length (flat_map parameter_of kinds)

-- an array's number of subscripts
abbrev pub rank_of : Kind → List ℕ
rank_of (Array n s) = s ∷ []
rank_of _ = []

-- the arrays' numbers of subscripts
abbrev pub ranks : List Kind → List ℕ
ranks kinds = flat_map rank_of kinds

-- an array's number
abbrev pub array_number : Kind → List ℕ
array_number (Array n s) = n ∷ []
array_number _ = []

-- there are so many arrays, numbered in order
abbrev pub AreNumbered : ℕ → List Kind → Type 0
AreNumbered arrays kinds = flat_map array_number kinds ≡ range_with_len 0 arrays

-- each of them has a number of subscripts
pub ranks-length : (arrays : ℕ) (kinds : List Kind) → AreNumbered arrays kinds → length (ranks kinds) ≡ arrays
ranks-length arrays kinds numbered = as_many kinds ∙ ap length numbered ∙ length-range_with_len 0 arrays where
  as_many : (xs : List Kind) → length (ranks xs) ≡ length (flat_map array_number xs)
  as_many [] = refl
  as_many (Array n s ∷ xs) = ap suc (as_many xs)
  as_many (_ ∷ xs) = as_many xs

-- a kind fits where there is more
pub more_fits : (parameters depth wider deeper : ℕ) → parameters ≤ wider → depth ≤ deeper → (k : Kind) → KindFits parameters depth k → KindFits wider deeper k
more_fits parameters depth wider deeper p q ClosedLoop h = tt
more_fits parameters depth wider deeper p q (Array n s) h = h
more_fits parameters depth wider deeper p q _ h = omega arith

-- ---- one kind among them

-- what holds of each member holds of the one at a place
pub All-get : {X : Type 0} (P : X → Type 0) (xs : List X) (at : ℕ) (x : X) → AllByRecursion P xs → slice_get xs at ≡ Some x → P x
All-get P [] at x h e = cc
All-get P (y ∷ xs) zero x h e = (let same : y ≡ x = cc in subst P same h.0)
All-get P (y ∷ xs) (suc at) x h e = All-get P xs at x h.1 e

-- a member is there with more behind it
pub get-append : {X : Type 0} (xs ys : List X) (at : ℕ) (x : X) → slice_get xs at ≡ Some x → slice_get (xs ++ ys) at ≡ Some x
get-append [] ys at x e = cc
get-append (y ∷ xs) ys zero x e = e
get-append (y ∷ xs) ys (suc at) x e = get-append xs ys at x e

-- an array has one place among the arrays
array_at : (kinds : List Kind) (at n s : ℕ) → slice_get kinds at ≡ Some (Array n s) → (d : ℕ) × (slice_get (flat_map array_number kinds) d ≡ Some n) × (slice_get (ranks kinds) d ≡ Some s)
array_at (Array m r ∷ kinds) zero n s e = (let number : m ≡ n = cc in let rank : r ≡ s = cc in (0, ap Some number, ap Some rank))
array_at (Array m r ∷ kinds) (suc at) n s e = (let found = array_at kinds at n s e in (suc found.0, found.1, found.2))
array_at (_ ∷ kinds) (suc at) n s e = array_at kinds at n s e
array_at _ _ n s e = cc

-- the number of subscripts of an array, whose number is its place
pub rank_at : (arrays : ℕ) (kinds : List Kind) (at n s : ℕ) → AreNumbered arrays kinds → slice_get kinds at ≡ Some (Array n s) → slice_get (ranks kinds) n ≡ Some s
rank_at arrays kinds at n s numbered e =
    let found = array_at kinds at n s e in
    let number : slice_get (range_with_len 0 arrays) found.0 ≡ Some n = ap (λ (l : List ℕ). slice_get l found.0) (sym numbered) ∙ found.1 in
    let below : found.0 < arrays = omega (arith, slice_get_within (range_with_len 0 arrays) found.0 n number, length-range_with_len 0 arrays) in
    let place : found.0 ≡ n = omega (arith, get_or_from_slice_get (range_with_len 0 arrays) found.0 n 0 number, get_or-range_with_len 0 arrays found.0 0 below) in
    subst (λ k. slice_get (ranks kinds) k ≡ Some s) place found.2

-- the member behind a list
pub get-behind : {X : Type 0} (xs ys : List X) (x : X) → slice_get ((xs ++ x ∷ []) ++ ys) (length xs) ≡ Some x
get-behind [] ys x = refl
get-behind (y ∷ xs) ys x = get-behind xs ys x

-- ---- a kind is changed

-- what a list of kinds gives where a kind changes to one that gives as much
pub flat_map-set : {X Y : Type 0} (f : X → List Y) (xs : List X) (at : ℕ) (x y : X) → slice_get xs at ≡ Some x → f y ≡ f x → flat_map f (slice_set xs at y) ≡ flat_map f xs
flat_map-set f [] at x y e same = cc
flat_map-set f (z ∷ xs) zero x y e same = (let is : x ≡ z = cc in ap (λ l. l ++ flat_map f xs) (same ∙ ap f is))
flat_map-set f (z ∷ xs) (suc at) x y e same = ap (λ l. f z ++ l) (flat_map-set f xs at x y e same)

-- what holds of each member holds with the one that is set
pub All-set : {X : Type 0} (P : X → Type 0) (xs : List X) (at : ℕ) (x : X) → P x → AllByRecursion P xs → AllByRecursion P (slice_set xs at x)
All-set P [] at x p h = tt
All-set P (y ∷ xs) zero x p h = (p, h.1)
All-set P (y ∷ xs) (suc at) x p h = (h.0, All-set P xs at x p h.1)

-- a member that was set is there
pub get-set : {X : Type 0} (xs : List X) (at : ℕ) (x y : X) → slice_get xs at ≡ Some x → slice_get (slice_set xs at y) at ≡ Some y
get-set [] at x y e = cc
get-set (z ∷ xs) zero x y e = refl
get-set (z ∷ xs) (suc at) x y e = get-set xs at x y e

-- a kind that is set and set back
pub set-back : {X : Type 0} (xs ys : List X) (at : ℕ) (x y : X) → slice_get xs at ≡ Some x → slice_set (slice_set xs at y ++ ys) at x ≡ xs ++ ys
set-back [] ys at x y e = cc
set-back (z ∷ xs) ys zero x y e = (let same : x ≡ z = cc in ap (λ w. w ∷ xs ++ ys) same)
set-back (z ∷ xs) ys (suc at) x y e = ap (λ l. z ∷ l) (set-back xs ys at x y e)

-- ---- names with their kinds

-- as many names are parameters as kinds are
pub parameters-length : (names : List (List ℕ)) (kinds : List Kind) → length kinds ≡ length names
    → length (parameters_among names kinds) ≡ parameter_count kinds
parameters-length [] [] e = refl
parameters-length [] (k ∷ kinds) e = absurd (omega (arith, e))
parameters-length (name ∷ names) [] e = absurd (omega (arith, e))
parameters-length (name ∷ names) (Parameter k ∷ kinds) e = ap suc (parameters-length names kinds (omega (arith, e)))
parameters-length (name ∷ names) (_ ∷ kinds) e = parameters-length names kinds (omega (arith, e))

-- ---- places of names

-- the place of a name among these
abbrev pub place_of : List ℕ → List (List ℕ) → Option ℕ
place_of name [] = None
place_of name (n ∷ names) = cond (bytes_eq name n) (Some 0) (option_map suc (place_of name names))

-- its kind
abbrev pub lookup : List ℕ → List (List ℕ) → List Kind → Option Kind
lookup name (n ∷ names) (k ∷ kinds) = cond (bytes_eq name n) (Some k) (lookup name names kinds)
lookup name _ _ = None

-- ---- these are what the reader looks up

-- one more on both sides
same_below : (m n : ℕ) → nat_lt (1 + m) (suc n) ≡ nat_lt m n
same_below m n = elim (nat_lt m n) as (λ v. nat_lt m n ≡ v → nat_lt (1 + m) (suc n) ≡ v) [ true ↦ λ e. grind (arith, nat_tests) | false ↦ λ e. grind (arith, nat_tests) ] refl

-- one more, where a test holds
one_more : (b : Bool) (m : ℕ) → cond b (Some (1 + m)) None ≡ option_map suc (cond b (Some m) None)
one_more true m = ap Some (omega arith)
one_more false m = refl

-- the place behind another name
position-more : (t : List ℕ → Bool) (n : List ℕ) (names : List (List ℕ)) → position t (n ∷ names) ≡ cond (t n) (Some 0) (option_map suc (position t names))
position-more t n names =
    let m : ℕ = position_or_len t names in
    let below : nat_lt 0 (suc (length names)) ≡ true = grind (arith, nat_tests) in
    let same : nat_lt (1 + m) (suc (length names)) ≡ nat_lt m (length names) = same_below m (length names) in
    bool_cases (t n) (λ e. rw (e, below) refl) (λ e. rw e (ap (λ b. cond b (Some (1 + m)) None) same ∙ one_more (nat_lt m (length names)) m))

-- the reader's place of a name is its place
pub position-place : (name : List ℕ) (names : List (List ℕ)) → position (bytes_eq name) names ≡ place_of name names
position-place name [] = refl
position-place name (n ∷ names) = position-more (bytes_eq name) n names ∙ ap (λ o. cond (bytes_eq name n) (Some 0) (option_map suc o)) (position-place name names)

-- the kind behind another
get_next : (o : Option ℕ) (k : Kind) (kinds : List Kind) → option_and_then (λ at. slice_get (k ∷ kinds) at) (option_map suc o) ≡ option_and_then (λ at. slice_get kinds at) o
get_next None k kinds = refl
get_next (Some at) k kinds = refl

-- the kind at a name's place is its kind
place-lookup : (name : List ℕ) (names : List (List ℕ)) (kinds : List Kind) → length kinds ≡ length names → option_and_then (λ at. slice_get kinds at) (place_of name names) ≡ lookup name names kinds
place-lookup name [] kinds same = refl
place-lookup name (n ∷ names) [] same = absurd (omega arith)
place-lookup name (n ∷ names) (k ∷ kinds) same =
    bool_cases (bytes_eq name n) (λ e. rw e refl) (λ e. rw e (get_next (place_of name names) k kinds ∙ place-lookup name names kinds (omega arith)))

-- the reader's kind of a name is its kind
pub kind_of-lookup : (name : List ℕ) (i : Input) → length i.kinds ≡ length i.names → kind_of name i ≡ lookup name i.names i.kinds
unfolding kind_of
kind_of-lookup name i same = ap (option_and_then (λ at. slice_get i.kinds at)) (position-place name i.names) ∙ place-lookup name i.names i.kinds same

-- ---- one name more

-- bytes are equal to themselves
pub bytes_same : (name : List ℕ) → bytes_eq name name ≡ true
bytes_same name = (bytes_eq-Decides name name).1 refl

-- bytes that pass the test are equal
pub bytes_are : (a b : List ℕ) → bytes_eq a b ≡ true → a ≡ b
bytes_are a b e = (bytes_eq-Decides a b).0 e

-- what isn't found in front is not in front
pub cond_none : {A : Type 0} (b : Bool) (x : A) (o : Option A) → cond b (Some x) o ≡ None → (b ≡ false) × (o ≡ None)
cond_none true x o e = cc
cond_none false x o e = (refl, e)

-- a new name has the kind that it is given
pub lookup-new : (name : List ℕ) (k : Kind) (names : List (List ℕ)) (kinds : List Kind) → length kinds ≡ length names → lookup name names kinds ≡ None → lookup name (names ++ name ∷ []) (kinds ++ k ∷ []) ≡ Some k
lookup-new name k [] [] same none = let is = bytes_same name in rw is refl
lookup-new name k (n ∷ names) (l ∷ kinds) same none =
    let parts : (bytes_eq name n ≡ false) × (lookup name names kinds ≡ None) = cond_none (bytes_eq name n) l (lookup name names kinds) none in
    let other : bytes_eq name n ≡ false = parts.0 in
    rw other (lookup-new name k names kinds (omega arith) parts.1)
lookup-new name k _ _ same none = absurd (omega arith)

-- a new name changes no other
pub lookup-other : (other name : List ℕ) (k : Kind) (names : List (List ℕ)) (kinds : List Kind) → length kinds ≡ length names → bytes_eq other name ≡ false → lookup other (names ++ name ∷ []) (kinds ++ k ∷ []) ≡ lookup other names kinds
lookup-other other name k [] [] same differ = rw differ refl
lookup-other other name k (n ∷ names) (l ∷ kinds) same differ = ap (λ o. cond (bytes_eq other n) (Some l) o) (lookup-other other name k names kinds (omega arith) differ)
lookup-other other name k _ _ same differ = absurd (omega arith)

-- a new name stands at the end
pub place-new : (name : List ℕ) (names : List (List ℕ)) (kinds : List Kind) → length kinds ≡ length names → lookup name names kinds ≡ None → place_of name (names ++ name ∷ []) ≡ Some (length names)
place-new name [] kinds same none = let is = bytes_same name in rw is refl
place-new name (n ∷ names) [] same none = absurd (omega arith)
place-new name (n ∷ names) (l ∷ kinds) same none =
    let parts : (bytes_eq name n ≡ false) × (lookup name names kinds ≡ None) = cond_none (bytes_eq name n) l (lookup name names kinds) none in
    let other : bytes_eq name n ≡ false = parts.0 in
    rw other (ap (option_map suc) (place-new name names kinds (omega arith) parts.1))

-- where a name stands: in front, or behind the first
place_parts : {P : Type 0} (name n : List ℕ) (names : List (List ℕ)) (at : ℕ) → place_of name (n ∷ names) ≡ Some at → (bytes_eq name n ≡ true → at ≡ 0 → P)
    → ((before : ℕ) → bytes_eq name n ≡ false → place_of name names ≡ Some before → at ≡ suc before → P) → P
place_parts {P} name n names at e here behind = cases (bytes_eq name n) (place_of name names) refl refl e where
  cases : (b : Bool) (o : Option ℕ) → bytes_eq name n ≡ b → place_of name names ≡ o → cond b (Some 0) (option_map suc o) ≡ Some at → P
  cases true o is there f = here is (let same : 0 ≡ at = cc in sym same)
  cases false (Some before) other there f = behind before other there (let same : suc before ≡ at = cc in sym same)
  cases false None other there f = cc

-- names behind it change no place
pub place-more : (name : List ℕ) (names more : List (List ℕ)) (at : ℕ) → place_of name names ≡ Some at → place_of name (names ++ more) ≡ Some at
place-more name [] more at e = cc
place-more name (n ∷ names) more at e = place_parts name n names at e
    (λ is first. rw is (ap Some (sym first)))
    (λ before other there next. rw other (ap (option_map suc) (place-more name names more before there) ∙ ap Some (sym next)))

-- at its place stands the name
pub place-get : (name : List ℕ) (names : List (List ℕ)) (at : ℕ) → place_of name names ≡ Some at → slice_get names at ≡ Some name
place-get name [] at e = cc
place-get name (n ∷ names) at e = place_parts name n names at e
    (λ is first. ap (slice_get (n ∷ names)) first ∙ ap Some (sym (bytes_are name n is)))
    (λ before other there next. ap (slice_get (n ∷ names)) next ∙ place-get name names before there)

-- ---- another kind

-- a name has the kind that it is set to
pub lookup-set : (name : List ℕ) (k : Kind) (names : List (List ℕ)) (kinds : List Kind) (at : ℕ) → length kinds ≡ length names → place_of name names ≡ Some at → lookup name names (set kinds at k) ≡ Some k
lookup-set name k [] kinds at same e = cc
lookup-set name k (n ∷ names) [] at same e = absurd (omega arith)
lookup-set name k (n ∷ names) (l ∷ kinds) at same e = place_parts name n names at e
    (λ is first. ap (λ m. lookup name (n ∷ names) (set (l ∷ kinds) m k)) first ∙ rw is refl)
    (λ before other there next. ap (λ m. lookup name (n ∷ names) (set (l ∷ kinds) m k)) next ∙ rw other (lookup-set name k names kinds before (omega arith) there))

-- a kind that is set changes no other name
pub lookup-set_other : (other name : List ℕ) (k : Kind) (names : List (List ℕ)) (kinds : List Kind) (at : ℕ) → bytes_eq other name ≡ false → place_of name names ≡ Some at → lookup other names (set kinds at k) ≡ lookup other names kinds
lookup-set_other other name k (n ∷ names) (l ∷ kinds) at differ e = place_parts name n names at e
    (λ is first. let apart : bytes_eq other n ≡ false = ap (bytes_eq other) (sym (bytes_are name n is)) ∙ differ in ap (λ m. lookup other (n ∷ names) (set (l ∷ kinds) m k)) first ∙ rw apart refl)
    (λ before no there next. ap (λ m. lookup other (n ∷ names) (set (l ∷ kinds) m k)) next ∙ ap (λ o. cond (bytes_eq other n) (Some l) o) (lookup-set_other other name k names kinds before differ there))
lookup-set_other other name k _ _ at differ e = refl

-- ---- parameters and arrays

-- a name in front of others, and more behind them
if_parameter-append : (k : Kind) (name : List ℕ) (names more : List (List ℕ)) → if_parameter k name (names ++ more) ≡ if_parameter k name names ++ more
if_parameter-append (Parameter n) name names more = refl
if_parameter-append _ name names more = refl

-- an array in front of others, and more behind them
if_array-append : (k : Kind) (name : List ℕ) (arrays more : List (List ℕ × ℕ)) → if_array k name (arrays ++ more) ≡ if_array k name arrays ++ more
if_array-append (Parameter n) name arrays more = refl
if_array-append _ name arrays more = refl

-- the parameters with a new name
pub parameters-new : (name : List ℕ) (k : Kind) (names : List (List ℕ)) (kinds : List Kind) → length kinds ≡ length names → parameters_among (names ++ name ∷ []) (kinds ++ k ∷ []) ≡ parameters_among names kinds ++ if_parameter k name []
parameters-new name k [] [] same = refl
parameters-new name k (n ∷ names) (l ∷ kinds) same = ap (if_parameter l n) (parameters-new name k names kinds (omega arith)) ∙ if_parameter-append l n (parameters_among names kinds) (if_parameter k name [])
parameters-new name k _ _ same = absurd (omega arith)

-- the arrays with a new name
pub arrays-new : (name : List ℕ) (k : Kind) (names : List (List ℕ)) (kinds : List Kind) → length kinds ≡ length names → arrays_among (names ++ name ∷ []) (kinds ++ k ∷ []) ≡ arrays_among names kinds ++ if_array k name []
arrays-new name k [] [] same = refl
arrays-new name k (n ∷ names) (l ∷ kinds) same = ap (if_array l n) (arrays-new name k names kinds (omega arith)) ∙ if_array-append l n (arrays_among names kinds) (if_array k name [])
arrays-new name k _ _ same = absurd (omega arith)

-- a kind that makes a name as much a parameter as the one before changes no parameter
pub parameters-set : (k old : Kind) (names : List (List ℕ)) (kinds : List Kind) (at : ℕ) → ((name : List ℕ) (ns : List (List ℕ)) → if_parameter k name ns ≡ if_parameter old name ns) → slice_get kinds at ≡ Some old → parameters_among names (set kinds at k) ≡ parameters_among names kinds
parameters-set k old (n ∷ names) (l ∷ kinds) zero alike e = let same : old ≡ l = cc in alike n (parameters_among names kinds) ∙ ap (λ m. if_parameter m n (parameters_among names kinds)) same
parameters-set k old (n ∷ names) (l ∷ kinds) (suc at) alike e = ap (if_parameter l n) (parameters-set k old names kinds at alike e)
parameters-set k old _ _ at alike e = refl

-- one that makes it as much an array changes no array
pub arrays-set : (k old : Kind) (names : List (List ℕ)) (kinds : List Kind) (at : ℕ) → ((name : List ℕ) (arrays : List (List ℕ × ℕ)) → if_array k name arrays ≡ if_array old name arrays) → slice_get kinds at ≡ Some old → arrays_among names (set kinds at k) ≡ arrays_among names kinds
arrays-set k old (n ∷ names) (l ∷ kinds) zero alike e = let same : old ≡ l = cc in alike n (arrays_among names kinds) ∙ ap (λ m. if_array m n (arrays_among names kinds)) same
arrays-set k old (n ∷ names) (l ∷ kinds) (suc at) alike e = ap (if_array l n) (arrays-set k old names kinds at alike e)
arrays-set k old _ _ at alike e = refl

-- the kind that stands at a name's place
pub lookup-get : (name : List ℕ) (names : List (List ℕ)) (kinds : List Kind) (at : ℕ) (k : Kind) → length kinds ≡ length names → place_of name names ≡ Some at → lookup name names kinds ≡ Some k → slice_get kinds at ≡ Some k
lookup-get name names kinds at k same there is = sym (ap (option_and_then (λ n. slice_get kinds n)) there) ∙ place-lookup name names kinds same ∙ is

-- a name that has a kind has a place
pub lookup-place : (name : List ℕ) (names : List (List ℕ)) (kinds : List Kind) (k : Kind) → length kinds ≡ length names → lookup name names kinds ≡ Some k → (number : ℕ) × (place_of name names ≡ Some number)
lookup-place name [] kinds k same e = absurd cc
lookup-place name (n ∷ names) [] k same e = absurd (omega arith)
lookup-place name (n ∷ names) (l ∷ kinds) k same e =
    bool_cases (bytes_eq name n)
    (λ is. (0, rw is refl))
    (λ other.
    let behind : lookup name names kinds ≡ Some k = rw other at e in
    let found = lookup-place name names kinds k (omega arith) behind in
    (suc found.0, rw other (ap (option_map suc) found.1)))
