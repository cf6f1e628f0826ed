-- What the reader knows of a printed program, and how it changes.
use Rattle.std.proofs.Common.{◌≡◌, refl, sym, ap, subst, ◌∙◌, ℕ, zero, suc, ◌+◌, ◌<◌, ◌≤◌, true, false, List, [], ◌∷◌, ◌++◌, append-nil, length, take, arith, length-append, length-set, ⊎_elim, inl, inr}
use Rattle.std.specs.Prelude.{Option, bytes_eq, Some, None, slice_get, slice_set, set, map, nat_lt, if◌then◌else◌, ◌⊎◌, ◌||◌}
use Rattle.std.specs.List.{AllByRecursion, list_any}
use Rattle.std.proofs.str.Laws.{order}
use Rattle.std.proofs.lemmas.Bool.Decides.{nat_tests}
use Rattle.std.proofs.lemmas.Option.{slice_get_within}
use Rattle.std.proofs.lemmas.Bool.{or_parts}
use Rattle.std.proofs.lemmas.List.Folds.{list_any-append}
use Rattle.affine_program.specs.Parts.{array_of}
use Rattle.iolb_model.specs.Program.{AffineProgram}
use Rattle.iolb_model.specs.Program as program
use Rattle.c_reading.specs.declared.named.Kind.{Kind}
use Rattle.c_reading.specs.declared.named.Kind.TheVariants.{Parameter, OpenLoop, ClosedLoop, Array}
use Rattle.c_reading.specs.Input.{Input}
use Rattle.c_reading.specs.Names.{parameters_among, arrays_among}
use Rattle.c_reading.specs.Affine.{kind_of}
use Rattle.c_tokens.specs.Names.{IsName}
use Rattle.affine_c.proofs.Roles.{Role, parameter, array, other, role, HasRoles}
use Rattle.affine_c.proofs.MeansForms.{kind_slot, HaveSlots, KnowsVariables}
use Rattle.c_grammar.proofs.NameKinds.{place_of, lookup, kind_of-lookup, bytes_same, bytes_are, lookup-new, lookup-other, lookup-set, lookup-set_other, parameters-new, arrays-new, parameters-set, arrays-set, lookup-get, get-append, All-get}
use Rattle.iolb_model.specs.declared.limits.TheConstants.{LOOPS, PARAMETERS}
use Rattle.c_grammar.proofs.Kept.{at_end}
use Rattle.std.proofs.lemmas.List.{map-append}
use Rattle.c_grammar.proofs.Steps.{bool_cases}

-- the loops around: their names stand for nothing else
pub record AreLoops (p : AffineProgram) (around : List (List ℕ)) : Type 0 where
  pub names : AllByRecursion IsName around
  pub others : AllByRecursion (λ name. role p name ≡ other) around
  pub deep : length around ≤ LOOPS

-- what is known of the k-th of a list where so many of it were seen
abbrev pub if_seen : ℕ → ℕ → Kind → Option Kind
if_seen k seen kind = if nat_lt k seen then Some kind else None

-- it was seen
pub was_seen : (k seen : ℕ) (kind : Kind) → k < seen → if_seen k seen kind ≡ Some kind
was_seen k seen kind below = let test : nat_lt k seen ≡ true = grind (arith, nat_tests) in rw test refl

-- it wasn't seen
pub not_seen : (k seen : ℕ) (kind : Kind) → seen ≤ k → if_seen k seen kind ≡ None
not_seen k seen kind above = let test : nat_lt k seen ≡ false = grind (arith, nat_tests) in rw test refl

-- where one more is seen it is known, and of the others as much as before
pub one_more_seen : (k seen : ℕ) (kind : Kind) (o : Option Kind) → (k ≡ seen → o ≡ Some kind) → ((k ≡ seen → ⊥) → o ≡ if_seen k seen kind) → o ≡ if_seen k (suc seen) kind
one_more_seen k seen kind o here others = ⊎_elim
    (λ before. others (λ e. omega arith) ∙ was_seen k seen kind before ∙ sym (was_seen k (suc seen) kind (omega arith)))
    (λ after. ⊎_elim
    (λ above. others (λ e. omega arith) ∙ not_seen k seen kind after ∙ sym (not_seen k (suc seen) kind (omega arith)))
    (λ now. here (omega arith) ∙ sym (was_seen k (suc seen) kind (omega arith)))
    (order seen k))
    (order k seen)

-- What the reader knows of names inside these loops, where it saw so many parameters and arrays.
pub record KnowsNames (p : AffineProgram) (first : ℕ) (around : List (List ℕ)) (seen : ℕ) (names : List (List ℕ)) (kinds : List Kind) : Type 0 where
  pub same : length kinds ≡ length names
  pub parameter_kinds : (k : ℕ) (name : List ℕ) → slice_get p.parameters k ≡ Some name → lookup name names kinds ≡ if_seen k first (Parameter k)
  pub loop_kinds : (depth : ℕ) (name : List ℕ) → slice_get around depth ≡ Some name → lookup name names kinds ≡ Some (OpenLoop depth)
  pub array_kinds : (k : ℕ) (a : program.Array) → slice_get p.arrays k ≡ Some a → lookup a.name names kinds ≡ if_seen k seen (Array k a.rank)
  pub other_names : (name : List ℕ) → role p name ≡ other → list_any (bytes_eq name) around ≡ false → (lookup name names kinds ≡ None) ⊎ (lookup name names kinds ≡ Some ClosedLoop)
  pub parameter_names : parameters_among names kinds ≡ take first p.parameters
  pub array_names : map array_of (arrays_among names kinds) ≡ take seen p.arrays

-- what it knows of names, and what it counted
abbrev pub Knows : AffineProgram → ℕ → List (List ℕ) → ℕ → ℕ → Input → Type 0
Knows p first around seen count i =
    KnowsNames p first around seen i.names i.kinds × (i.parameters ≡ first) × (i.arrays ≡ seen) × (i.statements ≡ count)

-- names that stand for different things differ
pub names_differ : (p : AffineProgram) (a b : List ℕ) (x y : Role) → role p a ≡ x → role p b ≡ y → (x ≡ y → ⊥) → bytes_eq a b ≡ false
names_differ p a b x y first second differ =
    bool_cases (bytes_eq a b) (λ e. absurd (differ (sym first ∙ ap (role p) (bytes_are a b e) ∙ second))) (λ e. e)

-- a name among others isn't one that is none of them
pub among_differ : (name : List ℕ) (names : List (List ℕ)) (k : ℕ) (other : List ℕ) → list_any (bytes_eq name) names ≡ false → slice_get names k ≡ Some other → bytes_eq other name ≡ false
among_differ name [] k m none e = cc
among_differ name (n ∷ names) zero m none e =
    let same : n ≡ m = cc in
    bool_cases (bytes_eq m name)
    (λ is.
    let found : bytes_eq name n ≡ true = ap (bytes_eq name) (same ∙ bytes_are m name is) ∙ bytes_same name in
    let no : bytes_eq name n ≡ false = (or_parts (bytes_eq name n) _ none).0 in
    absurd cc)
    (λ no. no)
among_differ name (n ∷ names) (suc k) m none e = among_differ name names k m (or_parts (bytes_eq name n) _ none).1 e

-- ---- places of coefficients

-- kinds give places
have_slots : (i : Input) (names : List (List ℕ)) (s : ℕ) → ((k : ℕ) (name : List ℕ) → slice_get names k ≡ Some name → kind_slot (kind_of name i) ≡ Some (s + k)) → HaveSlots i names s
have_slots i [] s f = tt
have_slots i (name ∷ names) s f =
    (f 0 name refl ∙ ap Some (omega arith), have_slots i names (suc s) (λ k m e. f (suc k) m e ∙ ap Some (omega arith)))

-- kinds of parameters and loops give their places
knows_variables : (p : AffineProgram) (around : List (List ℕ)) (i : Input) → HasRoles p → AreLoops p around → length i.kinds ≡ length i.names
    → ((k : ℕ) (name : List ℕ) → slice_get p.parameters k ≡ Some name → lookup name i.names i.kinds ≡ if_seen k (length p.parameters) (Parameter k))
    → ((depth : ℕ) (name : List ℕ) → slice_get around depth ≡ Some name → lookup name i.names i.kinds ≡ Some (OpenLoop depth)) → KnowsVariables i p.parameters around
knows_variables p around i is loops same parameters open_loops = record {
  parameter_names = is.parameters;
  loop_names = loops.names;
  few = is.few_parameters;
  deep = loops.deep;
  parameter_slots = have_slots i p.parameters 1 (λ k name e. ap kind_slot (kind_of-lookup name i same ∙ parameters k name e ∙ was_seen k (length p.parameters) (Parameter k) (slice_get_within p.parameters k name e)));
  loop_slots = have_slots i around (1 + PARAMETERS) (λ k name e. ap kind_slot (kind_of-lookup name i same ∙ open_loops k name e));
}

-- what is known of a state gives places
pub knows-variables : (p : AffineProgram) (around : List (List ℕ)) (seen : ℕ) (i : Input) → HasRoles p → AreLoops p around → KnowsNames p (length p.parameters) around seen i.names i.kinds → KnowsVariables i p.parameters around
knows-variables p around seen i is loops knows = knows_variables p around i is loops knows.same knows.parameter_kinds knows.loop_kinds

-- ---- one array more

-- the first members with one more
pub take_one_more : {X : Type 0} (xs : List X) (k : ℕ) (x : X) → slice_get xs k ≡ Some x → take k xs ++ x ∷ [] ≡ take (suc k) xs
take_one_more [] k x e = cc
take_one_more (y ∷ xs) zero x e = let same : y ≡ x = cc in ap (λ z. z ∷ []) (sym same)
take_one_more (y ∷ xs) (suc k) x e = ap (λ ys. y ∷ ys) (take_one_more xs k x e)

-- with one name more, of this kind
abbrev pub named : List ℕ → Kind → Input → Input
named name k i = record i { names = i.names ++ name ∷ []; kinds = i.kinds ++ k ∷ [] }

-- as many kinds as names with one more
pub length-named : (name : List ℕ) (k : Kind) (names : List (List ℕ)) (kinds : List Kind) → length kinds ≡ length names → length (kinds ++ k ∷ []) ≡ length (names ++ name ∷ [])
length-named name k names kinds same = omega (arith, length-append kinds (k ∷ []), length-append names (name ∷ []))

module _ (p : AffineProgram) (is : HasRoles p) (around : List (List ℕ)) (loops : AreLoops p around) (seen : ℕ) (i : Input) (knows : KnowsNames p (length p.parameters) around seen i.names i.kinds) (a : program.Array) (there : slice_get p.arrays seen ≡ Some a) where
  -- a new array changes no kind of another name
  unchanged : (k : Kind) (name : List ℕ) (x : Role) → role p name ≡ x → (x ≡ array seen → ⊥) → lookup name (i.names ++ a.name ∷ []) (i.kinds ++ k ∷ []) ≡ lookup name i.names i.kinds
  unchanged k name x is_role differ = lookup-other name a.name k i.names i.kinds knows.same (names_differ p name a.name x (array seen) is_role (is.array_roles seen a there) differ)

  -- a parameter's
  parameters_stay : (k : Kind) (n : ℕ) (name : List ℕ) → slice_get p.parameters n ≡ Some name → lookup name (i.names ++ a.name ∷ []) (i.kinds ++ k ∷ []) ≡ if_seen n (length p.parameters) (Parameter n)
  parameters_stay k n name e = unchanged k name (parameter n) (is.parameter_roles n name e) (λ no. cc) ∙ knows.parameter_kinds n name e

  -- a loop's
  loops_stay : (k : Kind) (n : ℕ) (name : List ℕ) → slice_get around n ≡ Some name → lookup name (i.names ++ a.name ∷ []) (i.kinds ++ k ∷ []) ≡ Some (OpenLoop n)
  loops_stay k n name e = unchanged k name other (All-get (λ m. role p m ≡ other) around n name loops.others e) (λ no. cc) ∙ knows.loop_kinds n name e

  -- the variables stay
  pub array-variables : (k : Kind) (n : ℕ) → KnowsVariables (record (named a.name k i) { arrays = n }) p.parameters around
  array-variables k n = knows_variables p around (record (named a.name k i) { arrays = n }) is loops (length-named a.name k i.names i.kinds knows.same) (parameters_stay k) (loops_stay k)

  -- one array more
  pub knows_array : KnowsNames p (length p.parameters) around (suc seen) (i.names ++ a.name ∷ []) (i.kinds ++ Array seen a.rank ∷ [])
  knows_array =
      let k : Kind = Array seen a.rank in
      record {
        same = length-named a.name k i.names i.kinds knows.same;
        parameter_kinds = parameters_stay k;
        loop_kinds = loops_stay k;
        array_kinds = λ n b e. one_more_seen n seen (Array n b.rank) _
            (λ here.
            let same : a ≡ b = (let found : Some a ≡ Some b = sym there ∙ ap (slice_get p.arrays) (sym here) ∙ e in cc) in
            ap (λ (c : program.Array). lookup c.name (i.names ++ a.name ∷ []) (i.kinds ++ k ∷ [])) (sym same) ∙ lookup-new a.name k i.names i.kinds knows.same (knows.array_kinds seen a there ∙ not_seen seen seen k (omega arith)) ∙ ap Some (ap (λ m. Array m a.rank) (sym here) ∙ ap (λ (c : program.Array). Array n c.rank) same))
            (λ others. unchanged k b.name (array n) (is.array_roles n b e) (λ no. others cc) ∙ knows.array_kinds n b e);
        other_names = λ name is_other apart. subst (λ o. (o ≡ None) ⊎ (o ≡ Some ClosedLoop)) (sym (unchanged k name other is_other (λ no. cc))) (knows.other_names name is_other apart);
        parameter_names = parameters-new a.name k i.names i.kinds knows.same ∙ append-nil (parameters_among i.names i.kinds) ∙ knows.parameter_names;
        array_names = ap (map array_of) (arrays-new a.name k i.names i.kinds knows.same) ∙ map-append array_of (arrays_among i.names i.kinds) ((a.name, a.rank) ∷ []) ∙ ap (λ xs. xs ++ a ∷ []) knows.array_names ∙ take_one_more p.arrays seen a there;
      }

-- with another kind at this place
abbrev pub changed : ℕ → Kind → Input → Input
changed place k i = record i { kinds = slice_set i.kinds place k }

-- a loop's name, which stands for nothing else
module _ (p : AffineProgram) (is : HasRoles p) (around : List (List ℕ)) (name : List ℕ) (is_other : role p name ≡ other) (apart : list_any (bytes_eq name) around ≡ false) (seen : ℕ) (names : List (List ℕ)) (kinds : List Kind) where
  -- what is known stays where only this name's kind changes
  known_others : (inside wider news : List (List ℕ)) (new : List Kind) → KnowsNames p (length p.parameters) inside seen names kinds → ((m : List ℕ) → bytes_eq m name ≡ false → lookup m news new ≡ lookup m names kinds) → length new ≡ length news
      → ((depth : ℕ) (m : List ℕ) → slice_get wider depth ≡ Some m → lookup m news new ≡ Some (OpenLoop depth))
      → ((m : List ℕ) → list_any (bytes_eq m) wider ≡ false → (lookup m news new ≡ Some ClosedLoop) ⊎ ((bytes_eq m name ≡ false) × (list_any (bytes_eq m) inside ≡ false)))
      → parameters_among news new ≡ parameters_among names kinds → arrays_among news new ≡ arrays_among names kinds → KnowsNames p (length p.parameters) wider seen news new
  known_others inside wider news new knows unchanged same loops others parameters arrays = record {
    same = same;
    parameter_kinds = λ n m e. unchanged m (names_differ p m name (parameter n) other (is.parameter_roles n m e) is_other (λ no. cc)) ∙ knows.parameter_kinds n m e;
    loop_kinds = loops;
    array_kinds = λ n b e. unchanged b.name (names_differ p b.name name (array n) other (is.array_roles n b e) is_other (λ no. cc)) ∙ knows.array_kinds n b e;
    other_names = λ m m_other m_apart. ⊎_elim (λ closed. inr closed) (λ differ. subst (λ o. (o ≡ None) ⊎ (o ≡ Some ClosedLoop)) (sym (unchanged m differ.0)) (knows.other_names m m_other differ.1)) (others m m_apart);
    parameter_names = parameters ∙ knows.parameter_names;
    array_names = ap (map array_of) arrays ∙ knows.array_names;
  }

  -- a name is this one, a loop that ended, or another
  this_or_other : (m : List ℕ) (news : List (List ℕ)) (new : List Kind) {Q : Type 0} → lookup name news new ≡ Some ClosedLoop → (bytes_eq m name ≡ false → Q) → (lookup m news new ≡ Some ClosedLoop) ⊎ ((bytes_eq m name ≡ false) × Q)
  this_or_other m news new {Q} closed rest =
      bool_cases (bytes_eq m name) (λ e. inl (ap (λ n. lookup n news new) (bytes_are m name e) ∙ closed)) (λ e. inr (e, rest e))

  -- a new loop's name
  pub knows_loop : KnowsNames p (length p.parameters) around seen names kinds → lookup name names kinds ≡ None → KnowsNames p (length p.parameters) around seen (names ++ name ∷ []) (kinds ++ ClosedLoop ∷ [])
  knows_loop knows none =
      let unchanged = λ (m : List ℕ). lookup-other m name ClosedLoop names kinds knows.same in
      known_others around around (names ++ name ∷ []) (kinds ++ ClosedLoop ∷ []) knows unchanged (length-named name ClosedLoop names kinds knows.same)
      (λ n m e. unchanged m (among_differ name around n m apart e) ∙ knows.loop_kinds n m e)
      (λ m m_apart. this_or_other m _ _ (lookup-new name ClosedLoop names kinds knows.same none) (λ _. m_apart))
      (parameters-new name ClosedLoop names kinds knows.same ∙ append-nil (parameters_among names kinds))
      (arrays-new name ClosedLoop names kinds knows.same ∙ append-nil (arrays_among names kinds))

  -- a loop begins
  pub knows_opened : (place : ℕ) → KnowsNames p (length p.parameters) around seen names kinds → place_of name names ≡ Some place → lookup name names kinds ≡ Some ClosedLoop → KnowsNames p (length p.parameters) (around ++ name ∷ []) seen names (set kinds place (OpenLoop (length around)))
  knows_opened place knows there closed =
      let k : Kind = OpenLoop (length around) in
      let still : slice_get kinds place ≡ Some ClosedLoop = lookup-get name names kinds place ClosedLoop knows.same there closed in
      let unchanged = λ (m : List ℕ) (differ : bytes_eq m name ≡ false). lookup-set_other m name k names kinds place differ there in
      known_others around (around ++ name ∷ []) names (set kinds place k) knows unchanged (length-set kinds place k ∙ knows.same)
      (λ n m e. ⊎_elim
      (λ before. unchanged m (among_differ name around n m apart before) ∙ knows.loop_kinds n m before)
      (λ here. ap (λ o. lookup o names (set kinds place k)) here.1 ∙ lookup-set name k names kinds place knows.same there ∙ ap (λ d. Some (OpenLoop d)) (sym here.0))
      (at_end around name m n e))
      (λ m m_apart.
      let both = or_parts (list_any (bytes_eq m) around) (bytes_eq m name || false) (sym (list_any-append (bytes_eq m) around (name ∷ [])) ∙ m_apart) in
      inr ((or_parts (bytes_eq m name) false both.1).0, both.0))
      (parameters-set k ClosedLoop names kinds place (λ n l. refl) still) (arrays-set k ClosedLoop names kinds place (λ n l. refl) still)

  -- a loop ends
  pub knows_closed : (place : ℕ) → KnowsNames p (length p.parameters) (around ++ name ∷ []) seen names kinds → place_of name names ≡ Some place → KnowsNames p (length p.parameters) around seen names (set kinds place ClosedLoop)
  knows_closed place knows there =
      let was : Kind = OpenLoop (length around) in
      let still : slice_get kinds place ≡ Some was = lookup-get name names kinds place was knows.same there (knows.loop_kinds (length around) name (last_at around)) in
      let unchanged = λ (m : List ℕ) (differ : bytes_eq m name ≡ false). lookup-set_other m name ClosedLoop names kinds place differ there in
      known_others (around ++ name ∷ []) around names (set kinds place ClosedLoop) knows unchanged (length-set kinds place ClosedLoop ∙ knows.same)
      (λ n m e. unchanged m (among_differ name around n m apart e) ∙ knows.loop_kinds n m (get-append around (name ∷ []) n m e))
      (λ m m_apart. this_or_other m _ _ (lookup-set name ClosedLoop names kinds place knows.same there) (λ e. list_any-append (bytes_eq m) around (name ∷ []) ∙ rw (m_apart, e) refl))
      (parameters-set ClosedLoop was names kinds place (λ n l. refl) still) (arrays-set ClosedLoop was names kinds place (λ n l. refl) still) where
        last_at : (names : List (List ℕ)) → slice_get (names ++ name ∷ []) (length names) ≡ Some name
        last_at [] = refl
        last_at (n ∷ names) = last_at names
