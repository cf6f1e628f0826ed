-- Names of some kinds among others.
use Rattle.std.proofs.Common.{◌≡◌, refl, sym, ap, ◌∙◌, ℕ, zero, suc, Bool, true, false, cond, List, [], ◌∷◌, arith}
use Rattle.std.specs.Prelude.{bytes_eq, Some, slice_get, map}
use Rattle.std.specs.List.{AllByRecursion, list_any}
use Rattle.std.proofs.lemmas.Bool.{or_parts}
use Rattle.iolb_model.specs.Program as program
use Rattle.affine_program.specs.Parts.{array_of}
use Rattle.affine_program.specs.Printable.{AreDifferent, AreDifferentArrays}
use Rattle.c_reading.specs.declared.named.Kind.{Kind}
use Rattle.c_reading.specs.declared.named.Kind.TheVariants.{Parameter, Array}
use Rattle.c_reading.specs.Names.{parameters_among, arrays_among}
use Rattle.c_grammar.specs.Well.{AreDistinct}
use Rattle.c_grammar.proofs.NameKinds.{bytes_are}
use Rattle.affine_c.proofs.Readable.{array_names}
use Rattle.affine_c.proofs.Roles.{names_of}
use Rattle.affine_c.proofs.State.{among_differ}
use Rattle.c_grammar.proofs.Steps.{bool_cases}

-- the names of kinds that pass a test
abbrev pub among : (Kind → Bool) → List (List ℕ) → List Kind → List (List ℕ)
among test (n ∷ names) (k ∷ kinds) = cond (test k) (n ∷ among test names kinds) (among test names kinds)
among test _ _ = []

-- whether a kind is a parameter's
abbrev pub is_parameter : Kind → Bool
is_parameter (Parameter k) = true
is_parameter _ = false

-- whether a kind is an array's
abbrev pub is_array : Kind → Bool
is_array (Array k rank) = true
is_array _ = false

-- the parameters are the names of their kind
pub parameters-among : (names : List (List ℕ)) (kinds : List Kind) → parameters_among names kinds ≡ among is_parameter names kinds
parameters-among [] kinds = refl
parameters-among (n ∷ names) [] = refl
parameters-among (n ∷ names) (Parameter k ∷ kinds) = ap (λ ns. n ∷ ns) (parameters-among names kinds)
parameters-among (n ∷ names) (_ ∷ kinds) = parameters-among names kinds

-- the arrays' names are those of their kind
pub arrays-among : (names : List (List ℕ)) (kinds : List Kind) → names_of (map array_of (arrays_among names kinds)) ≡ among is_array names kinds
arrays-among [] kinds = refl
arrays-among (n ∷ names) [] = refl
arrays-among (n ∷ names) (Array k rank ∷ kinds) = ap (λ ns. n ∷ ns) (arrays-among names kinds)
arrays-among (n ∷ names) (_ ∷ kinds) = arrays-among names kinds

-- ---- names that differ

-- a name that stands nowhere
pub none_any : (n : List ℕ) (names : List (List ℕ)) → ((at : ℕ) → slice_get names at ≡ Some n → ⊥) → list_any (bytes_eq n) names ≡ false
none_any n [] f = refl
none_any n (m ∷ names) f = bool_cases (bytes_eq n m) (λ e. absurd (f 0 (ap Some (sym (bytes_are n m e))))) (λ e. rw e (none_any n names (λ at g. f (suc at) g)))

-- names at different places differ
pub distinct-different : (names : List (List ℕ)) → AreDistinct names → AreDifferent names
distinct-different [] d = tt
distinct-different (n ∷ names) d = (none_any n names (λ at e. (let same : 0 ≡ suc at = d 0 (suc at) n refl e in omega arith)), distinct-different names (λ a b m e f. (let same : suc a ≡ suc b = d (suc a) (suc b) m e f in omega arith)))

-- a name that isn't there isn't among some of them
among_any : (test : Kind → Bool) (n : List ℕ) (names : List (List ℕ)) (kinds : List Kind) → list_any (bytes_eq n) names ≡ false → list_any (bytes_eq n) (among test names kinds) ≡ false
among_any test n (m ∷ names) (k ∷ kinds) h =
    let both = or_parts (bytes_eq n m) (list_any (bytes_eq n) names) h in
    let here : bytes_eq n m ≡ false = both.0 in
    let rest : list_any (bytes_eq n) (among test names kinds) ≡ false = among_any test n names kinds both.1 in
    bool_cases (test k) (λ e. rw e (rw here rest)) (λ e. rw e rest)
among_any test n _ _ h = refl

-- some of names that differ
pub among_differs : (test : Kind → Bool) (names : List (List ℕ)) (kinds : List Kind) → AreDifferent names → AreDifferent (among test names kinds)
among_differs test (m ∷ names) (k ∷ kinds) d =
    bool_cases (test k) (λ e. rw e (among_any test m names kinds d.0, among_differs test names kinds d.1)) (λ e. rw e (among_differs test names kinds d.1))
among_differs test _ _ d = tt

-- what holds of each name holds of some
pub among_all : (P : List ℕ → Type 0) (test : Kind → Bool) (names : List (List ℕ)) (kinds : List Kind) → AllByRecursion P names → AllByRecursion P (among test names kinds)
among_all P test (m ∷ names) (k ∷ kinds) h =
    bool_cases (test k) (λ e. rw e (h.0, among_all P test names kinds h.1)) (λ e. rw e (among_all P test names kinds h.1))
among_all P test _ _ h = tt

-- a name whose kind doesn't pass isn't among those that do
pub among_none : (test : Kind → Bool) (names : List (List ℕ)) (kinds : List Kind) (at : ℕ) (name : List ℕ) (k : Kind) → AreDifferent names → slice_get names at ≡ Some name → slice_get kinds at ≡ Some k → test k ≡ false → list_any (bytes_eq name) (among test names kinds) ≡ false
among_none test (n ∷ names) (l ∷ kinds) zero name k d e f fails_so =
    let same : n ≡ name = cc in
    let kind_is : l ≡ k = cc in
    let fails : test l ≡ false = ap test kind_is ∙ fails_so in
    rw fails (among_any test name names kinds (ap (λ m. list_any (bytes_eq m) names) (sym same) ∙ d.0))
among_none test (n ∷ names) (l ∷ kinds) (suc at) name k d e f fails_so =
    let other : bytes_eq name n ≡ false = among_differ n names at name d.0 e in
    let rest : list_any (bytes_eq name) (among test names kinds) ≡ false = among_none test names kinds at name k d.1 e f fails_so in
    bool_cases (test l) (λ g. rw g (rw other rest)) (λ g. rw g rest)
among_none test _ _ at name k d e f fails_so = cc

-- where a name among those that pass stands
pub record Found (test : Kind → Bool) (names : List (List ℕ)) (kinds : List Kind) (name : List ℕ) : Type 0 where
  pub at : ℕ
  pub kind : Kind
  pub name_is : slice_get names at ≡ Some name
  pub kind_is : slice_get kinds at ≡ Some kind
  pub so : test kind ≡ true

-- a name more in front
found_next : {test : Kind → Bool} {names : List (List ℕ)} {kinds : List Kind} {name : List ℕ} (n : List ℕ) (k : Kind) → Found test names kinds name → Found test (n ∷ names) (k ∷ kinds) name
found_next n k f = record { at = suc f.at; kind = f.kind; name_is = f.name_is; kind_is = f.kind_is; so = f.so }

-- each name among those that pass stands among all
pub among_found : (test : Kind → Bool) (names : List (List ℕ)) (kinds : List Kind) (j : ℕ) (name : List ℕ) → slice_get (among test names kinds) j ≡ Some name → Found test names kinds name
among_found test (n ∷ names) (k ∷ kinds) j name e =
    bool_cases (test k) (λ g. first j g (rw g at e) (λ i f. among_found test names kinds i name f)) (λ g. found_next n k (among_found test names kinds j name (rw g at e))) where
      first : (i : ℕ) → test k ≡ true → slice_get (n ∷ among test names kinds) i ≡ Some name → ((i : ℕ) → slice_get (among test names kinds) i ≡ Some name → Found test names kinds name) → Found test (n ∷ names) (k ∷ kinds) name
      first zero g f rec = record { at = 0; kind = k; name_is = f; kind_is = refl; so = g }
      first (suc i) g f rec = found_next n k (rec i f)
among_found test _ _ j name e = cc

-- ---- arrays

-- arrays whose names differ
pub different_arrays : (arrays : List program.Array) → AreDifferent (names_of arrays) → AreDifferentArrays arrays
different_arrays [] d = tt
different_arrays (a ∷ arrays) d = (array_names a.name arrays ∙ d.0, different_arrays arrays d.1)

-- what holds of each array's name
pub all_named : (P : List ℕ → Type 0) (arrays : List program.Array) → ((k : ℕ) (name : List ℕ) → slice_get (names_of arrays) k ≡ Some name → P name) → AllByRecursion (λ (a : program.Array). P a.name) arrays
all_named P [] f = tt
all_named P (a ∷ arrays) f = (f 0 a.name refl, all_named P arrays (λ k name e. f (suc k) name e))
