-- The parameters and the arrays among names of all kinds.
use Rattle.std.specs.Prelude.{ℕ, List, [], ◌∷◌}
use Rattle.c_reading.specs.declared.named.Kind.{Kind}
use Rattle.c_reading.specs.declared.named.Kind.TheVariants.{Parameter, OpenLoop, ClosedLoop, Array}

-- a name in front of these, where it is a parameter
abbrev pub if_parameter : Kind → List ℕ → List (List ℕ) → List (List ℕ)
if_parameter (Parameter k) name names = name ∷ names
if_parameter (OpenLoop depth) name names = names
if_parameter ClosedLoop name names = names
if_parameter (Array number subscripts) name names = names

-- the parameters, by their numbers
abbrev pub parameters_among : List (List ℕ) → List Kind → List (List ℕ)
parameters_among [] kinds = []
parameters_among (name ∷ names) [] = []
parameters_among (name ∷ names) (k ∷ kinds) = if_parameter k name (parameters_among names kinds)

-- a name in front of these, with its number of subscripts, where it is an array
abbrev pub if_array : Kind → List ℕ → List (List ℕ × ℕ) → List (List ℕ × ℕ)
if_array (Parameter k) name arrays = arrays
if_array (OpenLoop depth) name arrays = arrays
if_array ClosedLoop name arrays = arrays
if_array (Array number subscripts) name arrays = (name, subscripts) ∷ arrays

-- the arrays, by their numbers
abbrev pub arrays_among : List (List ℕ) → List Kind → List (List ℕ × ℕ)
arrays_among [] kinds = []
arrays_among (name ∷ names) [] = []
arrays_among (name ∷ names) (k ∷ kinds) = if_array k name (arrays_among names kinds)
