-- Places in JSON values, as JSON Pointers print them. (RFC 6901.)
use Rattle.std.specs.Prelude.{ℕ, List, ◌++◌, flat_map, codes, decimal}
use Rattle.claims.specs.declared.place.Step.{Step}
use Rattle.claims.specs.declared.place.Step.TheVariants.{Key, Index}

-- a step: `/`, then the key or the index
abbrev pub step_text : Step → List ℕ
step_text (Key key) = codes "/" ++ key
step_text (Index index) = codes "/" ++ decimal index

-- a place: its steps
abbrev pub pointer_text : List Step → List ℕ
pointer_text steps = flat_map step_text steps
