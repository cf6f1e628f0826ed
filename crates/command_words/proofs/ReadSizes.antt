-- Sizes that are read one by one.
use Rattle.std.proofs.Common.{◌≡◌, refl, List, ◌++◌}
use Rattle.std.specs.Prelude.{Option, None, option_map}
use Rattle.command_words.specs.Sizes.{NamedSize, put_before}

-- these sizes and then others, if there are others
abbrev pub sizes-behind : List NamedSize → Option (List NamedSize) → Option (List NamedSize)
sizes-behind front o = option_map (λ sizes. front ++ sizes) o

pub behind-none : (front : List NamedSize) (o : Option (List NamedSize)) → sizes-behind front (put_before None o) ≡ None
behind-none front o = refl
