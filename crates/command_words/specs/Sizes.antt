-- Sizes on the command line, and those of parameters.
use Rattle.std.specs.Prelude.{ℕ, ◌==◌, ◌&&◌, if◌then◌else◌, ℤ, pos, List, [], ◌∷◌, map, Option, None, Some, option_map, option_and_then, bytes_eq, count_by}
use Rattle.std.specs.List.{list_all, list_any}
use Rattle.command_words.specs.declared.size.Size.{Size}
use Rattle.command_words.specs.Numbers.{whole_in}

-- a name and its number
pub record NamedSize : Type 0 where
  pub name : List ℕ
  pub value : ℤ

-- what the code holds
abbrev pub named_of : Size → NamedSize
named_of size = record { name = size.name.items; value = size.value }

abbrev pub front_byte : ℕ → List ℕ × List ℕ → List ℕ × List ℕ
front_byte byte parts = (byte ∷ parts.0, parts.1)

-- what stands before the first `=` of a word, and what stands behind it
abbrev pub split_word : List ℕ → Option (List ℕ × List ℕ)
split_word [] = None
split_word (byte ∷ bytes) = if byte == 61 then Some ([], bytes) else option_map (front_byte byte) (split_word bytes)

abbrev pub size_of_parts : List ℕ × List ℕ → Option NamedSize
size_of_parts parts = option_map (λ value. record { name = parts.0; value = value }) (whole_in parts.1)

-- a word NAME=NUMBER
abbrev pub size_in : List ℕ → Option NamedSize
size_in word = option_and_then size_of_parts (split_word word)

abbrev pub put_before : Option NamedSize → Option (List NamedSize) → Option (List NamedSize)
put_before None sizes = None
put_before (Some size) None = None
put_before (Some size) (Some sizes) = Some (size ∷ sizes)

-- words NAME=NUMBER
abbrev pub sizes_in : List (List ℕ) → Option (List NamedSize)
sizes_in [] = Some []
sizes_in (word ∷ words) = put_before (size_in word) (sizes_in words)

-- ---- the sizes of parameters

-- how often a name is named
abbrev pub times : List ℕ → List NamedSize → ℕ
times name sizes = count_by (λ (size : NamedSize). bytes_eq size.name name) sizes

-- the first number for a name
abbrev pub value_for : List ℕ → List NamedSize → ℤ
value_for name [] = pos 0
value_for name (size ∷ sizes) = if bytes_eq size.name name then size.value else value_for name sizes

-- The numbers of parameters with these names, in their order, where each is named exactly once and nothing else is.
abbrev pub values_for : List (List ℕ) → List NamedSize → Option (List ℤ)
values_for names sizes =
    if list_all (λ (size : NamedSize). list_any (λ name. bytes_eq size.name name) names) sizes && list_all (λ name. times name sizes == 1) names
    then Some (map (λ name. value_for name sizes) names) else None
