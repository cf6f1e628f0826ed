-- Words behind the names of files: how large the memory is, and the sizes of parameters.
use Rattle.std.specs.Prelude.{ℕ, ◌≤◌, ◌<◌, ◌^◌, unsigned_abs, sum, List, [], ◌∷◌, map, length, Option, None, option_map, option_and_then}
use Rattle.std.specs.List.{AllByRecursion}
use Rattle.command_words.specs.declared.setting.LevelSetting.{LevelSetting}
use Rattle.command_words.specs.declared.setting.Setting.{Setting}
use Rattle.command_words.specs.declared.size.Size.{Size}
use Rattle.command_words.specs.Numbers.{capacities_in, memory_in}
use Rattle.command_words.specs.Sizes.{NamedSize, named_of, sizes_in}
use Rattle.iolb_model.specs.declared.limits.TheConstants.{LEVELS, VALUE_SIZE}

-- so many red pebbles, and sizes
pub record NamedSetting : Type 0 where
  pub s : ℕ
  pub named : List NamedSize

-- words S NAME=NUMBER...
abbrev pub setting_in : List (List ℕ) → Option NamedSetting
setting_in [] = None
setting_in (memory ∷ words) = option_and_then (λ s. option_map (λ named. record { s = s; named = named }) (sizes_in words)) (memory_in memory)

-- the capacities of fast levels, and sizes
pub record NamedLevels : Type 0 where
  pub capacities : List ℕ
  pub named : List NamedSize

-- words S,S... NAME=NUMBER...
abbrev pub levels_in : List (List ℕ) → Option NamedLevels
levels_in [] = None
levels_in (levels ∷ words) =
    option_and_then (λ capacities. option_map (λ named. record { capacities = capacities; named = named }) (sizes_in words)) (capacities_in levels)

-- ---- what the code holds

abbrev pub sizes_of : List Size → List NamedSize
sizes_of sizes = map named_of sizes

abbrev pub setting_of : Setting → NamedSetting
setting_of setting = record { s = setting.memory; named = sizes_of setting.sizes.items }

abbrev pub levels_of : LevelSetting → NamedLevels
levels_of setting = record { capacities = setting.capacities.items; named = sizes_of setting.sizes.items }

-- sizes below 2^40
abbrev pub AreSmallSizes : List Size → Type 0
AreSmallSizes sizes = AllByRecursion (λ (size : Size). unsigned_abs size.value < VALUE_SIZE) sizes

-- from 1 to 2^63 - 1 red pebbles, and small sizes
abbrev pub IsSmallSetting : Setting → Type 0
IsSmallSetting setting = (1 ≤ setting.memory) × (setting.memory < 2 ^ 63) × AreSmallSizes setting.sizes.items

-- from one to four fast levels, each of at least one word, and below 2^63 together
abbrev pub AreSmallLevels : List ℕ → Type 0
AreSmallLevels capacities =
    (1 ≤ length capacities) × (length capacities ≤ LEVELS) × AllByRecursion (λ capacity. 1 ≤ capacity) capacities × (sum capacities < 2 ^ 63)

abbrev pub IsSmallLevels : LevelSetting → Type 0
IsSmallLevels setting = AreSmallLevels setting.capacities.items × AreSmallSizes setting.sizes.items
