-- What the words behind the program's name ask for.
use Rattle.std.specs.Prelude.{ℕ, ⊤, ◌==◌, ◌≤◌, if◌then◌else◌, Bool, false, List, [], ◌∷◌, length, take, drop, map, codes, Option, None, Some, String, string_bytes, option_map, option_and_then, bytes_eq, slice_index_or}
use Rattle.std.specs.Global.{Global}
use Rattle.std.specs.List.{list_any}
use Rattle.command_words.specs.declared.command.Command.{Command}
use Rattle.command_words.specs.declared.command.Job.{Job}
use Rattle.command_words.specs.declared.command.Job.TheVariants.{Check, Eval, Parallel, Levels}
use Rattle.command_words.specs.declared.command.Work.{Work as WorkInCode}
use Rattle.command_words.specs.declared.command.Work.TheVariants.{Judge, Replay, Climb, Traffic, Bound, Sample}
use Rattle.command_words.specs.Numbers.{processors_in, products_in}
use Rattle.command_words.specs.Settings.{IsSmallLevels, IsSmallSetting, NamedLevels, NamedSetting, levels_in, levels_of, setting_in, setting_of}
use Rattle.command_words.specs.Sizes.{NamedSize}
use Rattle.iolb_model.specs.declared.limits.TheConstants.{PROCESSORS, STATEMENTS}

-- What is asked of a certificate: to check it, or to value its bound at these sizes, with so many red pebbles; with so many
-- processors that have so many red pebbles each; or with fast levels of these capacities.
pub data Task : Type 0 where
  checks : Task
  evaluates : ℕ → List NamedSize → Task
  shares : ℕ → ℕ → List NamedSize → Task
  levels : List ℕ → List NamedSize → Task

-- What is to be done with a program: a task for the certificate in a second file; or to play the schedule in it with so many
-- red pebbles, or the moves in it over fast levels of these capacities, at these sizes; or, with the certificate in the second file
-- and the stores in a third, to bound the traffic, loads and stores together, with so many red pebbles at these sizes; or to make a
-- certificate. Or, of no file's program, to bound so many matrix products.
pub data Work : Type 0 where
  judges : Task → Work
  replays : ℕ → List NamedSize → Work
  climbs : List ℕ → List NamedSize → Work
  bounds_traffic : ℕ → List NamedSize → Work
  bounds : Work
  samples : ℕ → Work

-- Work on files, by their names in the order of the words. The first is the program's, where there is one.
pub record Request : Type 0 where
  pub files : List (List ℕ)
  pub work : Work

-- the name at a place, from 0 on
abbrev pub file_at : List (List ℕ) → ℕ → List ℕ
file_at names place = slice_index_or names place []

-- whether a word begins with `-`
abbrev pub begins_with_dash : List ℕ → Bool
begins_with_dash [] = false
begins_with_dash (byte ∷ bytes) = byte == 45

-- this work on so many files, which all words name
abbrev pub work_on : ℕ → Work → List (List ℕ) → Option Request
work_on count work words = if length words == count then Some (record { files = words; work = work }) else None

-- ---- requests on files, by what stands behind their names

abbrev pub evaluation : List (List ℕ) → NamedSetting → Request
evaluation files setting = record { files = files; work = judges (evaluates setting.s setting.named) }

abbrev pub replay : List (List ℕ) → NamedSetting → Request
replay files setting = record { files = files; work = replays setting.s setting.named }

abbrev pub sharing : List (List ℕ) → ℕ → NamedSetting → Request
sharing files processors setting = record { files = files; work = judges (shares processors setting.s setting.named) }

-- words P S NAME=NUMBER...
abbrev pub sharing_in : List (List ℕ) → List (List ℕ) → Option Request
sharing_in files [] = None
sharing_in files (processors ∷ words) = option_and_then (λ p. option_map (sharing files p) (setting_in words)) (processors_in processors)

abbrev pub levelling : List (List ℕ) → NamedLevels → Request
levelling files setting = record { files = files; work = judges (levels setting.capacities setting.named) }

abbrev pub climbing : List (List ℕ) → NamedLevels → Request
climbing files setting = record { files = files; work = climbs setting.capacities setting.named }

-- what a command on two files asks for, by the words behind their names: `eval PROGRAM CERTIFICATE S NAME=NUMBER...`,
-- `replay PROGRAM SCHEDULE S NAME=NUMBER...`, `parallel PROGRAM CERTIFICATE P S NAME=NUMBER...`,
-- `levels PROGRAM CERTIFICATE S,S... NAME=NUMBER...`, and `climb PROGRAM MOVES S,S... NAME=NUMBER...`
abbrev pub sized_request : List ℕ → List (List ℕ) → List (List ℕ) → Option Request
sized_request command files words =
    if bytes_eq command (codes "eval") then option_map (evaluation files) (setting_in words)
    else (if bytes_eq command (codes "replay") then option_map (replay files) (setting_in words)
    else (if bytes_eq command (codes "parallel") then sharing_in files words
    else (if bytes_eq command (codes "levels") then option_map (levelling files) (levels_in words)
    else (if bytes_eq command (codes "climb") then option_map (climbing files) (levels_in words) else None))))

abbrev pub traffic : List (List ℕ) → NamedSetting → Request
traffic files setting = record { files = files; work = bounds_traffic setting.s setting.named }

-- what words PROGRAM CERTIFICATE STORES S NAME=NUMBER... ask for
abbrev pub traffic_in : List (List ℕ) → Option Request
traffic_in words = option_map (traffic (take 3 words)) (setting_in (drop 3 words))

abbrev pub sampling : ℕ → Request
sampling products = record { files = []; work = samples products }

-- what words N ask for
abbrev pub sample_in : List (List ℕ) → Option Request
sample_in [] = None
sample_in (products ∷ []) = option_map sampling (products_in products)
sample_in (products ∷ word ∷ words) = None

-- what a command that names no certificate asks for, or one with a third file: `sample N`, and
-- `traffic PROGRAM CERTIFICATE STORES S NAME=NUMBER...`; and else one on two files
abbrev pub other_request : List ℕ → List (List ℕ) → Option Request
other_request command words =
    if bytes_eq command (codes "traffic") then traffic_in words
    else (if bytes_eq command (codes "sample") then sample_in words else sized_request command (take 2 words) (drop 2 words))

-- these, `check PROGRAM CERTIFICATE`, and `bound PROGRAM`
abbrev pub request_in : List (List ℕ) → Option Request
request_in [] = None
request_in (command ∷ words) =
    if bytes_eq command (codes "check") then work_on 2 (judges checks) words
    else (if bytes_eq command (codes "bound") then work_on 1 bounds words else other_request command words)

-- What words ask for; nothing where one begins with `-`.
abbrev pub request_of : List (List ℕ) → Option Request
request_of words = if list_any begins_with_dash words then None else request_in words

-- ---- what the code holds

-- the bytes of words
abbrev pub bytes_of : List (String Global) → List (List ℕ)
bytes_of words = map (λ word. string_bytes word) words

-- the request that a command is
abbrev pub task_of : Job → Task
task_of Check = checks
task_of (Eval setting) = evaluates (setting_of setting).s (setting_of setting).named
task_of (Parallel processors setting) = shares processors (setting_of setting).s (setting_of setting).named
task_of (Levels setting) = levels (levels_of setting).capacities (levels_of setting).named

abbrev pub work_of : WorkInCode → Work
work_of (Judge job) = judges (task_of job)
work_of (Replay setting) = replays (setting_of setting).s (setting_of setting).named
work_of (Climb setting) = climbs (levels_of setting).capacities (levels_of setting).named
work_of (Traffic setting) = bounds_traffic (setting_of setting).s (setting_of setting).named
work_of Bound = bounds
work_of (Sample products) = samples products

abbrev pub asked : Command → Request
asked command = record { files = bytes_of command.files.now; work = work_of command.work }

-- numbers within the limits of the words
abbrev pub IsSmallJob : Job → Type 0
IsSmallJob Check = ⊤
IsSmallJob (Eval setting) = IsSmallSetting setting
IsSmallJob (Parallel processors setting) = (1 ≤ processors) × (processors ≤ PROCESSORS) × IsSmallSetting setting
IsSmallJob (Levels setting) = IsSmallLevels setting

abbrev pub IsSmallWork : WorkInCode → Type 0
IsSmallWork (Judge job) = IsSmallJob job
IsSmallWork (Replay setting) = IsSmallSetting setting
IsSmallWork (Climb setting) = IsSmallLevels setting
IsSmallWork (Traffic setting) = IsSmallSetting setting
IsSmallWork Bound = ⊤
IsSmallWork (Sample products) = (1 ≤ products) × (products ≤ STATEMENTS)
