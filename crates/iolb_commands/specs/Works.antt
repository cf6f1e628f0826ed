-- What work asks for: sizes, the length of its files, and how its answer is written.
use Rattle.std.specs.Prelude.{◌≡◌, ◌==◌, if◌then◌else◌, ℕ, ℤ, List, [], Option, Some, None}
use Rattle.command_words.specs.Requests.{checks, evaluates, shares, levels, Work, judges, replays, climbs, bounds_traffic, bounds, samples}
use Rattle.command_words.specs.Sizes.{values_for}
use Rattle.iolb_model.specs.declared.limits.TheConstants.{CERTIFICATE_BYTES, MOVES_BYTES, PROGRAM_BYTES, SCHEDULE_BYTES}

-- The sizes that it gives to parameters with these names, where it names each exactly once and nothing else: to none where no
-- sizes are asked for. Matrix products have no file, so no names of its parameters.
abbrev pub sizes_for : Work → List (List ℕ) → Option (List ℤ)
sizes_for (judges checks) names = Some []
sizes_for (judges (evaluates s named)) names = values_for names named
sizes_for (judges (shares processors s named)) names = values_for names named
sizes_for (judges (levels capacities named)) names = values_for names named
sizes_for (replays s named) names = values_for names named
sizes_for (climbs capacities named) names = values_for names named
sizes_for (bounds_traffic s named) names = values_for names named
sizes_for bounds names = Some []
sizes_for (samples products) names = None

abbrev pub HasSizes : Work → List (List ℕ) → Type 0
HasSizes work names = (sizes : List ℤ) × (sizes_for work names ≡ Some sizes)

-- how many bytes a file behind the program's may have: stores as many as a certificate
abbrev pub other_bytes : Work → ℕ
other_bytes (judges task) = CERTIFICATE_BYTES
other_bytes (replays s named) = SCHEDULE_BYTES
other_bytes (climbs capacities named) = MOVES_BYTES
other_bytes (bounds_traffic s named) = CERTIFICATE_BYTES
other_bytes bounds = 0
other_bytes (samples products) = 0

-- how many bytes the file at a place of the words may have
abbrev pub most_bytes : Work → ℕ → ℕ
most_bytes work place = if place == 0 then PROGRAM_BYTES else other_bytes work

-- How an answer is written: by one write, line by line, or with a note for the standard error behind it.
pub data Form : Type 0 where
  whole : Form
  by_lines : Form
  with_note : Form

abbrev pub form_of : Work → Form
form_of (judges task) = whole
form_of (replays s named) = by_lines
form_of (climbs capacities named) = whole
form_of (bounds_traffic s named) = whole
form_of bounds = with_note
form_of (samples products) = whole
