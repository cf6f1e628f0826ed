-- How many arrays were seen behind references, computed.
use Rattle.std.specs.Prelude.{ℕ, nat_le, if◌then◌else◌, List, [], ◌∷◌, Option, Some, None}
use Rattle.affine_program.specs.Printable.{next_seen}

-- how many arrays were seen behind references to arrays of these numbers, where each is one of those seen or the next
abbrev pub seen_behind : ℕ → List ℕ → Option ℕ
seen_behind seen [] = Some seen
seen_behind seen (number ∷ numbers) = if nat_le number seen then seen_behind (next_seen seen number) numbers else None
