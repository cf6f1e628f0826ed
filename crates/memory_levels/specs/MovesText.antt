-- The text of moves over levels of memory: a line for each move, in their order.
use Rattle.std.specs.Prelude.{◌≡◌, ⊤, ℕ, ◌<◌, ◌≤◌, ◌^◌, ◌==◌, if◌then◌else◌, List, [], ◌∷◌, ◌++◌, flat_map, length, take, slice_index, codes, decimal, Option, Some, None, Result, Ok, Err, Vec}
use Rattle.std.specs.Global.{Global}
use Rattle.std.specs.List.{AllByRecursion}
use Rattle.std.specs.Char.{IsNotAsciiDigit}
use Rattle.std.specs.Str.Parse.{AllDigits, digits_value}
use Rattle.iolb_model.specs.declared.tower.TowerMove.{TowerMove}
use Rattle.iolb_model.specs.declared.tower.TowerMove.TheVariants.{Bring, Send, Compute, Drop}
use Rattle.memory_levels.specs.declared.moves_error.MovesError.{MovesError}
use Rattle.memory_levels.specs.declared.moves_error.MovesError.TheVariants.{Line, Memory}

-- a level and a vertex, a space between them, whose byte is 32
abbrev pub place_words : ℕ → ℕ → List ℕ
place_words i v = decimal i ++ 32 ∷ decimal v

-- what a move's line says
abbrev pub move_words : TowerMove → List ℕ
move_words (Bring i v) = codes "bring " ++ place_words i v
move_words (Send i v) = codes "send " ++ place_words i v
move_words (Compute v) = codes "compute " ++ decimal v
move_words (Drop i v) = codes "drop " ++ place_words i v

-- its line, which ends in a newline
abbrev pub move_line : TowerMove → List ℕ
move_line move = move_words move ++ codes "\n"

-- the lines of some moves
abbrev pub moves_text : List TowerMove → List ℕ
moves_text moves = flat_map move_line moves

-- a move that a line can say: its level is one digit, and its vertex below 2^32
abbrev pub CanBeWritten : TowerMove → Type 0
CanBeWritten (Bring i v) = (i < 10) × (v < 2 ^ 32)
CanBeWritten (Send i v) = (i < 10) × (v < 2 ^ 32)
CanBeWritten (Compute v) = v < 2 ^ 32
CanBeWritten (Drop i v) = (i < 10) × (v < 2 ^ 32)

-- bytes are the lines of these moves
pub record IsMovesText (bytes : List ℕ) (moves : List TowerMove) : Type 0 where
  pub each : AllByRecursion CanBeWritten moves
  pub text : bytes ≡ moves_text moves

-- bytes begin with a line of a move
pub record BeginsWithMove (bytes : List ℕ) : Type 0 where
  pub move : TowerMove
  pub written : CanBeWritten move
  pub later : List ℕ
  pub text : bytes ≡ move_line move ++ later

-- At this byte begins the first line that is none of a move: before it are lines of moves, and what is left isn't empty and
-- begins with no line of a move. The last line may lack its newline.
pub record IsFirstBadLine (bytes : List ℕ) (place : ℕ) : Type 0 where
  pub before : List TowerMove
  pub each : AllByRecursion CanBeWritten before
  pub left : List ℕ
  pub text : bytes ≡ moves_text before ++ left
  pub place_is : place ≡ length (moves_text before)
  pub some : 1 ≤ length left
  pub bad : ¬ BeginsWithMove left

-- What reading answers: the moves whose lines the bytes are, or the first byte of the first line that is none of a move. Want of
-- memory says nothing of the bytes.
abbrev pub ReadsMoves : List ℕ → Result (Vec TowerMove Global) MovesError → Type 0
ReadsMoves bytes (Ok moves) = IsMovesText bytes moves.items
ReadsMoves bytes (Err (Line place)) = IsFirstBadLine bytes place
ReadsMoves bytes (Err Memory) = ⊤

-- ---- bytes have one list of moves, or one such line

abbrev pub TextsHaveOneList : Type 0
TextsHaveOneList = (bytes : List ℕ) (one two : List TowerMove) → IsMovesText bytes one → IsMovesText bytes two → one ≡ two

abbrev pub TextsHaveOneFault : Type 0
TextsHaveOneFault = (bytes : List ℕ) (one two : ℕ) → IsFirstBadLine bytes one → IsFirstBadLine bytes two → one ≡ two

abbrev pub MovesOrFault : Type 0
MovesOrFault = (bytes : List ℕ) (moves : List TowerMove) (place : ℕ) → IsMovesText bytes moves → IsFirstBadLine bytes place → ⊥

-- ---- words in front

-- what follows a word in front
abbrev pub behind : List ℕ → List ℕ → Option (List ℕ)
behind [] line = Some line
behind (w ∷ word) [] = None
behind (w ∷ word) (b ∷ line) = if b == w then behind word line else None

-- ---- digits in front

-- So many digits stand in front of bytes, with this value, and none behind them.
pub record AreDigitsInFront (bytes : List ℕ) (many value : ℕ) : Type 0 where
  pub within : many ≤ length bytes
  pub digits : AllDigits 10 (take many bytes)
  pub value_is : value ≡ digits_value 10 (take many bytes)
  pub ends : many < length bytes → IsNotAsciiDigit (slice_index bytes many)
