-- The lines of a play: each of its moves, and how many of them load, store and compute.
use Rattle.std.specs.Prelude.{ℕ, List, ◌++◌, flat_map, codes, decimal}
use Rattle.iolb_model.specs.declared.game.Move.{Move}
use Rattle.iolb_model.specs.declared.game.Move.TheVariants.{Load, Store, Compute, Drop, Erase}
use Rattle.iolb_model.specs.Game.{loads, stores}
use Rattle.pebble_replay.specs.Played.{computes}

-- words, a number, and the line's end
abbrev pub number_line : List ℕ → ℕ → List ℕ
number_line words number = words ++ decimal number ++ codes "\n"

abbrev pub move_line : Move → List ℕ
move_line (Load v) = number_line (codes "load ") v
move_line (Store v) = number_line (codes "store ") v
move_line (Compute v) = number_line (codes "compute ") v
move_line (Drop v) = number_line (codes "drop ") v
move_line (Erase v) = number_line (codes "erase ") v

-- a line for each move
abbrev pub moves_text : List Move → List ℕ
moves_text moves = flat_map move_line moves

abbrev pub totals_text : ℕ → ℕ → ℕ → List ℕ
totals_text loaded stored computed = number_line (codes "loads ") loaded ++ number_line (codes "stores ") stored ++ number_line (codes "computes ") computed

-- the moves, then their totals
abbrev pub play_text : List Move → List ℕ
play_text moves = moves_text moves ++ totals_text (loads moves) (stores moves) (computes moves)
