-- The lines that are written to the standard error.
use Rattle.std.specs.Prelude.{ℕ, ◌==◌, if◌then◌else◌, List, ◌++◌, codes, decimal}
use Rattle.iolb_host.specs.declared.files.FileFault.{FileFault}
use Rattle.iolb_host.specs.declared.files.FileFault.TheVariants.{Missing, TooLong, Failed, Memory}
use Rattle.affine_c.specs.declared.fault.ProgramFault.{ProgramFault}
use Rattle.claims.specs.declared.place.Step.{Step}
use Rattle.tile_sched.specs.declared.unplayed.Unplayed.{Unplayed as NoPlay}
use Rattle.tile_sched.specs.declared.unplayed.Unplayed.TheVariants.{Assumption, TooMany, OutOfOrder, TooSmall}
use Rattle.iolb_commands.specs.declared.stop.OtherFault.{OtherFault}
use Rattle.iolb_commands.specs.declared.stop.OtherFault.TheVariants.{Certificate, Schedule, Moves, Stores}
use Rattle.iolb_commands.specs.declared.stop.Refusal.{Refusal}
use Rattle.iolb_commands.specs.declared.stop.Refusal.TheVariants.{Assumption as OutsideAssumption, Condition, StoresCondition, Unplayed as NotPlayed, TooMany as OutOfReach, Illegal, NotComplete}
use Rattle.iolb_commands.specs.PointerText.{pointer_text}
use Rattle.memory_levels.specs.declared.illegal.TowerIllegal.{TowerIllegal}
use Rattle.memory_levels.specs.Towers.{illegal_number}

-- the usage text
abbrev pub usage : List ℕ
usage = codes "usage: iolb check PROGRAM CERTIFICATE\n       iolb bound PROGRAM\n       iolb eval PROGRAM CERTIFICATE S NAME=NUMBER...\n       iolb replay PROGRAM SCHEDULE S NAME=NUMBER...\n       iolb sample N\n       iolb parallel PROGRAM CERTIFICATE P S NAME=NUMBER...\n       iolb traffic PROGRAM CERTIFICATE STORES S NAME=NUMBER...\n       iolb levels PROGRAM CERTIFICATE CAPS NAME=NUMBER...\n       iolb climb PROGRAM MOVES CAPS NAME=NUMBER...\n"

abbrev pub out_of_memory : List ℕ
out_of_memory = codes "out of memory\n"

-- why the file of this name was not read
abbrev pub file_line : List ℕ → FileFault → List ℕ
file_line name Missing = codes "file missing: " ++ name ++ codes "\n"
file_line name TooLong = codes "file too long: " ++ name ++ codes "\n"
file_line name Failed = codes "read failed: " ++ name ++ codes "\n"
file_line name Memory = out_of_memory

abbrev pub program_line : ProgramFault → List ℕ
program_line fault = codes "program refused: fault " ++ decimal fault.number ++ codes " at byte " ++ decimal fault.place ++ codes "\n"

-- fault 1 has no place
abbrev pub place_part : ℕ → List Step → List ℕ
place_part number place = if number == 1 then codes "" else codes " at " ++ pointer_text place

-- the fault of this number at this place of a text
abbrev pub text_line : List ℕ → ℕ → List Step → List ℕ
text_line words number place = words ++ decimal number ++ place_part number place ++ codes "\n"

-- the first line that is none of a move, by its first byte
abbrev pub moves_line : ℕ → List ℕ
moves_line place = codes "moves text refused: fault 1 at byte " ++ decimal place ++ codes "\n"

-- the fault of a text other than the program's
abbrev pub other_line : OtherFault → List ℕ
other_line (Certificate fault) = text_line (codes "certificate text refused: fault ") fault.number fault.place
other_line (Schedule fault) = text_line (codes "schedule text refused: fault ") fault.number fault.place
other_line (Moves place) = moves_line place
other_line (Stores fault) = text_line (codes "store text refused: fault ") fault.number fault.place

-- the condition of this number that fails at this place, behind words
abbrev pub refused_line : List ℕ → ℕ → List Step → List ℕ
refused_line words condition place = words ++ decimal condition ++ codes " at " ++ pointer_text place ++ codes "\n"

abbrev pub condition_line : ℕ → List Step → List ℕ
condition_line = refused_line (codes "certificate refused: condition ")

abbrev pub stores_condition_line : ℕ → List Step → List ℕ
stores_condition_line = refused_line (codes "stores refused: condition ")

-- the assumption of this number is false at the sizes
abbrev pub assumption_line : ℕ → List ℕ
assumption_line number = codes "assumption " ++ decimal number ++ codes " is false\n"

-- a value is beyond 128 bits
abbrev pub wide_line : List ℕ
wide_line = codes "value beyond 128 bits\n"

-- a graph is out of reach
abbrev pub too_many_line : List ℕ
too_many_line = codes "too many vertices\n"

-- the first move that isn't allowed, by its line from 1
abbrev pub illegal_line : ℕ → TowerIllegal → List ℕ
illegal_line line illegal = codes "illegal move " ++ decimal (illegal_number illegal) ++ codes " at line " ++ decimal line ++ codes "\n"

-- the first instance that a play leaves unfinished
abbrev pub not_complete_line : ℕ → List ℕ
not_complete_line vertex = codes "not complete: " ++ decimal vertex ++ codes "\n"

-- why a schedule isn't played
abbrev pub unplayed_line : NoPlay → List ℕ
unplayed_line (Assumption number) = assumption_line number
unplayed_line TooMany = too_many_line
unplayed_line (OutOfOrder vertex source) = codes "out of order: " ++ decimal vertex ++ codes " before " ++ decimal source ++ codes "\n"
unplayed_line (TooSmall vertex need) = codes "too small: " ++ decimal vertex ++ codes " needs " ++ decimal need ++ codes "\n"

-- why what was read isn't answered
abbrev pub refusal_line : Refusal → List ℕ
refusal_line (Condition failed) = condition_line failed.condition failed.place
refusal_line (StoresCondition failed) = stores_condition_line failed.condition failed.place
refusal_line (OutsideAssumption number) = assumption_line number
refusal_line (NotPlayed unplayed) = unplayed_line unplayed
refusal_line OutOfReach = too_many_line
refusal_line (Illegal line illegal) = illegal_line line illegal
refusal_line (NotComplete vertex) = not_complete_line vertex
