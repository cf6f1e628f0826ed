-- One turn of a loop before: the last write of a cell before it is read, in a program of one statement. (Last writes by
-- level: Feautrier 1991; the levels of Allen and Kennedy 1987.)
use Rattle.std.specs.Prelude.{ℕ, suc, ◌+◌, negsuc, nat_lt, Bool, ◌==◌, ◌||◌, if◌then◌else◌, List, [], ◌∷◌, length}
use Rattle.iolb_model.specs.Form.{AffineForm}
use Rattle.iolb_model.specs.Program.{AffineProgram, statement_at}
use Rattle.affine_form.specs.Rows.{widened, variable}
use Rattle.affine_program.specs.Domain.{bounds_at, depth_of}
use Rattle.projective.specs.Projective.{shifted_variable, stands_in}

-- how many variables there are: the parameters and the loop values of the statement
abbrev pub width : AffineProgram → ℕ
width program = length program.parameters + depth_of program 0

-- whether a loop stands in the reference that is written
abbrev pub is_kept : AffineProgram → ℕ → Bool
is_kept program loop = stands_in (length program.parameters + loop) (statement_at program 0).writes

-- The value of the loop at a place, one turn of a loop before: the reader's value less 1 in this loop; the reader's value in
-- the loops before it and in those that stand in the reference; and in each other the last value, which is the loop's upper
-- bound.
abbrev pub turn_value : AffineProgram → ℕ → ℕ → AffineForm → AffineForm
turn_value program loop place upper =
    if place == loop then shifted_variable (width program) (length program.parameters + place) (negsuc 0)
    else (if nat_lt place loop || is_kept program place then variable (width program) (length program.parameters + place) else widened (width program) upper)

-- the values of loops with these bounds, the first of which is at a place
abbrev pub turn_values : AffineProgram → ℕ → ℕ → List (AffineForm × AffineForm) → List AffineForm
turn_values program loop place [] = []
turn_values program loop place (bounds ∷ loops) = turn_value program loop place bounds.1 ∷ turn_values program loop (suc place) loops

-- the loop values of the last write of the reader's cell one turn of a loop before
abbrev pub turn_before : AffineProgram → ℕ → List AffineForm
turn_before program loop = turn_values program loop 0 (bounds_at program 0)

-- at least 0 where a loop isn't in its first turn
abbrev pub later_turn : AffineProgram → ℕ → AffineForm
later_turn program loop = shifted_variable (width program) (length program.parameters + loop) (negsuc 0)
