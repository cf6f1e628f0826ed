-- The trees that may be plain, in their order. (The last writers by level that are met most often: Feautrier 1991, the
-- levels of Allen and Kennedy 1987.)
use Rattle.std.specs.Prelude.{◌≡◌, ℕ, zero, suc, ◌+◌, ◌<◌, nat_lt, Bool, true, false, ◌&&◌, if◌then◌else◌, ℤ, pos, negsuc, List, [], ◌∷◌, ◌++◌, length, drop, flat_map, Option, Some, None, slice_index_or, ⊤, Vec}
use Rattle.std.specs.Global.{Global}
use Rattle.std.specs.List.{AllByRecursion, range_with_len}
use Rattle.std.specs.Option.{unwrap_or}
use Rattle.std.specs.Ordering.{int_eq}
use Rattle.iolb_model.specs.Form.{AffineForm}
use Rattle.iolb_model.specs.Program.{Direction, upward, downward, AffineProgram, statement_at}
use Rattle.iolb_model.specs.Order.{common_loops}
use Rattle.affine_form.specs.Rows.{widened, variable, variables_from, difference, earlier_row, IsSmallOver}
use Rattle.affine_form.specs.declared.form.Form.{Form}
use Rattle.affine_form.specs.Substitution.{substitution}
use Rattle.affine_program.specs.Domain.{bounds_at, depth_of}
use Rattle.dep_quast.specs.Context.{ReadOf, reference_of, variables_at, parameter_point}
use Rattle.dep_quast.specs.Levels.{writers, IsWriter}
use Rattle.flow_deps.specs.Shapes.{Shape, no_write, last_write, split}
use Rattle.flow_deps.specs.declared.candidate.Candidate.{Candidate}
use Rattle.flow_deps.specs.declared.candidate.Candidate.TheVariants.{NoWrite, SameTurn, TurnBefore}

-- ---- loops

-- how the values of a loop around a statement go
abbrev pub direction_at : AffineProgram → ℕ → ℕ → Direction
direction_at program statement loop = slice_index_or (common_loops program statement statement) loop upward

-- the bound at which a loop begins
abbrev pub first_bound : Direction → AffineForm × AffineForm → AffineForm
first_bound upward bounds = bounds.0
first_bound downward bounds = bounds.1

-- and that at which it ends
abbrev pub last_bound : Direction → AffineForm × AffineForm → AffineForm
last_bound upward bounds = bounds.1
last_bound downward bounds = bounds.0

-- what a loop's value one turn before is more than now
abbrev pub step_back : Direction → ℤ
step_back upward = negsuc 0
step_back downward = pos 1

-- ---- the point of a writer

-- all numbers are 0
abbrev pub are_zero : List ℤ → Bool
are_zero [] = true
are_zero (x ∷ xs) = int_eq x (pos 0) && are_zero xs

-- the number at a place is 1, and all others are 0
abbrev pub is_unit : ℕ → List ℤ → Bool
is_unit place [] = false
is_unit zero (x ∷ xs) = int_eq x (pos 1) && are_zero xs
is_unit (suc place) (x ∷ xs) = int_eq x (pos 0) && is_unit place xs

-- a form is this variable alone
abbrev pub is_name : ℕ → AffineForm → Bool
is_name place form = is_unit place form.coefficients && int_eq form.constant (pos 0)

-- the read subscript at the first place at which the written one is this variable alone
abbrev pub subscript_for : ℕ → List AffineForm → List AffineForm → Option AffineForm
subscript_for place [] read = None
subscript_for place (w ∷ written) [] = None
subscript_for place (w ∷ written) (r ∷ read) = if is_name place w then Some r else subscript_for place written read

-- the last value of a loop of a writer: the bound at which it ends, at the values before it
abbrev pub last_value : AffineProgram → ReadOf → AffineForm → List AffineForm → AffineForm
last_value program reader bound before =
    let vars = variables_at program reader in widened vars (substitution bound (parameter_point program vars ++ before))

-- The value of a loop of a writer: the read subscript at the first place at which the written one is that loop's name
-- alone; and where there is none its last value.
abbrev pub loop_value : AffineProgram → ReadOf → ℕ → AffineForm → List AffineForm → AffineForm
loop_value program reader writer bound before =
    unwrap_or (subscript_for (length program.parameters + length before) (statement_at program writer).writes.subscripts (reference_of program reader).subscripts)
    (last_value program reader bound before)

-- the values of a writer's loops, from those that are given on along the bounds of the other loops
abbrev pub values_along : AffineProgram → ReadOf → ℕ → List (AffineForm × AffineForm) → List AffineForm → List AffineForm
values_along program reader writer [] before = before
values_along program reader writer (bounds ∷ loops) before =
    let bound = last_bound (direction_at program writer (length before)) bounds in
    values_along program reader writer loops (before ++ loop_value program reader writer bound before ∷ [])

-- the point of a writer whose first loops have the values that are given
abbrev pub point_from : AffineProgram → ReadOf → ℕ → List AffineForm → List AffineForm
point_from program reader writer given = values_along program reader writer (drop (length given) (bounds_at program writer)) given

-- what a search for the point of a writer finds: its values, all small forms over the reader's variables; or nothing, and
-- then some isn't
abbrev pub FindsPoint : AffineProgram → ReadOf → ℕ → List AffineForm → Option (Vec Form Global) → Type 0
FindsPoint program reader writer given None = ¬ AllByRecursion (IsSmallOver (variables_at program reader)) (point_from program reader writer given)
FindsPoint program reader writer given (Some values) = (values.items ≡ point_from program reader writer given)
    × (length values.items ≡ depth_of program writer) × AllByRecursion (IsSmallOver (variables_at program reader)) values.items

-- ---- candidates

-- the reader's values of its first loops
abbrev pub first_values : AffineProgram → ReadOf → ℕ → List AffineForm
first_values program reader count = variables_from (variables_at program reader) (length program.parameters) count

-- the variable of a loop of the reader
abbrev pub loop_variable : AffineProgram → ReadOf → ℕ → AffineForm
loop_variable program reader loop = variable (variables_at program reader) (length program.parameters + loop)

-- the value of a loop of the reader one turn before
abbrev pub turn_before : AffineProgram → ReadOf → ℕ → AffineForm
turn_before program reader loop =
    difference (variables_at program reader) (loop_variable program reader loop) (record { coefficients = []; constant = pos 0 }) (step_back (direction_at program reader.statement loop))

-- the bound at which a loop of the reader begins
abbrev pub begin_bound : AffineProgram → ReadOf → ℕ → AffineForm
begin_bound program reader loop =
    first_bound (direction_at program reader.statement loop)
    (slice_index_or (bounds_at program reader.statement) loop (record { coefficients = []; constant = pos 0 }, record { coefficients = []; constant = pos 0 }))

-- at least 0 where a loop of the reader isn't in its first turn
abbrev pub later_turn : AffineProgram → ReadOf → ℕ → AffineForm
later_turn program reader loop =
    earlier_row (variables_at program reader) (direction_at program reader.statement loop) (begin_bound program reader loop) (loop_variable program reader loop)

-- The shape of a candidate: no write is earlier; or the last write is by a statement in the same turn of all loops around
-- both; or it is by a statement one turn of a loop before, and there is none in the loop's first turn.
abbrev pub candidate_shape : AffineProgram → ReadOf → Candidate → Shape
candidate_shape program reader NoWrite = no_write
candidate_shape program reader (SameTurn writer) =
    let level = length (common_loops program writer reader.statement) in
    last_write writer level (point_from program reader writer (first_values program reader level))
candidate_shape program reader (TurnBefore loop writer) =
    split (later_turn program reader loop)
    (last_write writer loop (point_from program reader writer (first_values program reader loop ++ turn_before program reader loop ∷ []))) no_write

-- a writer that stands before the reader
abbrev pub same_turn : ReadOf → ℕ → List Candidate
same_turn reader writer = if nat_lt writer reader.statement then SameTurn writer ∷ [] else []

-- a writer in a loop around both
abbrev pub turn_of : AffineProgram → ReadOf → ℕ → ℕ → List Candidate
turn_of program reader loop writer = if nat_lt loop (length (common_loops program writer reader.statement)) then TurnBefore loop writer ∷ [] else []

-- the candidates of a read in their order: no write; the writers before the reader, ascending; for each loop of the reader,
-- outermost first, the writers inside it, ascending
abbrev pub candidates : AffineProgram → ReadOf → List Candidate
candidates program reader =
    let all = writers program (reference_of program reader).array in
    NoWrite ∷ flat_map (same_turn reader) all
    ++ flat_map (λ loop. flat_map (turn_of program reader loop) all) (range_with_len 0 (depth_of program reader.statement))

-- what a candidate names is there: its writer writes the array that is read, and stands before the reader or in the loop
abbrev pub CandidateFits : AffineProgram → ReadOf → Candidate → Type 0
CandidateFits program reader NoWrite = ⊤
CandidateFits program reader (SameTurn writer) = IsWriter program (reference_of program reader).array writer × (writer < reader.statement)
CandidateFits program reader (TurnBefore loop writer) =
    IsWriter program (reference_of program reader).array writer × (loop < length (common_loops program writer reader.statement))
