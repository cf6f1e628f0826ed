-- What is claimed of pieces that are to have no vertex in common.
use Rattle.std.specs.Prelude.{ℕ, ◌+◌, ◌≤◌, ◌==◌, if◌then◌else◌, Bool, false, pos, List, [], ◌∷◌, ◌++◌, map, flat_map, filter, length, take, drop, replicate, codes}
use Rattle.std.specs.List.{AllByRecursion}
use Rattle.iolb_model.specs.Form.{AffineForm}
use Rattle.iolb_model.specs.Program.{AffineProgram}
use Rattle.claims.specs.Claims.{Claim, AllHold}
use Rattle.claims.specs.declared.place.Step.{Step}
use Rattle.claims.specs.declared.place.Step.TheVariants.{Key}
use Rattle.affine_form.specs.Multipliers.{FarkasMultipliers}
use Rattle.affine_form.specs.Rows.{widened, equality_rows}
use Rattle.affine_form.specs.System.{AffineSystem}
use Rattle.claims.specs.Shown.{IsFew, IsPointless, pointless_claims}
use Rattle.footprint_pieces.specs.declared.piece.Target.{Target}
use Rattle.footprint_pieces.specs.declared.piece.Target.TheVariants.{Cell, Instance}
use Rattle.footprint_pieces.specs.Pieces.{FootprintPiece, AreApartPieces, ArePairwiseApart, PieceFits}

-- whether two targets are one
abbrev pub same_target : Target → Target → Bool
same_target (Cell array) (Cell other) = array == other
same_target (Cell array) (Instance statement) = false
same_target (Instance statement) (Cell array) = false
same_target (Instance statement) (Instance other) = statement == other

-- the form with so many variables more, of coefficient 0, in front of those from a place on
abbrev pub moved : ℕ → ℕ → AffineForm → AffineForm
moved place more form = record form { coefficients = take place form.coefficients ++ replicate more (pos 0) ++ drop place form.coefficients }

-- how many variables two pieces have: the parameters, those of the first, and those of the second
abbrev pub shared_variables : AffineProgram → FootprintPiece → FootprintPiece → ℕ
shared_variables program first second = length program.parameters + first.vars + second.vars

-- The rows which say that two pieces have one vertex: those of the first, those of the second without the assumptions,
-- and that their points are equal.
abbrev pub shared_rows : AffineProgram → FootprintPiece → FootprintPiece → List AffineForm
shared_rows program first second =
    let vars = shared_variables program first second in
    let behind = moved (length program.parameters) first.vars in
    map (widened vars) first.rows ++ map behind (drop (length program.assumptions) second.rows) ++ equality_rows vars first.point (map behind second.point)

abbrev pub shared_system : AffineProgram → FootprintPiece → FootprintPiece → AffineSystem
shared_system program first second = record { vars = shared_variables program first second; rows = shared_rows program first second }

-- the pieces that have the target of a piece
abbrev pub with_target : FootprintPiece → List FootprintPiece → List FootprintPiece
with_target piece others = filter (λ other. same_target piece.target other.target) others

-- the systems of a piece and each of those with its target, in order
abbrev pub systems_with : AffineProgram → List FootprintPiece → FootprintPiece → List AffineSystem
systems_with program others piece = map (shared_system program piece) (with_target piece others)

-- those of all pieces of a first list with those of a second
abbrev pub shared_systems : AffineProgram → List FootprintPiece → List FootprintPiece → List AffineSystem
shared_systems program first second = flat_map (systems_with program second) first

-- those of all pieces of a list with those of several, and those of several lists, each with each later one
abbrev pub systems_with_lists : AffineProgram → List FootprintPiece → List (List FootprintPiece) → List AffineSystem
systems_with_lists program pieces lists = flat_map (shared_systems program pieces) lists

abbrev pub pairwise_systems : AffineProgram → List (List FootprintPiece) → List AffineSystem
pairwise_systems program [] = []
pairwise_systems program (pieces ∷ lists) = systems_with_lists program pieces lists ++ pairwise_systems program lists

-- the key of the list of multipliers: that of two families of a term (condition 18), or of two terms of a branch (23)
abbrev pub pair_key : ℕ → List ℕ
pair_key condition = if condition == 18 then (codes "apart") else (codes "disjoint")

-- that two pieces have no vertex in common, by the multipliers at this place
abbrev pub pair_claims : AffineProgram → ℕ → List Step → FootprintPiece → FootprintPiece → FarkasMultipliers → List Claim
pair_claims program condition place first second shown =
    record { condition = 2; place = place; statement = IsFew (length (shared_rows program first second)) }
    ∷ record { condition = condition; place = place; statement = IsPointless (shared_system program first second) shown } ∷ []

-- That no two pieces with one target have a vertex in common: that each of their systems has few rows (condition 2), and
-- no point, each by its multipliers.
abbrev pub disjoint_claims : AffineProgram → ℕ → List Step → List FootprintPiece → List FootprintPiece → List FarkasMultipliers → List Claim
disjoint_claims program condition place first second shown =
    pointless_claims condition (place ++ Key (pair_key condition) ∷ []) 0 (shared_systems program first second) shown

-- Pieces of which this is shown have no vertex in common.
abbrev pub DisjointPiecesAreApart : Type 0
DisjointPiecesAreApart = (program : AffineProgram) (condition : ℕ) (place : List Step) (first second : List FootprintPiece) (shown : List FarkasMultipliers)
    → AllByRecursion (PieceFits program) first → AllByRecursion (PieceFits program) second → length (shared_systems program first second) ≤ length shown
    → AllHold (disjoint_claims program condition place first second shown) → AreApartPieces program first second

-- So it is with several lists.
abbrev pub PairwisePiecesAreApart : Type 0
PairwisePiecesAreApart = (program : AffineProgram) (condition : ℕ) (place : List Step) (lists : List (List FootprintPiece)) (shown : List FarkasMultipliers)
    → AllByRecursion (AllByRecursion (PieceFits program)) lists → length (pairwise_systems program lists) ≤ length shown
    → AllHold (pointless_claims condition place 0 (pairwise_systems program lists) shown) → ArePairwiseApart program lists
