-- The systems of pieces that stand beside their families.
use Rattle.std.specs.Prelude.{ℕ, ◌==◌, not, cond, List, [], ◌∷◌, ◌++◌}
use Rattle.iolb_model.specs.Program.{AffineProgram}
use Rattle.affine_form.specs.System.{AffineSystem}
use Rattle.footprint_pieces.specs.DisjointClaims.{systems_with_lists}
use Rattle.footprint_pieces.specs.Pieces.{FootprintPiece}
use Rattle.joint_partition.specs.Term.{JointFamily}

-- the lists of pieces of families of other groups than this
abbrev pub lists_of_others : ℕ → List JointFamily → List (List FootprintPiece) → List (List FootprintPiece)
lists_of_others group [] lists = []
lists_of_others group (other ∷ others) [] = []
lists_of_others group (other ∷ others) (pieces ∷ lists) = cond (not (other.group == group)) (pieces ∷ lists_of_others group others lists) (lists_of_others group others lists)

-- the systems of each family's pieces with those of each later one of another group
abbrev pub listed_systems : AffineProgram → List JointFamily → List (List FootprintPiece) → List AffineSystem
listed_systems program [] lists = []
listed_systems program (family ∷ families) [] = []
listed_systems program (family ∷ families) (pieces ∷ lists) =
    systems_with_lists program pieces (lists_of_others family.group families lists) ++ listed_systems program families lists
