-- Trees that stand while they grow.
use Rattle.std.proofs.Common.{◌≡◌, refl, inl, inr, ℕ, ◌<◌, ◌≤◌, List, [], ◌∷◌, length, arith}
use Rattle.iolb_model.specs.Program.{AffineProgram, IsWellFormed}
use Rattle.affine_program.specs.Domain.{depth_of}
use Rattle.dep_quast.specs.Truth.{IsLevel}
use Rattle.dep_quast.proofs.Fits.{common-first, common-second}

-- a list of no members is empty
pub none-there : {X : Type 0} (xs : List X) → length xs ≡ 0 → xs ≡ []
none-there [] e = refl
none-there (x ∷ xs) e = absurd (omega arith)

-- a level has no more loops than there are around either statement
pub level-first : (program : AffineProgram) (t s level : ℕ) → IsWellFormed program → t < length program.statements → IsLevel program t s level → level ≤ depth_of program t
level-first program t s level well below (inl less) = omega (arith, less, common-first program t s well below)
level-first program t s level well below (inr last) = omega (arith, last.0, common-first program t s well below)

pub level-second : (program : AffineProgram) (t s level : ℕ) → IsWellFormed program → s < length program.statements → IsLevel program t s level → level ≤ depth_of program s
level-second program t s level well below (inl less) = omega (arith, less, common-second program t s well below)
level-second program t s level well below (inr last) = omega (arith, last.0, common-second program t s well below)
