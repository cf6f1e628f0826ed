-- What holds of terms and branches whose conditions hold.
use Rattle.std.specs.Prelude.{List}
use Rattle.std.specs.List.{AllByRecursion, AllZip}
use Rattle.affine_program.specs.Parts.{ProgramParts, meaning}
use Rattle.dep_quast.specs.Tree.{SelectionTree}
use Rattle.footprint_pieces.specs.Pieces.{AreCovered}
use Rattle.iolb_check.specs.declared.bound.Value.{Value}
use Rattle.iolb_check.specs.declared.term.Term.{Term}
use Rattle.iolb_check.specs.declared.term.Branch.{Branch}
use Rattle.iolb_check.specs.Bounds.{IsTermValue}
use Rattle.iolb_check.specs.Claims.{claim_of_term}
use Rattle.iolb_check.specs.Conditions.{term_pieces}
use Rattle.iolb_check.specs.Sound.{AreApartTerms, AreCounted, ArePaid, IsCounted, IsPaid, term_vertices}

-- A term costs its value in loads of its footprint, which its pieces cover, and its counts are numbers of points.
pub record TermHolds (program : ProgramParts) (trees : List (List SelectionTree)) (term : Term) (value : Value) : Type 0 where
  pub paid : IsPaid program term value
  pub covered : AreCovered (meaning program) (term_vertices program term) (term_pieces (meaning program) trees (claim_of_term term))
  pub counted : IsCounted program term value
  pub counting : IsTermValue program.assumed value

-- so do terms, each with a value
abbrev pub TermsHold : ProgramParts → List (List SelectionTree) → List Term → List Value → Type 0
TermsHold program trees terms values = AllZip (TermHolds program trees) terms values

-- So do the terms of a branch, and no two of them have a vertex of their footprints in common.
pub record BranchHolds (program : ProgramParts) (branch : Branch) (values : List Value) : Type 0 where
  pub paid : ArePaid program branch values
  pub counted : AreCounted program branch values
  pub counting : AllByRecursion (IsTermValue program.assumed) values
  pub apart : AreApartTerms program branch

abbrev pub BranchesHold : ProgramParts → List Branch → List (List Value) → Type 0
BranchesHold program branches values = AllZip (BranchHolds program) branches values
