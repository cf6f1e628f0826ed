-- Terms whose words have a piece.
use Rattle.std.specs.Prelude.{⊤}
use Rattle.affine_program.specs.Parts.{ProgramParts, meaning}
use Rattle.iolb_check.specs.declared.term.Term.{Term}
use Rattle.iolb_check.specs.declared.term.Term.TheVariants as terms
use Rattle.wavefront.specs.FrontFits.{PartsFit}
use Rattle.wavefront.specs.View.{front_of}

-- a wavefront term whose parts fit has a piece, and nothing is asked of others
abbrev pub HasWordPiece : ProgramParts → Term → Type 0
HasWordPiece program (terms.Cold cold) = ⊤
HasWordPiece program (terms.Partition partition) = ⊤
HasWordPiece program (terms.Wavefront front) = PartsFit (meaning program) (front_of front)
HasWordPiece program (terms.Joint joint) = ⊤
