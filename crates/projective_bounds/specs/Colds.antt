-- The cold terms of a projective program: one for each array that is read, that of its first read.
use Rattle.std.specs.Prelude.{ℕ, ◌==◌, Bool, ⊤, List, [], ◌∷◌, length, filter}
use Rattle.std.specs.List.{range_with_len}
use Rattle.iolb_model.specs.Program.{AffineProgram, read_at, statement_at}
use Rattle.domain_count.specs.Count.{IsCount}
use Rattle.poly_tree.specs.Poly.{Quotient}
use Rattle.projective.specs.Products.{IsProduct}
use Rattle.wavefront.specs.declared.cold.Cold.{Cold}
use Rattle.wavefront.specs.View.{term_of}
use Rattle.cold_terms.specs.Outline.{outline_in}
use Rattle.projective_bounds.specs.Families.{array_read}
use Rattle.projective_bounds.specs.Loops.{parameters_of}
use Rattle.projective_bounds.specs.Outline.{IsReadOutline}

-- The cold term of a read: it has the read's outline, and its count is the product of the parameters of the loops that stand
-- in the reference.
pub record IsReadCold (program : AffineProgram) (read : ℕ) (cold : Cold) : Type 0 where
  pub outline : IsReadOutline program read (outline_in (term_of cold))
  pub total : Quotient
  pub right : IsCount program cold.nest cold.sums total
  pub product : IsProduct (parameters_of outline.below outline.loops) total

-- whether a read is the first of its array
abbrev pub is_first_read : AffineProgram → ℕ → Bool
is_first_read program read = array_read program (read_at program 0 read).array == read

-- the first reads of the arrays that are read, in their order
abbrev pub first_reads : AffineProgram → List ℕ
first_reads program = filter (is_first_read program) (range_with_len 0 (length (statement_at program 0).reads))

-- the cold terms of these reads, one each
abbrev pub AreColdsOf : AffineProgram → List ℕ → List Cold → Type 0
AreColdsOf program [] [] = ⊤
AreColdsOf program [] (cold ∷ colds) = ⊥
AreColdsOf program (read ∷ reads) [] = ⊥
AreColdsOf program (read ∷ reads) (cold ∷ colds) = IsReadCold program read cold × AreColdsOf program reads colds

-- the cold terms of the arrays that are read, in the order of first read
abbrev pub AreArrayColds : AffineProgram → List Cold → Type 0
AreArrayColds program colds = AreColdsOf program (first_reads program) colds
