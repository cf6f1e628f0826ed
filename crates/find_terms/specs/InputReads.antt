-- Reads of arrays that no statement writes, by loops that run upward from 0 to below parameters.
use Rattle.std.specs.Prelude.{◌≡◌, ℕ, List, [], length}
use Rattle.iolb_model.specs.Form.{AffineForm}
use Rattle.iolb_model.specs.Program.{upward, AffineProgram}
use Rattle.affine_program.specs.Domain.{bounds_at, guards_at}
use Rattle.affine_program.specs.Parts.{ProgramParts, IsProgram, meaning}
use Rattle.dep_quast.specs.Context.{ReadOf, reference_of}
use Rattle.dep_quast.specs.Levels.{writers}
use Rattle.dep_quast.specs.Truth.{ReadFits}
use Rattle.domain_count.specs.Count.{IsCount}
use Rattle.flow_deps.specs.Candidates.{direction_at}
use Rattle.find_terms.specs.Openings.{AreNamed, IsOpeningTerm, IsPlainRead}
use Rattle.poly_tree.specs.Poly.{Quotient}
use Rattle.projective.specs.Products.{IsProduct, RunBelow}
use Rattle.projective_bounds.specs.Loops.{parameters_of}
use Rattle.wavefront.specs.declared.cold.Cold.{Cold}

-- The loops around a statement run upward from 0 to below these parameters, from the outermost; some assumption says of each
-- parameter that it is at least 1.
pub record LoopsRunBelow (program : AffineProgram) (statement : ℕ) (below : List ℕ) : Type 0 where
  pub bounds : List (AffineForm × AffineForm)
  pub around : bounds ≡ bounds_at program statement
  pub run : RunBelow program (length program.parameters) bounds below
  pub upward : (loop : ℕ) → direction_at program statement loop ≡ upward

-- A read of an input: no statement writes its array, its subscripts are the variables of these loops, which all differ, no guard
-- stands around its statement, and the loops around it run upward from 0 to below these parameters.
pub record IsInputRead (program : AffineProgram) (reader : ReadOf) (loops below : List ℕ) : Type 0 where
  pub read : ReadFits program reader
  pub unwritten : writers program (reference_of program reader).array ≡ []
  pub named : AreNamed program reader loops
  pub unguarded : guards_at program reader.statement ≡ []
  pub run : LoopsRunBelow program reader.statement below

-- A read of an input is plain.
abbrev pub InputReadsArePlain : Type 0
InputReadsArePlain = (parts : ProgramParts) (reader : ReadOf) (loops below : List ℕ) → IsProgram parts → IsInputRead (meaning parts) reader loops below
    → IsPlainRead (meaning parts) reader

-- The opening term of a read counts the product of the parameters of the loops that its subscripts name, where the loops around its
-- statement run upward from 0 to below parameters.
abbrev pub OpeningTermsCountProducts : Type 0
OpeningTermsCountProducts = (parts : ProgramParts) (reader : ReadOf) (loops below : List ℕ) → IsProgram parts → AreNamed (meaning parts) reader loops
    → LoopsRunBelow (meaning parts) reader.statement below → (cold : Cold) (count : Quotient) → IsOpeningTerm (meaning parts) reader cold
    → IsCount (meaning parts) cold.nest cold.sums count → IsProduct (parameters_of below loops) count
