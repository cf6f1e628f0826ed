-- What is found on the way to opening terms.
use Rattle.std.specs.Prelude.{◌≡◌, ℕ, ◌<◌, ◌≤◌, List, length, Option, Some, None, Vec}
use Rattle.std.specs.Global.{Global}
use Rattle.std.specs.List.{AllByRecursion}
use Rattle.iolb_model.specs.Form.{AffineForm}
use Rattle.iolb_model.specs.Program.{AffineProgram}
use Rattle.affine_form.specs.Rows.{BoundsFit, IsSmallOver}
use Rattle.affine_program.specs.Domain.{depth_of}
use Rattle.dep_quast.specs.Context.{ReadOf, reference_of}
use Rattle.flow_deps.specs.Candidates.{loop_variable}
use Rattle.certificate_fit.specs.Limits.{AreSmall, AreSmallBounds}
use Rattle.wavefront.specs.declared.cold.Cold.{Cold}
use Rattle.find_terms.specs.declared.nests.SoFar.{SoFar}
use Rattle.cold_terms.specs.declared.outline.Outline.{Outline}
use Rattle.cold_terms.specs.Outline.{OutlineFits, outline_of}
use Rattle.find_terms.specs.Openings.{AreNamed, HasOpeningOutline, IsEarlierRead, IsFirstOpening, IsOpeningTerm, IsPlainRead, NestSoFar, opening_outline, width}
use Rattle.projective_bounds.specs.HeldColds.{array_read, reader_of}

-- ---- loops

-- what a search for the loop whose variable a form is finds
abbrev pub FindsLoop : AffineProgram → ReadOf → AffineForm → Option ℕ → Type 0
FindsLoop program reader form None = (loop : ℕ) → loop < depth_of program reader.statement → ¬ (form ≡ loop_variable program reader loop)
FindsLoop program reader form (Some loop) = (loop < depth_of program reader.statement) × (form ≡ loop_variable program reader loop)

-- what a search for the loops that subscripts name finds
abbrev pub FindsLoops : AffineProgram → ReadOf → Option (Vec ℕ Global) → Type 0
FindsLoops program reader None = (loops : List ℕ) → ¬ AreNamed program reader loops
FindsLoops program reader (Some loops) = AreNamed program reader loops.items

-- ---- nests

-- what the code holds
abbrev pub so_far : SoFar → NestSoFar
so_far far = record { nest = far.nest.items; values = far.values.items }

-- the numbers of a nest and of loop values are small
abbrev pub IsSmallNest : NestSoFar → Type 0
IsSmallNest far = AreSmallBounds far.nest × AreSmall far.values

-- Behind so many loops there are as many values, over the parameters and the nest's variables, of which there are no more;
-- and all are small.
pub record FarFits (program : AffineProgram) (level : ℕ) (far : NestSoFar) : Type 0 where
  pub few : length far.nest ≤ level
  pub many : length far.values ≡ level
  pub bounds : BoundsFit (length program.parameters) far.nest
  pub values : AllByRecursion (IsSmallOver (width program far)) far.values

-- what a step into a loop finds: the nest, where its numbers are small
abbrev pub FindsNest : AffineProgram → ℕ → NestSoFar → Option SoFar → Type 0
FindsNest program level next None = ¬ IsSmallNest next
FindsNest program level next (Some far) = (so_far far ≡ next) × FarFits program level (so_far far)

-- ---- outlines and terms

-- what a search for the outline of a read's opening term finds: it, and it fits; or nothing, and then no term within the limits
-- has it
abbrev pub FindsOutline : AffineProgram → ReadOf → Option Outline → Type 0
FindsOutline program reader None = (cold : Cold) → HasOpeningOutline program reader cold → AreSmallBounds cold.nest → AreSmall cold.point.items → ⊥
FindsOutline program reader (Some outline) = OutlineFits program (outline_of outline)
    × ((loops : List ℕ) × AreNamed program reader loops × (outline_of outline ≡ opening_outline program reader loops))

-- what a search for the opening term of a read finds: it; or nothing, and then the read isn't plain
abbrev pub FindsTerm : AffineProgram → ReadOf → Option Cold → Type 0
FindsTerm program reader None = ¬ IsPlainRead program reader
FindsTerm program reader (Some cold) = (reader_of cold ≡ reader) × IsOpeningTerm program reader cold

-- what a search for the opening term of a read of an array finds: it; or nothing, and then it isn't a plain read of the array
abbrev pub FindsRead : AffineProgram → ℕ → ReadOf → Option Cold → Type 0
FindsRead program array reader None = (reference_of program reader).array ≡ array → ¬ IsPlainRead program reader
FindsRead program array reader (Some cold) = (array_read program cold ≡ array) × ((reader_of cold ≡ reader) × IsOpeningTerm program reader cold)

-- no read of an array that comes before this one is plain
abbrev pub HasNoEarlier : AffineProgram → ℕ → ReadOf → Type 0
HasNoEarlier program array reader = (other : ReadOf) → IsEarlierRead other reader → (reference_of program other).array ≡ array → ¬ IsPlainRead program other

-- what a search for the first plain read of an array, among those before one, finds
abbrev pub FindsFirst : AffineProgram → ℕ → ReadOf → Option Cold → Type 0
FindsFirst program array end None = HasNoEarlier program array end
FindsFirst program array end (Some cold) = (array_read program cold ≡ array) × IsFirstOpening program cold
