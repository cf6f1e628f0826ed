-- Cold terms that are shown over a source tree.
use Rattle.std.specs.Prelude.{◌≡◌, List, length, map, Option, Some, None}
use Rattle.std.specs.List.{AllByRecursion}
use Rattle.iolb_model.specs.Program.{AffineProgram}
use Rattle.flow_deps.specs.declared.wanted.Wanted.{Wanted}
use Rattle.flow_deps.specs.declared.wanted.Wanted.TheVariants.{Short}
use Rattle.flow_deps.specs.Answers.{IsAsShort}
use Rattle.claims.specs.Claims.{AllHold}
use Rattle.claims.specs.declared.place.Step.{Step}
use Rattle.dep_quast.specs.Tree.{SelectionTree}
use Rattle.domain_count.specs.Made.{AreMade}
use Rattle.reuse_paths.specs.LeafClaims.{claim_of}
use Rattle.wavefront.specs.declared.cold.Cold.{Cold}
use Rattle.wavefront.specs.ColdClaims.{cold_claims}
use Rattle.wavefront.specs.ColdPieces.{leaves_of}
use Rattle.wavefront.specs.Loads.{ColdFits}
use Rattle.wavefront.specs.View.{term_of}
use Rattle.iolb_check.specs.Limits.{IsSmallCold}
use Rattle.projective_bounds.specs.HeldColds.{ArePolynomials}
use Rattle.cold_terms.specs.Entries.{AreEntries, IsEntryAsShort}
use Rattle.cold_terms.specs.Outline.{ColdOutline, outline_in}

-- the multipliers of a cold term are as short as is wanted
pub record IsColdAsShort (wanted : Wanted) (cold : Cold) : Type 0 where
  pub ranges : AllByRecursion (IsAsShort wanted) cold.sums.shown
  pub inside : AllByRecursion (IsAsShort wanted) cold.inside.items
  pub leaves : AllByRecursion (IsEntryAsShort wanted) (map claim_of cold.leaves.items)

-- A cold term is shown over the source tree of its read: it fits them, all that it claims holds wherever the term stands, and
-- it is within the limits of certificates. Its polynomials are those of the summation, it stops at inputs alone, and its
-- multipliers are as short as is wanted.
pub record IsShownCold (wanted : Wanted) (program : AffineProgram) (tree : SelectionTree) (cold : Cold) : Type 0 where
  pub fits : ColdFits program tree (term_of cold)
  pub one_each : length cold.sums.shown ≡ length cold.nest
  pub polynomials : ArePolynomials (length program.parameters) cold.nest cold.sums.sums
  pub holds : (place : List Step) → AllHold (cold_claims program place tree (term_of cold))
  pub small : IsSmallCold cold
  pub made : AreMade (length program.parameters) cold.nest cold.sums.sums
  pub entries : AreEntries (leaves_of program tree (term_of cold)) (map claim_of cold.leaves.items)
  pub as_short : IsColdAsShort wanted cold

-- What a search for a cold term of an outline finds: one that is shown, as short as is wanted; or nothing, and then no short
-- lists show one.
abbrev pub FindsCold : Wanted → AffineProgram → SelectionTree → ColdOutline → Option Cold → Type 0
FindsCold wanted program tree outline None = (cold : Cold) → outline_in (term_of cold) ≡ outline → ¬ IsShownCold Short program tree cold
FindsCold wanted program tree outline (Some cold) = (outline_in (term_of cold) ≡ outline) × IsShownCold wanted program tree cold
