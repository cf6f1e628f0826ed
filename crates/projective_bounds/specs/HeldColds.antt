-- Cold terms that hold over a source tree.
use Rattle.std.specs.Prelude.{◌≡◌, ℕ, List, length, map, Some}
use Rattle.std.specs.List.{AllByRecursion}
use Rattle.iolb_model.specs.Form.{AffineForm}
use Rattle.iolb_model.specs.Program.{AffineProgram}
use Rattle.claims.specs.Claims.{AllHold}
use Rattle.claims.specs.declared.place.Step.{Step}
use Rattle.dep_quast.specs.Context.{ReadOf, reference_of}
use Rattle.dep_quast.specs.Tree.{SelectionTree}
use Rattle.certificate_fit.specs.Limits.{IsSmallPolynomial}
use Rattle.certificate_fit.specs.PartFit.{polynomials_fit}
use Rattle.poly_tree.specs.Poly.{Quotient}
use Rattle.reuse_paths.specs.LeafClaims.{claim_of}
use Rattle.dep_quast.specs.Quasts.{tree_at, tree_for}
use Rattle.wavefront.specs.declared.cold.Cold.{Cold}
use Rattle.wavefront.specs.ColdClaims.{cold_claims}
use Rattle.wavefront.specs.ColdPieces.{leaves_of}
use Rattle.wavefront.specs.Loads.{ColdFits}
use Rattle.wavefront.specs.View.{term_of}
use Rattle.iolb_check.specs.Limits.{IsSmallCold}
use Rattle.cold_terms.specs.Entries.{AreEntries}

-- the read of a cold term, and the array that it reads
abbrev pub reader_of : Cold → ReadOf
reader_of cold = record { statement = cold.statement; read = cold.read }

abbrev pub array_read : AffineProgram → Cold → ℕ
array_read program cold = (reference_of program (reader_of cold)).array

-- a nest's polynomials are within the limits of certificates, and each uses the parameters and the variables up to its own
pub record ArePolynomials (params : ℕ) (nest : List (AffineForm × AffineForm)) (sums : List Quotient) : Type 0 where
  pub small : AllByRecursion IsSmallPolynomial sums
  pub uses : (place : List Step) → AllHold (polynomials_fit params place sums (length nest))

-- A cold term holds over the source tree of its read: it fits them, all that it claims holds wherever the term stands, it is
-- within the limits of certificates, and it stops at inputs alone.
pub record IsHeldCold (program : AffineProgram) (tree : SelectionTree) (cold : Cold) : Type 0 where
  pub fits : ColdFits program tree (term_of cold)
  pub one_each : length cold.sums.shown ≡ length cold.nest
  pub polynomials : ArePolynomials (length program.parameters) cold.nest cold.sums.sums
  pub holds : (place : List Step) → AllHold (cold_claims program place tree (term_of cold))
  pub small : IsSmallCold cold
  pub entries : AreEntries (leaves_of program tree (term_of cold)) (map claim_of cold.leaves.items)

-- A cold term stands over the source trees of a program's reads: that of its read is there, the term holds over it, and a matrix
-- without rows has no columns either, since it is written as the list of its rows.
pub record IsPlaced (program : AffineProgram) (trees : List (List SelectionTree)) (cold : Cold) : Type 0 where
  pub there : tree_at trees cold.statement cold.read ≡ Some (tree_for trees (reader_of cold))
  pub shown : IsHeldCold program (tree_for trees (reader_of cold)) cold
  pub no_rows : cold.inverse.matrix.rows ≡ 0 → cold.inverse.matrix.columns ≡ 0
