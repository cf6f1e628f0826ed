-- What accepted stores say of their outputs and of the wavefront terms that are counted beside them.
use Rattle.std.specs.Prelude.{ℕ, ◌≤◌, ℤ, List, ◌++◌, map}
use Rattle.std.specs.List.{AllByRecursion, AllZip}
use Rattle.iolb_model.specs.declared.game.Move.{Move}
use Rattle.affine_program.specs.Parts.{ProgramParts, meaning}
use Rattle.domain_count.specs.Count.{CountsPoints}
use Rattle.iolb_check.specs.Bounds.{IsCounting}
use Rattle.iolb_check.specs.Claims.{claim_of_certificate}
use Rattle.iolb_check.specs.Conditions.{MeetsConditions}
use Rattle.iolb_check.specs.Limits.{CertificateParts}
use Rattle.iolb_check.specs.Sound.{AreCounted, IsSoundBranch}
use Rattle.iolb_check.specs.declared.bound.Value.{Value}
use Rattle.iolb_model.specs.Bound.{IsAdmitted}
use Rattle.iolb_model.specs.Footprint.{AreApartFootprints, Footprint}
use Rattle.iolb_model.specs.Game.{IsCompletePebbling, stores}
use Rattle.iolb_model.specs.Graph.{computation_graph}
use Rattle.iolb_model.specs.Program.{AffineProgram}
use Rattle.last_writers.specs.Outputs.{IsSoundOutput, output_footprint}
use Rattle.poly_tree.specs.Poly.{IsLegal, Quotient}
use Rattle.store_bound.specs.Counted.{counted_fronts, counted_values}
use Rattle.store_bound.specs.Values.{store_value}
use Rattle.store_terms.specs.Claims.{OutputClaim, claim_of_output}
use Rattle.store_terms.specs.Limits.{StoresParts}
use Rattle.store_terms.specs.declared.output.Output.{Output}
use Rattle.wavefront.specs.Fronts.{front_footprint}
use Rattle.wavefront.specs.FrontTerm.{WavefrontTerm}

-- the instances that are counted among the stores: those of each output, and the words of each wavefront term that is counted
abbrev pub output_footprints : AffineProgram → List OutputClaim → List Footprint
output_footprints program outputs = map (output_footprint program) outputs

abbrev pub word_footprints : AffineProgram → List WavefrontTerm → List Footprint
word_footprints program fronts = map (front_footprint program) fronts

abbrev pub stored_footprints : ProgramParts → CertificateParts → StoresParts → List Footprint
stored_footprints program certificate stores =
    output_footprints (meaning program) (map claim_of_output stores.outputs)
    ++ word_footprints (meaning program) (counted_fronts (claim_of_certificate certificate) stores.branch)

-- a polynomial is the number of an output's instances at all admitted parameter values, of any size
pub record IsOutputCount (program : ProgramParts) (output : Output) (count : Quotient) : Type 0 where
  pub counts : CountsPoints (meaning program) output.nest count
  pub legal : IsLegal count
  pub counting : IsCounting program.assumed count

-- Stores are sound, beside a certificate and with these counts: the instances of each output write their cells last and differ,
-- and are as many as its count; and no two outputs have one in common, nor an output and a wavefront term that is counted, nor
-- two of these terms.
pub record AreSoundStores (program : ProgramParts) (certificate : CertificateParts) (stores : StoresParts) (counts : List Quotient) : Type 0 where
  pub outputs : AllByRecursion (IsSoundOutput (meaning program)) (map claim_of_output stores.outputs)
  pub counted : AllZip (IsOutputCount program) stores.outputs counts
  pub apart : AreApartFootprints (meaning program) (stored_footprints program certificate stores)

-- what a check says of a certificate that it accepts, with these values of its terms
pub record IsAccepted (program : ProgramParts) (certificate : CertificateParts) (branches : List (List Value)) : Type 0 where
  pub meets : MeetsConditions (meaning program) (claim_of_certificate certificate) branches
  pub sound : AllByRecursion (IsSoundBranch program) certificate.branches
  pub counts : AllZip (AreCounted program) certificate.branches branches

-- Every complete pebbling makes at least as many stores as the value of sound stores beside an accepted certificate.
abbrev pub SoundStoresAreMade : Type 0
SoundStoresAreMade = (program : ProgramParts) (certificate : CertificateParts) (stored : StoresParts) (branches : List (List Value)) (counts : List Quotient) (values : List ℤ) (s : ℕ) (moves : List Move)
    → IsAccepted program certificate branches → AreSoundStores program certificate stored counts
    → IsAdmitted (meaning program) values → IsCompletePebbling (computation_graph (meaning program) values) s moves
    → store_value counts (counted_values (claim_of_certificate certificate) stored.branch branches) values s ≤ stores moves
