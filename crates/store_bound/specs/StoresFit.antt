-- What is asked of stores: that they fit a program and a certificate (condition 1), in the order of a walk through their text.
use Rattle.std.specs.Prelude.{ℕ, ◌==◌, List, [], ◌∷◌, ◌++◌, filter, filter_map, flat_map, length, map, Option, Some, None, codes}
use Rattle.affine_form.specs.System.{AffineSystem}
use Rattle.certificate_fit.specs.FitClaims.{names}
use Rattle.certificate_fit.specs.PartFit.{shown_fit}
use Rattle.claims.specs.Claims.{Claim, numbered}
use Rattle.claims.specs.declared.place.Step.{Step}
use Rattle.claims.specs.declared.place.Step.TheVariants.{Index, Key}
use Rattle.footprint_pieces.specs.DisjointClaims.{pairwise_systems, shared_systems}
use Rattle.footprint_pieces.specs.Pieces.{FootprintPiece}
use Rattle.iolb_check.specs.Claims.{CertificateClaim, TermClaim}
use Rattle.iolb_model.specs.Program.{AffineProgram}
use Rattle.last_writers.specs.OutputFit.{output_fit}
use Rattle.last_writers.specs.Outputs.{output_piece}
use Rattle.store_bound.specs.Counted.{counted_fronts, word_statement}
use Rattle.store_terms.specs.Claims.{OutputClaim, StoresClaim}
use Rattle.store_terms.specs.declared.output.Output.{Output}
use Rattle.wavefront.specs.FrontPieces.{front_piece}
use Rattle.wavefront.specs.FrontTerm.{WavefrontTerm}

-- ---- that nothing is counted twice

-- The systems of two pieces of which no vertex may be in both: of outputs with one statement, each with each later one; and
-- then of each output and each counted wavefront term whose words that statement computed.
abbrev pub output_pieces : AffineProgram → List OutputClaim → List FootprintPiece
output_pieces program outputs = map (output_piece program) outputs

abbrev pub single_pieces : AffineProgram → List OutputClaim → List (List FootprintPiece)
single_pieces program outputs = map (λ (output : OutputClaim). output_piece program output ∷ []) outputs

abbrev pub systems_of : AffineProgram → List OutputClaim → List WavefrontTerm → List AffineSystem
systems_of program outputs fronts =
    pairwise_systems program (single_pieces program outputs) ++ shared_systems program (output_pieces program outputs) (map (front_piece program) fronts)

abbrev pub apart_systems : AffineProgram → CertificateClaim → StoresClaim → List AffineSystem
apart_systems program certificate stores = systems_of program stores.outputs (counted_fronts certificate stores.branch)

-- ---- how many pairs there are, by the statements alone

-- for each of some numbers the later ones that are the same, and for each of some numbers those of others that are
abbrev pub output_pairs : List ℕ → List ℕ
output_pairs [] = []
output_pairs (statement ∷ statements) = filter (λ other. statement == other) statements ++ output_pairs statements

abbrev pub word_pairs : List ℕ → List ℕ → List ℕ
word_pairs statements words = flat_map (λ statement. filter (λ other. statement == other) words) statements

-- the statements of outputs, and those that computed the words of terms
abbrev pub statements_of : List Output → List ℕ
statements_of outputs = map (λ (output : Output). output.statement) outputs

abbrev pub word_statements : List TermClaim → List ℕ
word_statements terms = filter_map word_statement terms

-- ---- condition 1

-- the place of an output
abbrev pub output_place : ℕ → List Step
output_place index = Key (codes "outputs") ∷ Index index ∷ []

abbrev pub output_fit_at : AffineProgram → ℕ → OutputClaim → List Claim
output_fit_at program index output = output_fit program (output_place index) output

-- the branch, if one is named, is there
abbrev pub branch_fit : CertificateClaim → Option ℕ → List Claim
branch_fit certificate None = []
branch_fit certificate (Some branch) = names (Key (codes "branch") ∷ []) branch (length certificate.branches) ∷ []

-- Stores fit a program and a certificate where all of these hold: multipliers for each pair, then the branch, then the outputs.
abbrev pub stores_fit : AffineProgram → CertificateClaim → StoresClaim → List Claim
stores_fit program certificate stores =
    shown_fit (length (apart_systems program certificate stores)) (Key (codes "apart") ∷ []) stores.apart
    ∷ branch_fit certificate stores.branch ++ numbered (output_fit_at program) 0 stores.outputs
