-- What outputs and stores claim: their parts as plain lists.
use Rattle.std.specs.Prelude.{ℕ, List, map, Option}
use Rattle.iolb_model.specs.Form.{AffineForm}
use Rattle.affine_form.specs.Matrix.{IntegerMatrix}
use Rattle.affine_form.specs.Multipliers.{FarkasMultipliers}
use Rattle.domain_count.specs.Claims.{SumClaims}
use Rattle.store_terms.specs.declared.output.Output.{Output}
use Rattle.store_terms.specs.Limits.{StoresParts}

-- What an output claims: a nest, and how its points are counted; the loop values of a statement's instance at each, as forms
-- over the parameters and the nest's variables, and that it is in the statement's domain; a matrix which shows that different
-- points have different instances, where it turns these forms back into the scale times the nest's variables; and what shows
-- that no later instance writes the cell.
pub record OutputClaim : Type 0 where
  pub statement : ℕ
  pub nest : List (AffineForm × AffineForm)
  pub count : SumClaims
  pub point : List AffineForm
  pub inside : List FarkasMultipliers
  pub matrix : IntegerMatrix
  pub scale : ℕ
  pub later : List FarkasMultipliers

-- What stores claim: outputs; a branch of the certificate, whose wavefronts' computed words are counted too, if there is one;
-- and what shows that nothing is counted twice.
pub record StoresClaim : Type 0 where
  pub outputs : List OutputClaim
  pub branch : Option ℕ
  pub apart : List FarkasMultipliers

-- ---- what the parts of the code claim

abbrev pub claim_of_output : Output → OutputClaim
claim_of_output output = record {
  statement = output.statement;
  nest = output.nest;
  count = output.sums;
  point = output.point.items;
  inside = output.inside.items;
  matrix = output.inverse.matrix;
  scale = output.inverse.scale;
  later = output.later.items;
}

abbrev pub claim_of_stores : StoresParts → StoresClaim
claim_of_stores parts = record { outputs = map claim_of_output parts.outputs; branch = parts.branch; apart = parts.apart }
