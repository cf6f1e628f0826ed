-- The limits of outputs and stores, beside those of their parts.
use Rattle.std.specs.Prelude.{ℕ, ◌≤◌, List, length, Option}
use Rattle.std.specs.List.{AllByRecursion}
use Rattle.affine_form.specs.Multipliers.{FarkasMultipliers}
use Rattle.certificate_fit.specs.Limits.{AreSmall, AreSmallBounds, IsSmallPolynomial, NameRows}
use Rattle.iolb_model.specs.declared.limits.TheConstants.{NEST_VARIABLES, SCALE}
use Rattle.store_terms.specs.declared.limits.TheConstants.{OUTPUTS}
use Rattle.store_terms.specs.declared.output.Output.{Output}

-- an output: at most 6 variables, and a scale from 1 to 2^20
pub record IsSmallOutput (output : Output) : Type 0 where
  pub variables : length output.nest ≤ NEST_VARIABLES
  pub bounds : AreSmallBounds output.nest
  pub shown : NameRows output.sums.shown
  pub sums : AllByRecursion IsSmallPolynomial output.sums.sums
  pub point : AreSmall output.point.items
  pub inside : NameRows output.inside.items
  pub some_scale : 1 ≤ output.inverse.scale
  pub scale : output.inverse.scale ≤ SCALE
  pub later : NameRows output.later.items

-- the parts of stores
pub record StoresParts : Type 0 where
  pub outputs : List Output
  pub branch : Option ℕ
  pub apart : List FarkasMultipliers

-- stores are within their limits: there are at most 16 outputs, and each is
pub record IsWithinLimits (parts : StoresParts) : Type 0 where
  pub few : length parts.outputs ≤ OUTPUTS
  pub outputs : AllByRecursion IsSmallOutput parts.outputs
  pub apart : NameRows parts.apart
