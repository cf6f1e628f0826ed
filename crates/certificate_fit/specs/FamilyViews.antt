-- What is asked of credits, as the code holds them.
use Rattle.std.specs.Prelude.{ℕ, List, [], ◌∷◌, ◌++◌}
use Rattle.iolb_model.specs.Program.{AffineProgram}
use Rattle.claims.specs.Claims.{Claim, numbered}
use Rattle.claims.specs.declared.place.Step.{Step}
use Rattle.claims.specs.declared.place.Step.TheVariants.{Index}
use Rattle.reuse_paths.specs.declared.family.Credit.{Credit}
use Rattle.reuse_paths.specs.Families.{credit_of}
use Rattle.certificate_fit.specs.FamilyFit.{credit_fit}

-- credits, each at its index in a list
abbrev pub credit_at : AffineProgram → List Step → ℕ → Credit → List Claim
credit_at program place index credit = credit_fit program (place ++ Index index ∷ []) (credit_of credit) credit.sums

abbrev pub credits_fit : AffineProgram → List Step → List Credit → List Claim
credits_fit program place credits = numbered (credit_at program place) 0 credits
