-- Wavefront terms: for each point of a nest a word that is there when a vertex is computed, and a user of the word that isn't
-- computed before. (Elango et al. 2014, by loads alone.)
use Rattle.std.specs.Prelude.{ℕ, List, take, Option}
use Rattle.iolb_model.specs.Form.{AffineForm}
use Rattle.affine_form.specs.Matrix.{IntegerMatrix}
use Rattle.affine_form.specs.Multipliers.{FarkasMultipliers}
use Rattle.dep_quast.specs.Context.{ReadOf}
use Rattle.domain_count.specs.Claims.{SumClaims}
use Rattle.poly_tree.specs.Poly.{Quotient}
use Rattle.reuse_paths.specs.LeafClaims.{LeafClaim}
use Rattle.reuse_paths.specs.Walks.{SpotForms, ReachClaim}

-- What a wavefront term claims: a nest, how its points are counted, and how those of its first variables are, so many of
-- them; the vertex, the user, which of its reads takes the word, and the word's instance, unless it is an input; that
-- these are in their domains; a matrix which shows that different points have different words; what is claimed at the leaves
-- of the read's source tree; and what shows that a walk back from the vertex arrives at the word's instance, and one from the
-- user at the vertex.
pub record WavefrontTerm : Type 0 where
  pub nest : List (AffineForm × AffineForm)
  pub outer : ℕ
  pub count : SumClaims
  pub outer_sums : List Quotient
  pub vertex : SpotForms
  pub user : SpotForms
  pub read : ℕ
  pub source : Option SpotForms
  pub inside : List FarkasMultipliers
  pub matrix : IntegerMatrix
  pub scale : ℕ
  pub edge : List LeafClaim
  pub reach : Option ReachClaim
  pub back : ReachClaim

-- the nest of its first variables
abbrev pub outer_nest : WavefrontTerm → List (AffineForm × AffineForm)
outer_nest term = take term.outer term.nest

-- the read that takes the word
abbrev pub user_read : WavefrontTerm → ReadOf
user_read term = record { statement = term.user.statement; read = term.read }
