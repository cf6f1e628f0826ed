-- Right claims have one answer.
use Rattle.std.specs.Prelude.{◌≡◌, List}
use Rattle.iolb_model.specs.Form.{AffineForm}
use Rattle.iolb_model.specs.Program.{AffineProgram}
use Rattle.poly_tree.specs.Poly.{Quotient}
use Rattle.domain_count.specs.Claims.{SumClaims}
use Rattle.domain_count.specs.Count.{IsCount}

-- They give one polynomial.
abbrev pub RightClaimsGiveOne : Type 0
RightClaimsGiveOne = (program : AffineProgram) (nest : List (AffineForm × AffineForm)) (claims : SumClaims) (one other : Quotient)
    → IsCount program nest claims one → IsCount program nest claims other → one ≡ other
