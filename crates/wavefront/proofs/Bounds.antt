-- The polynomial that counts a cold term's points is the value of a term with its footprint.
use Rattle.std.proofs.Common.{sym, subst, ℕ, ◌≤◌}
use Rattle.iolb_model.specs.Program.{AffineProgram}
use Rattle.iolb_model.specs.Bound.{cold}
use Rattle.iolb_model.specs.Footprint.{CostsItsValue}
use Rattle.iolb_model.specs.Game.{loads_of}
use Rattle.poly_tree.specs.Poly.{Quotient, IsLegal}
use Rattle.poly_tree.specs.Printed.{polynomial_of, TermsHaveTheValue}
use Rattle.domain_count.specs.Count.{CountsPoints}
use Rattle.domain_count.proofs.Counted.{counted}
use Rattle.wavefront.specs.Term.{ColdTerm}
use Rattle.wavefront.specs.Loads.{footprint_of, HasFootprint, CostsItsCount}

pub footprint-is : (program : AffineProgram) (term : ColdTerm) (q : Quotient) → IsLegal q → CountsPoints program term.nest q → TermsHaveTheValue
    → HasFootprint program term → CostsItsCount program term → CostsItsValue program (cold (polynomial_of q)) (footprint_of program term)
footprint-is program term q legal counts value vertices costs = record {
  vertices = vertices;
  loaded = λ values s moves admitted some game.
      subst (λ (n : ℕ). n ≤ loads_of (footprint_of program term values) moves)
      (sym (counted program term.nest q values legal counts value admitted))
      (costs values s moves admitted game);
}
