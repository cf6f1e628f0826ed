-- The polynomials that count a wavefront term's points, and those of its outer variables, are the value of a term with its
-- footprint.
use Rattle.std.proofs.Common.{◌≡◌, sym, subst, ℕ, ◌+◌, ◌-◌, ◌*◌, ◌≤◌, arith}
use Rattle.iolb_model.specs.Program.{AffineProgram}
use Rattle.iolb_model.specs.Bound.{count_value, wavefront}
use Rattle.iolb_model.specs.Footprint.{CostsItsValue}
use Rattle.iolb_model.specs.Game.{loads_of}
use Rattle.poly_tree.specs.Poly.{Quotient, IsLegal}
use Rattle.poly_tree.specs.Printed.{polynomial_of, TermsHaveTheValue}
use Rattle.domain_count.specs.Count.{CountsPoints}
use Rattle.domain_count.specs.Points.{count}
use Rattle.domain_count.proofs.Counted.{counted}
use Rattle.wavefront.specs.FrontTerm.{WavefrontTerm, outer_nest}
use Rattle.wavefront.specs.Fronts.{IsSoundFront, front_footprint}
use Rattle.wavefront.proofs.FrontLoads.{fronts-loaded, fronts-vertices}

pub front-footprint-is : (program : AffineProgram) (term : WavefrontTerm) (pairs outer : Quotient) → IsLegal pairs → IsLegal outer → CountsPoints program term.nest pairs
    → CountsPoints program (outer_nest term) outer → TermsHaveTheValue → IsSoundFront program term
    → CostsItsValue program (wavefront (polynomial_of pairs) (polynomial_of outer)) (front_footprint program term)
front-footprint-is program term pairs outer legal_pairs legal_outer counts_pairs counts_outer value sound = record {
  vertices = λ values admitted. fronts-vertices program term values (sound values admitted);
  loaded = λ values s moves admitted some game.
      less s (count_value (polynomial_of pairs) values) (count_value (polynomial_of outer) values) (count term.nest values) (count (outer_nest term) values) (loads_of (front_footprint program term values) moves)
      (counted program term.nest pairs values legal_pairs counts_pairs value admitted) (counted program (outer_nest term) outer values legal_outer counts_outer value admitted)
      (fronts-loaded program term values s moves (sound values admitted) game);
} where
  less : (s p o m n l : ℕ) → p ≡ m → o ≡ n → m ≤ l + s * n → p - s * o ≤ l
  less s p o m n l e f h = subst (λ (x : ℕ). x - s * o ≤ l) (sym e) (subst (λ (x : ℕ). m - s * x ≤ l) (sym f) (omega (arith, h)))
