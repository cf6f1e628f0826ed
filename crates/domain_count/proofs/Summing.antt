-- One summation, from its operations.
use Rattle.std.proofs.Common.{◌≡◌, refl, subst, ℕ, inl, inr}
use Rattle.std.specs.Prelude.{Result, Ok, Err, IfOk}
use Rattle.iolb_model.specs.Form.{AffineForm}
use Rattle.poly_tree.specs.Poly.{Quotient}
use Rattle.poly_tree.specs.declared.fault.PolyFault.{PolyFault}
use Rattle.poly_tree.specs.declared.fault.PolyFault.TheVariants.{Wide, Memory}
use Rattle.domain_count.specs.Antidifference.{less_one, IsShifted, IsSubtracted, IsSubstituted, IsBackwardDifference, IsBetween, BetweenPasses, FailsAs, IsAntidifference, SubtractionPasses, SubstitutionPasses}
use Rattle.domain_count.specs.Faults.{fault_of}

-- the faults of the second part of a summation
pub fails-second : (var : ℕ) (bounds : AffineForm × AffineForm) (summand sum : Quotient) (fault : PolyFault) → IsAntidifference var summand sum
    → (fault ≡ Wide → BetweenPasses var bounds sum) → FailsAs var bounds summand sum (fault_of fault)
fails-second var bounds summand sum Wide is h = inr (is, h refl)
fails-second var bounds summand sum Memory is h = tt

-- a difference from the shift and the subtraction
pub difference-of : (var : ℕ) (sum shifted : Quotient) (r : Result Quotient PolyFault) → IsShifted var sum shifted → IfOk r (λ less. IsSubtracted sum shifted less)
    → IfOk r (λ difference. IsBackwardDifference var sum difference)
difference-of var sum shifted (Ok less) shift h = record { shifted = shifted; shift = shift; less = h }
difference-of var sum shifted (Err fault) shift h = tt

-- a sum between bounds from its three operations
pub between-of : (var : ℕ) (bounds : AffineForm × AffineForm) (sum upper lower : Quotient) (before : AffineForm) (r : Result Quotient PolyFault) → before ≡ less_one bounds.0
    → IsSubstituted var bounds.1 sum upper → IsSubstituted var before sum lower → IfOk r (λ less. IsSubtracted upper lower less) → IfOk r (λ total. IsBetween var bounds sum total)
between-of var bounds sum upper lower before (Ok less) e u l h = record {
  upper = upper;
  lower = lower;
  at_upper = u;
  at_lower = subst (λ (f : AffineForm). IsSubstituted var f sum lower) e l;
  less = h;
}
between-of var bounds sum upper lower before (Err fault) e u l h = tt

pub passes-lower : (var : ℕ) (bounds : AffineForm × AffineForm) (sum upper : Quotient) (before : AffineForm) → before ≡ less_one bounds.0 → IsSubstituted var bounds.1 sum upper
    → SubstitutionPasses var before sum → BetweenPasses var bounds sum
passes-lower var bounds sum upper before e u h =
    inr (upper, (u, inl (subst (λ (f : AffineForm). SubstitutionPasses var f sum) e h)))

pub passes-last : (var : ℕ) (bounds : AffineForm × AffineForm) (sum upper lower : Quotient) (before : AffineForm) → before ≡ less_one bounds.0 → IsSubstituted var bounds.1 sum upper
    → IsSubstituted var before sum lower → SubtractionPasses upper lower → BetweenPasses var bounds sum
passes-last var bounds sum upper lower before e u l h =
    inr (upper, (u, inr (lower, (subst (λ (f : AffineForm). IsSubstituted var f sum lower) e l, h))))
