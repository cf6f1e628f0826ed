-- An instance that is executed stands at its place, and at no other.
use Rattle.std.proofs.Common.{◌≡◌, refl, sym, ap, subst, inl, inr, ℕ, suc, ◌+◌, Bool, true, false, cond, not, List, ◌∷◌, [], arith}
use Rattle.std.specs.Prelude.{◌==◌, ℤ, Some, slice_get}
use Rattle.std.specs.List.{position_or_len}
use Rattle.std.specs.Ordering.{int_eq}
use Rattle.std.specs.Cmp.{signed_Decides}
use Rattle.std.proofs.lemmas.Bool.{eqb-true, eq-eqb, and_from, and_parts}
use Rattle.std.proofs.lemmas.Slice.Eq.{slice_eq-Decides}
use lib.Pointwise.{pointwise}
use Rattle.iolb_model.specs.Domain.{IsAt}
use Rattle.iolb_model.specs.Execution.{Instance, execution}
use Rattle.iolb_model.specs.Program.{AffineProgram, IsWellFormed}
use Rattle.execution_laws.proofs.Members.{Member, Member-slice_get}
use Rattle.execution_laws.proofs.Orders.{executed_once}
use Rattle.reuse_paths.specs.Places.{same_instance, place_of, IsExecuted}

same_instance-equal : (a b : Instance) → same_instance a b ≡ true → a ≡ b
same_instance-equal a b e =
    let parts : ((a.statement == b.statement) ≡ true) × (pointwise int_eq a.values b.values ≡ true) = and_parts (a.statement == b.statement) (pointwise int_eq a.values b.values) e in
    let first : a.statement ≡ b.statement = eqb-true a.statement b.statement parts.0 in
    let second : a.values ≡ b.values = (slice_eq-Decides signed_Decides a.values b.values (pointwise int_eq a.values b.values) refl).0 parts.1 in
    λ i. record { statement = first i; values = second i }

same_instance_refl : (a : Instance) → same_instance a a ≡ true
same_instance_refl a =
    and_from (a.statement == a.statement) (pointwise int_eq a.values a.values) (eq-eqb a.statement a.statement refl)
    ((slice_eq-Decides signed_Decides a.values a.values (pointwise int_eq a.values a.values) refl).1 refl)

place_first : (a y : Instance) (runs : List Instance) (n : ℕ) → Member a (y ∷ runs) → (Member a runs → slice_get runs n ≡ Some a)
    → (b : Bool) → b ≡ same_instance a y → slice_get (y ∷ runs) (cond (not b) (1 + n) 0) ≡ Some a
place_first a y runs n m here true e = ap Some (sym (same_instance-equal a y (sym e)))
place_first a y runs n (inl w) here false e = absurd (let yes : same_instance a y ≡ true = subst (λ (z : Instance). same_instance a z ≡ true) w (same_instance_refl a) in cc)
place_first a y runs n (inr m) here false e = let one : 1 + n ≡ suc n = omega arith in rw one (here m)

place-Member : (a : Instance) (runs : List Instance) → Member a runs → slice_get runs (position_or_len (same_instance a) runs) ≡ Some a
place-Member a [] m = absurd m
place-Member a (y ∷ runs) m = place_first a y runs (position_or_len (same_instance a) runs) m (place-Member a runs) (same_instance a y) refl

pub executed-there : (program : AffineProgram) (parameters : List ℤ) (n : ℕ) (instance : Instance) → IsAt program parameters n instance → IsExecuted program parameters instance
executed-there program parameters n instance at =
    place-Member instance (execution program parameters) (Member-slice_get (execution program parameters) n instance at)

pub stands-alone : (program : AffineProgram) (parameters : List ℤ) (n : ℕ) (instance : Instance) → IsWellFormed program → IsAt program parameters n instance → n ≡ place_of program parameters instance
stands-alone program parameters n instance formed at =
    executed_once program parameters instance n (place_of program parameters instance) formed at (executed-there program parameters n instance at)
