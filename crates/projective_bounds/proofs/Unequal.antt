-- A test of two numbers that differ.
use Rattle.std.proofs.Common.{◌≡◌, ◌≢◌, refl, sym, ℕ, Bool, true, false}
use Rattle.std.specs.Prelude.{◌==◌}
use Rattle.std.proofs.lemmas.Bool.{eqb-true}

pub differs : (a b : ℕ) → a ≢ b → (a == b) ≡ false
differs a b h = by (a == b) refl where
  by : (c : Bool) → c ≡ (a == b) → (a == b) ≡ false
  by true e = absurd (h (eqb-true a b (sym e)))
  by false e = sym e
