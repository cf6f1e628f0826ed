-- What a certificate and stores say of loads and stores together.
use Rattle.std.specs.Prelude.{ℕ, ℤ, List}
use Rattle.iolb_check.specs.Claims.{CertificateClaim}
use Rattle.iolb_check.specs.declared.bound.Value.{Value}
use Rattle.iolb_model.specs.Bound.{bound_value}
use Rattle.iolb_model.specs.Program.{AffineProgram}
use Rattle.poly_tree.specs.Poly.{Quotient}
use Rattle.store_bound.specs.Counted.{counted_values}
use Rattle.store_bound.specs.Values.{store_value}
use Rattle.store_terms.specs.Claims.{StoresClaim}
use Rattle.iolb_commands.specs.Task.{bound_with}

-- The value of the bound, in loads.
abbrev pub traffic_loads : AffineProgram → List (List Value) → List ℤ → ℕ → ℕ
traffic_loads program values sizes s = bound_value (bound_with program values) sizes s

-- The value of the stores: the counts of their outputs, and those of the computed wavefront words of the branch that they name.
abbrev pub traffic_stores : CertificateClaim → StoresClaim → List (List Value) → List Quotient → List ℤ → ℕ → ℕ
traffic_stores certificate stores values counts sizes s = store_value counts (counted_values certificate stores.branch values) sizes s
