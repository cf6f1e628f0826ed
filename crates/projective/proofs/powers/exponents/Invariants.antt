use Rattle.std.proofs.Common.{◌≡◌, ◌≤◌, ℕ, length, take}
use Rattle.std.specs.Prelude.{ℤ}
use Rattle.std.specs.List.{AllByRecursion}
use Rattle.poly_tree.specs.Expansion.{powers_from}
use Rattle.projective.specs.Products.{product_of}
use Rattle.projective.proofs.powers.exponents.Given as goal

abbrev pub invariant-loop-variable : goal.invariant-loop-variable
invariant-loop-variable l =
    (length l.exponents.items ≡ l.count) × AllByRecursion (λ (exponent : ℕ). exponent ≤ l.variable-index) l.exponents.items
    × ((values : ℕ → ℤ) → powers_from l.exponents.items 0 values ≡ product_of (take l.variable-index l.variables) values)
