-- What is asked of lengths and numbers, each at its place (condition 1).
use Rattle.std.specs.Prelude.{◌≡◌, ℕ, ◌<◌, List}
use Rattle.claims.specs.Claims.{Claim}
use Rattle.claims.specs.declared.place.Step.{Step}
use Rattle.poly_tree.specs.Expansion.{IsCanonical}
use Rattle.poly_tree.specs.Poly.{Quotient}

-- a list is as long as called for
abbrev pub so_many : List Step → ℕ → ℕ → Claim
so_many place found called = record { condition = 1; place = place; statement = found ≡ called }

-- a number names one of so many things
abbrev pub names : List Step → ℕ → ℕ → Claim
names place number count = record { condition = 1; place = place; statement = number < count }

-- a polynomial uses only so many variables
abbrev pub uses : List Step → Quotient → ℕ → Claim
uses place polynomial variables = record { condition = 1; place = place; statement = IsCanonical variables polynomial.tree }
