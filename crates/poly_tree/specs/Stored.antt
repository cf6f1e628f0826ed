-- How the logic stores a polynomial: as the steps by which a machine with two stacks makes it again.
use mathlib.Core.Path.{refl, ◌∙◌}
use Rattle.std.specs.Prelude.{◌≡◌, ℕ, zero, suc, ℤ, pos, unsigned_abs, List, [], ◌∷◌}
use Rattle.std.specs.Coded.{Coded, code_by, coded×, coded_ℕ, coded_ℤ, coded_list}
use Rattle.poly_tree.specs.Expansion.{Expansion, Parts, number, over, none, part, zero_expansion}
use Rattle.poly_tree.specs.Poly.{Quotient}

-- a polynomial's steps, and those after it: step 0 puts a number, 1 no parts, 2 a part before parts, and 3 parts in a variable
abbrev mutual
  pub steps : Expansion → List (ℕ × ℤ) → List (ℕ × ℤ)
  steps (number n) after = (0, n) ∷ after
  steps (over v ps) after = parts_steps ps ((3, pos v) ∷ after)

  pub parts_steps : Parts → List (ℕ × ℤ) → List (ℕ × ℤ)
  parts_steps none after = (1, pos 0) ∷ after
  parts_steps (part t ps) after = parts_steps ps (steps t ((2, pos 0) ∷ after))

-- the machine's stacks, of polynomials and of parts
pub record Stacks : Type 0 where
  pub polynomials : List Expansion
  pub parts : List Parts

-- the top of a stack, and what is below it
abbrev pub top_polynomial : List Expansion → Expansion
top_polynomial [] = zero_expansion
top_polynomial (t ∷ ts) = t

abbrev pub top_parts : List Parts → Parts
top_parts [] = none
top_parts (ps ∷ pss) = ps

abbrev pub below_polynomial : List Expansion → List Expansion
below_polynomial [] = []
below_polynomial (t ∷ ts) = ts

abbrev pub below_parts : List Parts → List Parts
below_parts [] = []
below_parts (ps ∷ pss) = pss

-- the stacks after one step
abbrev pub stepped : ℕ → ℤ → Stacks → Stacks
stepped zero n s = record { polynomials = number n ∷ s.polynomials; parts = s.parts }
stepped (suc zero) n s = record { polynomials = s.polynomials; parts = none ∷ s.parts }
stepped (suc (suc zero)) n s = record { polynomials = below_polynomial s.polynomials; parts = part (top_polynomial s.polynomials) (top_parts s.parts) ∷ below_parts s.parts }
stepped (suc (suc (suc k))) n s = record { polynomials = over (unsigned_abs n) (top_parts s.parts) ∷ s.polynomials; parts = below_parts s.parts }

-- the polynomial on top after all steps
abbrev pub made_by : List (ℕ × ℤ) → Stacks → Expansion
made_by [] s = top_polynomial s.polynomials
made_by (step ∷ rest) s = made_by rest (stepped step.0 step.1 s)

-- A polynomial's steps put it on top.
mutual
  pub steps-make : (t : Expansion) (after : List (ℕ × ℤ)) (s : Stacks)
      → made_by (steps t after) s ≡ made_by after (record { polynomials = t ∷ s.polynomials; parts = s.parts })
  steps-make (number n) after s = refl
  steps-make (over v ps) after s = parts-make ps ((3, pos v) ∷ after) s

  pub parts-make : (ps : Parts) (after : List (ℕ × ℤ)) (s : Stacks)
      → made_by (parts_steps ps after) s ≡ made_by after (record { polynomials = s.polynomials; parts = ps ∷ s.parts })
  parts-make none after s = refl
  parts-make (part t ps) after s =
      parts-make ps (steps t ((2, pos 0) ∷ after)) s
      ∙ steps-make t ((2, pos 0) ∷ after) (record { polynomials = s.polynomials; parts = ps ∷ s.parts })

abbrev pub empty_stacks : Stacks
empty_stacks = record { polynomials = []; parts = [] }

abbrev pub expansion_code : Coded Expansion
expansion_code = code_by (List (ℕ × ℤ)) (coded_list (coded× coded_ℕ coded_ℤ)) (λ t. steps t []) (λ all. made_by all empty_stacks) (λ t. steps-make t [] empty_stacks)

-- a polynomial over a denominator is stored as the pair of both
abbrev pub quotient_code : Coded Quotient
quotient_code = code_by (Expansion × ℕ) (coded× expansion_code coded_ℕ) (λ q. (q.tree, q.denominator)) (λ p. record { tree = p.0; denominator = p.1 }) (λ _. refl)
