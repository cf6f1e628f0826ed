-- The values of loops of which some have a variable each, and the others are 0.
use Rattle.std.proofs.Common.{◌≡◌, ◌≢◌, refl, sym, ◌∙◌, ap, inl, inr, ℕ, zero, suc, ◌+◌, ◌<◌, Bool, true, false, List, [], ◌∷◌, length, map, get_or, arith, lit<}
use Rattle.std.specs.Prelude.{◌⊎◌, ◌==◌, if◌then◌else◌}
use Rattle.std.specs.List.{AllByRecursion, range_with_len}
use Rattle.std.proofs.Math.IntN.{pos}
use Rattle.std.proofs.lemmas.Bool.{eq-eqb}
use Rattle.std.proofs.lemmas.List.{length-map, length-replicate, get_or-map}
use Rattle.base_laws.proofs.Lists.{All-at, All-replicate}
use Rattle.iolb_model.specs.Form.{AffineForm, form_value}
use Rattle.iolb_model.specs.Program.{AffineProgram}
use Rattle.affine_form.specs.Combination.{constant_form}
use Rattle.flow_deps.proofs.SmallForms.{variable-small}
use Rattle.affine_form.specs.Form.{IsSmall}
use Rattle.affine_form.specs.Rows.{IsSmallOver, variable}
use Rattle.projective.specs.Projective.{AreDifferent}
use Rattle.projective_bounds.proofs.Unequal.{differs}
use Rattle.projective.proofs.NestRows.{AreWorth, worth-same}
use Rattle.projective.proofs.ProjectiveFacts.{same-place}
use Rattle.projective_bounds.specs.Families.{loop_form, loops_label}
use Rattle.projective_bounds.specs.Outline.{value_among}
use Rattle.iolb_model.specs.declared.limits.TheConstants.{NUMBER_SIZE}

-- ---- one loop

-- the loop at a place among some that are different has the variable of that place
pub value-at : (program : AffineProgram) (vars place : ℕ) (loops : List ℕ) (k : ℕ) → AreDifferent (loops_label program loops) → k < length loops
    → value_among vars place loops (get_or loops k 0) ≡ variable vars (place + k)
value-at program vars place [] k apart below = absurd (omega arith)
value-at program vars place (l ∷ loops) zero apart below =
    ap (λ (b : Bool). if b then variable vars place else value_among vars (suc place) loops l) (eq-eqb l l refl) ∙ ap (variable vars) (none place) where
      none : (n : ℕ) → n ≡ n + 0
      none n = omega arith
value-at program vars place (l ∷ loops) (suc k) apart below =
    ap (λ (b : Bool). if b then variable vars place else value_among vars (suc place) loops (get_or loops k 0)) (differs l (get_or loops k 0) other)
    ∙ value-at program vars (suc place) loops k apart.1 (omega arith) ∙ ap (variable vars) (moved place k) where
      other : l ≢ get_or loops k 0
      other e =
          All-at (λ (form : AffineForm). form ≢ loop_form program l) (loops_label program loops) k (loop_form program 0) apart.0 (omega (arith, below, length-map loops (loop_form program)))
          (get_or-map (loop_form program) loops k 0 (loop_form program 0) (omega arith) ∙ ap (loop_form program) (sym e))

      moved : (m n : ℕ) → suc m + n ≡ m + suc n
      moved m n = omega arith

-- another loop has 0
pub value-other : (vars place : ℕ) (loops : List ℕ) (level : ℕ) → AllByRecursion (λ (l : ℕ). l ≢ level) loops → value_among vars place loops level ≡ constant_form vars (pos 0)
value-other vars place [] level h = refl
value-other vars place (l ∷ loops) level h =
    ap (λ (b : Bool). if b then variable vars place else value_among vars (suc place) loops level) (differs l level h.0) ∙ value-other vars (suc place) loops level h.1

-- a loop is one of some, or another
abbrev pub IsAt : ℕ → List ℕ → Type 0
IsAt level loops = (k : ℕ) × (k < length loops) × (get_or loops k 0 ≡ level)

pub among : (level : ℕ) (loops : List ℕ) → IsAt level loops ⊎ AllByRecursion (λ (l : ℕ). l ≢ level) loops
among level [] = inr tt
among level (l ∷ loops) = elim (same-place l level) [
  | inl e ↦ inl (0, omega arith, e)
  | inr other ↦ elim (among level loops) [
    | inl there ↦ inl (suc there.0, omega (arith, there.1), there.2)
    | inr others ↦ inr (other, others)
  ]
]

-- ---- all loops

zero-fits : (vars : ℕ) → IsSmallOver vars (constant_form vars (pos 0))
zero-fits vars = record { over = length-replicate vars (pos 0); small = (All-replicate (IsSmall NUMBER_SIZE) vars (pos 0) (lit< tt), lit< tt) }

value-fits : (vars place : ℕ) (loops : List ℕ) (level : ℕ) → IsSmallOver vars (value_among vars place loops level)
value-fits vars place [] level = zero-fits vars
value-fits vars place (l ∷ loops) level = by (l == level) (value-fits vars (suc place) loops level) where
  by : (b : Bool) → IsSmallOver vars (value_among vars (suc place) loops level) → IsSmallOver vars (if b then variable vars place else value_among vars (suc place) loops level)
  by true rest = variable-small vars place
  by false rest = rest

pub values-fit : (vars place : ℕ) (loops levels : List ℕ) → AllByRecursion (IsSmallOver vars) (map (value_among vars place loops) levels)
values-fit vars place loops [] = tt
values-fit vars place loops (level ∷ levels) = (value-fits vars place loops level, values-fit vars place loops levels)

-- what they are worth
pub values-worth : (f : ℕ → AffineForm) (first count : ℕ) → AreWorth (λ j. form_value (f (first + j))) (map f (range_with_len first count))
values-worth f first zero = tt
values-worth f first (suc count) = (
  (λ point. ap (λ (k : ℕ). form_value (f k) point) (none first)),
  worth-same (λ j. form_value (f ((first + 1) + j))) (λ j. form_value (f (first + suc j))) (map f (range_with_len (first + 1) count))
      (λ j point less. ap (λ (k : ℕ). form_value (f k) point) (moved first j)) (values-worth f (first + 1) count),
) where
  none : (n : ℕ) → n ≡ n + 0
  none n = omega arith

  moved : (m n : ℕ) → (m + 1) + n ≡ m + suc n
  moved m n = omega arith
