-- What the loop values one turn before are worth.
use Rattle.std.proofs.Common.{◌≡◌, refl, sym, ◌∙◌, ap, subst, ℕ, zero, suc, ◌+◌, ◌<◌, ◌≤◌, Bool, true, false, List, [], ◌∷◌, length, get_or, arith}
use Rattle.std.specs.Prelude.{nat_lt, ◌==◌, ◌||◌, if◌then◌else◌}
use Rattle.std.proofs.Math.IntN.{ℤ, pos, negsuc, ◌+ℤ◌}
use Rattle.std.proofs.lemmas.Int.{ints}
use Rattle.std.proofs.lemmas.Bool.{eqb-true, lt-ltb, ltb-true}
use Rattle.iolb_model.specs.Form.{AffineForm, form_value}
use Rattle.iolb_model.specs.Program.{AffineProgram}
use Rattle.affine_form.specs.Rows.{widened, variable}
use Rattle.affine_form.proofs.Meaning.{form_value-widened, form_value-variable}
use Rattle.affine_program.specs.Domain.{bounds_at, depth_of}
use Rattle.projective.specs.Projective.{shifted_variable}
use Rattle.projective.specs.Turns.{width, is_kept, turn_value, turn_values, turn_before}
use Rattle.projective.proofs.Picked.{Worth, IsWorth}
use Rattle.projective.proofs.NestRows.{AreWorth, at, worth-same}

-- the ends of loops with these bounds
abbrev pub ends_of : List (AffineForm × AffineForm) → ℕ → Worth
ends_of [] j point = pos 0
ends_of (bounds ∷ loops) zero point = form_value bounds.1 point
ends_of (bounds ∷ loops) (suc j) point = ends_of loops j point

pub shifted-worth : (vars place : ℕ) (point : List ℤ) → place < vars → form_value (shifted_variable vars place (negsuc 0)) point ≡ at place point +ℤ negsuc 0
shifted-worth vars place point less = let h : form_value (variable vars place) point ≡ get_or point place (pos 0) = form_value-variable vars place point less in omega (arith, ints)

module _ (program : AffineProgram) (loop : ℕ) where
  -- the worth of the value of the loop at a place, whose end is given
  abbrev pub turn_worth : Worth → ℕ → Worth
  turn_worth end place point =
      if place == loop then at (length program.parameters + place) point +ℤ negsuc 0
      else (if nat_lt place loop || is_kept program place then at (length program.parameters + place) point else end point)

  value-worth : (place : ℕ) (upper : AffineForm) → place < depth_of program 0 → IsWorth (turn_value program loop place upper) (turn_worth (form_value upper) place)
  value-worth place upper less point = by (place == loop) (nat_lt place loop || is_kept program place) where
    vars : ℕ
    vars = width program

    by : (a b : Bool) → form_value (if a then shifted_variable (width program) (length program.parameters + place) (negsuc 0)
        else (if b then variable (width program) (length program.parameters + place) else widened (width program) upper)) point
        ≡ (if a then at (length program.parameters + place) point +ℤ negsuc 0 else (if b then at (length program.parameters + place) point else form_value upper point))
    by true b = shifted-worth (width program) (length program.parameters + place) point (omega (arith, less))
    by false true = form_value-variable (width program) (length program.parameters + place) point (omega (arith, less))
    by false false = form_value-widened (width program) upper point

  values-worth : (place : ℕ) (loops : List (AffineForm × AffineForm)) → place + length loops ≤ depth_of program 0 → AreWorth (λ j. turn_worth (ends_of loops j) (place + j)) (turn_values program loop place loops)
  values-worth place [] few = tt
  values-worth place (bounds ∷ loops) few = (
    subst (λ (k : ℕ). IsWorth (turn_value program loop place bounds.1) (turn_worth (form_value bounds.1) k)) none (value-worth place bounds.1 (omega arith)),
    worth-same (λ j. turn_worth (ends_of loops j) (suc place + j)) (λ j. turn_worth (ends_of loops j) (place + suc j)) (turn_values program loop (suc place) loops)
        (λ j point less. ap (λ (k : ℕ). turn_worth (ends_of loops j) k point) (moved j)) (values-worth (suc place) loops (omega arith)),
  ) where
    none : place ≡ place + 0
    none = omega arith

    moved : (j : ℕ) → suc place + j ≡ place + suc j
    moved j = omega arith

  abbrev pub turn_at : ℕ → Worth
  turn_at j = turn_worth (ends_of (bounds_at program 0) j) j

  pub turn-worth : AreWorth turn_at (turn_before program loop)
  turn-worth = worth-same (λ j. turn_worth (ends_of (bounds_at program 0) j) (0 + j)) turn_at (turn_before program loop)
      (λ j point less. ap (λ (k : ℕ). turn_worth (ends_of (bounds_at program 0) j) k point) (none j)) (values-worth 0 (bounds_at program 0) (omega arith)) where
        none : (j : ℕ) → 0 + j ≡ j
        none j = omega arith

  values-many : (place : ℕ) (loops : List (AffineForm × AffineForm)) → length (turn_values program loop place loops) ≡ length loops
  values-many place [] = refl
  values-many place (bounds ∷ loops) = ap suc (values-many (suc place) loops)

  pub turn-many : length (turn_before program loop) ≡ depth_of program 0
  turn-many = values-many 0 (bounds_at program 0)

  -- the loop itself, those before it and those that stand in the reference, and the others
  pub turn-here : (point : List ℤ) → turn_at loop point ≡ at (length program.parameters + loop) point +ℤ negsuc 0
  turn-here point = by (loop == loop) (eqb-same loop) where
    eqb-same : (k : ℕ) → (k == k) ≡ true
    eqb-same k = grind arith

    by : (b : Bool) → b ≡ true → (if b then at (length program.parameters + loop) point +ℤ negsuc 0
        else (if nat_lt loop loop || is_kept program loop then at (length program.parameters + loop) point else ends_of (bounds_at program 0) loop point)) ≡ at (length program.parameters + loop) point +ℤ negsuc 0
    by true e = refl
    by false e = absurd cc

  pub turn-before : (j : ℕ) (point : List ℤ) → j < loop → turn_at j point ≡ at (length program.parameters + j) point
  turn-before j point less = by (j == loop) (λ e. eqb-true j loop e) (nat_lt j loop) (lt-ltb j loop less) where
    by : (b : Bool) → (b ≡ true → j ≡ loop) → (c : Bool) → c ≡ true → (if b then at (length program.parameters + j) point +ℤ negsuc 0
        else (if c || is_kept program j then at (length program.parameters + j) point else ends_of (bounds_at program 0) j point)) ≡ at (length program.parameters + j) point
    by true e c d = absurd (omega (arith, e refl, less))
    by false e true d = refl
    by false e false d = absurd cc

  pub turn-kept : (j : ℕ) (point : List ℤ) → is_kept program loop ≡ false → is_kept program j ≡ true → turn_at j point ≡ at (length program.parameters + j) point
  turn-kept j point other kept = by (j == loop) (λ e. eqb-true j loop e) (is_kept program j) kept where
    by : (b : Bool) → (b ≡ true → j ≡ loop) → (c : Bool) → c ≡ true → (if b then at (length program.parameters + j) point +ℤ negsuc 0
        else (if nat_lt j loop || c then at (length program.parameters + j) point else ends_of (bounds_at program 0) j point)) ≡ at (length program.parameters + j) point
    by true e c d = absurd (apart (sym other ∙ ap (is_kept program) (sym (e refl)) ∙ kept)) where
      apart : false ≡ true → ⊥
      apart p = cc
    by false e true d = inner (nat_lt j loop) where
      inner : (b : Bool) → (if b || true then at (length program.parameters + j) point else ends_of (bounds_at program 0) j point) ≡ at (length program.parameters + j) point
      inner true = refl
      inner false = refl
    by false e false d = absurd cc

  pub turn-end : (j : ℕ) (point : List ℤ) → loop < j → is_kept program j ≡ false → turn_at j point ≡ ends_of (bounds_at program 0) j point
  turn-end j point less other = by (j == loop) (λ e. eqb-true j loop e) (nat_lt j loop) (λ e. absurd (omega (arith, ltb-true j loop e, less))) (is_kept program j) other where
    by : (b : Bool) → (b ≡ true → j ≡ loop) → (c : Bool) → (c ≡ true → ⊥) → (k : Bool) → k ≡ false → (if b then at (length program.parameters + j) point +ℤ negsuc 0
        else (if c || k then at (length program.parameters + j) point else ends_of (bounds_at program 0) j point)) ≡ ends_of (bounds_at program 0) j point
    by true e c f k d = absurd (omega (arith, e refl, less))
    by false e true f k d = absurd (f refl)
    by false e false f true d = absurd cc
    by false e false f false d = refl
