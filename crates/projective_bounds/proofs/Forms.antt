-- Forms that are 0, and variables with forms put in.
use Rattle.std.proofs.Common.{◌≡◌, refl, sym, ◌∙◌, ap, subst, ℕ, zero, suc, ◌-◌, ◌<◌, ◌≤◌, List, [], ◌∷◌, ◌++◌, length, map, replicate, get_or, arith}
use Rattle.std.specs.Prelude.{slice_set, zip}
use Rattle.std.proofs.Math.IntN.{ℤ, pos, ◌+ℤ◌, ◌-ℤ◌, ◌*ℤ◌}
use Rattle.std.proofs.lemmas.Int.{ints}
use Rattle.std.proofs.lemmas.List.{length-map, length-replicate, length-set, length-append, append_assoc, get_or_at}
use Rattle.base_laws.proofs.Ring.{one-mul, zero-mul}
use Rattle.base_laws.proofs.Lists.{All-at, All-weaken}
use Rattle.iolb_model.specs.Form.{AffineForm}
use Rattle.claims.specs.Claims.{AllHold}
use Rattle.claims.specs.declared.place.Step.{Step}
use Rattle.affine_form.specs.Form.{variables}
use Rattle.affine_form.specs.Combination.{add_forms, coefficient_of, combination, constant_form, scale_form}
use Rattle.affine_form.specs.Rows.{difference, equality_rows, variable}
use Rattle.affine_form.specs.Shown.{row_at}
use Rattle.affine_form.specs.Substitution.{substitution, width}
use Rattle.affine_form.specs.System.{AffineSystem, AllOver}
use Rattle.affine_form.proofs.Combination.{coefficient_of-combination, coefficient_of-constant, get_or-add_lists, length-add_lists}
use Rattle.affine_form.proofs.RowLemmas.{coefficient_of-difference, length-difference, length-widened, get_or-zeros}
use Rattle.affine_form.proofs.SubstitutionLemmas.{length-substitution}
use Rattle.claims.specs.Shown.{Follows, follow_claims}
use Rattle.dep_quast.specs.OpenLeaves.{form_at}
use Rattle.projective.proofs.Ranges.{same-form}
use Rattle.projective_bounds.specs.Multipliers.{none_taken, one_taken, rows_taken}

-- ---- forms that are 0

pub difference-self : (vars : ℕ) (f : AffineForm) → variables f ≡ vars → difference vars f f (pos 0) ≡ constant_form vars (pos 0)
difference-self vars f e =
    same-form vars (difference vars f f (pos 0)) (constant_form vars (pos 0)) (length-difference vars f f (pos 0) (omega (arith, e)) (omega (arith, e))) (length-replicate vars (pos 0))
    (λ k. coefficient_of-difference vars f f (pos 0) k ∙ self (coefficient_of k f) ∙ sym (coefficient_of-constant k vars)) (constant f.constant) where
      self : (x : ℤ) → x -ℤ x ≡ pos 0
      self x = omega (arith, ints)

      constant : (x : ℤ) → (x -ℤ x) +ℤ pos 0 ≡ pos 0
      constant x = omega (arith, ints)

times-zero : (n : ℕ) → map (λ (x : ℤ). pos 1 *ℤ x) (replicate n (pos 0)) ≡ replicate n (pos 0)
times-zero zero = refl
times-zero (suc n) = ap (λ (xs : List ℤ). pos 0 ∷ xs) (times-zero n)

pub zero-shown : (system : AffineSystem) → Follows system (constant_form system.vars (pos 0)) none_taken
zero-shown system = (omega arith, record { named = tt; identity = λ i. record { coefficients = times-zero system.vars i; constant = pos 0 } })

-- that labels which are the same are equal
pub agree-hold : (condition : ℕ) (place : List Step) (system : AffineSystem) (index : ℕ) (fs gs : List AffineForm) (count : ℕ) → fs ≡ gs → AllOver system.vars gs
    → AllHold (follow_claims condition place system index (equality_rows system.vars fs gs) (replicate count none_taken))
agree-hold condition place system index fs gs count e over =
    subst (λ (hs : List AffineForm). AllHold (follow_claims condition place system index (equality_rows system.vars hs gs) (replicate count none_taken))) (sym e) (own index gs count over) where
      own : (i : ℕ) (hs : List AffineForm) (n : ℕ) → AllOver system.vars hs → AllHold (follow_claims condition place system i (equality_rows system.vars hs hs) (replicate n none_taken))
      own i [] n h = tt
      own i (f ∷ hs) zero h = tt
      own i (f ∷ hs) (suc zero) h = (subst (λ (g : AffineForm). Follows system g none_taken) (sym (difference-self system.vars f h.0)) (zero-shown system), tt)
      own i (f ∷ hs) (suc (suc n)) h =
          let one = subst (λ (g : AffineForm). Follows system g none_taken) (sym (difference-self system.vars f h.0)) (zero-shown system) in (one, (one, own (suc (suc i)) hs n h.1))

-- ---- rows that are shown by themselves

add-zero : (vars : ℕ) (f : AffineForm) → variables f ≡ vars → scale_form (pos 1) f ≡ add_forms (scale_form (pos 1) f) (constant_form vars (pos 0))
add-zero vars f e =
    same-form vars (scale_form (pos 1) f) (add_forms (scale_form (pos 1) f) (constant_form vars (pos 0))) many
    (length-add_lists vars (scale_form (pos 1) f).coefficients (replicate vars (pos 0)) many (length-replicate vars (pos 0)))
    (λ k. total (coefficient_of k (scale_form (pos 1) f)) (coefficient_of k (constant_form vars (pos 0))) (coefficient_of-constant k vars)
    ∙ sym (get_or-add_lists (scale_form (pos 1) f).coefficients (replicate vars (pos 0)) k)) (none (pos 1 *ℤ f.constant)) where
      many : variables (scale_form (pos 1) f) ≡ vars
      many = length-map f.coefficients (λ (x : ℤ). pos 1 *ℤ x) ∙ e

      total : (a b : ℤ) → b ≡ pos 0 → a ≡ a +ℤ b
      total a b h = omega (arith, ints)

      none : (a : ℤ) → a ≡ a +ℤ pos 0
      none a = omega (arith, ints)

pub row-shown : (system : AffineSystem) (number : ℕ) (goal : AffineForm) → number < length system.rows → row_at system.rows number ≡ goal → variables goal ≡ system.vars → Follows system goal (one_taken number)
row-shown system number goal below is many = (
  omega arith,
  record {
    named = (below, tt);
    identity = add-zero system.vars goal many ∙ ap (λ (f : AffineForm). add_forms (scale_form (pos 1) f) (constant_form system.vars (pos 0))) (sym is);
  },
)

-- goals that stand among the rows
pub rows-hold : (condition vars : ℕ) (place : List Step) (index : ℕ) (before goals : List AffineForm) (first : ℕ) (count : ℕ) → first ≡ length before → AllOver vars goals
    → AllHold (follow_claims condition place (record { vars = vars; rows = before ++ goals }) index goals (rows_taken first count))
rows-hold condition vars place index before [] first count e over = tt
rows-hold condition vars place index before (g ∷ goals) first zero e over = tt
rows-hold condition vars place index before (g ∷ goals) first (suc count) e over = (
  row-shown (record { vars = vars; rows = before ++ g ∷ goals }) first g (omega (arith, e, length-append before (g ∷ goals)))
      (get_or_at before g goals (record { coefficients = []; constant = pos 0 }) first (sym e)) over.0,
  subst (λ (rows : List AffineForm). AllHold (follow_claims condition place (record { vars = vars; rows = rows }) (suc index) goals (rows_taken (suc first) count))) (append_assoc before (g ∷ []) goals)
      (rows-hold condition vars place (suc index) (before ++ g ∷ []) goals (suc first) count (omega (arith, e, length-append before (g ∷ []))) over.1),
)

-- ---- variables with forms put in

zero-coefficient : (n : ℕ) (fs : List AffineForm) (k : ℕ) → coefficient_of k (combination (zip (replicate n (pos 0)) fs) (constant_form 0 (pos 0))) ≡ pos 0
zero-coefficient zero fs k = refl
zero-coefficient (suc n) [] k = refl
zero-coefficient (suc n) (f ∷ fs) k =
    coefficient_of-combination k (pos 0) f (zip (replicate n (pos 0)) fs) (constant_form 0 (pos 0))
    ∙ total (pos 0 *ℤ coefficient_of k f) (coefficient_of k (combination (zip (replicate n (pos 0)) fs) (constant_form 0 (pos 0)))) (zero-mul (coefficient_of k f)) (zero-coefficient n fs k) where
      total : (a b : ℤ) → a ≡ pos 0 → b ≡ pos 0 → a +ℤ b ≡ pos 0
      total a b p q = omega (arith, ints)

zero-constant : (n : ℕ) (fs : List AffineForm) → (combination (zip (replicate n (pos 0)) fs) (constant_form 0 (pos 0))).constant ≡ pos 0
zero-constant zero fs = refl
zero-constant (suc n) [] = refl
zero-constant (suc n) (f ∷ fs) =
    total (pos 0 *ℤ f.constant) (combination (zip (replicate n (pos 0)) fs) (constant_form 0 (pos 0))).constant (zero-mul f.constant) (zero-constant n fs) where
      total : (a b : ℤ) → a ≡ pos 0 → b ≡ pos 0 → a +ℤ b ≡ pos 0
      total a b p q = omega (arith, ints)

unit-coefficient : (n place : ℕ) (fs : List AffineForm) (d : AffineForm) (k : ℕ) → place < n → place < length fs
    → coefficient_of k (combination (zip (slice_set (replicate n (pos 0)) place (pos 1)) fs) (constant_form 0 (pos 0))) ≡ coefficient_of k (get_or fs place d)
unit-coefficient zero place fs d k p q = absurd (omega arith)
unit-coefficient (suc n) place [] d k p q = absurd (omega arith)
unit-coefficient (suc n) zero (f ∷ fs) d k p q =
    coefficient_of-combination k (pos 1) f (zip (replicate n (pos 0)) fs) (constant_form 0 (pos 0))
    ∙ total (pos 1 *ℤ coefficient_of k f) (coefficient_of k (combination (zip (replicate n (pos 0)) fs) (constant_form 0 (pos 0)))) (coefficient_of k f) (one-mul (coefficient_of k f)) (zero-coefficient n fs k) where
      total : (a b x : ℤ) → a ≡ x → b ≡ pos 0 → a +ℤ b ≡ x
      total a b x r s = omega (arith, ints)
unit-coefficient (suc n) (suc place) (f ∷ fs) d k p q =
    coefficient_of-combination k (pos 0) f (zip (slice_set (replicate n (pos 0)) place (pos 1)) fs) (constant_form 0 (pos 0))
    ∙ total (pos 0 *ℤ coefficient_of k f) (coefficient_of k (combination (zip (slice_set (replicate n (pos 0)) place (pos 1)) fs) (constant_form 0 (pos 0)))) (coefficient_of k (get_or fs place d))
    (zero-mul (coefficient_of k f)) (unit-coefficient n place fs d k (omega arith) (omega arith)) where
      total : (a b x : ℤ) → a ≡ pos 0 → b ≡ x → a +ℤ b ≡ x
      total a b x r s = omega (arith, ints)

unit-constant : (n place : ℕ) (fs : List AffineForm) (d : AffineForm) → place < n → place < length fs
    → (combination (zip (slice_set (replicate n (pos 0)) place (pos 1)) fs) (constant_form 0 (pos 0))).constant ≡ (get_or fs place d).constant
unit-constant zero place fs d p q = absurd (omega arith)
unit-constant (suc n) place [] d p q = absurd (omega arith)
unit-constant (suc n) zero (f ∷ fs) d p q =
    total (pos 1 *ℤ f.constant) (combination (zip (replicate n (pos 0)) fs) (constant_form 0 (pos 0))).constant f.constant (one-mul f.constant) (zero-constant n fs) where
      total : (a b x : ℤ) → a ≡ x → b ≡ pos 0 → a +ℤ b ≡ x
      total a b x r s = omega (arith, ints)
unit-constant (suc n) (suc place) (f ∷ fs) d p q =
    total (pos 0 *ℤ f.constant) (combination (zip (slice_set (replicate n (pos 0)) place (pos 1)) fs) (constant_form 0 (pos 0))).constant (get_or fs place d).constant (zero-mul f.constant)
    (unit-constant n place fs d (omega arith) (omega arith)) where
      total : (a b x : ℤ) → a ≡ pos 0 → b ≡ x → a +ℤ b ≡ x
      total a b x r s = omega (arith, ints)

over-width : (vars : ℕ) (point : List AffineForm) → AllOver vars point → AllOver (width point) point
over-width vars [] h = tt
over-width vars (f ∷ fs) h = (refl, All-weaken (λ (g : AffineForm). variables g ≡ vars) (λ (g : AffineForm). variables g ≡ variables f) fs (λ g e. e ∙ sym h.0) h.1)

width-within : (vars : ℕ) (point : List AffineForm) → AllOver vars point → width point ≤ vars
width-within vars [] h = omega arith
width-within vars (f ∷ fs) h = omega (arith, h.0)

-- a form with forms put in is over as many variables as they are
pub put-over : (vars : ℕ) (form : AffineForm) (point : List AffineForm) → length point ≡ variables form → AllOver vars point → variables (form_at vars point form) ≡ vars
put-over vars form point many over =
    length-widened vars (substitution form point) (omega (arith, length-substitution form point many (over-width vars point over), width-within vars point over))

-- a variable with forms put in is the form at its place
pub put-variable : (vars n place : ℕ) (point : List AffineForm) (d : AffineForm) → length point ≡ n → place < n → AllOver vars point → form_at vars point (variable n place) ≡ get_or point place d
put-variable vars n place point d many below over =
    let here : place < length point = omega arith in
    let count : length point ≡ variables (variable n place) = many ∙ sym (length-set (replicate n (pos 0)) place (pos 1) ∙ length-replicate n (pos 0)) in
    same-form vars (form_at vars point (variable n place)) (get_or point place d) (put-over vars (variable n place) point count over) (All-at (λ (f : AffineForm). variables f ≡ vars) point place d over here)
    (λ k. get_or-zeros (substitution (variable n place) point).coefficients (vars - length (substitution (variable n place) point).coefficients) k ∙ unit-coefficient n place point d k below here)
    (unit-constant n place point d below here)
