-- Multipliers of one assumption each, which show that ranges are whole.
use Rattle.std.proofs.Common.{◌≡◌, refl, sym, ◌∙◌, ap, subst, ℕ, zero, suc, ◌+◌, ◌-◌, ◌<◌, List, [], ◌∷◌, ◌++◌, length, take, get_or, map, replicate, arith}
use Rattle.std.proofs.Math.IntN.{ℤ, pos, negsuc, ◌+ℤ◌, ◌-ℤ◌, ◌*ℤ◌, neg_ℤ}
use Rattle.std.proofs.lemmas.Int.{ints}
use Rattle.std.proofs.lemmas.List.{ext_get_or, length-append, length-map, length-replicate, length-set, get_or-map, get_or_append_left, length-take-le}
use Rattle.base_laws.proofs.Ring.{one-mul}
use Rattle.iolb_model.specs.Form.{AffineForm}
use Rattle.iolb_model.specs.Program.{AffineProgram}
use Rattle.affine_form.specs.Form.{variables}
use Rattle.affine_form.specs.Combination.{add_forms, coefficient_of, constant_form, scale_form}
use Rattle.affine_form.specs.Multipliers.{FarkasMultipliers}
use Rattle.affine_form.specs.Rows.{variable, widened, within_rows, variables_from}
use Rattle.affine_form.specs.Shown.{row_at}
use Rattle.affine_form.proofs.Combination.{coefficient_of-constant, get_or-add_lists, get_or-scale, length-add_lists}
use Rattle.affine_form.proofs.RowLemmas.{coefficient_of-difference, length-difference, length-widened, get_or-zeros}
use Rattle.domain_count.specs.Count.{AreShownBelow, ShowsRange, bounds_at, multipliers_at, range_goal, rows_before}
use Rattle.projective.specs.Projective.{RunsBelow}
use Rattle.projective.specs.Products.{AreTaken, RunBelow, TakesRow}
use Rattle.projective.proofs.Units.{unit, unit-at}

-- forms with the same coefficients and the same constant are one
pub same-form : (n : ℕ) (f g : AffineForm) → variables f ≡ n → variables g ≡ n → ((k : ℕ) → coefficient_of k f ≡ coefficient_of k g) → f.constant ≡ g.constant → f ≡ g
same-form n f g p q each constant =
    let coefficients : f.coefficients ≡ g.coefficients = ext_get_or (pos 0) f.coefficients g.coefficients (p ∙ sym q) (λ k below. each k) in
    λ i. record { coefficients = coefficients i; constant = constant i }

module _ (program : AffineProgram) (before : List (AffineForm × AffineForm)) (bounds : AffineForm × AffineForm) (p : ℕ)
    (run : RunsBelow program (length program.parameters + length before) bounds p) where
  abbrev params : ℕ
  params = length program.parameters

  abbrev vars : ℕ
  vars = length program.parameters + length before

  abbrev goal : AffineForm
  goal = range_goal vars bounds

  upper-many : variables bounds.1 ≡ vars
  upper-many = ap variables run.upper ∙ length-set (replicate vars (pos 0)) p (pos 1) ∙ length-replicate vars (pos 0)

  lower-many : variables bounds.0 ≡ vars
  lower-many = ap variables run.lower ∙ length-replicate vars (pos 0)

  goal-many : variables goal ≡ vars
  goal-many = length-difference vars bounds.1 bounds.0 (pos 1) (omega (arith, upper-many)) (omega (arith, lower-many))

  goal-at : (k : ℕ) → coefficient_of k goal ≡ unit p k
  goal-at k =
      coefficient_of-difference vars bounds.1 bounds.0 (pos 1) k
      ∙ less (coefficient_of k bounds.1) (coefficient_of k bounds.0)
      (ap (coefficient_of k) run.upper ∙ unit-at vars p k (omega (arith, run.there))) (ap (coefficient_of k) run.lower ∙ coefficient_of-constant k vars) where
        less : (a b : ℤ) → a ≡ unit p k → b ≡ pos 0 → a -ℤ b ≡ unit p k
        less a b e f = omega (arith, ints)

  goal-constant : goal.constant ≡ pos 0
  goal-constant = total bounds.1.constant bounds.0.constant (ap (λ (f : AffineForm). f.constant) run.upper) (ap (λ (f : AffineForm). f.constant) run.lower) where
    total : (a b : ℤ) → a ≡ negsuc 0 → b ≡ pos 0 → (a -ℤ b) +ℤ pos 1 ≡ pos 0
    total a b e f = omega (arith, ints)

  module _ (m : FarkasMultipliers) (takes : TakesRow program.assumptions (variable params p).coefficients m) where
    abbrev row : AffineForm
    row = row_at program.assumptions takes.number

    abbrev rows : List AffineForm
    rows = within_rows vars before (variables_from vars 0 params) (variables_from vars params (length before))

    row-is : row_at (rows_before program before).rows takes.number ≡ widened vars row
    row-is =
        get_or_append_left (map (widened vars) program.assumptions) rows (record { coefficients = []; constant = pos 0 }) takes.number (omega (arith, takes.there, length-map program.assumptions (widened vars)))
        ∙ get_or-map (widened vars) program.assumptions takes.number (record { coefficients = []; constant = pos 0 }) (record { coefficients = []; constant = pos 0 }) takes.there

    row-many : variables row ≡ params
    row-many = ap (λ (cs : List ℤ). length cs) takes.row ∙ length-set (replicate params (pos 0)) p (pos 1) ∙ length-replicate params (pos 0)

    row-at-each : (k : ℕ) → coefficient_of k row ≡ unit p k
    row-at-each k = ap (λ (cs : List ℤ). get_or cs k (pos 0)) takes.row ∙ unit-at params p k run.there

    abbrev scaled : AffineForm → AffineForm
    scaled f = scale_form (pos 1) f

    abbrev rest : AffineForm
    rest = constant_form vars (pos takes.rest)

    wide-many : variables (widened vars row) ≡ vars
    wide-many = length-widened vars row (omega (arith, row-many))

    scaled-many : (f : AffineForm) → variables f ≡ vars → variables (scaled f) ≡ vars
    scaled-many f e = length-map f.coefficients (λ (x : ℤ). pos 1 *ℤ x) ∙ e

    scaled-at : (f : AffineForm) (k : ℕ) → coefficient_of k (scaled f) ≡ coefficient_of k f
    scaled-at f k = get_or-scale (pos 1) f.coefficients k ∙ one-mul (coefficient_of k f)

    sum-at : (k : ℕ) → coefficient_of k (add_forms (scaled (widened vars row)) rest) ≡ unit p k
    sum-at k =
        get_or-add_lists (scaled (widened vars row)).coefficients rest.coefficients k
        ∙ total (coefficient_of k (scaled (widened vars row))) (coefficient_of k rest)
        (scaled-at (widened vars row) k ∙ get_or-zeros row.coefficients (vars - length row.coefficients) k ∙ row-at-each k) (coefficient_of-constant k vars) where
          total : (a b : ℤ) → a ≡ unit p k → b ≡ pos 0 → a +ℤ b ≡ unit p k
          total a b e f = omega (arith, ints)

    same : scaled goal ≡ add_forms (scaled (widened vars row)) rest
    same =
        same-form vars (scaled goal) (add_forms (scaled (widened vars row)) rest) (scaled-many goal goal-many)
        (length-add_lists vars (scaled (widened vars row)).coefficients rest.coefficients (scaled-many (widened vars row) wide-many) (length-replicate vars (pos 0)))
        (λ k. scaled-at goal k ∙ goal-at k ∙ sym (sum-at k))
        (one-mul goal.constant ∙ goal-constant ∙ sym (none (pos 1 *ℤ row.constant) (one-mul row.constant) takes.below)) where
          none : (x : ℤ) → x ≡ row.constant → row.constant ≡ neg_ℤ (pos takes.rest) → x +ℤ pos takes.rest ≡ pos 0
          none x e f = omega (arith, ints)

    pub range-shown : ShowsRange program before bounds m
    range-shown = subst (ShowsRange program before bounds) (sym takes.is) (
      omega arith,
      record {
        named = (omega (arith, takes.there, length-append (map (widened vars) program.assumptions) rows, length-map program.assumptions (widened vars)), tt);
        identity = same ∙ ap (λ (f : AffineForm). add_forms (scaled f) rest) (sym row-is);
      },
    )

-- ---- the variables of a nest

run-at : (program : AffineProgram) (vars : ℕ) (nest : List (AffineForm × AffineForm)) (ps : List ℕ) (shown : List FarkasMultipliers) (k : ℕ) → RunBelow program vars nest ps
    → AreTaken program.assumptions (length program.parameters) ps shown → k < length nest
    → (p : ℕ) × RunsBelow program (vars + k) (bounds_at nest k) p × TakesRow program.assumptions (variable (length program.parameters) p).coefficients (multipliers_at shown k)
run-at program vars [] ps shown k run taken below = absurd (omega arith)
run-at program vars (b ∷ nest) [] shown k run taken below = absurd run
run-at program vars (b ∷ nest) (p ∷ ps) [] k run taken below = absurd taken
run-at program vars (b ∷ nest) (p ∷ ps) (m ∷ shown) zero run taken below = (p, subst (λ (n : ℕ). RunsBelow program n b p) (omega arith) run.0, taken.0)
run-at program vars (b ∷ nest) (p ∷ ps) (m ∷ shown) (suc k) run taken below =
    let there = run-at program (suc vars) nest ps shown k run.1 taken.1 (omega arith) in
    (there.0, subst (λ (n : ℕ). RunsBelow program n (bounds_at nest k) there.0) (omega arith) there.1, there.2)

pub ranges-shown : (program : AffineProgram) (nest : List (AffineForm × AffineForm)) (ps : List ℕ) (shown : List FarkasMultipliers) → RunBelow program (length program.parameters) nest ps
    → AreTaken program.assumptions (length program.parameters) ps shown → AreShownBelow program nest shown (length nest)
ranges-shown program nest ps shown run taken k below =
    let here = run-at program (length program.parameters) nest ps shown k run taken below in
    let many : length (take k nest) ≡ k = length-take-le k nest (omega arith) in
    range-shown program (take k nest) (bounds_at nest k) here.0 (subst (λ (n : ℕ). RunsBelow program (length program.parameters + n) (bounds_at nest k) here.0) (sym many) here.1) (multipliers_at shown k) here.2
