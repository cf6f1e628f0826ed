-- A start label whose claims hold fixes the coordinates of its set.
use Rattle.std.proofs.Common.{◌≡◌, refl, sym, ◌∙◌, ap, subst, inl, inr, ℕ, zero, suc, ◌+◌, ◌<◌, ◌≤◌, List, [], ◌∷◌, ◌++◌, length, map, get_or, drop, arith}
use Rattle.std.specs.List.{AllByRecursion}
use Rattle.std.proofs.Math.IntN.{ℤ, pos, ◌*ℤ◌}
use Rattle.std.proofs.lemmas.List.{get_or-drop, get_or-map, length-drop, length-map, ext_get_or}
use Rattle.base_laws.proofs.Ring.{mul-cancel, sums-cancel}
use Rattle.iolb_model.specs.Form.{AffineForm, dot, form_value}
use Rattle.execution_laws.proofs.Members.{Member}
use Rattle.execution_laws.proofs.Undone.{dot-append}
use Rattle.pebble_game.proofs.Marks.{standing-member}
use Rattle.claims.specs.Claims.{AllHold}
use Rattle.claims.specs.declared.place.Step.{Step}
use Rattle.affine_form.specs.Matrix.{IntegerMatrix, HasShape}
use Rattle.reuse_paths.specs.MatrixRows.{matrix_rows}
use Rattle.affine_form.specs.Rows.{IsSmallOver}
use Rattle.affine_form.specs.Substitution.{values_at}
use Rattle.affine_form.proofs.Combination.{dot-scale}
use Rattle.reuse_paths.proofs.Matrices.{row-entry, row-long}
use Rattle.reuse_paths.specs.Families.{FamilyForms}
use Rattle.reuse_paths.specs.FamilyClaims.{IsScaledRow, label_rows}
use Rattle.k_partition.specs.ReusedWords.{FixesRows}

module _ (matrix : IntegerMatrix) (scale parameters loops : ℕ) (shape : HasShape matrix.rows matrix.columns matrix.cells) (columns : 1 ≤ matrix.rows → matrix.columns ≡ loops) where
  abbrev row_at : ℕ → List ℤ
  row_at row = get_or (matrix_rows matrix) row []

  -- a form's numbers past the parameters are the scale times the row
  scaled-row : (row : ℕ) (form : AffineForm) → row < matrix.rows → length form.coefficients ≡ parameters + loops → IsScaledRow matrix scale parameters loops row form
      → drop parameters form.coefficients ≡ map (λ (x : ℤ). pos scale *ℤ x) (row_at row)
  scaled-row row form l wide is =
      let wide_row : length (row_at row) ≡ loops = row-long matrix row shape l ∙ columns (omega (arith, l)) in
      let many : length (drop parameters form.coefficients) ≡ loops = length-drop parameters form.coefficients ∙ omega (arith, wide) in
      ext_get_or (pos 0) (drop parameters form.coefficients) (map (λ (x : ℤ). pos scale *ℤ x) (row_at row)) (many ∙ sym wide_row ∙ sym (length-map (row_at row) (λ (x : ℤ). pos scale *ℤ x))) (λ j below.
      get_or-drop parameters form.coefficients j (pos 0)
      ∙ is j (omega (arith, below, many))
      ∙ ap (λ (x : ℤ). pos scale *ℤ x) (sym (row-entry matrix row j l (omega (arith, below, many, columns (omega (arith, l))))))
      ∙ sym (get_or-map (λ (x : ℤ). pos scale *ℤ x) (row_at row) j (pos 0) (pos 0) (omega (arith, below, many, wide_row))))

  -- so equal values of the form fix what the row gives
  form-fixes : (k row : ℕ) (form : AffineForm) (ps one other : List ℤ) → scale ≡ suc k → length ps ≡ parameters → row < matrix.rows → length form.coefficients ≡ parameters + loops
      → IsScaledRow matrix scale parameters loops row form → form_value form (ps ++ one) ≡ form_value form (ps ++ other) → dot (row_at row) one ≡ dot (row_at row) other
  form-fixes k row form ps one other positive few l wide is same =
      let front : ℤ = dot form.coefficients ps in
      let past : List ℤ → ℤ = λ xs. dot (drop (length ps) form.coefficients) xs in
      let scaled : (xs : List ℤ) → past xs ≡ pos scale *ℤ dot (row_at row) xs = λ xs.
      ap (λ (n : ℕ). dot (drop n form.coefficients) xs) few ∙ ap (λ (cs : List ℤ). dot cs xs) (scaled-row row form l wide is) ∙ dot-scale (pos scale) (row_at row) xs in
      let equal : past one ≡ past other = sums-cancel (dot form.coefficients (ps ++ one)) (dot form.coefficients (ps ++ other)) front (past one) (past other) form.constant
      (dot-append form.coefficients ps one) (dot-append form.coefficients ps other) same in
      mul-cancel k (dot (row_at row) one) (dot (row_at row) other)
      (subst (λ (n : ℕ). pos n *ℤ dot (row_at row) one ≡ pos n *ℤ dot (row_at row) other) positive (sym (scaled one) ∙ equal ∙ scaled other))

  label-fixes : (k : ℕ) (place : List Step) (index : ℕ) (set : List ℕ) (label : List AffineForm) (ps one other : List ℤ) → scale ≡ suc k → length ps ≡ parameters
      → AllByRecursion (λ row. row < matrix.rows) set → length label ≡ length set → AllByRecursion (IsSmallOver (parameters + loops)) label
      → AllHold (label_rows matrix scale parameters loops place index set label) → values_at label (ps ++ one) ≡ values_at label (ps ++ other)
      → (row : ℕ) → Member row set → dot (row_at row) one ≡ dot (row_at row) other
  label-fixes k place index [] label ps one other positive few within many over h same row m = absurd m
  label-fixes k place index (r ∷ set) [] ps one other positive few within many over h same row m = absurd (omega (arith, many))
  label-fixes k place index (r ∷ set) (form ∷ label) ps one other positive few within many over h same row (inl e) =
      subst (λ (n : ℕ). dot (row_at n) one ≡ dot (row_at n) other) (sym e)
      (form-fixes k r form ps one other positive few within.0 over.0.over h.0 (head (form_value form (ps ++ one)) (form_value form (ps ++ other)) _ _ same)) where
        head : (a b : ℤ) (xs ys : List ℤ) → a ∷ xs ≡ b ∷ ys → a ≡ b
        head a b xs ys p = cc
  label-fixes k place index (r ∷ set) (form ∷ label) ps one other positive few within many over h same row (inr m) =
      label-fixes k place (suc index) set label ps one other positive few within.1 (omega (arith, many)) over.1 h.1 (tail _ _ (values_at label (ps ++ one)) (values_at label (ps ++ other)) same) row m where
        tail : (a b : ℤ) (xs ys : List ℤ) → a ∷ xs ≡ b ∷ ys → xs ≡ ys
        tail a b xs ys p = cc

-- a family whose start label's claims hold fixes the coordinates of its set
pub family-fixes : (matrix : IntegerMatrix) (parameters loops : ℕ) (family : FamilyForms) (place : List Step) → HasShape matrix.rows matrix.columns matrix.cells → (1 ≤ matrix.rows → matrix.columns ≡ loops)
    → 1 ≤ family.scale → AllByRecursion (λ row. row < matrix.rows) family.set → length family.start_label ≡ length family.set → AllByRecursion (IsSmallOver (parameters + loops)) family.start_label
    → AllHold (label_rows matrix family.scale parameters loops place 0 family.set family.start_label) → FixesRows parameters matrix family
family-fixes matrix parameters loops family place shape columns positive within many over h ps one other few same row stands =
    by family.scale refl positive where
      by : (scale : ℕ) → scale ≡ family.scale → 1 ≤ family.scale → dot (get_or (matrix_rows matrix) row []) one ≡ dot (get_or (matrix_rows matrix) row []) other
      by zero e p = absurd (omega (arith, e, p))
      by (suc k) e p = label-fixes matrix family.scale parameters loops shape columns k place 0 family.set family.start_label ps one other (sym e) few within many over h same row (standing-member family.set row stands)
