-- The subscripts of a read are the variables of its cold term's nest, and the identity undoes them.
use Rattle.std.proofs.Common.{◌≡◌, sym, ◌∙◌, ap, ℕ, zero, suc, ◌+◌, ◌<◌, List, [], ◌∷◌, ◌++◌, length, drop, get_or, arith}
use Rattle.std.specs.List.{AllByRecursion}
use Rattle.std.proofs.Math.IntN.{ℤ, pos}
use Rattle.std.proofs.lemmas.List.{get_or-drop, get_or-map, length-append, length-map}
use Rattle.std.proofs.lemmas.List.FromFn.{get_or-map-range_with_len}
use Rattle.base_laws.proofs.Lists.{All-append, All-at, All-weaken}
use Rattle.iolb_model.specs.Form.{AffineForm}
use Rattle.reuse_paths.proofs.PiecesFit.{as-wide}
use Rattle.affine_form.specs.Form.{variables}
use Rattle.affine_form.specs.Rows.{IsSmallOver, put_in, variable, variables_from, widened}
use Rattle.affine_form.specs.Substitution.{substitution, width}
use Rattle.affine_form.specs.System.{AllOver}
use Rattle.affine_form.proofs.RowLemmas.{AllOver-width, length-variables, variables-over}
use Rattle.affine_form.proofs.SubstitutionLemmas.{length-substitution}
use Rattle.cold_terms.specs.Outline.{bare}
use Rattle.dep_quast.specs.Context.{reference_of}
use Rattle.projective.proofs.Units.{unit, unit-at}
use Rattle.wavefront.specs.Inverse.{AreUndone, coefficients_past}
use Rattle.wavefront.specs.Term.{cell_forms}
use Rattle.projective_bounds.specs.Families.{loop_form, loops_label}
use Rattle.projective_bounds.specs.Whole.{identity_matrix}
use Rattle.projective_bounds.proofs.Forms.{put-variable}
use Rattle.projective_bounds.proofs.Identities.{identity-times, unit-is}
use Rattle.projective_bounds.proofs.ReaderLabels.{at-behind, none}
use Rattle.projective_bounds.specs.Outline.{value_among}
use Rattle.projective_bounds.proofs.Outlines.{ColdRead, as-many, d, different, loops-few, nest, outline, p, program, size, values, values-many, values-small, vars}
use Rattle.projective_bounds.proofs.LoopValues.{value-at}

-- places that are moved together
unit-moved : (m a b : ℕ) → unit (m + a) (m + b) ≡ unit a b
unfolding unit
unit-moved zero a b = ap (λ (n : ℕ). unit n (0 + b)) (front a) ∙ ap (unit a) (front b) where
  front : (n : ℕ) → 0 + n ≡ n
  front n = omega arith
unit-moved (suc m) a b = ap (λ (n : ℕ). unit n (suc m + b)) (next m a) ∙ ap (unit (suc (m + a))) (next m b) ∙ unit-moved m a b where
  next : (m n : ℕ) → suc m + n ≡ suc (m + n)
  next m n = omega arith

module _ (r : ColdRead) where
  abbrev pub point : List AffineForm
  point = variables_from (vars r) 0 (p r) ++ values r

  pub point-many : length point ≡ p r + d r
  point-many = omega (arith, length-append (variables_from (vars r) 0 (p r)) (values r), length-variables (vars r) 0 (p r), values-many r)

  pub point-small : AllByRecursion (IsSmallOver (vars r)) point
  point-small = All-append (IsSmallOver (vars r)) (variables_from (vars r) 0 (p r)) (values r) (variables-over (vars r) 0 (p r)) (values-small r)

  pub point-over : AllOver (vars r) point
  point-over = All-weaken (IsSmallOver (vars r)) (λ (f : AffineForm). variables f ≡ vars r) point (λ f h. h.over) point-small

  width-of : (forms : List AffineForm) → 0 < length forms → AllOver (vars r) forms → width forms ≡ vars r
  width-of [] some h = absurd (omega arith)
  width-of (f ∷ forms) some h = h.0

  -- the loop of a subscript is a variable of the nest
  cell-at : (k : ℕ) → k < length r.loops → substitution (loop_form (program r) (get_or r.loops k 0)) point ≡ variable (vars r) (p r + k)
  cell-at k below =
      let loop : ℕ = get_or r.loops k 0 in
      let there : loop < d r = All-at (λ (level : ℕ). level < d r) r.loops k 0 r.are.there below in
      let form : AffineForm = loop_form (program r) loop in
      let many : length point ≡ variables form = point-many ∙ sym (variables-of (p r + d r) (p r + loop)) in
      let wide : variables (substitution form point) ≡ vars r =
      length-substitution form point many (AllOver-width (vars r) point point-small) ∙ width-of point (omega (arith, point-many, there)) point-over in
      sym (as-wide (vars r) (substitution form point) wide)
      ∙ put-variable (vars r) (p r + d r) (p r + loop) point none point-many (omega (arith, there)) point-over
      ∙ at-behind (variables_from (vars r) 0 (p r)) (values r) (p r) loop none (length-variables (vars r) 0 (p r))
      ∙ get_or-map-range_with_len (value_among (vars r) (p r) r.loops) 0 (d r) loop loop none there (omega arith)
      ∙ value-at (program r) (vars r) (p r) r.loops k (different r) below where
        variables-of : (n place : ℕ) → variables (variable n place) ≡ n
        variables-of n place = (variables-over n place 1).0.over

  abbrev cells : List AffineForm
  cells = cell_forms (program r) (bare (outline r))

  cells-many : length cells ≡ length r.loops
  cells-many = length-map (reference_of (program r) (outline r).reader).subscripts (λ (form : AffineForm). substitution form point) ∙ as-many r

  cells-are : (k : ℕ) → k < length r.loops → get_or cells k none ≡ variable (vars r) (p r + k)
  cells-are k below =
      ap (λ (forms : List AffineForm). get_or (put_in point forms) k none) r.are.subscripts
      ∙ get_or-map (λ (form : AffineForm). substitution form point) (loops_label (program r) r.loops) k none none (omega (arith, below, length-map r.loops (loop_form (program r))))
      ∙ ap (λ (form : AffineForm). substitution form point) (get_or-map (loop_form (program r)) r.loops k 0 none below) ∙ cell-at k below

  pub cells-undone : AreUndone (identity_matrix (length (nest r))) 1 (p r) (length (nest r)) cells
  cells-undone row col below inside =
      let past = coefficients_past (p r) cells in
      let there : row < length r.loops = omega (arith, below, size r) in
      identity-times (length (nest r)) row col past (omega (arith, size r, loops-few r)) below (omega (arith, there, cells-many, length-map cells (λ (form : AffineForm). drop (p r) form.coefficients)))
      ∙ ap (λ (cs : List ℤ). get_or cs col (pos 0)) (get_or-map (λ (form : AffineForm). drop (p r) form.coefficients) cells row none [] (omega (arith, there, cells-many)))
      ∙ get_or-drop (p r) (get_or cells row none).coefficients col (pos 0)
      ∙ ap (λ (form : AffineForm). get_or form.coefficients (p r + col) (pos 0)) (cells-are row there)
      ∙ unit-at (vars r) (p r + row) (p r + col) (omega (arith, below)) ∙ unit-moved (p r) row col ∙ unit-is row col
