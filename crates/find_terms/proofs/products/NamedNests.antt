-- The nest of the loops that subscripts name, along the way to a statement whose loops run from 0 to below parameters.
use Rattle.std.proofs.Common.{◌≡◌, ◌≢◌, refl, sym, ◌∙◌, ap, subst, ℕ, zero, suc, ◌+◌, ◌<◌, ◌≤◌, Bool, true, false, List, [], ◌∷◌, ◌++◌, length, map, filter, get_or, arith}
use Rattle.std.specs.Prelude.{◌==◌, cond, if◌then◌else◌}
use Rattle.std.specs.List.{AllByRecursion, range_with_len}
use Rattle.std.proofs.Math.IntN.{ℤ, pos, negsuc, ◌+ℤ◌}
use Rattle.std.proofs.lemmas.Bool.{eq-eqb}
use Rattle.std.proofs.lemmas.List.{append-nil, append_assoc, length-append, length-map, length-replicate, map-append}
use Rattle.std.proofs.lemmas.List.FromFn.{length-range_with_len, map-range_with_len_more}
use Rattle.base_laws.proofs.Lists.{All-append, All-push, All-weaken}
use Rattle.iolb_model.specs.Form.{AffineForm}
use Rattle.iolb_model.specs.Program.{Direction, upward as up, AffineProgram}
use Rattle.affine_form.specs.Combination.{constant_form}
use Rattle.affine_form.specs.Form.{variables}
use Rattle.affine_form.specs.Rows.{IsSmallOver, variable, widened}
use Rattle.affine_form.specs.Substitution.{substitution, values_at}
use Rattle.affine_form.specs.System.{AllOver}
use Rattle.affine_form.proofs.Combination.{form_value-constant}
use Rattle.affine_form.proofs.Meaning.{form_value-variable, form_value-widened}
use Rattle.affine_form.proofs.RowLemmas.{length-variables, length-widened, variables-over}
use Rattle.affine_form.proofs.SubstitutionLemmas.{form_value-substitution}
use Rattle.dep_quast.specs.Context.{parameter_point}
use Rattle.flow_deps.specs.Candidates.{direction_at, first_bound}
use Rattle.find_terms.specs.Openings.{NestSoFar, at_values, into_loop, is_named, nest_along, with_first, with_variable}
use Rattle.projective.specs.Products.{RunBelow}
use Rattle.projective.specs.Projective.{shifted_variable}
use Rattle.projective.proofs.NestRows.{KeepsParameters, keeps-more, parameters-kept}
use Rattle.projective.proofs.Picked.{same-form}
use Rattle.projective.proofs.TurnWorths.{shifted-worth}
use Rattle.projective_bounds.specs.Loops.{parameters_of}
use Rattle.projective_bounds.specs.Outline.{nest_below, value_among}
use Rattle.projective_bounds.proofs.Forms.{put-over}
use Rattle.projective_bounds.proofs.LoopValues.{value-other, values-fit}
use Rattle.projective_bounds.proofs.Nests.{nest-many}
use Rattle.projective_bounds.proofs.Unequal.{differs}

-- ---- a loop more

-- the bounds of a variable more
nest-push : (vars : ℕ) (qs : List ℕ) (q : ℕ) → nest_below vars (qs ++ q ∷ []) ≡ nest_below vars qs ++ (constant_form (vars + length qs) (pos 0), shifted_variable (vars + length qs) q (negsuc 0)) ∷ []
nest-push vars [] q = ap (λ (n : ℕ). (constant_form n (pos 0), shifted_variable n q (negsuc 0)) ∷ []) (none vars) where
  none : (n : ℕ) → n ≡ n + 0
  none n = omega arith
nest-push vars (x ∷ qs) q =
    ap (λ (nest : List (AffineForm × AffineForm)). (constant_form vars (pos 0), shifted_variable vars x (negsuc 0)) ∷ nest) (nest-push (suc vars) qs q)
    ∙ ap (λ (n : ℕ). (constant_form vars (pos 0), shifted_variable vars x (negsuc 0)) ∷ (nest_below (suc vars) qs ++ (constant_form n (pos 0), shifted_variable n q (negsuc 0)) ∷ [])) (moved vars (length qs)) where
      moved : (m n : ℕ) → suc m + n ≡ m + suc n
      moved m n = omega arith

-- forms over a variable more
wide-constant : (vars : ℕ) → widened (vars + 1) (constant_form vars (pos 0)) ≡ constant_form (vars + 1) (pos 0)
wide-constant vars =
    same-form (vars + 1) (widened (vars + 1) (constant_form vars (pos 0))) (constant_form (vars + 1) (pos 0))
    (length-widened (vars + 1) (constant_form vars (pos 0)) (omega (arith, length-replicate {A = ℤ} vars (pos 0)))) (length-replicate (vars + 1) (pos 0))
    (λ point long. form_value-widened (vars + 1) (constant_form vars (pos 0)) point ∙ form_value-constant vars (pos 0) point ∙ sym (form_value-constant (vars + 1) (pos 0) point))

variable-many : (vars place : ℕ) → variables (variable vars place) ≡ vars
variable-many vars place = (variables-over vars place 1).0.over

wide-variable : (vars place : ℕ) → place < vars → widened (vars + 1) (variable vars place) ≡ variable (vars + 1) place
wide-variable vars place below =
    same-form (vars + 1) (widened (vars + 1) (variable vars place)) (variable (vars + 1) place)
    (length-widened (vars + 1) (variable vars place) (omega (arith, variable-many vars place))) (variable-many (vars + 1) place)
    (λ point long. form_value-widened (vars + 1) (variable vars place) point ∙ form_value-variable vars place point below ∙ sym (form_value-variable (vars + 1) place point (omega (arith, below))))

-- the value of another loop, over a variable more
wide-value : (vars place : ℕ) (loops : List ℕ) (last level : ℕ) → last ≢ level → place + length loops ≤ vars → value_among (vars + 1) place (loops ++ last ∷ []) level ≡ widened (vars + 1) (value_among vars place loops level)
wide-value vars place [] last level other room =
    ap (λ (b : Bool). if b then variable (vars + 1) place else constant_form (vars + 1) (pos 0)) (differs last level other) ∙ sym (wide-constant vars)
wide-value vars place (l ∷ loops) last level other room = by (l == level) (wide-value vars (suc place) loops last level other (omega (arith, room))) where
  by : (b : Bool) → value_among (vars + 1) (suc place) (loops ++ last ∷ []) level ≡ widened (vars + 1) (value_among vars (suc place) loops level)
      → (if b then variable (vars + 1) place else value_among (vars + 1) (suc place) (loops ++ last ∷ []) level) ≡ widened (vars + 1) (if b then variable vars place else value_among vars (suc place) loops level)
  by true rest = sym (wide-variable vars place (omega (arith, room)))
  by false rest = rest

wide-values : (vars place : ℕ) (loops : List ℕ) (last : ℕ) (levels : List ℕ) → AllByRecursion (λ (level : ℕ). level < last) levels → place + length loops ≤ vars
    → map (value_among (vars + 1) place (loops ++ last ∷ [])) levels ≡ map (widened (vars + 1)) (map (value_among vars place loops) levels)
wide-values vars place loops last [] below room = refl
wide-values vars place loops last (level ∷ levels) below room =
    ap (λ (form : AffineForm). form ∷ map (value_among (vars + 1) place (loops ++ last ∷ [])) levels) (wide-value vars place loops last level (λ e. absurd (omega (arith, below.0, e))) room)
    ∙ ap (λ (forms : List AffineForm). widened (vars + 1) (value_among vars place loops level) ∷ forms) (wide-values vars place loops last levels below.1 room)

-- its own
last-value : (vars place : ℕ) (loops : List ℕ) (last : ℕ) → AllByRecursion (λ (loop : ℕ). loop < last) loops → value_among vars place (loops ++ last ∷ []) last ≡ variable vars (place + length loops)
last-value vars place [] last below =
    ap (λ (b : Bool). if b then variable vars place else constant_form vars (pos 0)) (eq-eqb last last refl) ∙ ap (variable vars) (none place) where
      none : (n : ℕ) → n ≡ n + 0
      none n = omega arith
last-value vars place (l ∷ loops) last below =
    ap (λ (b : Bool). if b then variable vars place else value_among vars (suc place) (loops ++ last ∷ []) last) (differs l last (λ e. absurd (omega (arith, below.0, e))))
    ∙ last-value vars (suc place) loops last below.1 ∙ ap (variable vars) (moved place (length loops)) where
      moved : (m n : ℕ) → suc m + n ≡ m + suc n
      moved m n = omega arith

range-below : (first count bound : ℕ) → first + count ≤ bound → AllByRecursion (λ (level : ℕ). level < bound) (range_with_len first count)
range-below first zero bound le = tt
range-below first (suc count) bound le = (omega (arith, le), range-below (first + 1) count bound (omega (arith, le)))

module _ (program : AffineProgram) (below : List ℕ) where
  abbrev p : ℕ
  p = length program.parameters

  -- the nest and the values behind so many loops, of which these are named
  abbrev pub nest_for : List ℕ → List (AffineForm × AffineForm)
  nest_for loops = nest_below p (parameters_of below loops)

  abbrev pub state_after : List ℕ → ℕ → NestSoFar
  state_after loops count = record { nest = nest_for loops; values = map (value_among (p + length (nest_for loops)) p loops) (range_with_len 0 count) }

  nest-size : (loops : List ℕ) → length (nest_for loops) ≡ length loops
  nest-size loops = nest-many p (parameters_of below loops) ∙ length-map loops (λ level. get_or below level 0)

  -- ---- a loop's bounds at the values so far

  module _ (loops : List ℕ) (count : ℕ) where
    abbrev wide : ℕ
    wide = p + length (nest_for loops)

    abbrev far : NestSoFar
    far = state_after loops count

    abbrev point : List AffineForm
    point = parameter_point program wide ++ far.values

    point-many : length point ≡ p + count
    point-many = omega (
      arith,
      length-append (parameter_point program wide) far.values,
      length-variables wide 0 p,
      length-map (range_with_len 0 count) (value_among wide p loops),
      length-range_with_len 0 count,
    )

    point-over : AllOver wide point
    point-over = All-weaken (IsSmallOver wide) (λ (f : AffineForm). variables f ≡ wide) point (λ f h. h.over)
        (All-append (IsSmallOver wide) (parameter_point program wide) far.values (variables-over wide 0 p) (values-fit wide p loops (range_with_len 0 count)))

    kept : KeepsParameters p point
    kept = keeps-more p (parameter_point program wide) far.values (parameters-kept wide p (omega arith))

    at-lower : at_values program far (constant_form (p + count) (pos 0)) ≡ constant_form wide (pos 0)
    at-lower =
        same-form wide (at_values program far (constant_form (p + count) (pos 0))) (constant_form wide (pos 0))
        (put-over wide (constant_form (p + count) (pos 0)) point (point-many ∙ sym (length-replicate (p + count) (pos 0))) point-over) (length-replicate wide (pos 0))
        (λ xs long. form_value-widened wide (substitution (constant_form (p + count) (pos 0)) point) xs ∙ form_value-substitution (constant_form (p + count) (pos 0)) point xs
        ∙ form_value-constant (p + count) (pos 0) (values_at point xs) ∙ sym (form_value-constant wide (pos 0) xs))

    at-upper : (q : ℕ) → q < p → at_values program far (shifted_variable (p + count) q (negsuc 0)) ≡ shifted_variable wide q (negsuc 0)
    at-upper q there =
        same-form wide (at_values program far (shifted_variable (p + count) q (negsuc 0))) (shifted_variable wide q (negsuc 0))
        (put-over wide (shifted_variable (p + count) q (negsuc 0)) point (point-many ∙ sym (variable-many (p + count) q)) point-over) (variable-many wide q)
        (λ xs long. form_value-widened wide (substitution (shifted_variable (p + count) q (negsuc 0)) point) xs ∙ form_value-substitution (shifted_variable (p + count) q (negsuc 0)) point xs
        ∙ shifted-worth (p + count) q (values_at point xs) (omega (arith, there)) ∙ ap (λ (z : ℤ). z +ℤ negsuc 0) (kept.same xs q there)
        ∙ sym (shifted-worth wide q xs (omega (arith, there))))

    -- ---- into a loop

    variable-more : (q : ℕ) → q < p → get_or below count 0 ≡ q → AllByRecursion (λ (loop : ℕ). loop < count) loops
        → with_variable program far (constant_form (p + count) (pos 0)) (shifted_variable (p + count) q (negsuc 0)) ≡ state_after (loops ++ count ∷ []) (count + 1)
    variable-more q there is rises = λ i. record { nest = nests i; values = (news ∙ sym olds) i } where
      params : parameters_of below (loops ++ count ∷ []) ≡ parameters_of below loops ++ q ∷ []
      params = map-append (λ level. get_or below level 0) loops (count ∷ []) ∙ ap (λ (n : ℕ). parameters_of below loops ++ n ∷ []) is

      same : p + length (parameters_of below loops) ≡ wide
      same = ap (λ (n : ℕ). p + n) (sym (nest-many p (parameters_of below loops)))

      pushed : nest_for (loops ++ count ∷ []) ≡ nest_for loops ++ (constant_form wide (pos 0), shifted_variable wide q (negsuc 0)) ∷ []
      pushed =
          ap (nest_below p) params ∙ nest-push p (parameters_of below loops) q
          ∙ ap (λ (n : ℕ). nest_for loops ++ (constant_form n (pos 0), shifted_variable n q (negsuc 0)) ∷ []) same

      nests : far.nest ++ (at_values program far (constant_form (p + count) (pos 0)), at_values program far (shifted_variable (p + count) q (negsuc 0))) ∷ [] ≡ nest_for (loops ++ count ∷ [])
      nests =
          ap (λ (f : AffineForm). far.nest ++ (f, at_values program far (shifted_variable (p + count) q (negsuc 0))) ∷ []) at-lower
          ∙ ap (λ (f : AffineForm). far.nest ++ (constant_form wide (pos 0), f) ∷ []) (at-upper q there) ∙ sym pushed

      wider : p + length (nest_for (loops ++ count ∷ [])) ≡ wide + 1
      wider = omega (arith, nest-size (loops ++ count ∷ []), nest-size loops, length-append loops (count ∷ []))

      place : p + length loops ≡ wide
      place = ap (λ (n : ℕ). p + n) (sym (nest-size loops))

      news : map (widened (wide + 1)) far.values ++ variable (wide + 1) wide ∷ [] ≡ map (value_among (wide + 1) p (loops ++ count ∷ [])) (range_with_len 0 (count + 1))
      news =
          ap (λ (f : AffineForm). map (widened (wide + 1)) far.values ++ f ∷ []) (sym (last-value (wide + 1) p loops count rises ∙ ap (variable (wide + 1)) place))
          ∙ ap (λ (forms : List AffineForm). forms ++ value_among (wide + 1) p (loops ++ count ∷ []) count ∷ [])
          (sym (wide-values wide p loops count (range_with_len 0 count) (range-below 0 count count (omega arith)) (omega (arith, place))))
          ∙ sym (map-range_with_len_more (value_among (wide + 1) p (loops ++ count ∷ [])) 0 count count (omega arith))

      olds : (state_after (loops ++ count ∷ []) (count + 1)).values ≡ map (value_among (wide + 1) p (loops ++ count ∷ [])) (range_with_len 0 (count + 1))
      olds = ap (λ (n : ℕ). map (value_among n p (loops ++ count ∷ [])) (range_with_len 0 (count + 1))) wider

    first-more : AllByRecursion (λ (loop : ℕ). loop < count) loops → with_first program far (constant_form (p + count) (pos 0)) ≡ state_after loops (count + 1)
    first-more rises = λ i. record { nest = nest_for loops; values = more i } where
      others : AllByRecursion (λ (loop : ℕ). loop ≢ count) loops
      others = All-weaken (λ (loop : ℕ). loop < count) (λ (loop : ℕ). loop ≢ count) loops (λ loop less e. absurd (omega (arith, less, e))) rises

      more : far.values ++ at_values program far (constant_form (p + count) (pos 0)) ∷ [] ≡ map (value_among wide p loops) (range_with_len 0 (count + 1))
      more =
          ap (λ (f : AffineForm). far.values ++ f ∷ []) (at-lower ∙ sym (value-other wide p loops count others))
          ∙ sym (map-range_with_len_more (value_among wide p loops) 0 count count (omega arith))

  -- ---- along the way

  module _ (statement : ℕ) (upward : (loop : ℕ) → direction_at program statement loop ≡ up) (all : List ℕ) where
    pub nest-along : (bounds : List (AffineForm × AffineForm)) (rest loops : List ℕ) (count : ℕ) → RunBelow program (p + count) bounds rest → ((i : ℕ) → get_or rest i 0 ≡ get_or below (count + i) 0)
        → AllByRecursion (λ (loop : ℕ). loop < count) loops
        → nest_along program statement all count bounds (state_after loops count) ≡ state_after (loops ++ filter (is_named all) (range_with_len count (length bounds))) (count + length bounds)
    nest-along [] rest loops count run same rises =
        ap (λ (ns : List ℕ). state_after ns count) (sym (append-nil loops)) ∙ ap (state_after (loops ++ [])) (none count) where
          none : (n : ℕ) → n ≡ n + 0
          none n = omega arith
    nest-along (b ∷ bounds) [] loops count run same rises = absurd run
    nest-along (b ∷ bounds) (q ∷ rest) loops count run same rises =
        by (is_named all count) refl (λ ns small. nest-along bounds rest ns (count + 1) (subst (λ (n : ℕ). RunBelow program n bounds rest) (moved p count) run.1)
        (λ i. same (suc i) ∙ ap (λ (n : ℕ). get_or below n 0) (shift count i)) small ∙ ap (state_after (ns ++ later)) (shift_one count (length bounds))) where
          later : List ℕ
          later = filter (is_named all) (range_with_len (count + 1) (length bounds))

          moved : (m n : ℕ) → suc (m + n) ≡ m + (n + 1)
          moved m n = omega arith

          shift : (m n : ℕ) → m + suc n ≡ m + 1 + n
          shift m n = omega arith

          shift_one : (m n : ℕ) → m + 1 + n ≡ m + suc n
          shift_one m n = omega arith

          farther : AllByRecursion (λ (loop : ℕ). loop < count + 1) loops
          farther = All-weaken (λ (loop : ℕ). loop < count) (λ (loop : ℕ). loop < count + 1) loops (λ loop less. omega (arith, less)) rises

          here : get_or below count 0 ≡ q
          here = ap (λ (n : ℕ). get_or below n 0) (none count) ∙ sym (same 0) where
            none : (n : ℕ) → n ≡ n + 0
            none n = omega arith

          is : b ≡ (constant_form (p + count) (pos 0), shifted_variable (p + count) q (negsuc 0))
          is = λ i. (run.0.lower i, run.0.upper i)

          by : (found : Bool) → is_named all count ≡ found
              → ((ns : List ℕ) → AllByRecursion (λ (loop : ℕ). loop < count + 1) ns → nest_along program statement all (count + 1) bounds (state_after ns (count + 1)) ≡ state_after (ns ++ later) (count + suc (length bounds)))
              → nest_along program statement all (count + 1) bounds (into_loop program (is_named all count) (direction_at program statement count) (state_after loops count) b)
              ≡ state_after (loops ++ filter (is_named all) (range_with_len count (suc (length bounds)))) (count + suc (length bounds))
          by true e next =
              ap (λ (c : Bool). nest_along program statement all (count + 1) bounds (into_loop program c (direction_at program statement count) (state_after loops count) b)) e
              ∙ ap (λ (c : AffineForm × AffineForm). nest_along program statement all (count + 1) bounds (with_variable program (state_after loops count) c.0 c.1)) is
              ∙ ap (nest_along program statement all (count + 1) bounds) (variable-more loops count q run.0.there here rises)
              ∙ next (loops ++ count ∷ []) (All-push (λ (loop : ℕ). loop < count + 1) loops count farther (omega arith))
              ∙ ap (λ (ns : List ℕ). state_after ns (count + suc (length bounds))) (append_assoc loops (count ∷ []) later)
              ∙ ap (λ (c : Bool). state_after (loops ++ cond c (count ∷ later) later) (count + suc (length bounds))) (sym e)
          by false e next =
              ap (λ (c : Bool). nest_along program statement all (count + 1) bounds (into_loop program c (direction_at program statement count) (state_after loops count) b)) e
              ∙ ap (λ (d : Direction). nest_along program statement all (count + 1) bounds (with_first program (state_after loops count) (first_bound d b))) (upward count)
              ∙ ap (λ (c : AffineForm × AffineForm). nest_along program statement all (count + 1) bounds (with_first program (state_after loops count) c.0)) is
              ∙ ap (nest_along program statement all (count + 1) bounds) (first-more loops count rises)
              ∙ next loops farther
              ∙ ap (λ (c : Bool). state_after (loops ++ cond c (count ∷ later) later) (count + suc (length bounds))) (sym e)
