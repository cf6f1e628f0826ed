-- Rows that are picked from others, in their order, and what their sum shows.
use Rattle.std.proofs.Common.{◌≡◌, ◌≢◌, refl, sym, ◌∙◌, ap, subst, inl, inr, ℕ, zero, suc, ◌<◌, ◌≤◌, List, [], ◌∷◌, ◌++◌, length, map, replicate, get_or, arith, lit≤}
use Rattle.std.specs.Prelude.{◌⊎◌, ⊤, slice_set}
use Rattle.std.specs.List.{AllByRecursion}
use Rattle.std.proofs.Math.IntN.{ℤ, pos, ◌+ℤ◌, ◌*ℤ◌}
use Rattle.std.proofs.lemmas.Int.{ints}
use Rattle.std.proofs.lemmas.List.{ext_get_or, length-map, length-replicate, length-set}
use Rattle.base_laws.proofs.Ring.{mul-zero, mul-one, one-mul}
use Rattle.iolb_model.specs.Form.{AffineForm, dot, form_value}
use Rattle.affine_form.specs.Combination.{scale_form, constant_form, combination}
use Rattle.affine_form.specs.Form.{variables}
use Rattle.affine_form.specs.Multipliers.{FarkasMultipliers}
use Rattle.affine_form.specs.Shown.{row_at, weighted_rows, NamesRows}
use Rattle.affine_form.specs.System.{AffineSystem, AllOver}
use Rattle.affine_form.proofs.Combination.{form_value-add, form_value-scale, form_value-constant}
use Rattle.affine_form.proofs.Meaning.{form_value-widened}
use Rattle.affine_form.proofs.ShownLemmas.{length-row_sum}
use Rattle.affine_form.specs.Rows.{widened}
use Rattle.int_sets.specs.ShortList.{IsOnceOrTwice, RowsDiffer, HasShortList}
use Rattle.iolb_model.specs.declared.limits.TheConstants.{MULTIPLIER_SIZE}

-- ---- forms with the same values

dot-none : (cs : List ℤ) (n : ℕ) → dot cs (replicate n (pos 0)) ≡ pos 0
dot-none [] n = refl
dot-none (c ∷ cs) zero = refl
dot-none (c ∷ cs) (suc n) = let a : c *ℤ pos 0 ≡ pos 0 = mul-zero c in let b : dot cs (replicate n (pos 0)) ≡ pos 0 = dot-none cs n in omega (arith, ints)

dot-one : (cs : List ℤ) (n i : ℕ) → i < n → dot cs (slice_set (replicate n (pos 0)) i (pos 1)) ≡ get_or cs i (pos 0)
dot-one [] n i below = refl
dot-one (c ∷ cs) zero i below = absurd (omega arith)
dot-one (c ∷ cs) (suc n) zero below = let a : c *ℤ pos 1 ≡ c = mul-one c in let b : dot cs (replicate n (pos 0)) ≡ pos 0 = dot-none cs n in omega (arith, ints)
dot-one (c ∷ cs) (suc n) (suc i) below =
    let a : c *ℤ pos 0 ≡ pos 0 = mul-zero c in
    let b : dot cs (slice_set (replicate n (pos 0)) i (pos 1)) ≡ get_or cs i (pos 0) = dot-one cs n i (omega arith) in omega (arith, ints)

-- two forms over as many variables that have the same value at every point are the same
pub same-form : (vars : ℕ) (f g : AffineForm) → variables f ≡ vars → variables g ≡ vars
    → ((point : List ℤ) → length point ≡ vars → form_value f point ≡ form_value g point) → f ≡ g
same-form vars f g p q same = joined (ext_get_or (pos 0) f.coefficients g.coefficients (p ∙ sym q) (λ i below. each i (subst (λ (n : ℕ). i < n) p below))) last where
  joined : f.coefficients ≡ g.coefficients → f.constant ≡ g.constant → f ≡ g
  joined a b = ap (λ (xs : List ℤ). record { coefficients = xs; constant = f.constant }) a ∙ ap (λ (x : ℤ). record { coefficients = g.coefficients; constant = x }) b

  last : f.constant ≡ g.constant
  last = let h : form_value f (replicate vars (pos 0)) ≡ form_value g (replicate vars (pos 0)) = same (replicate vars (pos 0)) (length-replicate vars (pos 0)) in
      let a : dot f.coefficients (replicate vars (pos 0)) ≡ pos 0 = dot-none f.coefficients vars in
      let b : dot g.coefficients (replicate vars (pos 0)) ≡ pos 0 = dot-none g.coefficients vars in omega (arith, ints)

  each : (i : ℕ) → i < vars → get_or f.coefficients i (pos 0) ≡ get_or g.coefficients i (pos 0)
  each i below =
      let unit : List ℤ = slice_set (replicate vars (pos 0)) i (pos 1) in
      let h : form_value f unit ≡ form_value g unit = same unit (length-set (replicate vars (pos 0)) i (pos 1) ∙ length-replicate vars (pos 0)) in
      let a : dot f.coefficients unit ≡ get_or f.coefficients i (pos 0) = dot-one f.coefficients vars i below in
      let b : dot g.coefficients unit ≡ get_or g.coefficients i (pos 0) = dot-one g.coefficients vars i below in
      let c : f.constant ≡ g.constant = last in omega (arith, ints)

-- ---- rows that are picked

-- what a form is worth at a point
abbrev pub Worth : Type 0
Worth = List ℤ → ℤ

abbrev pub IsWorth : AffineForm → Worth → Type 0
IsWorth form worth = (point : List ℤ) → form_value form point ≡ worth point

-- some of the rows, in their order, are worth this
abbrev pub IsPicked : List AffineForm → List Worth → Type 0
IsPicked rows [] = ⊤
IsPicked [] (w ∷ picked) = ⊥
IsPicked (row ∷ rows) (w ∷ picked) = (IsWorth row w × IsPicked rows picked) ⊎ IsPicked rows (w ∷ picked)

pub picked-none : (rows : List AffineForm) → IsPicked rows []
picked-none [] = tt
picked-none (row ∷ rows) = tt

pub picked-right : (before rows : List AffineForm) (picked : List Worth) → IsPicked rows picked → IsPicked (before ++ rows) picked
picked-right [] rows picked h = h
picked-right (row ∷ before) rows [] h = tt
picked-right (row ∷ before) rows (w ∷ picked) h = inr (picked-right before rows (w ∷ picked) h)

pub picked-append : (rows more : List AffineForm) (picked others : List Worth) → IsPicked rows picked → IsPicked more others → IsPicked (rows ++ more) (picked ++ others)
picked-append [] more [] others h k = k
picked-append [] more (w ∷ picked) others h k = absurd h
picked-append (row ∷ rows) more [] others h k = picked-right (row ∷ rows) more others k
picked-append (row ∷ rows) more (w ∷ picked) others (inl h) k = inl (h.0, picked-append rows more picked others h.1 k)
picked-append (row ∷ rows) more (w ∷ picked) others (inr h) k = inr (picked-append rows more (w ∷ picked) others h k)

-- one row of the first, one of the second
pub picked-left : (rows more : List AffineForm) (w : Worth) → IsPicked rows (w ∷ []) → IsPicked (rows ++ more) (w ∷ [])
picked-left rows more w h = picked-append rows more (w ∷ []) [] h (picked-none more)

-- rows read over more variables are worth the same
pub picked-wide : (vars : ℕ) (rows : List AffineForm) (picked : List Worth) → IsPicked rows picked → IsPicked (map (widened vars) rows) picked
picked-wide vars rows [] h = picked-none (map (widened vars) rows)
picked-wide vars [] (w ∷ picked) h = absurd h
picked-wide vars (row ∷ rows) (w ∷ picked) (inl h) = inl ((λ point. form_value-widened vars row point ∙ h.0 point), picked-wide vars rows picked h.1)
picked-wide vars (row ∷ rows) (w ∷ picked) (inr h) = inr (picked-wide vars rows (w ∷ picked) h)

-- ---- multipliers for them

-- the sum of what they are worth
abbrev pub worth_sum : List Worth → List ℤ → ℤ
worth_sum [] point = pos 0
worth_sum (w ∷ ws) point = w point +ℤ worth_sum ws point

abbrev later : ℕ × ℕ → ℕ × ℕ
later weight = (suc weight.0, weight.1)

weighted-later : (row : AffineForm) (rows : List AffineForm) (ws : List (ℕ × ℕ)) → weighted_rows (row ∷ rows) (map later ws) ≡ weighted_rows rows ws
weighted-later row rows [] = refl
weighted-later row rows (w ∷ ws) = ap (λ (others : List (ℤ × AffineForm)). (pos w.1, row_at rows w.0) ∷ others) (weighted-later row rows ws)

named-later : (row : AffineForm) (rows : List AffineForm) (ws : List (ℕ × ℕ)) → NamesRows rows ws → NamesRows (row ∷ rows) (map later ws)
named-later row rows [] h = tt
named-later row rows (w ∷ ws) h = (omega (arith, h.0), named-later row rows ws h.1)

taken-later : (ws : List (ℕ × ℕ)) → AllByRecursion IsOnceOrTwice ws → AllByRecursion IsOnceOrTwice (map later ws)
taken-later [] h = tt
taken-later (w ∷ ws) h = (h.0, taken-later ws h.1)

differ-one : (n : ℕ) (ws : List (ℕ × ℕ)) → AllByRecursion (λ (other : ℕ × ℕ). n ≢ other.0) ws → AllByRecursion (λ (other : ℕ × ℕ). suc n ≢ other.0) (map later ws)
differ-one n [] h = tt
differ-one n (w ∷ ws) h = ((λ e. h.0 (omega arith)), differ-one n ws h.1)

differ-later : (ws : List (ℕ × ℕ)) → RowsDiffer ws → RowsDiffer (map later ws)
differ-later [] h = tt
differ-later (w ∷ ws) h = (differ-one w.0 ws h.0, differ-later ws h.1)

differ-first : (ws : List (ℕ × ℕ)) → AllByRecursion (λ (other : ℕ × ℕ). zero ≢ other.0) (map later ws)
differ-first [] = tt
differ-first (w ∷ ws) = ((λ e. absurd (omega arith)), differ-first ws)

-- multipliers that take each of the rows once
record Taken (rows : List AffineForm) (picked : List Worth) : Type 0 where
  pub weights : List (ℕ × ℕ)
  pub many : length weights ≡ length picked
  pub named : NamesRows rows weights
  pub once : AllByRecursion IsOnceOrTwice weights
  pub different : RowsDiffer weights
  pub sum : (start : AffineForm) (point : List ℤ) → form_value (combination (weighted_rows rows weights) start) point ≡ worth_sum picked point +ℤ form_value start point

taken : (rows : List AffineForm) (picked : List Worth) → IsPicked rows picked → Taken rows picked
taken rows [] h = record { weights = []; many = refl; named = tt; once = tt; different = tt; sum = λ start point. omega (arith, ints) }
taken [] (g ∷ picked) h = absurd h
taken (row ∷ rows) (g ∷ picked) (inl h) =
    let rest : Taken rows picked = taken rows picked h.1 in
    record {
      weights = (0, 1) ∷ map later rest.weights;
      many = ap suc (length-map rest.weights later ∙ rest.many);
      named = (omega arith, named-later row rows rest.weights rest.named);
      once = ((lit≤ tt, lit≤ tt), taken-later rest.weights rest.once);
      different = (differ-first rest.weights, differ-later rest.weights rest.different);
      sum = λ start point.
          let others : AffineForm = combination (weighted_rows (row ∷ rows) (map later rest.weights)) start in
          let a : form_value (combination ((pos 1, row) ∷ weighted_rows (row ∷ rows) (map later rest.weights)) start) point ≡ form_value (scale_form (pos 1) row) point +ℤ form_value others point =
          form_value-add (scale_form (pos 1) row) others point in
          let b : form_value (scale_form (pos 1) row) point ≡ pos 1 *ℤ form_value row point = form_value-scale (pos 1) row point in
          let c : pos 1 *ℤ form_value row point ≡ form_value row point = one-mul (form_value row point) in
          let d : form_value row point ≡ g point = h.0 point in
          let e : form_value others point ≡ worth_sum picked point +ℤ form_value start point =
          ap (λ (ws : List (ℤ × AffineForm)). form_value (combination ws start) point) (weighted-later row rows rest.weights) ∙ rest.sum start point in
          omega (arith, ints);
    }
taken (row ∷ rows) (g ∷ picked) (inr h) =
    let rest : Taken rows (g ∷ picked) = taken rows (g ∷ picked) h in
    record {
      weights = map later rest.weights;
      many = length-map rest.weights later ∙ rest.many;
      named = named-later row rows rest.weights rest.named;
      once = taken-later rest.weights rest.once;
      different = differ-later rest.weights rest.different;
      sum = λ start point. ap (λ (ws : List (ℤ × AffineForm)). form_value (combination ws start) point) (weighted-later row rows rest.weights) ∙ rest.sum start point;
    }

-- A goal whose value is everywhere the sum of the values of at most four rows, and a number, has a short list.
pub picked-shows : (system : AffineSystem) (goal : AffineForm) (picked : List Worth) (rest : ℕ) → AllOver system.vars system.rows → variables goal ≡ system.vars
    → IsPicked system.rows picked → length picked ≤ 4 → rest < MULTIPLIER_SIZE
    → ((point : List ℤ) → length point ≡ system.vars → form_value goal point ≡ worth_sum picked point +ℤ pos rest) → HasShortList system goal
picked-shows system goal picked rest over same is few small sum =
    let t : Taken system.rows picked = taken system.rows picked is in
    let list : FarkasMultipliers = record { scale = 1; rest = rest; weights = t.weights } in (
      list,
      record { scale = refl; rest = small; few = subst (λ (n : ℕ). n ≤ 4) (sym t.many) few; taken = t.once; different = t.different },
      record {
        named = t.named;
        identity = same-form system.vars (scale_form (pos 1) goal) (combination (weighted_rows system.rows t.weights) (constant_form system.vars (pos rest)))
            (length-map goal.coefficients (λ (x : ℤ). pos 1 *ℤ x) ∙ same) (length-row_sum system.vars system.rows t.weights (pos rest) over t.named)
            (λ point long.
            let a : form_value (scale_form (pos 1) goal) point ≡ pos 1 *ℤ form_value goal point = form_value-scale (pos 1) goal point in
            let b : pos 1 *ℤ form_value goal point ≡ form_value goal point = one-mul (form_value goal point) in
            let c = t.sum (constant_form system.vars (pos rest)) point in
            let d : form_value (constant_form system.vars (pos rest)) point ≡ pos rest = form_value-constant system.vars (pos rest) point in
            let e = sum point long in omega (arith, ints));
      },
    )
