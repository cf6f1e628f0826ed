-- The labels of words at the leaves of source trees are those of their readers.
use Rattle.std.proofs.Common.{◌≡◌, refl, sym, ◌∙◌, ap, subst, ℕ, zero, suc, ◌+◌, ◌<◌, List, [], ◌∷◌, ◌++◌, length, map, get_or, arith}
use Rattle.std.specs.Prelude.{pos}
use Rattle.std.specs.List.{AllByRecursion}
use Rattle.std.proofs.lemmas.List.{length-append, length-map, get_or-map}
use Rattle.base_laws.proofs.Lists.{All-append, All-weaken}
use Rattle.iolb_model.specs.Form.{AffineForm}
use Rattle.affine_form.specs.Form.{variables}
use Rattle.affine_form.specs.Rows.{IsSmallOver, variable, variables_from}
use Rattle.affine_form.specs.System.{AllOver}
use Rattle.affine_form.proofs.RowLemmas.{length-variables, variables-over}
use Rattle.dep_quast.specs.OpenLeaves.{form_at}
use Rattle.projective_bounds.proofs.Forms.{put-over, put-variable}

abbrev pub none : AffineForm
none = record { coefficients = []; constant = pos 0 }

pub at-behind : {X : Type 0} (xs ys : List X) (n k : ℕ) (d : X) → length xs ≡ n → get_or (xs ++ ys) (n + k) d ≡ get_or ys k d
at-behind xs ys n k d e = subst (λ (m : ℕ). get_or (xs ++ ys) (m + k) d ≡ get_or ys k d) e (own xs) where
  own : (zs : List _) → get_or (zs ++ ys) (length zs + k) d ≡ get_or ys k d
  own [] = ap (λ (m : ℕ). get_or ys m d) (front k) where
    front : (m : ℕ) → 0 + m ≡ m
    front m = omega arith
  own (z ∷ zs) = ap (λ (m : ℕ). get_or (z ∷ (zs ++ ys)) m d) (next (length zs) k) ∙ own zs where
    next : (m j : ℕ) → suc m + j ≡ suc (m + j)
    next m j = omega arith

pub variables-at : (vars first count k : ℕ) (d : AffineForm) → k < count → get_or (variables_from vars first count) k d ≡ variable vars (first + k)
variables-at vars first zero k d h = absurd (omega arith)
variables-at vars first (suc count) zero d h = ap (variable vars) (back first) where
  back : (n : ℕ) → n ≡ n + 0
  back n = omega arith
variables-at vars first (suc count) (suc k) d h = variables-at vars (suc first) count k d (omega arith) ∙ ap (variable vars) (moved first k) where
  moved : (m n : ℕ) → suc m + n ≡ m + suc n
  moved m n = omega arith

pub variables-all : (vars first count : ℕ) → AllOver vars (variables_from vars first count)
variables-all vars first count = All-weaken (IsSmallOver vars) (λ (f : AffineForm). variables f ≡ vars) (variables_from vars first count) (λ f h. h.over) (variables-over vars first count)

pub map-over : (vars n : ℕ) (point forms : List AffineForm) → length point ≡ n → AllOver vars point → AllOver n forms → AllOver vars (map (form_at vars point) forms)
map-over vars n point [] e over h = tt
map-over vars n point (f ∷ fs) e over h = (put-over vars f point (e ∙ sym h.0) over, map-over vars n point fs e over h.1)

-- The parameters and the loop values of readers, of which there are p and d; s is p too.
module _ (p d s vars : ℕ) (same : s ≡ p) (all : vars ≡ p + d) where
  abbrev pub point : List AffineForm
  point = variables_from vars 0 p ++ variables_from vars s d

  pub point-many : length point ≡ p + d
  point-many = omega (arith, length-append (variables_from vars 0 p) (variables_from vars s d), length-variables vars 0 p, length-variables vars s d)

  pub point-over : AllOver vars point
  point-over = All-append (λ (f : AffineForm). variables f ≡ vars) (variables_from vars 0 p) (variables_from vars s d) (variables-all vars 0 p) (variables-all vars s d)

  -- the reader's own loop values
  pub loop-at : (loop : ℕ) → loop < d → form_at vars point (variable (p + d) (p + loop)) ≡ variable (p + d) (p + loop)
  loop-at loop below =
      put-variable vars (p + d) (p + loop) point none point-many (omega arith) point-over ∙ at-behind (variables_from vars 0 p) (variables_from vars s d) p loop none (length-variables vars 0 p)
      ∙ variables-at vars s d loop none below ∙ ap (λ (n : ℕ). variable n (s + loop)) all ∙ ap (λ (n : ℕ). variable (p + d) (n + loop)) same

  module _ (values : List AffineForm) (over : AllOver vars values) where
    abbrev behind : List AffineForm
    behind = variables_from vars 0 s ++ values

    behind-over : AllOver vars behind
    behind-over = All-append (λ (f : AffineForm). variables f ≡ vars) (variables_from vars 0 s) values (variables-all vars 0 s) over

    -- a variable behind the parameters has the value at its place
    pub behind-at : (n k : ℕ) → length values ≡ n → k < n → form_at vars behind (variable (p + n) (p + k)) ≡ get_or values k none
    behind-at n k many below =
        put-variable vars (p + n) (p + k) behind none (omega (arith, length-append (variables_from vars 0 s) values, length-variables vars 0 s)) (omega arith) behind-over
        ∙ at-behind (variables_from vars 0 s) values p k none (length-variables vars 0 s ∙ same)

  -- labels by the values of loops: of an instance, and of a cell by its subscripts
  module _ (forms : List AffineForm) (over : AllOver (p + d) forms) where
    abbrev values : List AffineForm
    values = map (form_at vars point) forms

    values-over : AllOver vars values
    values-over = map-over vars (p + d) point forms point-many point-over over

    values-many : length values ≡ length forms
    values-many = length-map forms (form_at vars point)

    -- where a form is a loop's variable, its value behind the parameters is too
    pub value-at : (n k loop : ℕ) → length forms ≡ n → k < n → loop < d → get_or forms k none ≡ variable (p + d) (p + loop)
        → form_at vars (variables_from vars 0 s ++ values) (variable (p + n) (p + k)) ≡ variable (p + d) (p + loop)
    value-at n k loop many below inside is =
        behind-at values values-over n k (values-many ∙ many) below ∙ get_or-map (form_at vars point) forms k none none (omega arith) ∙ ap (form_at vars point) is ∙ loop-at loop inside

    -- the label of loops, of an instance with these values
    pub loops-kept : (loops : List ℕ) → length forms ≡ d → AllByRecursion (λ (loop : ℕ). loop < d) loops → AllByRecursion (λ (loop : ℕ). get_or forms loop none ≡ variable (p + d) (p + loop)) loops
        → map (form_at vars (variables_from vars 0 s ++ values)) (map (λ (loop : ℕ). variable (p + d) (p + loop)) loops) ≡ map (λ (loop : ℕ). variable (p + d) (p + loop)) loops
    loops-kept [] many inside is = refl
    loops-kept (loop ∷ loops) many inside is =
        ap (λ (f : AffineForm). f ∷ map (form_at vars (variables_from vars 0 s ++ values)) (map (λ (l : ℕ). variable (p + d) (p + l)) loops)) (value-at d loop loop many inside.0 inside.0 is.0)
        ∙ ap (λ (fs : List AffineForm). variable (p + d) (p + loop) ∷ fs) (loops-kept loops many inside.1 is.1)

    -- the label of a cell with these subscripts
    pub cells-kept : (place : ℕ → ℕ) (loops : List ℕ) → AllByRecursion (λ (loop : ℕ). loop < d) loops
        → AllByRecursion (λ (loop : ℕ). (place loop < length forms) × (get_or forms (place loop) none ≡ variable (p + d) (p + loop))) loops
        → map (form_at vars (variables_from vars 0 s ++ values)) (map (λ (loop : ℕ). variable (p + length forms) (p + place loop)) loops) ≡ map (λ (loop : ℕ). variable (p + d) (p + loop)) loops
    cells-kept place [] inside is = refl
    cells-kept place (loop ∷ loops) inside is =
        ap (λ (f : AffineForm). f ∷ map (form_at vars (variables_from vars 0 s ++ values)) (map (λ (l : ℕ). variable (p + length forms) (p + place l)) loops))
        (value-at (length forms) (place loop) loop refl is.0.0 inside.0 is.0.1)
        ∙ ap (λ (fs : List AffineForm). variable (p + d) (p + loop) ∷ fs) (cells-kept place loops inside.1 is.1)
