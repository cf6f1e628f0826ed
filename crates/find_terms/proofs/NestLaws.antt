-- Nests of the loops that are named, loop after loop.
use Rattle.std.proofs.Common.{◌≡◌, sym, ◌∙◌, ap, subst, ℕ, suc, ◌+◌, ◌*◌, ◌-◌, ◌<◌, ◌≤◌, Bool, true, false, List, [], ◌∷◌, ◌++◌, length, map, filter, drop, replicate, get_or, arith, lit<}
use Rattle.std.specs.Prelude.{if◌then◌else◌, cond, flat_map, nat_eq}
use Rattle.std.specs.List.{AllByRecursion, range_with_len}
use Rattle.std.proofs.Math.IntN.{pos}
use Rattle.std.proofs.lemmas.List.{length-append, length-map}
use Rattle.base_laws.proofs.Lists.{All-append, All-push, rest_at, All-left, All-right}
use Rattle.iolb_model.specs.Form.{AffineForm}
use Rattle.iolb_model.specs.Program.{Direction, AffineProgram}
use Rattle.iolb_model.specs.declared.limits.TheConstants.{NUMBER_SIZE}
use Rattle.reuse_paths.proofs.EntryClaims.{all-widened-small}
use Rattle.affine_form.specs.Form.{variables, IsSmall, IsSmallForm}
use Rattle.affine_form.specs.Rows.{BoundsFit, IsSmallOver, variable, widened}
use Rattle.flow_deps.specs.Candidates.{direction_at, first_bound}
use Rattle.flow_deps.proofs.SmallForms.{variable-small}
use Rattle.certificate_fit.specs.Limits.{AreSmall}
use Rattle.find_terms.specs.Found.{FarFits, IsSmallNest}
use Rattle.find_terms.specs.Openings.{NestSoFar, at_values, into_loop, is_named, nest_along, same_loop, width, with_first, with_variable}

-- ---- small forms

narrowed-small : (vars : ℕ) (form : AffineForm) → IsSmallForm NUMBER_SIZE (widened vars form) → IsSmallForm NUMBER_SIZE form
narrowed-small vars form h = (All-left (IsSmall NUMBER_SIZE) form.coefficients (replicate (vars - length form.coefficients) (pos 0)) h.0, h.1)

narrowed-all : (vars : ℕ) (forms : List AffineForm) → AreSmall (map (widened vars) forms) → AreSmall forms
narrowed-all vars [] h = tt
narrowed-all vars (f ∷ forms) h = (narrowed-small vars f h.0, narrowed-all vars forms h.1)

-- ---- a step

module _ (program : AffineProgram) where
  -- where the numbers are small behind a step, they are before it
  into-small : (named : Bool) (direction : Direction) (far : NestSoFar) (step : AffineForm × AffineForm) → IsSmallNest (into_loop program named direction far step) → IsSmallNest far
  into-small true direction far step h = (
    All-left (λ (b : AffineForm × AffineForm). IsSmallForm NUMBER_SIZE b.0 × IsSmallForm NUMBER_SIZE b.1) far.nest ((at_values program far step.0, at_values program far step.1) ∷ []) h.0,
    narrowed-all (width program far + 1) far.values
        (All-left (IsSmallForm NUMBER_SIZE) (map (widened (width program far + 1)) far.values) (variable (width program far + 1) (width program far) ∷ []) h.1),
  )
  into-small false direction far step h =
      (h.0, All-left (IsSmallForm NUMBER_SIZE) far.values (at_values program far (first_bound direction step) ∷ []) h.1)

  pub along-small : (statement : ℕ) (loops : List ℕ) (number : ℕ) (path : List (AffineForm × AffineForm)) (far : NestSoFar) → IsSmallNest (nest_along program statement loops number path far) → IsSmallNest far
  along-small statement loops number [] far h = h
  along-small statement loops number (step ∷ path) far h =
      let direction : Direction = direction_at program statement number in
      into-small (is_named loops number) direction far step (along-small statement loops (number + 1) path (into_loop program (is_named loops number) direction far step) h)

  -- the bounds of a variable more
  pub bounds-of-variable : (far : NestSoFar) (lower upper : AffineForm) → IsSmallNest (with_variable program far lower upper)
      → IsSmallForm NUMBER_SIZE (at_values program far lower) × IsSmallForm NUMBER_SIZE (at_values program far upper)
  bounds-of-variable far lower upper h =
      (All-right (λ (b : AffineForm × AffineForm). IsSmallForm NUMBER_SIZE b.0 × IsSmallForm NUMBER_SIZE b.1) far.nest ((at_values program far lower, at_values program far upper) ∷ []) h.0).0

  -- the value of a loop in its first turn
  pub value-of-first : (far : NestSoFar) (lower : AffineForm) → IsSmallNest (with_first program far lower) → IsSmallForm NUMBER_SIZE (at_values program far lower)
  value-of-first far lower h = (All-right (IsSmallForm NUMBER_SIZE) far.values (at_values program far lower ∷ []) h.1).0

  -- one step of the way
  pub along-next : (statement : ℕ) (loops : List ℕ) (path : List (AffineForm × AffineForm)) (k : ℕ) (pair : AffineForm × AffineForm) (far : NestSoFar) (named : Bool) (direction : Direction) (next : NestSoFar)
      → k < length path → ((none : AffineForm × AffineForm) → get_or path k none ≡ pair) → named ≡ is_named loops k → direction ≡ direction_at program statement k
      → next ≡ into_loop program named direction far pair
      → nest_along program statement loops k (drop k path) far ≡ nest_along program statement loops (k + 1) (drop (k + 1) path) next
  along-next statement loops path k pair far named direction next below is test goes pushed =
      ap (λ (p : List (AffineForm × AffineForm)). nest_along program statement loops k p far) (rest_at path k pair below (sym (is pair)))
      ∙ ap (λ (b : Bool). nest_along program statement loops (k + 1) (drop (k + 1) path) (into_loop program b (direction_at program statement k) far pair)) (sym test)
      ∙ ap (λ (d : Direction). nest_along program statement loops (k + 1) (drop (k + 1) path) (into_loop program named d far pair)) (sym goes)
      ∙ ap (nest_along program statement loops (k + 1) (drop (k + 1) path)) (sym pushed)

  -- ---- what fits

  bounds-push : (vars : ℕ) (nest : List (AffineForm × AffineForm)) (b : AffineForm × AffineForm) → BoundsFit vars nest → IsSmallOver (vars + length nest) b.0 → IsSmallOver (vars + length nest) b.1
      → BoundsFit vars (nest ++ b ∷ [])
  bounds-push vars [] b h lower upper =
      ((subst (λ (n : ℕ). IsSmallOver n b.0) none lower, subst (λ (n : ℕ). IsSmallOver n b.1) none upper), tt) where
        none : vars + 0 ≡ vars
        none = omega arith
  bounds-push vars (x ∷ nest) b h lower upper =
      (h.0, bounds-push (suc vars) nest b h.1 (subst (λ (n : ℕ). IsSmallOver n b.0) moved lower) (subst (λ (n : ℕ). IsSmallOver n b.1) moved upper)) where
        moved : vars + length (x ∷ nest) ≡ suc vars + length nest
        moved = omega arith

  pub variable-fits : (level : ℕ) (far : NestSoFar) (lower upper : AffineForm) → FarFits program level far → variables (at_values program far lower) ≡ width program far
      → variables (at_values program far upper) ≡ width program far → IsSmallForm NUMBER_SIZE (at_values program far lower) → IsSmallForm NUMBER_SIZE (at_values program far upper)
      → FarFits program (level + 1) (with_variable program far lower upper)
  variable-fits level far lower upper h over_l over_u small_l small_u =
      let wider : ℕ = width program far + 1 in
      let next : NestSoFar = with_variable program far lower upper in
      let count : length next.nest ≡ length far.nest + 1 = length-append far.nest ((at_values program far lower, at_values program far upper) ∷ []) in
      let wide : wider ≡ width program next = omega (arith, count) in
      record {
        few = omega (arith, count, h.few);
        many = length-append (map (widened wider) far.values) (variable wider (width program far) ∷ []) ∙ ap (λ (n : ℕ). n + 1) (length-map far.values (widened wider) ∙ h.many);
        bounds = bounds-push (length program.parameters) far.nest (at_values program far lower, at_values program far upper) h.bounds (record { over = over_l; small = small_l }) (record { over = over_u; small = small_u });
        values = subst (λ (n : ℕ). AllByRecursion (IsSmallOver n) next.values) wide
            (All-push (IsSmallOver wider) (map (widened wider) far.values) (variable wider (width program far)) (all-widened-small (width program far) wider far.values (omega arith) h.values) (variable-small wider (width program far)));
      }

  pub first-fits : (level : ℕ) (far : NestSoFar) (lower : AffineForm) → FarFits program level far → variables (at_values program far lower) ≡ width program far
      → IsSmallForm NUMBER_SIZE (at_values program far lower) → FarFits program (level + 1) (with_first program far lower)
  first-fits level far lower h over small = record {
    few = omega (arith, h.few);
    many = length-append far.values (at_values program far lower ∷ []) ∙ ap (λ (n : ℕ). n + 1) h.many;
    bounds = h.bounds;
    values = All-push (IsSmallOver (width program far)) far.values (at_values program far lower) h.values (record { over = over; small = small });
  }

  -- what is made in a step
  pub variable-made : (far : NestSoFar) (lower upper l u : AffineForm) (vars : ℕ) (nest : List (AffineForm × AffineForm)) (values : List AffineForm) → vars ≡ width program far
      → l ≡ at_values program far lower → u ≡ at_values program far upper → nest ≡ far.nest ++ (l, u) ∷ [] → values ≡ map (widened (vars + 1)) far.values ++ variable (vars + 1) vars ∷ []
      → record { nest = nest; values = values } ≡ with_variable program far lower upper
  variable-made far lower upper l u vars nest values wide is_l is_u is_nest is_values =
      let a : nest ≡ (with_variable program far lower upper).nest = is_nest ∙ ap (λ (x : AffineForm). far.nest ++ (x, u) ∷ []) is_l ∙ ap (λ (x : AffineForm). far.nest ++ (at_values program far lower, x) ∷ []) is_u in
      let b : values ≡ (with_variable program far lower upper).values = is_values ∙ ap (λ (n : ℕ). map (widened (n + 1)) far.values ++ variable (n + 1) n ∷ []) wide in
      λ i. record { nest = a i; values = b i }

  -- ---- there are as many variables as loops that are named

  into-many : (named : Bool) (direction : Direction) (far : NestSoFar) (step : AffineForm × AffineForm) → length (into_loop program named direction far step).nest ≡ length far.nest + (if named then 1 else 0)
  into-many true direction far step = length-append far.nest ((at_values program far step.0, at_values program far step.1) ∷ [])
  into-many false direction far step = none (length far.nest) where
    none : (n : ℕ) → n ≡ n + 0
    none n = omega arith

  pub along-many : (statement : ℕ) (loops : List ℕ) (number : ℕ) (path : List (AffineForm × AffineForm)) (far : NestSoFar)
      → length (nest_along program statement loops number path far).nest ≡ length far.nest + length (filter (is_named loops) (range_with_len number (length path)))
  along-many statement loops number [] far = none (length far.nest) where
    none : (n : ℕ) → n ≡ n + 0
    none n = omega arith
  along-many statement loops number (step ∷ path) far =
      let later : List ℕ = filter (is_named loops) (range_with_len (number + 1) (length path)) in
      along-many statement loops (number + 1) path (into_loop program (is_named loops number) (direction_at program statement number) far step)
      ∙ ap (λ (n : ℕ). n + length later) (into-many (is_named loops number) (direction_at program statement number) far step) ∙ by (is_named loops number) later where
        by : (b : Bool) (ns : List ℕ) → (length far.nest + (if b then 1 else 0)) + length ns ≡ length far.nest + length (cond b (number ∷ ns) ns)
        by true ns = omega arith
        by false ns = omega arith

-- ---- the matrix

pub rows-many : (loops ns : List ℕ) → length (flat_map (λ (loop : ℕ). map (same_loop loop) loops) ns) ≡ length ns * length loops
rows-many loops [] = omega arith
rows-many loops (n ∷ ns) =
    length-append (map (same_loop n) loops) (flat_map (λ (loop : ℕ). map (same_loop loop) loops) ns)
    ∙ together (length (map (same_loop n) loops)) (length (flat_map (λ (loop : ℕ). map (same_loop loop) loops) ns)) (length ns) (length loops) (length-map loops (same_loop n)) (rows-many loops ns) where
      together : (a b m k : ℕ) → a ≡ k → b ≡ m * k → a + b ≡ suc m * k
      together a b m k e f = grind arith

row-small : (n : ℕ) (loops : List ℕ) → AllByRecursion (IsSmall NUMBER_SIZE) (map (same_loop n) loops)
row-small n [] = tt
row-small n (l ∷ loops) = (small (nat_eq n l), row-small n loops) where
  small : (b : Bool) → IsSmall NUMBER_SIZE (if b then pos 1 else pos 0)
  small true = lit< tt
  small false = lit< tt

pub rows-small : (loops ns : List ℕ) → AllByRecursion (IsSmall NUMBER_SIZE) (flat_map (λ (loop : ℕ). map (same_loop loop) loops) ns)
rows-small loops [] = tt
rows-small loops (n ∷ ns) =
    All-append (IsSmall NUMBER_SIZE) (map (same_loop n) loops) (flat_map (λ (loop : ℕ). map (same_loop loop) loops) ns) (row-small n loops) (rows-small loops ns)
