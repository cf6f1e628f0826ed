-- The points of a nest: they are within its bounds, differ, and meet its rows.
use Rattle.std.proofs.Common.{◌≡◌, refl, sym, ◌∙◌, subst, inl, inr, ℕ, ◌+◌, List, [], ◌∷◌, ◌++◌, length, map, arith}
use Rattle.std.specs.Prelude.{nat_eq, false, flat_map}
use Rattle.std.specs.List.{AllByRecursion, IsDistinct}
use Rattle.std.proofs.Math.IntN.{ℤ, pos, ◌+ℤ◌, ◌-ℤ◌}
use lib.Signed.{◌≤ℤ◌}
use Rattle.std.proofs.lemmas.Bool.{ne_eqb}
use Rattle.std.proofs.lemmas.List.{append_assoc, append-nil, length-map}
use Rattle.base_laws.proofs.Lists.{All-append, All-weaken, All-map, All-every, All-flat_map}
use Rattle.iolb_model.specs.Form.{AffineForm, form_value}
use Rattle.iolb_model.specs.Program.{upward, AffineProgram, IsWellFormed}
use Rattle.iolb_model.specs.Bound.{IsAdmitted}
use Rattle.iolb_model.specs.Execution.{natural, range}
use Rattle.iolb_model.specs.Domain.{IsWithin}
use Rattle.execution_laws.proofs.Ordered.{All-from}
use Rattle.execution_laws.proofs.Members.{Member, Member-map, Member-flat_map}
use Rattle.execution_laws.proofs.Ranges.{values-has, values-within}
use Rattle.execution_laws.proofs.Different.{Differ, Differ-append, Differ-map, Differ-rising, same_head, same_tail}
use Rattle.affine_form.specs.Substitution.{values_at}
use Rattle.affine_form.specs.System.{IsMet}
use Rattle.affine_form.specs.Rows.{widened, variables_from, within_rows}
use Rattle.affine_form.proofs.Meaning.{values-front, values-middle, widened-met, within_rows-met}
use Rattle.execution_laws.proofs.Ways.{within-length}
use Rattle.domain_count.specs.Points.{points}
use Rattle.domain_count.specs.Count.{rows_before}

pub points-within : (nest : List (AffineForm × AffineForm)) (before : List ℤ) → AllByRecursion (λ (u : List ℤ). IsWithin nest before u) (points nest before)
points-within [] before = (tt, tt)
points-within (bounds ∷ nest) before =
    let lower : ℤ = form_value bounds.0 before in
    let upper : ℤ = form_value bounds.1 before in
    let inside : List ℤ → Type 0 = λ u. IsWithin (bounds ∷ nest) before u in
    All-flat_map inside (λ (v : ℤ). map (λ (u : List ℤ). v ∷ u) (points nest (before ++ v ∷ []))) (range lower upper)
    (All-from (λ (v : ℤ). AllByRecursion inside (map (λ (u : List ℤ). v ∷ u) (points nest (before ++ v ∷ [])))) (range lower upper) (λ v m.
    let there : (lower ≤ℤ v) × (v ≤ℤ upper) = values-within upward lower upper v m in
    All-map inside (λ (u : List ℤ). v ∷ u) (points nest (before ++ v ∷ []))
    (All-weaken (λ (u : List ℤ). IsWithin nest (before ++ v ∷ []) u) (λ (u : List ℤ). inside (v ∷ u)) (points nest (before ++ v ∷ [])) (λ u h. (there.0, there.1, h)) (points-within nest (before ++ v ∷ [])))))

-- all values that are within the bounds are among them
pub points-all : (nest : List (AffineForm × AffineForm)) (before u : List ℤ) → IsWithin nest before u → Member u (points nest before)
points-all [] before [] h = inl refl
points-all [] before (v ∷ u) h = absurd h
points-all (bounds ∷ nest) before [] h = absurd h
points-all (bounds ∷ nest) before (v ∷ u) h =
    let lower : ℤ = form_value bounds.0 before in
    let upper : ℤ = form_value bounds.1 before in
    Member-flat_map (λ (w : ℤ). map (λ (p : List ℤ). w ∷ p) (points nest (before ++ w ∷ []))) v (range lower upper) (v ∷ u) (values-has upward lower upper v h.0 h.1)
    (Member-map (λ (p : List ℤ). v ∷ p) u (points nest (before ++ v ∷ [])) (points-all nest (before ++ v ∷ []) u h.2))

-- they have a value for each variable
pub points-long : (nest : List (AffineForm × AffineForm)) (before : List ℤ) → AllByRecursion (λ (u : List ℤ). length u ≡ length nest) (points nest before)
points-long nest before =
    All-weaken (λ (u : List ℤ). IsWithin nest before u) (λ (u : List ℤ). length u ≡ length nest) (points nest before)
    (λ u h. within-length nest before u h) (points-within nest before)

-- a point with another first value stands in none of the other parts
apart : (v : ℤ) (u : List ℤ) (f : ℤ → List (List ℤ)) (values : List ℤ) → AllByRecursion (λ (w : ℤ). v ≡ w → ⊥) values
    → AllByRecursion (λ (q : List ℤ). v ∷ u ≡ q → ⊥) (flat_map (λ (w : ℤ). map (λ (x : List ℤ). w ∷ x) (f w)) values)
apart v u f values h =
    All-flat_map (λ (q : List ℤ). v ∷ u ≡ q → ⊥) (λ (w : ℤ). map (λ (x : List ℤ). w ∷ x) (f w)) values
    (All-weaken (λ (w : ℤ). v ≡ w → ⊥) (λ (w : ℤ). AllByRecursion (λ (q : List ℤ). v ∷ u ≡ q → ⊥) (map (λ (x : List ℤ). w ∷ x) (f w))) values
    (λ w other. All-map (λ (q : List ℤ). v ∷ u ≡ q → ⊥) (λ (x : List ℤ). w ∷ x) (f w) (All-every (λ (x : List ℤ). v ∷ u ≡ w ∷ x → ⊥) (λ x e. other (same_head v w u x e)) (f w))) h)

differ-parts : (f : ℤ → List (List ℤ)) → ((v : ℤ) → Differ (f v)) → (values : List ℤ) → Differ values → Differ (flat_map (λ (v : ℤ). map (λ (x : List ℤ). v ∷ x) (f v)) values)
differ-parts f each [] h = tt
differ-parts f each (v ∷ values) h =
    Differ-append (map (λ (x : List ℤ). v ∷ x) (f v)) (flat_map (λ (w : ℤ). map (λ (x : List ℤ). w ∷ x) (f w)) values)
    (Differ-map (λ (x : List ℤ). v ∷ x) (same_tail v) (f v) (each v))
    (differ-parts f each values h.1)
    (All-map (λ (p : List ℤ). AllByRecursion (λ (q : List ℤ). p ≡ q → ⊥) (flat_map (λ (w : ℤ). map (λ (x : List ℤ). w ∷ x) (f w)) values)) (λ (x : List ℤ). v ∷ x) (f v)
    (All-every (λ (x : List ℤ). AllByRecursion (λ (q : List ℤ). v ∷ x ≡ q → ⊥) (flat_map (λ (w : ℤ). map (λ (y : List ℤ). w ∷ y) (f w)) values)) (λ x. apart v x f values h.0) (f v)))

pub points-differ : (nest : List (AffineForm × AffineForm)) (before : List ℤ) → Differ (points nest before)
points-differ [] before = (tt, tt)
points-differ (bounds ∷ nest) before =
    differ-parts (λ (v : ℤ). points nest (before ++ v ∷ [])) (λ v. points-differ nest (before ++ v ∷ [])) (range (form_value bounds.0 before) (form_value bounds.1 before))
    (Differ-rising (form_value bounds.0 before) (natural ((form_value bounds.1 before -ℤ form_value bounds.0 before) +ℤ pos 1)))

-- images of different things differ
apart-images : (f : List ℤ → ℕ) (x : List ℤ) (xs : List (List ℤ)) → ((y : List ℤ) → Member y xs → f x ≡ f y → x ≡ y) → AllByRecursion (λ (y : List ℤ). x ≡ y → ⊥) xs
    → AllByRecursion (λ (v : ℕ). nat_eq (f x) v ≡ false) (map f xs)
apart-images f x [] one h = tt
apart-images f x (y ∷ xs) one h = (ne_eqb (f x) (f y) (λ e. h.0 (one y (inl refl) e)), apart-images f x xs (λ z m. one z (inr m)) h.1)

pub distinct-images : (f : List ℤ → ℕ) (xs : List (List ℤ)) → ((x y : List ℤ) → Member x xs → Member y xs → f x ≡ f y → x ≡ y) → Differ xs → IsDistinct nat_eq (map f xs)
unfolding IsDistinct
distinct-images f [] one h = tt
distinct-images f (x ∷ xs) one h = (apart-images f x xs (λ y m. one x y (inl refl) (inr m)) h.0, distinct-images f xs (λ a b m n. one a b (inr m) (inr n)) h.1)

-- the rows of a nest are met where the parameters are admitted and the values within its bounds, whatever values follow
pub nest-met-before : (program : AffineProgram) (nest : List (AffineForm × AffineForm)) (values u rest : List ℤ) → IsWellFormed program → IsAdmitted program values
    → IsWithin nest values u → IsMet (rows_before program nest).rows ((values ++ u) ++ rest)
nest-met-before program nest values u rest formed admitted within =
    let params : ℕ = length program.parameters in
    let vars : ℕ = params + length nest in
    let point : List ℤ = (values ++ u) ++ rest in
    let turned : values ++ (u ++ rest) ≡ point = sym (append_assoc values u rest) in
    let same : length nest ≡ length u = sym (within-length nest values u within) in
    let front : values_at (variables_from vars 0 params) point ≡ values =
    subst (λ (p : List ℤ). values_at (variables_from vars 0 params) p ≡ values) turned (values-front vars params values (u ++ rest) (sym admitted.each) (omega arith)) in
    let end : values_at (variables_from vars params (length nest)) point ≡ u = values-middle vars params (length nest) values u rest (sym admitted.each) same (omega arith) in
    let assumed : IsMet (map (widened vars) program.assumptions) point =
    subst (IsMet (map (widened vars) program.assumptions)) turned (widened-met vars params program.assumptions values (u ++ rest) formed.assumptions (sym admitted.each) admitted.met) in
    let ranges : IsMet (within_rows vars nest (variables_from vars 0 params) (variables_from vars params (length nest))) point =
    within_rows-met vars nest (variables_from vars 0 params) (variables_from vars params (length nest)) point
    (subst (λ (ps : List ℤ). IsWithin nest ps (values_at (variables_from vars params (length nest)) point)) (sym front)
    (subst (λ (ys : List ℤ). IsWithin nest values ys) (sym end) within)) in
    All-append (λ (row : AffineForm). pos 0 ≤ℤ form_value row point) (map (widened vars) program.assumptions)
    (within_rows vars nest (variables_from vars 0 params) (variables_from vars params (length nest))) assumed ranges

-- and where none follow
pub nest-met : (program : AffineProgram) (nest : List (AffineForm × AffineForm)) (values u : List ℤ) → IsWellFormed program → IsAdmitted program values → IsWithin nest values u
    → IsMet (rows_before program nest).rows (values ++ u)
nest-met program nest values u formed admitted within =
    subst (IsMet (rows_before program nest).rows) (append-nil (values ++ u)) (nest-met-before program nest values u [] formed admitted within)
