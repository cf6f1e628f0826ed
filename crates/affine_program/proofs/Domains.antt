-- The rows of a statement's domain: where they are met, and how many they are.
use Rattle.std.proofs.Common.{◌≡◌, sym, ◌∙◌, ap, subst, ℕ, zero, suc, ◌+◌, ◌≤◌, List, [], ◌∷◌, ◌++◌, length, take, drop, arith}
use Rattle.std.proofs.Math.IntN.{ℤ, pos}
use Rattle.std.proofs.lemmas.List.{length-append, length-map, append_assoc, map-append, take-append-drop}
use Rattle.std.proofs.Math.Seq.{take-append_seam, drop-append_seam}
use Rattle.std.specs.List.{AllByRecursion}
use lib.Signed.{◌≤ℤ◌}
use Rattle.iolb_model.proofs.Forms.{met-onward, met-back}
use Rattle.base_laws.proofs.Lists.{All-append, All-left, All-right}
use Rattle.iolb_model.specs.Form.{AffineForm, form_value, AreMet}
use Rattle.iolb_model.specs.Path.{PathStep, bounded, guarded, bounds_on, guards_on}
use Rattle.iolb_model.specs.Domain.{IsWithin, AreGuardsMet, LeadAlong}
use Rattle.iolb_model.specs.Program.{AffineProgram, IsOver, IsWellFormed}
use Rattle.affine_form.specs.Rows.{within_rows, guard_rows, variable, variables_from}
use Rattle.affine_form.specs.Substitution.{values_at}
use Rattle.affine_form.specs.System.{AffineSystem, IsMet}
use Rattle.affine_form.proofs.Meaning.{length-within_rows, within_rows-few, within_rows-met, within_rows-says, guard_rows-met, guard_rows-say, length-guard_rows, widened-stay, widened-say}
use Rattle.affine_form.proofs.RowLemmas.{length-variables}
use Rattle.affine_program.specs.Domain.{path_of, bounds_at, depth_of, guards_at, domain_of, domain_rows, domain_size}
use Rattle.affine_program.proofs.Bounds.{PathFits, path-fits}

-- the rows of the guards on a way are met at the whole point where the values lead along it
guards-met : (vars : ℕ) (path : List PathStep) (point values : List ℤ) → PathFits vars path → vars ≡ length point → LeadAlong path point values → AreMet (guards_on path) (point ++ values)
guards-met vars [] point values fits e h = tt
guards-met vars (bounded lower upper ∷ path) point [] fits e h = absurd h.0
guards-met vars (bounded lower upper ∷ path) point (v ∷ values) fits e h =
    subst (AreMet (guards_on path)) (append_assoc point (v ∷ []) values)
    (guards-met (suc vars) path (point ++ v ∷ []) values fits.1 (omega (arith, length-append point (v ∷ []))) (h.0.2, h.1))
guards-met vars (guarded rows ∷ path) point values fits e h =
    All-append (λ row. pos 0 ≤ℤ form_value row (point ++ values)) rows (guards_on path)
    (met-onward rows point values (subst (λ (n : ℕ). AllByRecursion (IsOver n) rows) e fits.0) h.1.0) (guards-met vars path point values fits.1 e (h.0, h.1.1))

-- and values within the bounds at which they are met lead along it
guards-say : (vars : ℕ) (path : List PathStep) (point values : List ℤ) → PathFits vars path → vars ≡ length point → IsWithin (bounds_on path) point values
    → AreMet (guards_on path) (point ++ values) → AreGuardsMet path point values
guards-say vars [] point values fits e within h = tt
guards-say vars (bounded lower upper ∷ path) point [] fits e within h = absurd within
guards-say vars (bounded lower upper ∷ path) point (v ∷ values) fits e within h =
    guards-say (suc vars) path (point ++ v ∷ []) values fits.1 (omega (arith, length-append point (v ∷ []))) within.2
    (subst (AreMet (guards_on path)) (sym (append_assoc point (v ∷ []) values)) h)
guards-say vars (guarded rows ∷ path) point values fits e within h =
    let P : AffineForm → Type 0 = λ row. pos 0 ≤ℤ form_value row (point ++ values) in (
      met-back rows point values (subst (λ (n : ℕ). AllByRecursion (IsOver n) rows) e fits.0) (All-left P rows (guards_on path) h),
      guards-say vars path point values fits.1 e within (All-right P rows (guards_on path) h),
    )

-- the values of parameters and loops together
values-both : (parameters values : List AffineForm) (point : List ℤ) → values_at (parameters ++ values) point ≡ values_at parameters point ++ values_at values point
values-both parameters values point = map-append (λ form. form_value form point) parameters values

many-values : (program : AffineProgram) (parameters : List AffineForm) (point : List ℤ) → length parameters ≡ length program.parameters → length program.parameters ≡ length (values_at parameters point)
many-values program parameters point each = sym (length-map parameters (λ form. form_value form point) ∙ each)

-- the rows of a domain are met at values that lead along the way to the statement
pub domain_rows-met : (program : AffineProgram) (statement vars : ℕ) (parameters values : List AffineForm) (point : List ℤ) → IsWellFormed program
    → length parameters ≡ length program.parameters → LeadAlong (path_of program statement) (values_at parameters point) (values_at values point)
    → IsMet (domain_rows program statement vars parameters values) point
domain_rows-met program statement vars parameters values point well each h =
    let met : IsMet (guards_on (path_of program statement)) (values_at (parameters ++ values) point) =
    subst (AreMet (guards_on (path_of program statement))) (sym (values-both parameters values point))
    (guards-met (length program.parameters) (path_of program statement) (values_at parameters point) (values_at values point) (path-fits program statement well) (many-values program parameters point each) h) in
    All-append (λ row. pos 0 ≤ℤ form_value row point) (within_rows vars (bounds_at program statement) parameters values) (guard_rows vars (guards_at program statement) (parameters ++ values))
    (within_rows-met vars (bounds_at program statement) parameters values point h.0)
    (guard_rows-met vars (guards_at program statement) (parameters ++ values) point
    (widened-stay (length program.parameters + depth_of program statement) (guards_on (path_of program statement)) (values_at (parameters ++ values) point) met))

-- and values at which they are met lead along it
pub domain_rows-says : (program : AffineProgram) (statement vars : ℕ) (parameters values : List AffineForm) (point : List ℤ) → IsWellFormed program
    → length parameters ≡ length program.parameters → length values ≡ depth_of program statement → IsMet (domain_rows program statement vars parameters values) point
    → LeadAlong (path_of program statement) (values_at parameters point) (values_at values point)
domain_rows-says program statement vars parameters values point well each many met =
    let P : AffineForm → Type 0 = λ row. pos 0 ≤ℤ form_value row point in
    let bounds : List AffineForm = within_rows vars (bounds_at program statement) parameters values in
    let guards : List AffineForm = guard_rows vars (guards_at program statement) (parameters ++ values) in
    let within = within_rows-says vars (bounds_at program statement) parameters values point many (All-left P bounds guards met) in (
      within,
      guards-say (length program.parameters) (path_of program statement) (values_at parameters point) (values_at values point) (path-fits program statement well) (many-values program parameters point each) within
          (subst (AreMet (guards_on (path_of program statement))) (values-both parameters values point)
          (widened-say (length program.parameters + depth_of program statement) (guards_on (path_of program statement)) (values_at (parameters ++ values) point)
          (guard_rows-say vars (guards_at program statement) (parameters ++ values) point (All-right P bounds guards met)))),
    )

pub length-domain_rows : (program : AffineProgram) (statement vars : ℕ) (parameters values : List AffineForm) → length values ≡ depth_of program statement
    → length (domain_rows program statement vars parameters values) ≡ domain_size program statement
length-domain_rows program statement vars parameters values many =
    let bounds : List AffineForm = within_rows vars (bounds_at program statement) parameters values in
    let guards : List AffineForm = guard_rows vars (guards_at program statement) (parameters ++ values) in
    omega (arith, length-append bounds guards, length-within_rows vars (bounds_at program statement) parameters values many, length-guard_rows vars (guards_at program statement) (parameters ++ values))

-- they are at most so many for any values
pub domain_rows-few : (program : AffineProgram) (statement vars : ℕ) (parameters values : List AffineForm) → length (domain_rows program statement vars parameters values) ≤ domain_size program statement
domain_rows-few program statement vars parameters values =
    let bounds : List AffineForm = within_rows vars (bounds_at program statement) parameters values in
    let guards : List AffineForm = guard_rows vars (guards_at program statement) (parameters ++ values) in
    omega (arith, length-append bounds guards, within_rows-few vars (bounds_at program statement) parameters values, length-guard_rows vars (guards_at program statement) (parameters ++ values))

-- the rows that are made of the bounds and guards that the code reads
pub rows-are : (program : AffineProgram) (statement vars p : ℕ) (bounds : List (AffineForm × AffineForm)) (guards point rest rows whole : List AffineForm)
    → bounds_at program statement ≡ bounds → guards_at program statement ≡ guards → p ≡ length program.parameters → rest ≡ drop p point
    → rows ≡ within_rows vars bounds (take p point) rest → whole ≡ rows ++ guard_rows vars guards point
    → whole ≡ domain_rows program statement vars (take (length program.parameters) point) (drop (length program.parameters) point)
rows-are program statement vars p bounds guards point rest rows whole b g e behind made is =
    let q : ℕ = length program.parameters in
    is
    ∙ ap (λ (rs : List AffineForm). rs ++ guard_rows vars guards point)
    (made ∙ ap (λ (vs : List AffineForm). within_rows vars bounds (take p point) vs) behind ∙ ap (λ (n : ℕ). within_rows vars bounds (take n point) (drop n point)) e
    ∙ ap (λ (bs : List (AffineForm × AffineForm)). within_rows vars bs (take q point) (drop q point)) (sym b))
    ∙ ap (λ (gs : List AffineForm). within_rows vars (bounds_at program statement) (take q point) (drop q point) ++ guard_rows vars gs point) (sym g)
    ∙ ap (λ (at : List AffineForm). within_rows vars (bounds_at program statement) (take q point) (drop q point) ++ guard_rows vars (guards_at program statement) at) (sym (take-append-drop q point))

-- the parameters and the loop values are all variables
pub variables-joined : (vars first m n : ℕ) → variables_from vars first (m + n) ≡ variables_from vars first m ++ variables_from vars (first + m) n
variables-joined vars first zero n = ap (variables_from vars first) none-more ∙ ap (λ (k : ℕ). variables_from vars k n) none where
  none-more : 0 + n ≡ n
  none-more = omega arith

  none : first ≡ first + 0
  none = omega arith
variables-joined vars first (suc m) n =
    ap (variables_from vars first) more ∙ ap (λ (vs : List AffineForm). variable vars first ∷ vs) (variables-joined vars (suc first) m n ∙ ap (λ (k : ℕ). variables_from vars (suc first) m ++ variables_from vars k n) moved) where
      more : suc m + n ≡ suc (m + n)
      more = omega arith

      moved : suc first + m ≡ first + suc m
      moved = omega arith

-- the system of a domain's rows at these variables is the domain
pub domain-is : (program : AffineProgram) (statement vars : ℕ) (point rows : List AffineForm) (system : AffineSystem) → vars ≡ length program.parameters + depth_of program statement
    → point ≡ variables_from vars 0 vars
    → rows ≡ domain_rows program statement vars (take (length program.parameters) point) (drop (length program.parameters) point)
    → system ≡ record { vars = vars; rows = rows } → system ≡ domain_of program statement
domain-is program statement vars point rows system e are made is =
    let p : ℕ = length program.parameters in
    let d : ℕ = depth_of program statement in
    let parts : point ≡ variables_from vars 0 p ++ variables_from vars p d = are ∙ ap (variables_from vars 0) e ∙ variables-joined vars 0 p d ∙ ap (λ (k : ℕ). variables_from vars 0 p ++ variables_from vars k d) none in
    let many : length (variables_from vars 0 p) ≡ p = length-variables vars 0 p in
    let front : take p point ≡ variables_from vars 0 p =
    ap (take p) parts ∙ ap (λ (n : ℕ). take n (variables_from vars 0 p ++ variables_from vars p d)) (sym many) ∙ take-append_seam (variables_from vars 0 p) (variables_from vars p d) in
    let behind : drop p point ≡ variables_from vars p d =
    ap (drop p) parts ∙ ap (λ (n : ℕ). drop n (variables_from vars 0 p ++ variables_from vars p d)) (sym many) ∙ drop-append_seam (variables_from vars 0 p) (variables_from vars p d) in
    is
    ∙ ap (λ (rs : List AffineForm). record { vars = vars; rows = rs })
    (made ∙ ap (λ (ps : List AffineForm). domain_rows program statement vars ps (drop p point)) front ∙ ap (λ (vs : List AffineForm). domain_rows program statement vars (variables_from vars 0 p) vs) behind)
    ∙ ap (λ (n : ℕ). record { vars = n; rows = domain_rows program statement n (variables_from n 0 p) (variables_from n p d) }) e where
      none : 0 + length program.parameters ≡ length program.parameters
      none = omega arith
