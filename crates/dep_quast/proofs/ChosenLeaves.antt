-- The leaf that a tree chooses at an instance is among its open leaves, and its tests are met there.
use Rattle.std.proofs.Common.{◌≡◌, refl, sym, ◌∙◌, ap, subst, inl, ℕ, if◌then◌else◌, List, [], ◌∷◌, ◌++◌, map, arith}
use Rattle.std.specs.Prelude.{◌<ℤ◌}
use Rattle.std.proofs.Math.IntN.{ℤ, pos, negsuc, ◌+ℤ◌, ◌-ℤ◌}
use lib.Signed.{◌≤ℤ◌}
use Rattle.std.proofs.lemmas.Int.{ints}
use Rattle.base_laws.proofs.Lists.{All-append, cons-same}
use Rattle.iolb_model.specs.Form.{AffineForm, form_value}
use Rattle.iolb_model.specs.Printed.{is_below_zero}
use Rattle.execution_laws.proofs.Members.{Member, Member-append_left, Member-append_right}
use Rattle.affine_form.specs.Substitution.{substitution, values_at}
use Rattle.affine_form.specs.System.{IsMet}
use Rattle.affine_form.proofs.SubstitutionLemmas.{form_value-substitution}
use Rattle.affine_form.proofs.Meaning.{form_value-widened, form_value-difference}
use Rattle.dep_quast.specs.Context.{no_row}
use Rattle.dep_quast.specs.Tree.{Leaf, source, input, empty, blank, SelectionTree, leaf, test, leaf_at}
use Rattle.dep_quast.specs.OpenLeaves.{LeafOrigin, written, as_input, unknown, OpenLeaf, form_at, no_at, open_leaf, open_leaves}

-- the value of a form at an instance, and the values of all forms
pub form_at-value : (vars : ℕ) (forms : List AffineForm) (form : AffineForm) (at there : List ℤ) → values_at forms at ≡ there → form_value (form_at vars forms form) at ≡ form_value form there
form_at-value vars forms form at there e =
    form_value-widened vars (substitution form forms) at ∙ form_value-substitution form forms at ∙ ap (form_value form) e

pub forms_at-values : (vars : ℕ) (forms : List AffineForm) (these : List AffineForm) (at there : List ℤ) → values_at forms at ≡ there
    → values_at (map (form_at vars forms) these) at ≡ values_at these there
forms_at-values vars forms [] at there e = refl
forms_at-values vars forms (form ∷ these) at there e =
    cons-same _ _ _ _ (form_at-value vars forms form at there e) (forms_at-values vars forms these at there e)

-- rows at an instance are met where the rows are met there
pub forms_at-met : (vars : ℕ) (forms : List AffineForm) (rows : List AffineForm) (at there : List ℤ) → values_at forms at ≡ there → IsMet (map (form_at vars forms) rows) at → IsMet rows there
forms_at-met vars forms [] at there e met = tt
forms_at-met vars forms (row ∷ rows) at there e met =
    (subst (λ (z : ℤ). pos 0 ≤ℤ z) (form_at-value vars forms row at there e) met.0, forms_at-met vars forms rows at there e met.1)

-- the row of a test where the form is at most -1
pub no_row-met : (vars : ℕ) (form : AffineForm) (at : List ℤ) → form_value form at <ℤ pos 0 → pos 0 ≤ℤ form_value (no_row vars form) at
no_row-met vars form at h =
    opposite (form_value form at) (form_value (no_row vars form) at) (form_value-difference vars (record { coefficients = []; constant = pos 0 }) form (negsuc 0) at) h where
      opposite : (v r : ℤ) → r ≡ (pos 0 -ℤ v) +ℤ negsuc 0 → v <ℤ pos 0 → pos 0 ≤ℤ r
      opposite v r q less = omega (arith, ints)

module _ (vars : ℕ) (forms : List AffineForm) (at there : List ℤ) (same : values_at forms at ≡ there) where
  -- a leaf of this origin is among leaves, and its tests are met
  pub record IsAmong (leaves : List OpenLeaf) (origin : LeafOrigin) : Type 0 where
    pub leaf : OpenLeaf
    pub member : Member leaf leaves
    pub met : IsMet leaf.tests at
    pub says : leaf.origin ≡ origin

  abbrev pub StandsAmong : List OpenLeaf → Leaf → Type 0
  StandsAmong leaves (source claim) = IsAmong leaves (written claim.statement claim.point)
  StandsAmong leaves (input shown) = IsAmong leaves as_input
  StandsAmong leaves (empty shown) = Unit {0}
  StandsAmong leaves blank = IsAmong leaves unknown

  among-first : (xs ys : List OpenLeaf) (origin : LeafOrigin) → IsAmong xs origin → IsAmong (xs ++ ys) origin
  among-first xs ys origin h = record { leaf = h.leaf; member = Member-append_left h.leaf xs ys h.member; met = h.met; says = h.says }

  among-second : (xs ys : List OpenLeaf) (origin : LeafOrigin) → IsAmong ys origin → IsAmong (xs ++ ys) origin
  among-second xs ys origin h = record { leaf = h.leaf; member = Member-append_right h.leaf xs ys h.member; met = h.met; says = h.says }

  stands-first : (xs ys : List OpenLeaf) (chosen : Leaf) → StandsAmong xs chosen → StandsAmong (xs ++ ys) chosen
  stands-first xs ys (source claim) h = among-first xs ys (written claim.statement claim.point) h
  stands-first xs ys (input shown) h = among-first xs ys as_input h
  stands-first xs ys (empty shown) h = tt
  stands-first xs ys blank h = among-first xs ys unknown h

  stands-second : (xs ys : List OpenLeaf) (chosen : Leaf) → StandsAmong ys chosen → StandsAmong (xs ++ ys) chosen
  stands-second xs ys (source claim) h = among-second xs ys (written claim.statement claim.point) h
  stands-second xs ys (input shown) h = among-second xs ys as_input h
  stands-second xs ys (empty shown) h = tt
  stands-second xs ys blank h = among-second xs ys unknown h

  alone : (tests : List AffineForm) (chosen : Leaf) → IsMet tests at → StandsAmong (open_leaf tests chosen) chosen
  alone tests (source claim) met = record { leaf = record { tests = tests; origin = written claim.statement claim.point }; member = inl refl; met = met; says = refl }
  alone tests (input shown) met = record { leaf = record { tests = tests; origin = as_input }; member = inl refl; met = met; says = refl }
  alone tests (empty shown) met = tt
  alone tests blank met = record { leaf = record { tests = tests; origin = unknown }; member = inl refl; met = met; says = refl }

  pub chosen-stands : (tests : List AffineForm) (tree : SelectionTree) → IsMet tests at → StandsAmong (open_leaves vars forms tests tree) (leaf_at tree there)
  chosen-stands tests (leaf chosen) met = alone tests chosen met
  chosen-stands tests (test form above below) met =
      let yes : List AffineForm = tests ++ form_at vars forms form ∷ [] in
      let no : List AffineForm = tests ++ no_at vars forms form ∷ [] in
      let xs : List OpenLeaf = open_leaves vars forms yes above in
      let ys : List OpenLeaf = open_leaves vars forms no below in
      choose (form_value form there) refl
      (λ more. stands-first xs ys (leaf_at above there) (chosen-stands yes above more))
      (λ more. stands-second xs ys (leaf_at below there) (chosen-stands no below more)) where
        met-with : (row : AffineForm) → pos 0 ≤ℤ form_value row at → IsMet (tests ++ row ∷ []) at
        met-with row h = All-append (λ (r : AffineForm). pos 0 ≤ℤ form_value r at) tests (row ∷ []) met (h, tt)

        choose : (v : ℤ) → v ≡ form_value form there
            → (IsMet (tests ++ form_at vars forms form ∷ []) at → StandsAmong (open_leaves vars forms (tests ++ form_at vars forms form ∷ []) above ++ open_leaves vars forms (tests ++ no_at vars forms form ∷ []) below) (leaf_at above there))
            → (IsMet (tests ++ no_at vars forms form ∷ []) at → StandsAmong (open_leaves vars forms (tests ++ form_at vars forms form ∷ []) above ++ open_leaves vars forms (tests ++ no_at vars forms form ∷ []) below) (leaf_at below there))
            → StandsAmong (open_leaves vars forms (tests ++ form_at vars forms form ∷ []) above ++ open_leaves vars forms (tests ++ no_at vars forms form ∷ []) below) (if is_below_zero v then leaf_at below there else leaf_at above there)
        choose (pos n) e up down = up (met-with (form_at vars forms form) (subst (λ (z : ℤ). pos 0 ≤ℤ z) (e ∙ sym (form_at-value vars forms form at there same)) (omega (arith, ints))))
        choose (negsuc n) e up down =
            down (met-with (no_at vars forms form) (no_row-met vars (substitution form forms) at (negative (form_value form there) (form_value (substitution form forms) at) n e (form_value-substitution form forms at ∙ ap (form_value form) same)))) where
              negative : (v w : ℤ) (n : ℕ) → negsuc n ≡ v → w ≡ v → w <ℤ pos 0
              negative v w n p q = omega (arith, ints)
