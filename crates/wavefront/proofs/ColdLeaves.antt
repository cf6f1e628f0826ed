-- Where what a cold term claims at the leaves holds, its reads have inputs as their sources.
use Rattle.std.proofs.Common.{◌≡◌, refl, sym, ◌∙◌, ap, subst, ℕ, suc, ◌+◌, ◌≤◌, false, if◌then◌else◌, List, [], ◌∷◌, ◌++◌, length, drop, arith}
use Rattle.std.specs.Prelude.{◌<ℤ◌}
use Rattle.std.proofs.Math.IntN.{ℤ, pos, negsuc, ◌+ℤ◌, ◌-ℤ◌}
use lib.Signed.{◌≤ℤ◌}
use Rattle.std.proofs.lemmas.Int.{ints}
use Rattle.std.proofs.lemmas.List.{length-append, length-drop}
use Rattle.std.proofs.Math.Nat.{add-zero}
use Rattle.base_laws.proofs.Lists.{All-append}
use Rattle.iolb_model.specs.Form.{AffineForm, form_value}
use Rattle.iolb_model.specs.Program.{AffineProgram}
use Rattle.iolb_model.specs.Printed.{is_below_zero}
use Rattle.iolb_model.specs.Source.{input, read_cell}
use Rattle.claims.specs.declared.place.Step.{Step}
use Rattle.claims.specs.declared.place.Step.TheVariants.{Index}
use Rattle.affine_form.specs.Substitution.{substitution, values_at}
use Rattle.affine_form.specs.System.{IsMet}
use Rattle.affine_form.proofs.ShownLemmas.{Shows-none}
use Rattle.affine_form.proofs.SubstitutionLemmas.{form_value-substitution}
use Rattle.affine_form.proofs.Meaning.{form_value-widened, form_value-difference}
use Rattle.claims.specs.Shown.{IsFew}
use Rattle.claims.specs.Claims.{AllHold, Claim}
use Rattle.claims.proofs.Laws.{AllHold-left, AllHold-right}
use Rattle.claims.proofs.Members.{suc-moved}
use Rattle.dep_quast.specs.Context.{ReadOf}
use Rattle.dep_quast.specs.Tree.{Leaf as TreeLeaf, source, input as input_leaf, empty, blank, SelectionTree, leaf, test, leaf_at}
use Rattle.dep_quast.specs.Truth.{IsTrueLeaf, source_at}
use Rattle.reuse_paths.specs.LeafClaims.{LeafClaim, no_point, stops, is_credited, goes_on, arrives}
use Rattle.dep_quast.specs.OpenLeaves.{OpenLeaf, is_input, form_at, no_at, open_leaf, open_leaves}
use Rattle.wavefront.specs.Leaves.{IsClosed, leaf_claim, leaves_claims}

-- what is claimed at the leaves of two rows of leaves is what is claimed at each
claims-append : (vars : ℕ) (rows : List AffineForm) (place : List Step) (index : ℕ) (xs ys : List OpenLeaf) (entries : List LeafClaim) → length xs ≤ length entries
    → leaves_claims vars rows place index (xs ++ ys) entries ≡ leaves_claims vars rows place index xs entries ++ leaves_claims vars rows place (index + length xs) ys (drop (length xs) entries)
claims-append vars rows place index [] ys entries le = ap (λ (n : ℕ). leaves_claims vars rows place n ys entries) (sym (add-zero index))
claims-append vars rows place index (x ∷ xs) ys [] le = absurd (omega (arith, le))
claims-append vars rows place index (x ∷ xs) ys (e ∷ entries) le =
    ap (λ (cs : List Claim). first ∷ second ∷ cs) (claims-append vars rows place (suc index) xs ys entries (omega (arith, le))
    ∙ ap (λ (n : ℕ). leaves_claims vars rows place (suc index) xs entries ++ leaves_claims vars rows place n ys (drop (length xs) entries)) (suc-moved index (length xs))) where
      first : Claim
      first = record { condition = 2; place = place ++ Index index ∷ []; statement = IsFew (length (rows ++ x.tests)) }

      second : Claim
      second = leaf_claim (place ++ Index index ∷ []) (record { vars = vars; rows = rows ++ x.tests }) (is_input x.origin) e

-- the row of a test at a point is met where the test goes this way at the instance
yes-met : (vars : ℕ) (forms : List AffineForm) (form : AffineForm) (at there : List ℤ) → values_at forms at ≡ there → pos 0 ≤ℤ form_value form there
    → pos 0 ≤ℤ form_value (form_at vars forms form) at
yes-met vars forms form at there e h =
    subst (λ (z : ℤ). pos 0 ≤ℤ z) (sym (form_value-widened vars (substitution form forms) at ∙ form_value-substitution form forms at ∙ ap (form_value form) e)) h

no-met : (vars : ℕ) (forms : List AffineForm) (form : AffineForm) (at there : List ℤ) → values_at forms at ≡ there → form_value form there <ℤ pos 0
    → pos 0 ≤ℤ form_value (no_at vars forms form) at
no-met vars forms form at there e h =
    opposite (form_value form there) (form_value (substitution form forms) at) (form_value (no_at vars forms form) at) (form_value-substitution form forms at ∙ ap (form_value form) e)
    (form_value-difference vars (record { coefficients = []; constant = pos 0 }) (substitution form forms) (negsuc 0) at) h where
      opposite : (v w r : ℤ) → w ≡ v → r ≡ (pos 0 -ℤ w) +ℤ negsuc 0 → v <ℤ pos 0 → pos 0 ≤ℤ r
      opposite v w r p q less = omega (arith, ints)

module _ (program : AffineProgram) (reader : ReadOf) (parameters : List ℤ) (where_ : ℕ) (values : List ℤ) (vars : ℕ) (rows forms : List AffineForm) (place : List Step) (at : List ℤ)
    (rows-met : IsMet rows at) (there : values_at forms at ≡ parameters ++ values) where
  met-with : (tests : List AffineForm) → IsMet tests at → IsMet (rows ++ tests) at
  met-with tests met = All-append (λ (row : AffineForm). pos 0 ≤ℤ form_value row at) rows tests rows-met met

  -- no entry closes a leaf that is reached and isn't an input
  not-closed : (index : ℕ) (e : LeafClaim) (tests : List AffineForm) → IsClosed (record { vars = vars; rows = rows ++ tests }) false e → IsMet tests at → ⊥
  not-closed index (no_point shown) tests h met = Shows-none (record { vars = vars; rows = rows ++ tests }) shown h.0 h.1 at (met-with tests met)
  not-closed index (stops label) tests h met = absurd cc
  not-closed index (is_credited credit rs label) tests h met = h
  not-closed index (goes_on rs label) tests h met = h
  not-closed index (arrives equal) tests h met = h

  leaf-input : (index : ℕ) (tests : List AffineForm) (chosen : TreeLeaf) (entries : List LeafClaim) → length (open_leaf tests chosen) ≤ length entries
      → AllHold (leaves_claims vars rows place index (open_leaf tests chosen) entries) → IsMet tests at → IsTrueLeaf program parameters reader where_ values chosen
      → source_at program parameters reader where_ values ≡ input (read_cell program parameters reader.statement reader.read values)
  leaf-input index tests (input_leaf shown) entries le h met true_leaf = true_leaf
  leaf-input index tests (empty shown) entries le h met true_leaf = absurd true_leaf
  leaf-input index tests (source claim) [] le h met true_leaf = absurd (omega (arith, le))
  leaf-input index tests (source claim) (e ∷ entries) le h met true_leaf = absurd (not-closed index e tests h.1.0 met)
  leaf-input index tests blank [] le h met true_leaf = absurd (omega (arith, le))
  leaf-input index tests blank (e ∷ entries) le h met true_leaf = absurd (not-closed index e tests h.1.0 met)

  pub tree-input : (index : ℕ) (tests : List AffineForm) (tree : SelectionTree) (entries : List LeafClaim) → length (open_leaves vars forms tests tree) ≤ length entries
      → AllHold (leaves_claims vars rows place index (open_leaves vars forms tests tree) entries) → IsMet tests at → IsTrueLeaf program parameters reader where_ values (leaf_at tree (parameters ++ values))
      → source_at program parameters reader where_ values ≡ input (read_cell program parameters reader.statement reader.read values)
  tree-input index tests (leaf chosen) entries le h met true_leaf = leaf-input index tests chosen entries le h met true_leaf
  tree-input index tests (test form above below) entries le h met true_leaf =
      let xs : List OpenLeaf = open_leaves vars forms (tests ++ form_at vars forms form ∷ []) above in
      let ys : List OpenLeaf = open_leaves vars forms (tests ++ no_at vars forms form ∷ []) below in
      let both : length (xs ++ ys) ≡ length xs + length ys = length-append xs ys in
      let parts : AllHold (leaves_claims vars rows place index xs entries ++ leaves_claims vars rows place (index + length xs) ys (drop (length xs) entries)) =
      subst AllHold (claims-append vars rows place index xs ys entries (omega (arith, le, both))) h in
      choose (form_value form (parameters ++ values)) refl true_leaf
      (λ more t. tree-input index (tests ++ form_at vars forms form ∷ []) above entries (omega (arith, le, both))
      (AllHold-left (leaves_claims vars rows place index xs entries) (leaves_claims vars rows place (index + length xs) ys (drop (length xs) entries)) parts) more t)
      (λ more t. tree-input (index + length xs) (tests ++ no_at vars forms form ∷ []) below (drop (length xs) entries) (omega (arith, le, both, length-drop (length xs) entries))
      (AllHold-right (leaves_claims vars rows place index xs entries) (leaves_claims vars rows place (index + length xs) ys (drop (length xs) entries)) parts) more t) where
        choose : (v : ℤ) → v ≡ form_value form (parameters ++ values) → IsTrueLeaf program parameters reader where_ values (if is_below_zero v then leaf_at below (parameters ++ values) else leaf_at above (parameters ++ values))
            → (IsMet (tests ++ form_at vars forms form ∷ []) at → IsTrueLeaf program parameters reader where_ values (leaf_at above (parameters ++ values))
            → source_at program parameters reader where_ values ≡ input (read_cell program parameters reader.statement reader.read values))
            → (IsMet (tests ++ no_at vars forms form ∷ []) at → IsTrueLeaf program parameters reader where_ values (leaf_at below (parameters ++ values))
            → source_at program parameters reader where_ values ≡ input (read_cell program parameters reader.statement reader.read values))
            → source_at program parameters reader where_ values ≡ input (read_cell program parameters reader.statement reader.read values)
        choose (pos n) e t up down = up (All-append (λ (row : AffineForm). pos 0 ≤ℤ form_value row at) tests (form_at vars forms form ∷ []) met (yes-met vars forms form at (parameters ++ values) there (omega (arith, ints)), tt)) t
        choose (negsuc n) e t up down = down (All-append (λ (row : AffineForm). pos 0 ≤ℤ form_value row at) tests (no_at vars forms form ∷ []) met (no-met vars forms form at (parameters ++ values) there (omega (arith, ints)), tt)) t
