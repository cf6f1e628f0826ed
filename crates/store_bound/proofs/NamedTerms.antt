-- The terms of the branch that is named, in the code and in what it claims, and what holds of them.
use Rattle.std.proofs.Common.{◌≡◌, refl, ap, inl, inr, ℕ, zero, suc, ◌≤◌, List, [], ◌∷◌, ◌++◌, length, map, get_or, arith}
use Rattle.std.specs.Prelude.{ℤ, Option, Some, None, slice_get}
use Rattle.affine_form.specs.System.{AffineSystem}
use Rattle.iolb_check.specs.Bounds.{HasWideBranch, HasWideTerm, IsTermValue}
use Rattle.std.specs.List.{AllByRecursion, AllZip}
use Rattle.affine_program.specs.Parts.{ProgramParts, IsProgram, meaning}
use Rattle.claims.specs.Claims.{AllHold, numbered}
use Rattle.claims.proofs.Laws.{AllHold-left}
use Rattle.dep_quast.specs.Trees.{rows_claims}
use Rattle.iolb_check.specs.Claims.{BranchClaim, claim_of_branch, claim_of_certificate, claim_of_term}
use Rattle.iolb_check.specs.Conditions.{AreBranchValues, AreValuesOf, branch_claims, conditions}
use Rattle.iolb_check.specs.Fit.{BranchesFit, TermFits}
use Rattle.iolb_check.specs.Limits.{CertificateParts, IsSmallBranch, IsWithinLimits}
use Rattle.iolb_check.specs.Sound.{AreCounted, IsCounted, IsSound, IsSoundBranch, term_vertices}
use Rattle.iolb_check.specs.TermFit.{certificate_fit}
use Rattle.iolb_check.specs.declared.bound.Value.{Value}
use Rattle.iolb_check.specs.declared.term.Branch.{Branch}
use Rattle.iolb_check.specs.declared.term.Term.{Term}
use Rattle.iolb_check.specs.declared.term.Term.TheVariants as terms
use Rattle.iolb_check.proofs.FitParts.{parts-fit}
use Rattle.iolb_model.specs.Footprint.{AreApartFootprints}
use Rattle.iolb_model.specs.declared.limits.TheConstants.{TERMS}
use Rattle.iolb_model.specs.Program.{AffineProgram}
use Rattle.dep_quast.specs.Tree.{SelectionTree}
use Rattle.dep_quast.specs.Quasts.{trees_of}
use Rattle.store_bound.specs.Counted.{named_terms, named_values, terms_named}
use Rattle.store_bound.specs.WordPieces.{HasWordPiece}

-- ---- what stands at a place, through a function to lists

pub named-at : {X Y : Type 0} (f : X → List Y) (xs : List X) (n : ℕ) (x : X) → slice_get xs n ≡ Some x → get_or (map f xs) n [] ≡ f x
named-at f [] n x e = absurd cc
named-at f (y ∷ xs) zero x e = ap f (one y x e) where
  one : {Z : Type 0} (a b : Z) → Some a ≡ Some b → a ≡ b
  one a b h = cc
named-at f (y ∷ xs) (suc n) x e = named-at f xs n x e

-- what holds of each member's list, and of the empty list, holds of the list that stands at a place
at-place : {X Y : Type 0} (f : X → List Y) (P : List Y → Type 0) → P [] → (xs : List X) → AllByRecursion (λ (x : X). P (f x)) xs → (n : ℕ) → P (get_or (map f xs) n [])
at-place f P none [] h n = none
at-place f P none (x ∷ xs) h zero = h.0
at-place f P none (x ∷ xs) h (suc n) = at-place f P none xs h.1 n

-- ---- the terms that are named

module _ (certificate : CertificateParts) where
  same-terms : (branches : List Branch) (n : ℕ)
      → map claim_of_term (get_or (map (λ (it : Branch). it.terms.items) branches) n []) ≡ get_or (map (λ (claim : BranchClaim). claim.terms) (map claim_of_branch branches)) n []
  same-terms [] n = refl
  same-terms (b ∷ branches) zero = refl
  same-terms (b ∷ branches) (suc n) = same-terms branches n

  pub named-claims : (branch : Option ℕ) → map claim_of_term (terms_named certificate branch) ≡ named_terms (claim_of_certificate certificate) branch
  named-claims None = refl
  named-claims (Some n) = same-terms certificate.branches n

  -- what holds of the terms of each branch, and of none, holds of them
  pub of-named : (P : List Term → Type 0) → P [] → AllByRecursion (λ (it : Branch). P it.terms.items) certificate.branches → (branch : Option ℕ) → P (terms_named certificate branch)
  of-named P none h None = none
  of-named P none h (Some n) = at-place (λ (it : Branch). it.terms.items) P none certificate.branches h n

-- what holds of each branch with its values holds of those that are named
pub zipped-named : (R : List Term → List Value → Type 0) → R [] [] → (branches : List Branch) (values : List (List Value)) → AllZip (λ (it : Branch) vs. R it.terms.items vs) branches values
    → (n : ℕ) → R (get_or (map (λ (it : Branch). it.terms.items) branches) n []) (get_or values n [])
zipped-named R none [] [] h n = none
zipped-named R none [] (v ∷ values) h n = absurd h
zipped-named R none (b ∷ branches) [] h n = absurd h
zipped-named R none (b ∷ branches) (v ∷ values) h zero = h.0
zipped-named R none (b ∷ branches) (v ∷ values) h (suc n) = zipped-named R none branches values h.1 n

-- ---- pieces of words

module _ (program : ProgramParts) (trees : List (List SelectionTree)) where
  term-pieces : (ts : List Term) → AllByRecursion (TermFits program trees) ts → AllByRecursion (HasWordPiece program) ts
  term-pieces [] h = tt
  term-pieces (terms.Cold cold ∷ ts) h = (tt, term-pieces ts h.1)
  term-pieces (terms.Partition partition ∷ ts) h = (tt, term-pieces ts h.1)
  term-pieces (terms.Wavefront front ∷ ts) h = (h.0.fits.parts, term-pieces ts h.1)
  term-pieces (terms.Joint joint ∷ ts) h = (tt, term-pieces ts h.1)

  branch-pieces : (branches : List Branch) → BranchesFit program trees branches → AllByRecursion (λ (it : Branch). AllByRecursion (HasWordPiece program) it.terms.items) branches
  branch-pieces [] h = tt
  branch-pieces (b ∷ branches) h = (term-pieces b.terms.items h.0.terms, branch-pieces branches h.1)

pub named-pieces : (program : ProgramParts) (certificate : CertificateParts) (branch : Option ℕ) → IsProgram program → IsWithinLimits certificate
    → AllHold (conditions (meaning program) (claim_of_certificate certificate)) → AllByRecursion (HasWordPiece program) (terms_named certificate branch)
named-pieces program certificate branch is limits holds =
    let P : AffineProgram = meaning program in
    let trees : List (List SelectionTree) = trees_of certificate.quasts in
    let fit = AllHold-left (certificate_fit P (claim_of_certificate certificate)) (rows_claims P 0 trees)
    (AllHold-left (certificate_fit P (claim_of_certificate certificate) ++ rows_claims P 0 trees) (numbered (branch_claims P trees) 0 (map claim_of_branch certificate.branches)) holds) in
    of-named certificate (AllByRecursion (HasWordPiece program)) tt (branch-pieces program trees certificate.branches (parts-fit program certificate is limits fit).branches) branch

-- ---- soundness of the terms that are named

pub named-sound : (program : ProgramParts) (certificate : CertificateParts) (branch : Option ℕ) → AllByRecursion (IsSoundBranch program) certificate.branches
    → AllByRecursion (IsSound program) (terms_named certificate branch)
named-sound program certificate branch h = of-named certificate (AllByRecursion (IsSound program)) tt (each certificate.branches h) branch where
  each : (branches : List Branch) → AllByRecursion (IsSoundBranch program) branches → AllByRecursion (λ (it : Branch). AllByRecursion (IsSound program) it.terms.items) branches
  each [] g = tt
  each (b ∷ branches) g = (g.0.terms, each branches g.1)

pub named-apart : (program : ProgramParts) (certificate : CertificateParts) (branch : Option ℕ) → AllByRecursion (IsSoundBranch program) certificate.branches
    → AreApartFootprints (meaning program) (map (term_vertices program) (terms_named certificate branch))
named-apart program certificate branch h =
    of-named certificate (λ (ts : List Term). AreApartFootprints (meaning program) (map (term_vertices program) ts)) (λ values admitted. tt) (each certificate.branches h) branch where
      each : (branches : List Branch) → AllByRecursion (IsSoundBranch program) branches
          → AllByRecursion (λ (it : Branch). AreApartFootprints (meaning program) (map (term_vertices program) it.terms.items)) branches
      each [] g = tt
      each (b ∷ branches) g = (g.0.apart, each branches g.1)

-- ---- their values

pub named-counted : (program : ProgramParts) (certificate : CertificateParts) (values : List (List Value)) (branch : Option ℕ) → AllZip (AreCounted program) certificate.branches values
    → AllZip (IsCounted program) (terms_named certificate branch) (named_values values branch)
named-counted program certificate values None h = tt
named-counted program certificate values (Some n) h = zipped-named (λ ts vs. AllZip (IsCounted program) ts vs) tt certificate.branches values h n

pub named-valued : (program : AffineProgram) (certificate : CertificateParts) (values : List (List Value)) (branch : Option ℕ) → AreBranchValues program (map claim_of_branch certificate.branches) values
    → AreValuesOf program (map claim_of_term (terms_named certificate branch)) (named_values values branch)
named-valued program certificate values None h = refl
named-valued program certificate values (Some n) h = by certificate.branches values h n where
  by : (branches : List Branch) (vs : List (List Value)) → AreBranchValues program (map claim_of_branch branches) vs → (k : ℕ)
      → AreValuesOf program (map claim_of_term (get_or (map (λ (it : Branch). it.terms.items) branches) k [])) (get_or vs k [])
  by [] vs g k = ap (λ (l : List (List Value)). get_or l k []) g
  by (b ∷ branches) [] g k = absurd g
  by (b ∷ branches) (v ∷ vs) g zero = g.0
  by (b ∷ branches) (v ∷ vs) g (suc k) = by branches vs g.1 k

-- they are few
pub named-few : (certificate : CertificateParts) (branch : Option ℕ) → IsWithinLimits certificate → length (terms_named certificate branch) ≤ TERMS
named-few certificate branch limits = of-named certificate (λ (ts : List Term). length ts ≤ TERMS) (omega arith) (each certificate.branches limits.branches) branch where
  each : (branches : List Branch) → AllByRecursion IsSmallBranch branches → AllByRecursion (λ (it : Branch). length it.terms.items ≤ TERMS) branches
  each [] h = tt
  each (b ∷ branches) h = (h.0.few, each branches h.1)

-- ---- their values count, and a wide one makes a wide branch

pub named-counting : (assumed : AffineSystem) (values : List (List Value)) → AllByRecursion (λ (vs : List Value). AllByRecursion (IsTermValue assumed) vs) values → (n : ℕ)
    → AllByRecursion (IsTermValue assumed) (get_or values n [])
named-counting assumed [] h n = tt
named-counting assumed (vs ∷ values) h zero = h.0
named-counting assumed (vs ∷ values) h (suc n) = named-counting assumed values h.1 n

wide-at : (sizes : List ℤ) (s : ℕ) (values : List (List Value)) (n : ℕ) → HasWideTerm sizes s (get_or values n []) → HasWideBranch sizes s values
wide-at sizes s [] n h = absurd h
wide-at sizes s (vs ∷ values) zero h = inl (inl h)
wide-at sizes s (vs ∷ values) (suc n) h = inr (wide-at sizes s values n h)

pub named-wide : (sizes : List ℤ) (s : ℕ) (values : List (List Value)) (branch : Option ℕ) → HasWideTerm sizes s (named_values values branch) → HasWideBranch sizes s values
named-wide sizes s values None h = absurd h
named-wide sizes s values (Some n) h = wide-at sizes s values n h
