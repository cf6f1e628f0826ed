-- The greatest of the branches that aren't wide.
use Rattle.std.proofs.Common.{◌≡◌, ◌⊎◌, refl, sym, ◌∙◌, ap, subst, inl, inr, ℕ, zero, suc, ◌+◌, ◌<◌, ◌≤◌, max, List, [], ◌∷◌, map, length, arith, lit≤}
use Rattle.std.specs.Prelude.{ℤ, Option, Some, None, Result, Ok, Err, slice_get, fold}
use Rattle.iolb_model.specs.declared.game.Move.{Move}
use Rattle.iolb_model.specs.Bound.{AreMet, BoundTerm, IsAdmitted, branch_value, bound_value}
use Rattle.iolb_model.specs.Game.{IsCompletePebbling, loads}
use Rattle.iolb_model.specs.Graph.{computation_graph}
use Rattle.iolb_model.specs.Headline.{BoundHolds}
use Rattle.iolb_model.specs.Program.{AffineProgram}
use Rattle.affine_c.specs.Products.{product_program}
use Rattle.affine_form.specs.System.{AffineSystem}
use Rattle.affine_program.specs.Parts.{ProgramParts, meaning}
use Rattle.find_terms.specs.AcceptedCertificates.{Gives}
use Rattle.find_terms.specs.Made.{IsMadeFor}
use Rattle.find_terms.specs.Products.{OneProductIsCertified, ProductsHaveOpenings}
use Rattle.iolb_check.specs.Bounds.{BoundParts, EvaluatesBranch, HasWideBranch, IsWideBranch, bound_of, terms_of}
use Rattle.iolb_check.specs.Claims.{claim_of_certificate}
use Rattle.iolb_check.specs.Conditions.{MeetsConditions}
use Rattle.iolb_check.specs.Limits.{CertificateParts}
use Rattle.iolb_check.specs.declared.bound.Value.{Value}
use Rattle.iolb_check.specs.declared.value_fault.ValueFault.{ValueFault}
use Rattle.iolb_check.specs.declared.value_fault.ValueFault.TheVariants.{OutsideAssumption, Wide}
use Rattle.tile_sched.proofs.Refusals.{met_first}
use Rattle.iolb_commands.specs.Bounded.{IsKeptShort}
use Rattle.iolb_commands.specs.Sampled.{IsGreatestNarrow, IsNarrowValue, IsOfOne, IsSampled, sample_memory, sample_sizes, sample_text}
use Rattle.iolb_commands.specs.Task.{bound_with}
use Rattle.iolb_commands.proofs.Values.{wide-at}
use Rattle.projective_bounds.specs.Certified.{IsCertified}

-- ---- the greatest of all

fold-more : (xs : List ℕ) (least : ℕ) → least ≤ fold max least xs
fold-more [] least = omega arith
fold-more (x ∷ xs) least = let more : max least x ≤ fold max (max least x) xs = fold-more xs (max least x) in omega (arith, more)

-- a branch that is there is worth no more
branch-most : (branches : List (List Value)) (sizes : List ℤ) (s least branch : ℕ) (terms : List Value) → slice_get branches branch ≡ Some terms
    → branch_value (terms_of terms) sizes s ≤ fold max least (map (λ (ts : List BoundTerm). branch_value ts sizes s) (map terms_of branches))
branch-most [] sizes s least branch terms e = absurd cc
branch-most (b ∷ branches) sizes s least zero terms e =
    let value : ℕ = branch_value (terms_of b) sizes s in
    let more : max least value ≤ fold max (max least value) (map (λ (ts : List BoundTerm). branch_value ts sizes s) (map terms_of branches)) =
    fold-more (map (λ (ts : List BoundTerm). branch_value ts sizes s) (map terms_of branches)) (max least value) in
    let is : branch_value (terms_of terms) sizes s ≡ value = ap (λ (t : List Value). branch_value (terms_of t) sizes s) (sym (same b terms e)) in omega (arith, more, is) where
      same : (a c : List Value) → Some a ≡ Some c → a ≡ c
      same a c p = cc
branch-most (b ∷ branches) sizes s least (suc branch) terms e = branch-most branches sizes s (max least (branch_value (terms_of b) sizes s)) branch terms e

-- if each is worth no more than a number, all are
branches-least : (branches : List (List Value)) (sizes : List ℤ) (s least most : ℕ) → least ≤ most
    → ((branch : ℕ) (terms : List Value) → slice_get branches branch ≡ Some terms → branch_value (terms_of terms) sizes s ≤ most)
    → fold max least (map (λ (ts : List BoundTerm). branch_value ts sizes s) (map terms_of branches)) ≤ most
branches-least [] sizes s least most le each = le
branches-least (b ∷ branches) sizes s least most le each =
    let own : branch_value (terms_of b) sizes s ≤ most = each 0 b refl in
    branches-least branches sizes s (max least (branch_value (terms_of b) sizes s)) most (omega (arith, le, own)) (λ branch terms there. each (suc branch) terms there)

-- ---- so many matrix products

admitted : (products : ℕ) → IsAdmitted (product_program products) sample_sizes
admitted products = record { each = refl; met = (omega arith, tt) }

-- every complete pebbling makes at least so many loads
pub sample-least : (products : ℕ) (values : List (List Value)) (value : ℕ) (moves : List Move) → IsGreatestNarrow values sample_sizes sample_memory value
    → BoundHolds (product_program products) (bound_with (product_program products) values)
    → IsCompletePebbling (computation_graph (product_program products) sample_sizes) sample_memory moves → value ≤ loads moves
sample-least products values value moves greatest holds game = by greatest.reached where
  most : bound_value (bound_with (product_program products) values) sample_sizes sample_memory ≤ loads moves
  most = holds sample_sizes sample_memory moves (admitted products) (lit≤ tt) game

  by : (value ≡ 0) ⊎ ((branch : ℕ) × (terms : List Value) × (slice_get values branch ≡ Some terms) × (¬ IsWideBranch sample_sizes sample_memory terms)
      × (branch_value (terms_of terms) sample_sizes sample_memory ≡ value)) → value ≤ loads moves
  by (inl none) = omega (arith, none)
  by (inr (branch, terms, there, narrow, is)) =
      let less = branch-most values sample_sizes sample_memory 0 branch terms there in omega (arith, is, less, most)

-- where no branch is wide it is the greatest value of all
greatest-of-all : (values : List (List Value)) (sizes : List ℤ) (s value : ℕ) → IsGreatestNarrow values sizes s value → ¬ HasWideBranch sizes s values
    → value ≡ fold max 0 (map (λ (ts : List BoundTerm). branch_value ts sizes s) (map terms_of values))
greatest-of-all values sizes s value greatest narrow = omega (arith, below greatest.reached, above) where
  above : fold max 0 (map (λ (ts : List BoundTerm). branch_value ts sizes s) (map terms_of values)) ≤ value
  above = branches-least values sizes s 0 value (omega arith) (λ branch terms there. greatest.most branch terms there (λ wide. narrow (wide-at values branch terms sizes s there wide)))

  below : (value ≡ 0) ⊎ ((branch : ℕ) × (terms : List Value) × (slice_get values branch ≡ Some terms) × (¬ IsWideBranch sizes s terms) × (branch_value (terms_of terms) sizes s ≡ value))
      → value ≤ fold max 0 (map (λ (ts : List BoundTerm). branch_value ts sizes s) (map terms_of values))
  below (inl none) = omega (arith, none)
  below (inr (branch, terms, there, is_narrow, is)) = let less = branch-most values sizes s 0 branch terms there in omega (arith, is, less)

of-one : OneProductIsCertified → (products : ℕ) (certificate : CertificateParts) (values : List (List Value)) (value : ℕ) → IsMadeFor (product_program products) certificate
    → MeetsConditions (product_program products) (claim_of_certificate certificate) values → IsGreatestNarrow values sample_sizes sample_memory value → IsOfOne products certificate values value
of-one certified products certificate values value made valid greatest is =
    let one = certified certificate values (subst (λ (n : ℕ). IsMadeFor (product_program n) certificate) is made)
    (subst (λ (n : ℕ). MeetsConditions (product_program n) (claim_of_certificate certificate) values) is valid) in
    (subst (λ (n : ℕ). IsCertified (product_program n) certificate) (sym is) one.0, one.1, greatest-of-all values sample_sizes sample_memory value greatest one.1)

-- so a certificate that was made answers
pub sampled_so : (program : ProgramParts) (products : ℕ) (certificate : CertificateParts) (bound : BoundParts) (value : ℕ) (text : List ℕ) → meaning program ≡ product_program products
    → Gives program certificate bound → IsMadeFor (meaning program) certificate → IsKeptShort (meaning program) certificate → IsGreatestNarrow bound.branches sample_sizes sample_memory value → OneProductIsCertified → ProductsHaveOpenings → text ≡ sample_text products value
    → IsSampled products text []
sampled_so program products certificate bound value text is gives made short greatest certified opens says =
    let valid = subst (λ (q : AffineProgram). MeetsConditions q (claim_of_certificate certificate) bound.branches) is gives.meets in
    let its = subst (λ (q : AffineProgram). IsMadeFor q certificate) is made in
    record {
      certificate = certificate;
      values = bound.branches;
      valid = valid;
      holds = subst (λ (q : AffineProgram). BoundHolds q (bound_with q bound.branches)) is
          (subst (λ (a : AffineSystem). BoundHolds (meaning program) (bound_of (record { assumed = a; branches = bound.branches }))) gives.assumed gives.holds);
      made = its;
      short = subst (λ (q : AffineProgram). IsKeptShort q certificate) is short;
      value = value;
      greatest = greatest;
      one = of-one certified products certificate bound.branches value its valid greatest;
      several = λ two.
          let first = opens products certificate bound.branches two its valid in
          let most = greatest.most 0 first.0 first.1 first.2 in omega (arith, first.3, most);
      says = says;
      unnoted = refl;
    }

-- ---- branch by branch

-- a branch that has no value is wide, where the assumptions are met
pub narrow-none : (bound : BoundParts) (sizes : List ℤ) (s branch : ℕ) (fault : ValueFault) → AreMet bound.assumed.rows sizes → EvaluatesBranch bound sizes s branch (Err fault)
    → (terms : List Value) × (slice_get bound.branches branch ≡ Some terms) × IsNarrowValue sizes s terms 0
narrow-none bound sizes s branch (OutsideAssumption number) met e = absurd (met_first bound.assumed.rows sizes number met e.2)
narrow-none bound sizes s branch Wide met e = (e.0, e.1, inr (e.2.1, refl))

-- the greatest of the branches before one
pub record IsGreatestBelow (branches : List (List Value)) (sizes : List ℤ) (s end value : ℕ) : Type 0 where
  pub most : (branch : ℕ) (terms : List Value) → branch < end → slice_get branches branch ≡ Some terms → ¬ IsWideBranch sizes s terms → branch_value (terms_of terms) sizes s ≤ value
  pub reached : (value ≡ 0)
      ⊎ ((branch : ℕ) × (terms : List Value) × (slice_get branches branch ≡ Some terms) × (¬ IsWideBranch sizes s terms) × (branch_value (terms_of terms) sizes s ≡ value))

pub greatest-none : (branches : List (List Value)) (sizes : List ℤ) (s : ℕ) → IsGreatestBelow branches sizes s 0 0
greatest-none branches sizes s = record { most = λ branch terms below there narrow. absurd (omega (arith, below)); reached = inl refl }

same_terms : (branches : List (List Value)) (branch : ℕ) (a b : List Value) → slice_get branches branch ≡ Some a → slice_get branches branch ≡ Some b → a ≡ b
same_terms branches branch a b e f = some (sym e ∙ f) where
  some : Some a ≡ Some b → a ≡ b
  some p = cc

-- one branch more
module _ (branches : List (List Value)) (sizes : List ℤ) (s end value more own : ℕ) (terms : List Value) (before : IsGreatestBelow branches sizes s end value) (there : slice_get branches end ≡ Some terms)
    (is : IsNarrowValue sizes s terms own) (more_is : more ≡ max value own) where
  this : ¬ IsWideBranch sizes s terms → branch_value (terms_of terms) sizes s ≤ more
  this narrow = elim is [
    | inl valued ↦ omega (arith, valued.1, more_is)
    | inr wide ↦ absurd (narrow wide.0)
  ]

  either : (branch : ℕ) → branch < end + 1 → (branch < end) ⊎ (branch ≡ end)
  either branch below = grind (arith, below)

  most : (branch : ℕ) (others : List Value) → branch < end + 1 → slice_get branches branch ≡ Some others → ¬ IsWideBranch sizes s others → branch_value (terms_of others) sizes s ≤ more
  most branch others below here narrow = elim (either branch below) [
    | inl earlier ↦ let less = before.most branch others earlier here narrow in omega (arith, less, more_is)
    | inr last ↦
        let same : others ≡ terms = same_terms branches end others terms (subst (λ (k : ℕ). slice_get branches k ≡ Some others) last here) there in
        subst (λ (ts : List Value). branch_value (terms_of ts) sizes s ≤ more) (sym same) (this (subst (λ (ts : List Value). ¬ IsWideBranch sizes s ts) same narrow))
  ]

  abbrev Reached : ℕ → Type 0
  Reached found = (found ≡ 0)
      ⊎ ((branch : ℕ) × (ts : List Value) × (slice_get branches branch ≡ Some ts) × (¬ IsWideBranch sizes s ts) × (branch_value (terms_of ts) sizes s ≡ found))

  own-reached : Reached own
  own-reached = elim is [
    | inl valued ↦ inr (end, terms, there, valued.0, sym valued.1)
    | inr wide ↦ inl wide.1
  ]

  one-of : (more ≡ value) ⊎ (more ≡ own)
  one-of = grind (arith, more_is)

  pub greatest-more : IsGreatestBelow branches sizes s (end + 1) more
  greatest-more = record {
    most = most;
    reached = elim one-of [
      | inl old ↦ subst Reached (sym old) before.reached
      | inr new ↦ subst Reached (sym new) own-reached
    ];
  }

there-below : (branches : List (List Value)) (branch : ℕ) (terms : List Value) → slice_get branches branch ≡ Some terms → branch < length branches
there-below [] branch terms e = absurd cc
there-below (b ∷ branches) zero terms e = omega arith
there-below (b ∷ branches) (suc branch) terms e = omega (arith, there-below branches branch terms e)

-- all of them
pub greatest-all : (branches : List (List Value)) (sizes : List ℤ) (s end value : ℕ) → length branches ≤ end → IsGreatestBelow branches sizes s end value → IsGreatestNarrow branches sizes s value
greatest-all branches sizes s end value past h = record {
  most = λ branch terms there narrow. let below = there-below branches branch terms there in h.most branch terms (omega (arith, below, past)) there narrow;
  reached = h.reached;
}
