-- All that the term of a whole domain claims holds, and it fits.
use Rattle.std.proofs.Common.{◌≡◌, refl, sym, ◌∙◌, ap, subst, ℕ, zero, suc, ◌+◌, ◌*◌, ◌≤◌, List, [], ◌∷◌, ◌++◌, length, map, sum, arith, lit<, Bool, true, false}
use Rattle.std.specs.Prelude.{◌==◌, if◌then◌else◌, pos, codes}
use Rattle.std.specs.List.{AllByRecursion}
use Rattle.std.proofs.lemmas.Bool.{eqb-false}
use Rattle.std.proofs.lemmas.List.{length-map, length-replicate}
use Rattle.base_laws.proofs.Lists.{All-replicate}
use Rattle.iolb_model.specs.Form.{AffineForm}
use Rattle.iolb_model.specs.Program.{AffineProgram}
use Rattle.claims.specs.Claims.{AllHold, counted, numbered}
use Rattle.claims.specs.declared.place.Step.{Step}
use Rattle.claims.specs.declared.place.Step.TheVariants.{Key, Index}
use Rattle.claims.proofs.Laws.{AllHold-append}
use Rattle.claims.proofs.Members.{counts-hold}
use Rattle.affine_form.specs.Form.{IsSmall}
use Rattle.affine_form.specs.Rows.{BoundsFit, IsSmallOver, variables_from, widened, within_rows}
use Rattle.affine_form.specs.System.{AffineSystem}
use Rattle.affine_form.proofs.RowLemmas.{length-variables, variables-over, within_rows-over}
use Rattle.affine_program.specs.Domain.{bounds_at, depth_of}
use Rattle.affine_program.specs.Parts.{ProgramParts, meaning, statement_of}
use Rattle.claims.specs.Shown.{follow_claims, pointless_claims}
use Rattle.dep_quast.specs.Tree.{SelectionTree}
use Rattle.dep_quast.proofs.Fits.{depth-few}
use Rattle.domain_count.specs.Claims.{SumClaims}
use Rattle.domain_count.specs.Count.{rows_before}
use Rattle.domain_count.specs.CountClaims.{count_claims}
use Rattle.domain_count.proofs.Claimed.{count-claims}
use Rattle.k_partition.specs.PartitionClaims.{cover_claim, cover_claims, family_claims_at, inside_claims, partition_claims, point_claims, sound_claims, unit_claim, unit_claims}
use Rattle.k_partition.specs.PartitionFits.{PartitionFits}
use Rattle.k_partition.specs.Term.{PartitionTerm}
use Rattle.k_partition.specs.declared.term.Shape.TheVariants.{Sum}
use Rattle.footprint_pieces.specs.DisjointClaims.{pairwise_systems}
use Rattle.reuse_paths.specs.FamilyFits.{FamilyFits}
use Rattle.reuse_paths.specs.FamilyPieces.{family_pieces}
use Rattle.projective.specs.Projective.{projection_sets}
use Rattle.projective.specs.Products.{IsProductCount, RunBelow}
use Rattle.projective_bounds.specs.Families.{array_families, array_family}
use Rattle.projective_bounds.specs.WholeLaws.{CanBeShown, WholeTermsFit, WholeTermsHold}
use Rattle.projective.proofs.Facts.{rows-bare}
use Rattle.projective_bounds.specs.Multipliers.{rows_taken}
use Rattle.projective_bounds.specs.Whole.{IsWholeTerm, identity_matrix, stretch_for}
use Rattle.projective_bounds.proofs.FamilySets.{weights-same}
use Rattle.projective_bounds.proofs.Family.{AreWalked, IsNest, family-fits, family-holds}
use Rattle.projective_bounds.proofs.Forms.{rows-hold}
use Rattle.projective_bounds.proofs.Identities.{entry-is, identity-shape, identity-undone}
use Rattle.projective_bounds.proofs.Pieces.{none-pairwise}
use Rattle.projective_bounds.proofs.Readings.{pairs-readable}
use Rattle.projective_bounds.proofs.Walked.{all-walked}
use Rattle.iolb_model.specs.declared.limits.TheConstants.{NUMBER_SIZE}

-- ---- the nest's bounds

pub run-fits : (program : AffineProgram) (vars : ℕ) (nest : List (AffineForm × AffineForm)) (ps : List ℕ) → RunBelow program vars nest ps → BoundsFit vars nest
run-fits program vars [] ps h = tt
run-fits program vars (b ∷ nest) [] h = absurd h
run-fits program vars (b ∷ nest) (p ∷ ps) h = (
  (
    subst (IsSmallOver vars) (sym h.0.lower) (record { over = length-replicate vars (pos 0); small = (All-replicate (IsSmall NUMBER_SIZE) vars (pos 0) (lit< tt), lit< tt) }),
    subst (IsSmallOver vars) (sym h.0.upper) (record { over = (variables-over vars p 1).0.over; small = ((variables-over vars p 1).0.small.0, lit< tt) }),
  ),
  run-fits program (suc vars) nest ps h.1,
)

-- ---- the term by its parts

abbrev pub whole : AffineProgram → List (List SelectionTree) → ℕ → List ℕ → List (AffineForm × AffineForm) → SumClaims → PartitionTerm
whole program trees q weights nest count = record {
  statement = 0;
  nest = nest;
  count = count;
  inside = rows_taken (length program.assumptions) (2 * length nest);
  matrix = identity_matrix (length nest);
  inverse = identity_matrix (length nest);
  q = q;
  shape = Sum;
  a = stretch_for q (sum weights);
  b = 0;
  credits = [];
  families = array_families program trees 0 (projection_sets program) weights;
  apart = [];
}

pub whole-is : (program : AffineProgram) (trees : List (List SelectionTree)) (q : ℕ) (weights : List ℕ) (term : PartitionTerm) → IsWholeTerm program trees q weights term
    → term ≡ whole program trees q weights term.nest term.count
whole-is program trees q weights term h = λ i. record {
  statement = h.statement i;
  nest = term.nest;
  count = term.count;
  inside = h.inside i;
  matrix = h.matrix i;
  inverse = h.inverse i;
  q = h.cover i;
  shape = h.shape i;
  a = h.a i;
  b = h.b i;
  credits = h.credits i;
  families = h.families i;
  apart = h.apart i;
}

module _ (parts : ProgramParts) (trees : List (List SelectionTree)) (q : ℕ) (weights : List ℕ) (nest : List (AffineForm × AffineForm)) (count : SumClaims) (can : CanBeShown parts trees q weights)
    (around : nest ≡ bounds_at (meaning parts) 0) (counts : IsProductCount (meaning parts) nest count) where
  abbrev program : AffineProgram
  program = meaning parts

  abbrev term : PartitionTerm
  term = whole program trees q weights nest count

  abbrev size : ℕ
  size = length nest

  pub depth : depth_of program 0 ≡ size
  depth = ap (λ (loops : List (AffineForm × AffineForm)). length loops) (sym around)

  one-statement : length parts.statements ≡ 1
  one-statement = sym (length-map parts.statements statement_of) ∙ can.projective.one

  pub few : size ≤ 6
  few = omega (arith, depth, depth-few parts can.program 0 (omega (arith, one-statement)))

  pub is-nest : IsNest program nest (identity_matrix size)
  is-nest = record {
    one = can.projective.one;
    around = sym around;
    bare = can.projective.unguarded;
    bounds = run-fits program (length program.parameters) nest counts.parameters counts.run;
    few = few;
    assumed = can.program.limits.assumptions;
    rows = refl;
    columns = refl;
    entries = entry-is size;
  }

  pub walked : AreWalked program trees 0 (projection_sets program) weights
  walked = all-walked program trees can.program.well_formed can.projective can.trees 0 (length program.arrays) (projection_sets program) weights refl
      (pairs-readable program (omega (arith, depth, few)) q weights can.packing can.some can.pair)

  -- ---- what is claimed

  module _ (place : List Step) where
    inside-holds : AllHold (inside_claims program place term)
    inside-holds =
        let vars = length program.parameters + size in
        let before = map (widened vars) program.assumptions in
        let rows = within_rows vars nest (variables_from vars 0 (length program.parameters)) (variables_from vars (length program.parameters) size) in
        subst (λ (goals : List AffineForm). AllHold (follow_claims 10 (place ++ Key (codes "inside") ∷ []) (rows_before program nest) 0 goals (rows_taken (length program.assumptions) (2 * size))))
        (ap (λ (loops : List (AffineForm × AffineForm)). within_rows vars loops (variables_from vars 0 (length program.parameters)) (variables_from vars (length program.parameters) size)) around
        ∙ sym (rows-bare program 0 vars (variables_from vars 0 (length program.parameters)) (variables_from vars (length program.parameters) size) can.projective.unguarded))
        (rows-hold 10 vars (place ++ Key (codes "inside") ∷ []) 0 before rows (length program.assumptions) (2 * size) (sym (length-map program.assumptions (widened vars)))
        (within_rows-over vars nest (variables_from vars 0 (length program.parameters)) (variables_from vars (length program.parameters) size)
        (subst (λ (n : ℕ). BoundsFit n nest) (sym (length-variables vars 0 (length program.parameters))) is-nest.bounds) (variables-over vars 0 (length program.parameters))
        (variables-over vars (length program.parameters) size)))

    units-hold : AllHold (unit_claims place term)
    units-hold =
        counts-hold (λ row. counted (unit_claim place term row) 0 size) size
        (λ row below. counts-hold (unit_claim place term row) size (λ col inside. (identity-undone size row col few below inside, tt)))

    covers-hold : AllHold (cover_claims place term)
    covers-hold =
        counts-hold (cover_claim place term) size
        (λ coordinate below. (
          subst (λ (n : ℕ). q ≤ n) (sym (weights-same program trees 0 (projection_sets program) weights coordinate)) (can.pair.cover.covered coordinate (omega (arith, depth, below))),
          tt,
        ))

    families-hold : (index first : ℕ) (sets : List (List ℕ)) (ws : List ℕ) → AreWalked program trees first sets ws
        → AllHold (numbered (family_claims_at program trees place term) index (array_families program trees first sets ws))
    families-hold index first [] ws h = tt
    families-hold index first (set ∷ sets) [] h = tt
    families-hold index first (set ∷ sets) (w ∷ ws) h =
        by (w == 0) refl (families-hold index (suc first) sets ws h.1) (families-hold (suc index) (suc first) sets ws h.1) where
          by : (b : Bool) → b ≡ (w == 0) → AllHold (numbered (family_claims_at program trees place term) index (array_families program trees (suc first) sets ws))
              → AllHold (numbered (family_claims_at program trees place term) (suc index) (array_families program trees (suc first) sets ws))
              → AllHold (numbered (family_claims_at program trees place term) index ((if b then [] else array_family program trees first set w ∷ []) ++ array_families program trees (suc first) sets ws))
          by true e same next = same
          by false e same next =
              AllHold-append (family_claims_at program trees place term index (array_family program trees first set w))
              (numbered (family_claims_at program trees place term) (suc index) (array_families program trees (suc first) sets ws))
              (family-holds program trees first set w nest (identity_matrix size) (h.0 (eqb-false w 0 (sym e))) is-nest (place ++ Key (codes "families") ∷ Index index ∷ [])) next

    apart-holds : AllHold (pointless_claims 18 (place ++ Key (codes "apart") ∷ []) 0 (pairwise_systems program (map (family_pieces program trees 0 nest) (array_families program trees 0 (projection_sets program) weights))) [])
    apart-holds =
        subst (λ (systems : List AffineSystem). AllHold (pointless_claims 18 (place ++ Key (codes "apart") ∷ []) 0 systems [])) (sym (none-pairwise program trees nest 0 (projection_sets program) weights walked)) tt

    pub term-holds : AllHold (partition_claims program trees place term)
    term-holds =
        AllHold-append (sound_claims program trees place term) _
        (AllHold-append
        (count_claims program nest count place ++ point_claims program place term ++ (unit_claims place term ++ cover_claims place term)) (numbered (family_claims_at program trees place term) 0 term.families)
        (AllHold-append (count_claims program nest count place ++ point_claims program place term) (unit_claims place term ++ cover_claims place term)
        (AllHold-append (count_claims program nest count place) (point_claims program place term) (count-claims program nest count place counts.total counts.right)
        (AllHold-append (inside_claims program place term) [] inside-holds tt))
        (AllHold-append (unit_claims place term) (cover_claims place term) units-hold covers-hold))
        (families-hold 0 0 (projection_sets program) weights walked))
        apart-holds

  -- ---- it fits

  families-fit : (first : ℕ) (sets : List (List ℕ)) (ws : List ℕ) → AreWalked program trees first sets ws
      → AllByRecursion (FamilyFits program trees 0 nest (identity_matrix size) []) (array_families program trees first sets ws)
  families-fit first [] ws h = tt
  families-fit first (set ∷ sets) [] h = tt
  families-fit first (set ∷ sets) (w ∷ ws) h = by (w == 0) refl (families-fit (suc first) sets ws h.1) where
    by : (b : Bool) → b ≡ (w == 0) → AllByRecursion (FamilyFits program trees 0 nest (identity_matrix size) []) (array_families program trees (suc first) sets ws)
        → AllByRecursion (FamilyFits program trees 0 nest (identity_matrix size) []) ((if b then [] else array_family program trees first set w ∷ []) ++ array_families program trees (suc first) sets ws)
    by true e rest = rest
    by false e rest = (family-fits program trees first set w nest (identity_matrix size) (h.0 (eqb-false w 0 (sym e))) is-nest, rest)

  taken-many : (first n : ℕ) → length (rows_taken first n) ≡ n
  taken-many first zero = refl
  taken-many first (suc n) = ap suc (taken-many (suc first) n)

  pub term-fits : PartitionFits program trees term
  term-fits = record {
    counted = record { there = omega (arith, can.projective.one); each = sym depth; bounds = is-nest.bounds; rows = sym depth; columns = λ some. sym depth };
    inside = omega (arith, taken-many (length program.assumptions) (2 * size), depth, ap (λ (rows : List AffineForm). length rows) can.projective.unguarded);
    matrix = identity-shape size few;
    positive = can.some;
    families = families-fit 0 (projection_sets program) weights walked;
    apart = omega (arith, ap (λ (systems : List AffineSystem). length systems) (none-pairwise program trees nest 0 (projection_sets program) weights walked));
  }

pub whole-terms-hold : WholeTermsHold
whole-terms-hold parts trees q weights term place can h =
    subst (λ (t : PartitionTerm). AllHold (partition_claims (meaning parts) trees place t)) (sym (whole-is (meaning parts) trees q weights term h))
    (term-holds parts trees q weights term.nest term.count can h.nest h.count place)

pub whole-terms-fit : WholeTermsFit
whole-terms-fit parts trees q weights term can h =
    subst (PartitionFits (meaning parts) trees) (sym (whole-is (meaning parts) trees q weights term h)) (term-fits parts trees q weights term.nest term.count can h.nest h.count)
