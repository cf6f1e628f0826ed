-- What is asked of the term of a whole domain (condition 1) holds.
use Rattle.std.proofs.Common.{◌≡◌, refl, sym, ap, subst, ℕ, ◌+◌, List, [], ◌∷◌, ◌++◌, length, arith, Bool, true, false}
use Rattle.std.specs.Prelude.{Option, Some, None, ◌==◌, if◌then◌else◌, codes}
use Rattle.std.specs.List.{AllByRecursion, range_with_len}
use Rattle.std.proofs.lemmas.Bool.{eqb-true}
use Rattle.base_laws.proofs.Lists.{All-every, All-map}
use Rattle.iolb_model.specs.Form.{AffineForm}
use Rattle.iolb_model.specs.Program.{Access, AffineProgram, statement_at}
use Rattle.certificate_fit.proofs.FormsFit.{bounds-hold}
use Rattle.affine_form.specs.Rows.{BoundsFit}
use Rattle.affine_program.specs.Domain.{bounds_at, depth_of}
use Rattle.affine_program.specs.Parts.{ProgramParts, meaning}
use Rattle.claims.specs.Claims.{AllHold}
use Rattle.claims.specs.declared.place.Step.{Step}
use Rattle.claims.specs.declared.place.Step.TheVariants.{Key}
use Rattle.claims.proofs.Laws.{AllHold-append}
use Rattle.dep_quast.specs.Tree.{SelectionTree}
use Rattle.domain_count.specs.Claims.{SumClaims}
use Rattle.footprint_pieces.specs.declared.piece.Target.{Target}
use Rattle.footprint_pieces.specs.TargetPairs.{pairwise_targets}
use Rattle.footprint_pieces.proofs.PairCounts.{pairs-many}
use Rattle.certificate_fit.specs.PartFit.{matrix_fit}
use Rattle.k_partition.specs.PartitionClaims.{pieces_of_families}
use Rattle.k_partition.specs.PartitionFits.{PartitionFits}
use Rattle.k_partition.specs.Term.{PartitionTerm}
use Rattle.iolb_check.specs.PartitionFit.{apart_count, apart_fit, coordinates_fit, credits_fit, nest_fit, number_fit, partition_fit, points_fit, walked_fit, walks_fit}
use Rattle.iolb_check.proofs.FamilyTargets.{families-told}
use Rattle.projective.specs.Projective.{coordinates, projection_sets, reference_to}
use Rattle.projective.specs.Products.{IsProductCount}
use Rattle.projective_bounds.specs.WholeLaws.{CanBeShown, WholeTermsAreAsAsked}
use Rattle.projective_bounds.specs.Whole.{identity_matrix}
use Rattle.projective_bounds.proofs.AskedFamilies.{IsRising, families-asked, filtered-rises}
use Rattle.projective_bounds.proofs.Held.{depth, is-nest, term-fits, walked, whole, whole-is}
use Rattle.projective_bounds.proofs.Pieces.{none-pairwise}
use Rattle.projective_bounds.proofs.Sums.{polynomials-hold, shown-many}

-- the sets of all arrays rise
coordinates-rise : (params loops : ℕ) (found : Option Access) → IsRising loops (coordinates params loops found)
coordinates-rise params loops None = tt
coordinates-rise params loops (Some access) = filtered-rises _ loops

all-rise : (program : AffineProgram) → AllByRecursion (IsRising (depth_of program 0)) (projection_sets program)
all-rise program =
    All-map (IsRising (depth_of program 0)) (λ array. coordinates (length program.parameters) (depth_of program 0) (reference_to (statement_at program 0).reads array))
    (range_with_len 0 (length program.arrays)) (All-every _ (λ array. coordinates-rise (length program.parameters) (depth_of program 0) (reference_to (statement_at program 0).reads array)) (range_with_len 0 (length program.arrays)))

-- a matrix of so many rows and columns
square-asked : (size loops : ℕ) (place : List Step) → size ≡ loops → AllHold (matrix_fit loops loops place (identity_matrix size))
square-asked size loops place e = (e, (by (size == 0) refl, tt)) where
  by : (b : Bool) → (size == 0) ≡ b → size ≡ (if b then 0 else loops)
  by true is = eqb-true size 0 is
  by false is = e

module _ (parts : ProgramParts) (trees : List (List SelectionTree)) (q : ℕ) (weights : List ℕ) (nest : List (AffineForm × AffineForm)) (count : SumClaims) (can : CanBeShown parts trees q weights)
    (around : nest ≡ bounds_at (meaning parts) 0) (counts : IsProductCount (meaning parts) nest count) where
  abbrev program : AffineProgram
  program = meaning parts

  abbrev term : PartitionTerm
  term = whole program trees q weights nest count

  abbrev p : ℕ
  p = length program.parameters

  size-is : length nest ≡ depth_of program 0
  size-is = sym (depth parts trees q weights nest count can around counts)

  fits : PartitionFits program trees term
  fits = term-fits parts trees q weights nest count can around counts

  -- no two families have a target in common
  none-apart : 0 ≡ apart_count term.shape program trees term
  none-apart = omega (
    arith,
    pairs-many program (pieces_of_families program trees term),
    ap (λ (lists : List (List Target)). length (pairwise_targets lists)) (families-told program trees 0 nest (identity_matrix (length nest)) [] term.families fits.families),
    ap length (none-pairwise program trees nest 0 (projection_sets program) weights (walked parts trees q weights nest count can around counts)),
  )

  module _ (place : List Step) where
    walks-asked : AllHold (walks_fit program trees place term)
    walks-asked =
        AllHold-append (apart_fit program trees place term) (credits_fit program place term ++ walked_fit program trees place term) (none-apart, tt)
        (AllHold-append (credits_fit program place term) (walked_fit program trees place term) tt
        (families-asked program trees nest (identity_matrix (length nest)) (is-nest parts trees q weights nest count can around counts) (place ++ Key (codes "families") ∷ []) 0 0 (projection_sets program) weights
        (walked parts trees q weights nest count can around counts) (all-rise program)))

    coordinates-asked : AllHold (coordinates_fit program term place)
    coordinates-asked = (
      fits.inside,
      AllHold-append (matrix_fit (depth_of program 0) (depth_of program 0) (place ++ Key (codes "inverse") ∷ []) term.inverse) (matrix_fit (depth_of program 0) (depth_of program 0) (place ++ Key (codes "matrix") ∷ []) term.matrix)
          (square-asked (length nest) (depth_of program 0) (place ++ Key (codes "inverse") ∷ []) size-is) (square-asked (length nest) (depth_of program 0) (place ++ Key (codes "matrix") ∷ []) size-is),
    )

    nest-asked : AllHold (nest_fit program place term)
    nest-asked = (size-is, bounds-hold p 0 (place ++ Key (codes "nest") ∷ []) nest (subst (λ (n : ℕ). BoundsFit n nest) (flat p) fits.counted.bounds)) where
      flat : (n : ℕ) → n ≡ n + 0
      flat n = omega arith

    number-asked : AllHold (number_fit program place term)
    number-asked = (shown-many program nest count counts, (fits.counted.there, polynomials-hold program nest count counts (place ++ Key (codes "sums") ∷ [])))

    pub term-asked : AllHold (partition_fit program trees place term)
    term-asked =
        AllHold-append (walks_fit program trees place term) (points_fit program place term ++ number_fit program place term) walks-asked
        (AllHold-append (points_fit program place term) (number_fit program place term)
        (AllHold-append (coordinates_fit program term place) (nest_fit program place term) coordinates-asked nest-asked) number-asked)

pub whole-terms-asked : WholeTermsAreAsAsked
whole-terms-asked parts trees q weights term place can h =
    subst (λ (t : PartitionTerm). AllHold (partition_fit (meaning parts) trees place t)) (sym (whole-is (meaning parts) trees q weights term h))
    (term-asked parts trees q weights term.nest term.count can h.nest h.count place)
