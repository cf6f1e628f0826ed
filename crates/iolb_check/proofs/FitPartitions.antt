-- Where what is asked of a partition term holds, it fits a program.
use Rattle.std.proofs.Common.{◌≡◌, refl, sym, ◌∙◌, ap, subst, ℕ, suc, ◌≤◌, List, [], ◌∷◌, ◌++◌, length, map, arith}
use Rattle.std.specs.Prelude.{if◌then◌else◌, ◌==◌, codes}
use Rattle.std.specs.List.{AllByRecursion}
use Rattle.iolb_model.specs.Program.{AffineProgram}
use Rattle.iolb_model.specs.declared.limits.TheConstants.{NEST_VARIABLES}
use Rattle.claims.specs.Claims.{Claim, AllHold, numbered}
use Rattle.claims.specs.declared.place.Step.{Step}
use Rattle.claims.specs.declared.place.Step.TheVariants.{Key}
use Rattle.claims.proofs.Laws.{AllHold-append, AllHold-left, AllHold-right}
use Rattle.affine_form.specs.Matrix.{IntegerMatrix}
use Rattle.affine_program.specs.Domain.{depth_of}
use Rattle.affine_program.specs.Parts.{ProgramParts, meaning}
use Rattle.dep_quast.specs.Tree.{SelectionTree}
use Rattle.domain_count.specs.Claims.{FitsCount}
use Rattle.k_partition.specs.declared.term.Partition.{Partition}
use Rattle.k_partition.specs.declared.term.Shape.{Shape}
use Rattle.k_partition.specs.declared.term.Shape.TheVariants.{Each, Sum}
use Rattle.k_partition.specs.PartitionClaims.{pieces_of_families}
use Rattle.k_partition.specs.PartitionFits.{HasApart}
use Rattle.k_partition.specs.Term.{CreditTerm, PartitionTerm, credited_nests}
use Rattle.k_partition.specs.View.{credit_term_of, partition_of, IsSquare}
use Rattle.reuse_paths.specs.declared.family.Credit.{Credit}
use Rattle.footprint_pieces.specs.declared.piece.Target.{Target}
use Rattle.reuse_paths.specs.Families.{CreditedNest, credit_of}
use Rattle.reuse_paths.specs.FamilyFits.{CountedFits, FamilyFits}
use Rattle.footprint_pieces.specs.TargetPairs.{pairwise_targets}
use Rattle.dep_quast.specs.Trees.{RowsFit}
use Rattle.reuse_paths.specs.WalkFits.{CreditFits}
use Rattle.footprint_pieces.proofs.PairCounts.{pairs-many}
use Rattle.certificate_fit.specs.FamilyFit.{credit_fit}
use Rattle.certificate_fit.specs.FamilyViews.{credit_at as held_credit}
use Rattle.certificate_fit.specs.Limits.{AreSmallBounds, IsSmallCredit}
use Rattle.certificate_fit.specs.TreeFit.{trees_fit}
use Rattle.certificate_fit.proofs.FamilyParts.{families-fit, credit-fits, credit-counts, credits-fit, credits-count}
use Rattle.certificate_fit.proofs.ReadTrees.{columns-many}
use Rattle.iolb_check.specs.Fit.{PartitionTermFits}
use Rattle.iolb_check.specs.Limits.{IsSmallPartition}
use Rattle.iolb_check.specs.PartitionFit.{apart_count, credit_at, credits_fit, walked_fit, walks_fit, coordinates_fit, counted_nest, nest_fit, points_fit, number_fit, partition_fit}
use Rattle.iolb_check.proofs.FamilyTargets.{families-told}

-- a matrix with so many rows, and so many columns where it has one, is square of each size that is so many
square : (loops size : ℕ) (matrix : IntegerMatrix) → size ≡ loops → matrix.rows ≡ loops → matrix.columns ≡ (if matrix.rows == 0 then 0 else loops) → IsSquare size matrix
square loops size matrix e rows columns = record {
  rows = rows ∙ sym e;
  columns = λ some. columns-many matrix.rows matrix.columns loops columns (omega (arith, some, e, rows)) ∙ sym e;
}

-- what is asked of credits, by the plain values and by what the code holds
pub credits-same : (program : AffineProgram) (place : List Step) (index : ℕ) (credits : List Credit)
    → numbered (credit_at program place) index (map credit_term_of credits) ≡ numbered (held_credit program place) index credits
credits-same program place index [] = refl
credits-same program place index (credit ∷ credits) =
    ap (λ (rest : List Claim). held_credit program place index credit ++ rest) (credits-same program place (suc index) credits)

pub credits-held : (credits : List Credit) → map credit_of credits ≡ map (λ (credit : CreditTerm). credit.nest) (map credit_term_of credits)
credits-held [] = refl
credits-held (credit ∷ credits) = ap (λ (rest : List CreditedNest). credit_of credit ∷ rest) (credits-held credits)

module _ (program : ProgramParts) (trees : List (List SelectionTree)) (fit : AllHold (trees_fit (meaning program) trees)) (rows : RowsFit (meaning program) 0 trees) where
  module _ (place : List Step) (partition : Partition) (small : IsSmallPartition partition) (h : AllHold (partition_fit (meaning program) trees place (partition_of partition))) where
    abbrev P : AffineProgram
    P = meaning program

    abbrev term : PartitionTerm
    term = partition_of partition

    in-walks : AllHold (walks_fit P trees place term)
    in-walks = AllHold-left (walks_fit P trees place term) (points_fit P place term ++ number_fit P place term) h

    behind : AllHold (points_fit P place term ++ number_fit P place term)
    behind = AllHold-right (walks_fit P trees place term) (points_fit P place term ++ number_fit P place term) h

    in-points : AllHold (points_fit P place term)
    in-points = AllHold-left (points_fit P place term) (number_fit P place term) behind

    in-coordinates : AllHold (coordinates_fit P term place)
    in-coordinates = AllHold-left (coordinates_fit P term place) (nest_fit P place term) in-points

    in-nest : AllHold (nest_fit P place term)
    in-nest = AllHold-right (coordinates_fit P term place) (nest_fit P place term) in-points

    -- what is asked of the points and of their number is asked as of a credit
    as-credit : AllHold (credit_fit P place (counted_nest term) term.count)
    as-credit = AllHold-append (nest_fit P place term) (number_fit P place term) in-nest (AllHold-right (points_fit P place term) (number_fit P place term) behind)

    counts : FitsCount program term.nest term.count
    counts = credit-counts program place (counted_nest term) term.count small.variables small.bounds as-credit

    counted : CountedFits P term.statement term.nest term.matrix
    counted = let points = credit-fits P place (counted_nest term) term.count small.bounds as-credit in record {
      there = points.there;
      each = points.each;
      bounds = points.bounds;
      rows = in-coordinates.1.1.1.0;
      columns = columns-many term.matrix.rows term.matrix.columns (depth_of P term.statement) in-coordinates.1.1.1.1.0;
    }

    in-families : AllHold (walked_fit P trees place term)
    in-families = AllHold-right (credits_fit P place term) (walked_fit P trees place term) in-walks.1

    in-credits : AllHold (credits_fit P place term)
    in-credits = AllHold-left (credits_fit P place term) (walked_fit P trees place term) in-walks.1

    -- the same claims, of what the code holds
    held-credits : AllHold (numbered (held_credit P (place ++ Key (codes "credits") ∷ [])) 0 partition.credits.items)
    held-credits = subst AllHold (credits-same P (place ++ Key (codes "credits") ∷ []) 0 partition.credits.items) in-credits

    nest-small : (credit : Credit) → IsSmallCredit credit → (length credit.nest ≤ NEST_VARIABLES) × AreSmallBounds credit.nest
    nest-small credit few = (few.variables, few.bounds)

    credited : AllByRecursion (CreditFits P) (credited_nests term)
    credited =
        subst (AllByRecursion (CreditFits P)) (credits-held partition.credits.items)
        (credits-fit program (place ++ Key (codes "credits") ∷ []) IsSmallCredit nest-small 0 partition.credits.items small.credits held-credits)

    families : AllByRecursion (FamilyFits P trees term.statement term.nest term.matrix (credited_nests term)) term.families
    families = families-fit P trees fit rows (credited_nests term) term.statement term.nest term.matrix counted credited (place ++ Key (codes "families") ∷ []) 0 term.families small.families in-families

    apart-many : (shape : Shape) → length term.apart ≡ apart_count shape P trees term → HasApart shape P trees term
    apart-many Each e = tt
    apart-many Sum e =
        omega (
          arith,
          e,
          pairs-many P (pieces_of_families P trees term),
          ap (λ (lists : List (List Target)). length (pairwise_targets lists)) (families-told P trees term.statement term.nest term.matrix (credited_nests term) term.families families),
        )

    pub partition-fits : PartitionTermFits program trees partition
    partition-fits = record {
      fits = λ shape. record {
        counted = counted;
        inside = in-coordinates.0;
        matrix = shape;
        positive = small.some_q;
        families = families;
        apart = apart-many term.shape in-walks.0;
      };
      count = counts;
      credits = credits-count program (place ++ Key (codes "credits") ∷ []) IsSmallCredit nest-small 0 partition.credits.items small.credits held-credits;
      matrices = record {
        matrix = square (depth_of P term.statement) (length partition.nest) partition.matrix in-nest.0 in-coordinates.1.1.1.0 in-coordinates.1.1.1.1.0;
        inverse = square (depth_of P term.statement) (length partition.nest) partition.inverse in-nest.0 in-coordinates.1.0 in-coordinates.1.1.0;
      };
      light = small.weights;
    }
