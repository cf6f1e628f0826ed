use Rattle.std.proofs.Common.{rules, ◌≡◌, sym, subst, ℕ, ◌≤◌, List, length, arith}
use Rattle.affine_program.specs.Parts.{ProgramParts, meaning}
use Rattle.dep_quast.specs.Tree.{SelectionTree}
use Rattle.claims.specs.Claims.{IsRefusal}
use Rattle.claims.specs.declared.place.Step.{Step}
use Rattle.domain_count.specs.Points.{count}
use Rattle.poly_tree.specs.Expansion.{IsCanonical}
use Rattle.k_partition.specs.declared.term.Partition.{Partition}
use Rattle.k_partition.specs.declared.term.Shape.{Shape}
use Rattle.k_partition.specs.declared.term.Shape.TheVariants.{Each, Sum}
use Rattle.k_partition.specs.Numbers.{factor_under}
use Rattle.k_partition.specs.PartitionClaims.{partition_claims}
use Rattle.k_partition.specs.Term.{PartitionTerm}
use Rattle.k_partition.specs.TermLoads.{credited_count, weight_of}
use Rattle.k_partition.specs.View.{partition_of, FitsPartition}
use Rattle.affine_form.specs.Matrix.{HasShape}
use Rattle.dep_quast.specs.Quasts.{trees_of}
use Rattle.dep_quast.specs.Trees.{RowsFit, RowsAreTrue}
use Rattle.uniform_cover.proofs.Powers.{self_pow_pos}
use Rattle.iolb_check.specs.Fit.{PartitionTermFits}
use Rattle.iolb_check.proofs.Terms.{whole}
use Rattle.iolb_check.proofs.term_checks.check_partition_term.Goals as goal

fits-partition : (program : ProgramParts) (trees : List (List SelectionTree)) (partition : Partition) → PartitionTermFits program trees partition → RowsFit (meaning program) 0 trees
    → RowsAreTrue (meaning program) 0 trees → HasShape partition.matrix.rows partition.matrix.columns partition.matrix.cells → FitsPartition program trees partition
fits-partition program trees partition h fit are_true shape = record {
  fits = h.fits shape;
  trees_fit = fit;
  trees_true = are_true;
  count = h.count;
  credits = h.credits;
  matrices = h.matrices;
  light = h.light;
}

-- the factor's denominator is positive
some-under : (shape : Shape) (term : PartitionTerm) → 1 ≤ factor_under shape term
some-under Each term = omega arith
some-under Sum term = omega (arith, self_pow_pos (weight_of term))

pub check_partition-requires : goal.check_partition-requires
check_partition-requires c =
    fits-partition c.args.program.now (trees_of c.args.quasts.now) c.args.partition.now c.requires.fits c.requires.trees_fit c.requires.are_true c.rows-rows.ensures.shape

pub returns-clause-holds : goal.returns-clause-holds
returns-clause-holds c =
    let program = c.args.program.now in
    let term = partition_of c.args.partition.now in
    let kept : program.assumed.vars ≡ length program.params = c.params-params.ensures.kept.assumed in
    let bound = c.in_ok-bound.bound in
    let is = c.in_ok-bound.ensures.numbers in
    record {
      paid = c.in_ok-bound.ensures.footprint;
      covered = c.in_ok-bound.ensures.covered;
      counted = (c.in_ok-bound.ensures.counts, c.in_ok-bound.ensures.credited);
      counting = record {
        count = record {
          parameters = subst (λ (n : ℕ). IsCanonical n bound.count.tree) (sym kept) c.in_ok-bound.ensures.parameters.0;
          whole = whole program (count term.nest) bound.count kept c.in_ok-bound.ensures.counts;
        };
        credits = record {
          parameters = subst (λ (n : ℕ). IsCanonical n bound.credits.tree) (sym kept) c.in_ok-bound.ensures.parameters.1;
          whole = whole program (credited_count term) bound.credits kept c.in_ok-bound.ensures.credited;
        };
        some_q = omega (arith, is.q, (c.requires.fits.fits c.rows-rows.ensures.shape).positive);
        some_den = omega (arith, is.den, some-under term.shape term);
      };
    }

pub returns-clause-pieces : goal.returns-clause-pieces
returns-clause-pieces c =
    (fits-partition c.args.program.now (trees_of c.args.quasts.now) c.args.partition.now c.requires.fits c.requires.trees_fit c.requires.are_true c.rows-rows.ensures.shape, c.in_ok-bound.ensures.few)

pub returns-in_err-bound-clause-refused : goal.returns-in_err-bound-clause-refused
returns-in_err-bound-clause-refused c =
    let refused =
    subst (λ (place : List Step). IsRefusal (partition_claims (meaning c.args.program.now) (trees_of c.args.quasts.now) place (partition_of c.args.partition.now)) c.in_err-bound.field-0.0) c.in-Ok.ensures
    c.in_err-bound.ensures.refused in
    search rules
