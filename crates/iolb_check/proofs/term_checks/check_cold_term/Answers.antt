use Rattle.std.proofs.Common.{subst, ℕ, zero-add}
use Rattle.affine_program.specs.Parts.{meaning}
use Rattle.dep_quast.specs.Truth.{IsTrueTree}
use Rattle.dep_quast.specs.Quasts.{tree_for, trees_of}
use Rattle.dep_quast.specs.Trees.{read_of}
use Rattle.dep_quast.proofs.TreeLemmas.{rows-at}
use Rattle.wavefront.specs.declared.cold.Cold.{Cold}
use Rattle.wavefront.specs.View.{term_of}
use Rattle.iolb_check.proofs.term_checks.check_cold_term.Goals as goal

pub check_cold-requires : goal.check_cold-requires
check_cold-requires c =
    let cold : Cold = c.args.cold.now in
    let trees = trees_of c.args.quasts.now in
    let tree = tree_for trees (term_of cold).reader in record {
      there = c.requires.fits.there;
      fits = c.requires.fits.fits;
      true_tree = subst (λ (n : ℕ). IsTrueTree (meaning c.args.program.now) (read_of n cold.read) tree) (zero-add cold.statement)
          (rows-at (meaning c.args.program.now) 0 cold.statement cold.read trees tree c.requires.are_true c.requires.fits.there);
      count = c.requires.fits.count;
    }
