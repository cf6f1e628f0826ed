use Rattle.std.proofs.Common.{sym, subst, ℕ, ◌<◌, List, length, arith}
use Rattle.std.proofs.lemmas.List.{length-map}
use Rattle.affine_program.specs.Parts.{meaning, statement_of}
use Rattle.dep_quast.proofs.Fits.{depth-few}
use Rattle.k_partition.specs.View.{partition_of}
use Rattle.dep_quast.specs.Quasts.{trees_of}
use Rattle.projective_bounds.specs.Readable.{AreReadable}
use Rattle.projective_bounds.proofs.Held.{whole-terms-fit, whole-terms-hold}
use Rattle.projective_bounds.proofs.Readings.{pairs-readable}
use Rattle.projective_bounds.proofs.Small.{whole-terms-small}
use Rattle.projective_bounds.proofs.whole.whole_term.Goals as goal

pub term_of-requires-clause-readable : goal.term_of-requires-clause-readable
term_of-requires-clause-readable c =
    let below : 0 < length c.args.program.now.statements = omega (arith, length-map c.args.program.now.statements statement_of, c.requires.shown.projective.one) in
    subst (λ (sets : List (List ℕ)). AreReadable (meaning c.args.program.now) 0 sets c.args.weights.now) (sym c.requires.shape.sets)
    (pairs-readable (meaning c.args.program.now) (depth-few c.args.program.now c.requires.shown.program 0 below) c.args.q c.args.weights.now c.requires.shown.packing c.requires.shown.some c.requires.shown.pair)

pub returns-clause-holds : goal.returns-clause-holds
returns-clause-holds c = λ place.
    whole-terms-hold c.args.program.now (trees_of c.args.quasts.now) c.args.q c.args.weights.now (partition_of c.in_ok-term.term) place c.requires.shown c.in_ok-term.ensures

pub returns-clause-fits : goal.returns-clause-fits
returns-clause-fits c = whole-terms-fit c.args.program.now (trees_of c.args.quasts.now) c.args.q c.args.weights.now (partition_of c.in_ok-term.term) c.requires.shown c.in_ok-term.ensures

pub returns-clause-small : goal.returns-clause-small
returns-clause-small c = whole-terms-small c.args.program.now (trees_of c.args.quasts.now) c.args.q c.args.weights.now c.in_ok-term.term c.requires.shown c.in_ok-term.ensures
