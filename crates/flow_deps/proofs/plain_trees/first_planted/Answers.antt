use Rattle.std.proofs.Common.{sym, ℕ, ◌<◌, List, [], length, map, get_or, arith}
use Rattle.std.proofs.lemmas.List.{length-map, get_or-map}
use Rattle.iolb_model.specs.declared.limits.TheConstants.{TREE_TESTS}
use Rattle.affine_program.specs.Parts.{meaning}
use Rattle.dep_quast.specs.Tree.{tree_of}
use Rattle.dep_quast.specs.Views.{read_of}
use Rattle.flow_deps.specs.declared.candidate.Candidate.{Candidate}
use Rattle.flow_deps.specs.declared.candidate.Candidate.TheVariants.{NoWrite}
use Rattle.flow_deps.specs.declared.wanted.Wanted.TheVariants.{Short}
use Rattle.flow_deps.specs.Shapes.{Shape}
use Rattle.flow_deps.specs.Candidates.{candidate_shape}
use Rattle.flow_deps.proofs.FirstShown.{first-here, first-later, first-none}
use Rattle.flow_deps.proofs.ShownTrees.{finds-none, finds-some}
use Rattle.flow_deps.proofs.plain_trees.first_planted.Goals as goal

pub returns-in-Some : goal.returns-in-Some
returns-in-Some c =
    let program = meaning c.args.program.now in
    let reader = read_of c.args.reader in
    let i : ℕ = c.loop-candidate.candidate-index in
    let shape_at : Candidate → Shape = candidate_shape program reader in
    let shapes : List Shape = map shape_at c.args.all.now in
    let shape : Shape = shape_at (get_or c.args.all.now i NoWrite) in
    let below : i < length shapes = omega (arith, c.loop-candidate-test.true, length-map c.args.all.now shape_at) in
    first-here program reader shapes i shape below (sym (get_or-map shape_at c.args.all.now i NoWrite shape c.loop-candidate-test.true)) (tree_of c.in-Some.quast) c.loop-candidate.invariant
    (finds-some Short program reader [] TREE_TESTS shape c.in_ok-quast.field-0 c.in-Some.quast c.in-Some.is c.in_ok-quast.ensures)

pub loop-candidate-preserved : goal.loop-candidate-preserved
loop-candidate-preserved c =
    let program = meaning c.args.program.now in
    let reader = read_of c.args.reader in
    let i : ℕ = c.loop-candidate.candidate-index in
    let shape_at : Candidate → Shape = candidate_shape program reader in
    let shapes : List Shape = map shape_at c.args.all.now in
    let shape : Shape = shape_at (get_or c.args.all.now i NoWrite) in
    let below : i < length shapes = omega (arith, c.loop-candidate-test.true, length-map c.args.all.now shape_at) in
    first-later program reader shapes i shape below (sym (get_or-map shape_at c.args.all.now i NoWrite shape c.loop-candidate-test.true)) c.loop-candidate.invariant
    (finds-none Short program reader [] TREE_TESTS shape c.in_ok-quast.field-0 c.in_default.is c.in_ok-quast.ensures)

pub returns : goal.returns
returns c =
    let program = meaning c.args.program.now in
    let reader = read_of c.args.reader in
    let shape_at : Candidate → Shape = candidate_shape program reader in
    first-none program reader (map shape_at c.args.all.now) c.loop-candidate.candidate-index (omega (arith, c.loop-candidate-test.false, length-map c.args.all.now shape_at)) c.loop-candidate.invariant
