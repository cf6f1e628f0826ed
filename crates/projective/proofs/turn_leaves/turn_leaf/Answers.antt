use Rattle.std.proofs.Common.{◌≡◌, ◌∙◌, ap, subst, List, []}
use Rattle.iolb_model.specs.Form.{AffineForm}
use Rattle.affine_program.specs.Parts.{meaning}
use Rattle.flow_deps.specs.declared.wanted.Wanted.TheVariants.{Short}
use Rattle.dep_quast.specs.Views.{claim_of}
use Rattle.projective.specs.SourceTrees.{read_number}
use Rattle.projective.specs.Turns.{turn_before}
use Rattle.projective.proofs.CodeLaws.{there-same}
use Rattle.projective.proofs.LeafLaws.{there-is}
use Rattle.projective.proofs.Leaves.{some-statement, turn-there}
use Rattle.flow_deps.specs.Shapes.{Shape, last_write}
use Rattle.flow_deps.specs.Shown.{IsNotShown, IsShown}
use Rattle.flow_deps.proofs.ShownTrees.{finds-none, finds-some}
use Rattle.dep_quast.specs.Tree.{tree_of}
use Rattle.projective.proofs.turn_leaves.turn_leaf.Goals as goal

pub source_leaf-requires-clause-there : goal.source_leaf-requires-clause-there
source_leaf-requires-clause-there c =
    there-same (meaning c.args.program.now) (read_number c.args.read) (claim_of c.unshown-claimed.result)
    (record { statement = 0; level = c.args.level; point = turn_before (meaning c.args.program.now) c.args.level; inside = []; cell = []; before = []; between = [] })
    c.unshown-claimed.ensures.0 c.unshown-claimed.ensures.1 (c.unshown-claimed.ensures.2 ∙ c.as_slice.ensures.value ∙ c.in_ok-point.ensures ∙ ap (turn_before (meaning c.args.program.now)) c.from.ensures)
    (there-is c.args.program.now c.params-params.ensures.kept c.requires.projective (some-statement c.args.program.now (read_number c.args.read) c.requires.read) c.args.read c.requires.read c.requires.written c.args.level c.requires.there c.requires.free c.args.tests.now c.requires.first)

pub unreachable-requires : goal.unreachable-requires
unreachable-requires c =
    let point = c.unshown-claimed.ensures.2 ∙ c.as_slice.ensures.value ∙ c.in_ok-point.ensures ∙ ap (turn_before (meaning c.args.program.now)) c.from.ensures in
    let is_shape : last_write c.unshown-claimed.result.statement c.unshown-claimed.result.level c.unshown-claimed.result.point.now ≡ last_write 0 c.args.level (turn_before (meaning c.args.program.now) c.args.level) =
    λ i. last_write (c.unshown-claimed.ensures.0 i) (c.unshown-claimed.ensures.1 i) (point i) in
    turn-there c.args.program.now c.params-params.ensures.kept c.requires.projective (some-statement c.args.program.now (read_number c.args.read) c.requires.read) c.args.read c.requires.read c.requires.written c.args.level c.args.tests.now 0
    c.requires.there c.requires.free c.requires.first
    (subst (λ (tests : List AffineForm). IsNotShown (meaning c.args.program.now) (read_number c.args.read) tests 0 (last_write 0 c.args.level (turn_before (meaning c.args.program.now) c.args.level))) c.requires.above
    (subst (λ (shape : Shape). IsNotShown (meaning c.args.program.now) (read_number c.args.read) c.args.above.now 0 shape) is_shape
    (finds-none Short (meaning c.args.program.now) (read_number c.args.read) c.args.above.now 0 (last_write c.unshown-claimed.result.statement c.unshown-claimed.result.level c.unshown-claimed.result.point.now) c.in_ok-leaf.field-0 c.in-None.is
    (c.in_ok-leaf.ensures 0))))

pub returns : goal.returns
returns c = λ nested.
    let point = c.unshown-claimed.ensures.2 ∙ c.as_slice.ensures.value ∙ c.in_ok-point.ensures ∙ ap (turn_before (meaning c.args.program.now)) c.from.ensures in
    let is_shape : last_write c.unshown-claimed.result.statement c.unshown-claimed.result.level c.unshown-claimed.result.point.now ≡ last_write 0 c.args.level (turn_before (meaning c.args.program.now) c.args.level) =
    λ i. last_write (c.unshown-claimed.ensures.0 i) (c.unshown-claimed.ensures.1 i) (point i) in
    subst (λ (shape : Shape). IsShown Short (meaning c.args.program.now) (read_number c.args.read) c.args.above.now nested shape (tree_of c.in-Some.leaf)) is_shape
    (finds-some Short (meaning c.args.program.now) (read_number c.args.read) c.args.above.now nested (last_write c.unshown-claimed.result.statement c.unshown-claimed.result.level c.unshown-claimed.result.point.now) c.in_ok-leaf.field-0 c.in-Some.leaf c.in-Some.is
    (c.in_ok-leaf.ensures nested))
