use Rattle.std.proofs.Common.{◌≡◌, ◌∙◌, ap, ◌+◌, List, length, arith}
use Rattle.std.proofs.Math.IntN.{pos}
use Rattle.iolb_model.specs.Form.{AffineForm}
use Rattle.iolb_model.specs.Program.{Access, read_at}
use Rattle.affine_program.specs.Domain.{depth_of}
use Rattle.affine_program.specs.Parts.{meaning}
use Rattle.projective.specs.Projective.{IsLoop}
use Rattle.projective_bounds.proofs.Codes.{loop-more, subscript-loop}
use Rattle.projective_bounds.proofs.loops.loops_of.Goals as goal

pub overflow_sub-variable_of : goal.overflow_sub-variable_of
overflow_sub-variable_of c =
    let program = meaning c.args.program.now in
    let items : List AffineForm = c.deref-subscript-items.result.now in
    let same : items ≡ (read_at program 0 c.args.read).subscripts = c.deref-subscript-items.ensures.value ∙ ap (λ (a : Access). a.subscripts) c.reference.ensures in
    let is : IsLoop (length program.parameters) (depth_of program 0) c.subscript-item.result =
    subscript-loop program c.args.read items c.loop-subscript.subscript-index c.subscript-item.result c.requires.projective c.requires.read.read same c.loop-subscript-test.true c.subscript-item.is in
    let place : c.variable_of.result ≡ length program.parameters + is.0 =
    c.variable_of.ensures (length program.parameters + depth_of program 0) (length program.parameters + is.0) (pos 0) (omega (arith, is.1)) is.2 in
    omega (arith, place, ap length c.params-params.ensures.params)

pub loop-subscript-preserved : goal.loop-subscript-preserved
loop-subscript-preserved c =
    let program = meaning c.args.program.now in
    let items : List AffineForm = c.deref-subscript-items.result.now in
    let same : items ≡ (read_at program 0 c.args.read).subscripts = c.deref-subscript-items.ensures.value ∙ ap (λ (a : Access). a.subscripts) c.reference.ensures in
    let is : IsLoop (length program.parameters) (depth_of program 0) c.subscript-item.result =
    subscript-loop program c.args.read items c.loop-subscript.subscript-index c.subscript-item.result c.requires.projective c.requires.read.read same c.loop-subscript-test.true c.subscript-item.is in
    let place : c.variable_of.result ≡ length program.parameters + is.0 =
    c.variable_of.ensures (length program.parameters + depth_of program 0) (length program.parameters + is.0) (pos 0) (omega (arith, is.1)) is.2 in
    loop-more program c.loop-subscript.loops.items c.push.new.self.items items c.loop-subscript.subscript-index _ c.subscript-item.result is c.loop-subscript-test.true c.subscript-item.is
    (omega (arith, place, ap length c.params-params.ensures.params)) c.loop-subscript.invariant c.in_ok-push.ensures.items
