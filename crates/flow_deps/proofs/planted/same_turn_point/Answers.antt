use Rattle.std.proofs.Common.{◌≡◌, ◌∙◌, ap, subst, List, length, arith}
use Rattle.iolb_model.specs.Form.{AffineForm}
use Rattle.iolb_model.specs.Order.{common_loops}
use Rattle.affine_program.specs.Parts.{meaning}
use Rattle.claims.proofs.Found.{IfOk-then}
use Rattle.dep_quast.specs.Views.{read_of}
use Rattle.dep_quast.proofs.Fits.{all-there, common-first, common-second}
use Rattle.flow_deps.specs.Candidates.{first_values, FindsPoint}
use Rattle.flow_deps.proofs.planted.same_turn_point.Goals as goal

pub first_values-requires-clause-few : goal.first_values-requires-clause-few
first_values-requires-clause-few c =
    let is = c.params-params.ensures.kept in
    omega (arith, c.common-level.ensures, common-second (meaning c.args.program.now) c.args.writer c.args.reader.statement is.well_formed c.requires.read.statement)

pub point_from-requires-clause-few : goal.point_from-requires-clause-few
point_from-requires-clause-few c =
    let is = c.params-params.ensures.kept in
    omega (
      arith,
      c.in_ok-given.ensures.many,
      c.common-level.ensures,
      common-first (meaning c.args.program.now) c.args.writer c.args.reader.statement is.well_formed (all-there c.args.program.now is c.args.writer c.requires.writer),
    )

pub returns : goal.returns
returns c =
    let program = meaning c.args.program.now in
    let reader = read_of c.args.reader in
    let given : c.in_ok-given.given.items ≡ first_values program reader (length (common_loops program c.args.writer reader.statement)) =
    c.in_ok-given.ensures.values ∙ ap (first_values program reader) c.common-level.ensures in
    IfOk-then c.point_from.result (λ found. FindsPoint program reader c.args.writer c.in_ok-given.given.items found)
    (λ found. FindsPoint program reader c.args.writer (first_values program reader (length (common_loops program c.args.writer reader.statement))) found) c.point_from.ensures
    (λ found h. subst (λ (values : List AffineForm). FindsPoint program reader c.args.writer values found) given h)
