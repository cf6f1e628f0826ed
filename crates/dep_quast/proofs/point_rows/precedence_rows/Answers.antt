use Rattle.std.proofs.Common.{◌∙◌, ap, length, arith}
use Rattle.std.proofs.lemmas.List.{length-map}
use Rattle.affine_form.specs.Rows.{direction_of, order_rows}
use Rattle.affine_program.specs.Parts.{meaning}
use Rattle.dep_quast.proofs.Fits.{all-there, common-first, common-second}
use Rattle.dep_quast.proofs.point_rows.precedence_rows.Goals as goal

pub order_rows-requires-clause-level_in : goal.order_rows-requires-clause-level_in
order_rows-requires-clause-level_in c = omega (arith, c.requires.level_in, ap length c.common_down-down.ensures, length-map c.common_down-down.result.now direction_of)

pub order_rows-requires-clause-ys_enough : goal.order_rows-requires-clause-ys_enough
order_rows-requires-clause-ys_enough c =
    let is = c.params-params.ensures.kept in
    omega (arith, ap length c.common_down-down.ensures, length-map c.common_down-down.result.now direction_of, c.requires.ys_each, common-first (meaning c.args.program.now) c.args.t c.args.s is.well_formed (all-there c.args.program.now is c.args.t c.requires.t_there))

pub order_rows-requires-clause-xs_enough : goal.order_rows-requires-clause-xs_enough
order_rows-requires-clause-xs_enough c =
    let is = c.params-params.ensures.kept in
    omega (arith, ap length c.common_down-down.ensures, length-map c.common_down-down.result.now direction_of, c.requires.xs_each, common-second (meaning c.args.program.now) c.args.t c.args.s is.well_formed (all-there c.args.program.now is c.args.s c.requires.s_there))

pub returns-clause-rows : goal.returns-clause-rows
returns-clause-rows c =
    c.in_ok-rows.ensures.rows ∙ ap (λ loops. order_rows c.args.vars loops c.args.level c.args.ys.now c.args.xs.now) c.common_down-down.ensures
