use Rattle.std.proofs.Common.{◌∙◌, ◌<◌, ap, sym, refl, List, ◌+◌, ◌*◌, length, get_or, arith}
use Rattle.iolb_model.specs.Form.{AffineForm}
use Rattle.affine_form.specs.Rows.{IsSmallOver, BoundsFit}
use Rattle.affine_program.specs.declared.statement.Statement.{Statement}
use Rattle.affine_program.proofs.Bounds.{read-fit, bounds-read}
use Rattle.dep_quast.proofs.Fits.{depth-read, depth-few}
use Rattle.flow_deps.proofs.PointLaws.{bound-fits, any-past}
use Rattle.flow_deps.proofs.points.bounds_at.Goals as goal

pub bounds-as_slice-level : goal.bounds-as_slice-level
bounds-as_slice-level c =
    omega (
      arith,
      c.requires.level_in,
      depth-read c.args.program.now c.statements.result.now c.args.statement c.from.result (length c.as_slice.result.now) c.index-statements-from.result c.statements.ensures.kept
          c.statements.ensures.statements c.requires.there c.from.ensures c.index-statements-from.is
          (ap length c.as_slice.ensures.value ∙ ap (λ (s : Statement). length s.bounds.items) (sym c.index-statements-from.is)),
    )

pub offset_bounds-as_slice-level : goal.offset_bounds-as_slice-level
offset_bounds-as_slice-level c =
    let few : c.args.level * 96 < 600 = omega (arith, c.requires.level_in, depth-few c.args.program.now c.statements.ensures.kept c.args.statement c.requires.there) in
    omega (arith, few)

fits : (c : goal.After-index-as_slice-level) → IsSmallOver (length c.args.program.now.params + c.args.level) c.index-as_slice-level.result.0
    × IsSmallOver (length c.args.program.now.params + c.args.level) c.index-as_slice-level.result.1
fits c =
    let lent = c.as_slice.ensures.value ∙ ap (λ (s : Statement). s.bounds.items) (sym c.index-statements-from.is) in
    let all : BoundsFit (length c.args.program.now.params) c.as_slice.result.now =
    read-fit c.args.program.now c.statements.result.now c.args.program.now.params c.args.statement (length c.args.program.now.params) c.index-statements-from.result c.as_slice.result.now
    c.statements.ensures.kept c.statements.ensures.statements refl c.requires.there (simp c.from.ensures at c.index-statements-from.is) lent refl in
    bound-fits (length c.args.program.now.params) c.as_slice.result.now c.args.level c.index-as_slice-level.result all
    (omega (
      arith,
      c.requires.level_in,
      depth-read c.args.program.now c.statements.result.now c.args.statement c.from.result (length c.as_slice.result.now) c.index-statements-from.result c.statements.ensures.kept
          c.statements.ensures.statements c.requires.there c.from.ensures c.index-statements-from.is (ap length lent),
    )) c.index-as_slice-level.is

pub returns-clause-lower : goal.returns-clause-lower
returns-clause-lower c = (fits c).0

pub returns-clause-upper : goal.returns-clause-upper
returns-clause-upper c = (fits c).1

pub returns-clause-bounds : goal.returns-clause-bounds
returns-clause-bounds c =
    let lent = c.as_slice.ensures.value ∙ ap (λ (s : Statement). s.bounds.items) (sym c.index-statements-from.is) in
    let bounds = bounds-read c.args.program.now c.statements.result.now c.args.statement c.index-statements-from.result c.as_slice.result.now c.statements.ensures.kept c.statements.ensures.statements c.requires.there
    (simp c.from.ensures at c.index-statements-from.is) lent in
    λ none. ap (λ (loops : List (AffineForm × AffineForm)). get_or loops c.args.level none) bounds
    ∙ any-past c.as_slice.result.now c.args.level c.index-as_slice-level.result none (omega (arith, c.requires.level_in, ap length bounds)) c.index-as_slice-level.is
