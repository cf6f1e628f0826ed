use Rattle.std.proofs.Common.{◌∙◌}
use Rattle.affine_program.specs.Domain.{depth_of}
use Rattle.affine_program.specs.Parts.{meaning}
use Rattle.cover_lp.specs.Cover.{IsUncovered}
use Rattle.projective.specs.Projective.{projection_sets}
use Rattle.projective_bounds.proofs.Covered.{none-uncovered}
use Rattle.projective_bounds.proofs.Shapes.{at-shape}
use Rattle.projective_bounds.proofs.covers.cover_of.Goals as goal

pub unreachable-requires : goal.unreachable-requires
unreachable-requires c =
    let program = meaning c.args.program.now in
    let loop = c.in-Err-Uncovered.field-0-0 in
    none-uncovered program c.params-params.ensures.kept.well_formed c.requires.projective loop
    (at-shape (λ sets depth. IsUncovered sets depth loop) c.sets-sets.result.now (projection_sets program) c.depth-depth.result (depth_of program 0) (c.sets-sets.ensures ∙ c.requires.shape.sets)
    (c.depth-depth.ensures ∙ c.requires.shape.depth) (c.in-Err-Uncovered.ensures.uncovered loop c.in-Err-Uncovered.field-0-is))
