use Rattle.std.proofs.Common.{◌≡◌, map, take}
use Rattle.iolb_model.specs.Source.{cell_of}
use Rattle.affine_program.specs.Parts.{access_of}
use Rattle.plain_graph.specs.Views.{cell_view}
use Rattle.plain_graph.proofs.cells.cells_read_by.Given as goal

abbrev pub invariant-loop-reference : goal.invariant-loop-reference
invariant-loop-reference l = map cell_view l.cells.items ≡ map (λ access. cell_of access l.point.items) (map access_of (take l.reference-index l.reference-items))
