use Rattle.std.proofs.Common.{◌≡◌, map, take}
use Rattle.iolb_model.specs.Form.{form_value}
use Rattle.loop_graph.proofs.cells.cell_at.Given as goal

abbrev pub invariant-loop-form : goal.invariant-loop-form
invariant-loop-form l = l.subscripts.items ≡ map (λ form. form_value form l.point) (take l.form-index l.form-items)
