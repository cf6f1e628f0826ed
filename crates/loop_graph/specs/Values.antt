-- The values that a loop has yet to take.
use Rattle.std.specs.Prelude.{ℤ, List}
use Rattle.iolb_model.specs.Execution.{loop_values}
use Rattle.affine_form.specs.Rows.{direction_of}
use Rattle.loop_graph.specs.declared.values.Values.{Values}

abbrev pub values_left : Values → List ℤ
values_left values = loop_values (direction_of values.down) values.lower values.upper
