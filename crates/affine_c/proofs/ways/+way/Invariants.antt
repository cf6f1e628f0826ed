use Rattle.std.proofs.Common.{◌≡◌, drop}
use Rattle.iolb_model.specs.Order.{row_common}
use Rattle.iolb_model.specs.Path.{row_path}
use Rattle.affine_program.specs.Tree.{row_of}
use Rattle.affine_c.proofs.ways.+way.Given as goal

abbrev pub invariant-way_in-loop-item : goal.invariant-way_in-loop-item
invariant-way_in-loop-item l = record {
  path : row_path (row_of (drop l.item-index l.items)) l.number ≡ row_path (row_of l.fn.items) l.number;
  down : row_common (row_of (drop l.item-index l.items)) l.number l.number ≡ row_common (row_of l.fn.items) l.number l.number;
}
