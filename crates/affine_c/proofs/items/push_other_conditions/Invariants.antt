use Rattle.std.proofs.Common.{◌≡◌, ◌++◌, drop, length}
use Rattle.std.specs.Prelude.{flat_map, codes}
use Rattle.std.specs.List.{AllByRecursion}
use Rattle.iolb_model.specs.Program.{IsOver}
use Rattle.affine_c.specs.Text.{condition_text}
use Rattle.affine_c.proofs.items.push_other_conditions.Given as goal

abbrev pub invariant-loop-row : goal.invariant-loop-row
invariant-loop-row l = record {
  fits : AllByRecursion (IsOver (length l.names)) (drop l.row-index l.rows);
  text : l.text.items ++ flat_map (λ row. codes " && " ++ condition_text l.names row) (drop l.row-index l.rows)
      ≡ l.initial.text.items ++ flat_map (λ row. codes " && " ++ condition_text l.names row) l.rows;
}
