use Rattle.std.proofs.Common.{◌≡◌, length}
use Rattle.affine_form.specs.Rows.{BoundsFit}
use Rattle.affine_facts.proofs.nests.nest_of.Given as goal

abbrev pub invariant-loop-place : goal.invariant-loop-place
invariant-loop-place l = record {
  many : length l.all.items ≡ l.place;
  fit : BoundsFit l.params l.all.items;
}
