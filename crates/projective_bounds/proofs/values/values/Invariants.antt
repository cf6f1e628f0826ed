use Rattle.std.proofs.Common.{◌≡◌, ◌+◌, length, map}
use Rattle.std.specs.List.{range_with_len}
use Rattle.projective_bounds.specs.Outline.{value_among}
use Rattle.projective_bounds.proofs.values.values.Given as goal

abbrev pub invariant-loop-level : goal.invariant-loop-level
invariant-loop-level l = l.all.items ≡ map (value_among (l.params + length l.loops) l.params l.loops) (range_with_len 0 l.level)
