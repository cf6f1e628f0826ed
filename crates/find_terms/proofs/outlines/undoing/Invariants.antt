use Rattle.std.proofs.Common.{◌≡◌, ℕ, length, map, filter}
use Rattle.std.specs.Prelude.{flat_map}
use Rattle.std.specs.List.{range_with_len}
use Rattle.find_terms.specs.Openings.{is_named, same_loop}
use Rattle.find_terms.proofs.outlines.undoing.Given as goal

abbrev pub invariant-loop-level : goal.invariant-loop-level
invariant-loop-level l = record {
  many : l.rows ≡ length (filter (is_named l.loops) (range_with_len 0 l.level));
  is : l.cells.items ≡ flat_map (λ (loop : ℕ). map (same_loop loop) l.loops) (filter (is_named l.loops) (range_with_len 0 l.level));
}
