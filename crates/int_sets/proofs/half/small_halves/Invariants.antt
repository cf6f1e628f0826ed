use Rattle.std.proofs.Common.{ℕ, ◌<◌, ◌∷◌, []}
use Rattle.std.specs.List.{AllByRecursion}
use Rattle.int_sets.specs.Halves.{Holds, IsHalf}
use Rattle.int_sets.specs.ShortList.{IsOnceOrTwice}
use Rattle.int_sets.proofs.half.small_halves.Given as goal

abbrev pub invariant-loop-i : goal.invariant-loop-i
invariant-loop-i l = record {
  halves : AllByRecursion (IsHalf l.system.rows) l.halves.items;
  held : (weight : ℕ × ℕ) → weight.0 < l.i → IsOnceOrTwice weight → Holds l.halves.items (weight ∷ []);
}
