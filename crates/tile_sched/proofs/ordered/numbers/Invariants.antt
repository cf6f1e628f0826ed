use Rattle.std.proofs.Common.{◌≡◌, map, take}
use Rattle.tile_sched.proofs.ordered.numbers.Given as goal

abbrev pub invariant-loop-rank : goal.invariant-loop-rank
invariant-loop-rank l = l.numbers.items ≡ map (λ rank. rank.1) (take l.rank-index l.ranks)
