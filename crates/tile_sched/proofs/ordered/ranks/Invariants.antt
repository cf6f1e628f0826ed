use Rattle.std.proofs.Common.{◌≡◌, ◌++◌, map, drop}
use Rattle.std.specs.List.{enumerate_from}
use Rattle.tile_sched.specs.Ranks.{rank_of, said_of_run}
use Rattle.tile_sched.proofs.ordered.ranks.Given as goal

abbrev pub invariant-loop-i : goal.invariant-loop-i
invariant-loop-i l = map rank_of l.ranks.items ++ enumerate_from l.i (map (said_of_run l.schedule) (drop l.i l.runs)) ≡ enumerate_from 0 (map (said_of_run l.schedule) l.runs)
