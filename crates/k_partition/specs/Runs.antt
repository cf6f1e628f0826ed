-- Points and events of a partition in lists of moves.
use Rattle.std.specs.Prelude.{ℕ, List}
use Rattle.iolb_model.specs.declared.game.Move.{Move}
use Rattle.k_partition.specs.Reuse.{ReusePartition, words_of}
use Rattle.stretch_laws.specs.Runs.{computed_among, count_events}

-- the points that are computed
abbrev pub points_computed : ReusePartition → List Move → List ℕ
points_computed partition moves = computed_among partition.points moves

-- how many loads of words and computations of credited vertices there are
abbrev pub events : ReusePartition → List Move → ℕ
events partition moves = count_events (words_of partition) partition.credited moves
