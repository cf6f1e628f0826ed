-- Wavefronts of a computation graph: words that are there when a vertex is computed, and whose readers aren't computed
-- before. (Elango et al. 2014, by loads alone.)
use Rattle.std.specs.Prelude.{ℕ, ◌+◌, ◌*◌, ◌<◌, ◌≤◌, ◌⊎◌, nat_eq, List, flat_map, map, length, Contains}
use Rattle.std.specs.List.{AllByRecursion, IsDistinct}
use Rattle.iolb_model.specs.declared.game.Move.{Move}
use Rattle.iolb_model.specs.Graph.{ComputationGraph}
use Rattle.iolb_model.specs.Game.{IsCompletePebbling, loads_of, predecessors_at}
use Rattle.pebble_game.specs.Loaded.{loaded_among, unloaded_among}
use Rattle.reuse_paths.specs.Reached.{IsReached}

-- a word, and an instance that reads it
pub record WavePoint : Type 0 where
  pub word : ℕ
  pub reader : ℕ

-- a vertex, and points whose words are there when it is computed
pub record Wave : Type 0 where
  pub vertex : ℕ
  pub points : List WavePoint

-- The reader reads the word; it is the vertex, or the vertex is reached from it; and the word is an input, or the vertex, or
-- it is reached from the vertex.
pub record IsSoundPoint (graph : ComputationGraph) (vertex : ℕ) (point : WavePoint) : Type 0 where
  pub reader_there : point.reader < graph.instances
  pub reads : Contains (predecessors_at graph point.reader) point.word
  pub behind : IsReached graph point.reader vertex
  pub before : (graph.instances ≤ point.word) ⊎ IsReached graph vertex point.word

pub record IsSoundWave (graph : ComputationGraph) (wave : Wave) : Type 0 where
  pub there : wave.vertex < graph.instances
  pub points : AllByRecursion (IsSoundPoint graph wave.vertex) wave.points

-- the words of a wave, and those of all waves
abbrev pub words_of : Wave → List ℕ
words_of wave = map (λ (point : WavePoint). point.word) wave.points

abbrev pub all_words : List Wave → List ℕ
all_words waves = flat_map words_of waves

-- In every complete pebbling with s red pebbles so many loads of the words are made as there are different words, but s for
-- each wave.
abbrev pub WavesAreLoaded : Type 0
WavesAreLoaded = (graph : ComputationGraph) (s : ℕ) (moves : List Move) (waves : List Wave) → IsCompletePebbling graph s moves
    → AllByRecursion (IsSoundWave graph) waves → IsDistinct nat_eq (all_words waves)
    → length (all_words waves) ≤ loads_of (all_words waves) moves + s * length waves

-- Of the different words of one wave at most s are never loaded.
abbrev pub WavesLeaveFew : Type 0
WavesLeaveFew = (graph : ComputationGraph) (s : ℕ) (moves : List Move) (wave : Wave) → IsCompletePebbling graph s moves
    → IsSoundWave graph wave → IsDistinct nat_eq (words_of wave) → length (unloaded_among (words_of wave) moves) ≤ s

-- So of the different words of all waves so many are loaded as there are, but s for each wave: different words, however often
-- each is loaded.
abbrev pub WavesAreReloaded : Type 0
WavesAreReloaded = (graph : ComputationGraph) (s : ℕ) (moves : List Move) (waves : List Wave) → IsCompletePebbling graph s moves
    → AllByRecursion (IsSoundWave graph) waves → IsDistinct nat_eq (all_words waves)
    → length (all_words waves) ≤ length (loaded_among (all_words waves) moves) + s * length waves
