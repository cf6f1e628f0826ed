-- Sound wavefront terms cost their points, less S for each point of the outer variables.
use Rattle.std.proofs.Common.{◌≡◌, refl, sym, ◌∙◌, ap, subst, inl, inr, ℕ, ◌+◌, ◌*◌, ◌<◌, ◌≤◌, List, [], ◌∷◌, ◌++◌, length, map, arith}
use Rattle.std.specs.Prelude.{◌⊎◌, ℤ, nat_eq, flat_map, Option, Some, None}
use Rattle.std.specs.List.{AllByRecursion, IsDistinct}
use Rattle.std.proofs.Math.Nat.{mul-le-mul_left}
use Rattle.std.proofs.lemmas.Simd.{map-map}
use Rattle.std.proofs.lemmas.List.{append-nil, length-append, length-map}
use Rattle.base_laws.proofs.Lists.{All-flat_map, All-map, All-weaken}
use Rattle.iolb_model.specs.Program.{AffineProgram}
use Rattle.iolb_model.specs.Execution.{execution}
use Rattle.iolb_model.specs.Game.{vertices}
use Rattle.iolb_model.specs.Graph.{ComputationGraph, computation_graph, input_cells, vertex_of}
use Rattle.iolb_model.specs.Source.{Source}
use Rattle.execution_laws.proofs.Members.{Member}
use Rattle.execution_laws.proofs.Ordered.{All-from, All-member, Member-map_from}
use Rattle.pebble_game.specs.Loaded.{loaded_among}
use Rattle.pebble_game.proofs.InputVertices.{input_reads_vertices, slice_get-below}
use Rattle.pebble_game.proofs.Loaded.{different_are_loads}
use Rattle.domain_count.specs.Points.{points, points_over}
use Rattle.domain_count.proofs.Parted.{flat_map-flat_map, flat_map-same, map-flat_map, points-parted}
use Rattle.reuse_paths.specs.Arrival.{instance_of}
use Rattle.reuse_paths.specs.Reached.{IsReached}
use Rattle.reuse_paths.specs.Walks.{SpotForms}
use Rattle.wavefront.specs.FrontTerm.{WavefrontTerm, outer_nest, user_read}
use Rattle.wavefront.specs.Fronts.{spot_values, word_vertex, IsThereAt, IsSoundAt, IsSoundUnder, front_footprint, FrontWordsAreLoaded, FrontsAreLoaded, FrontsHaveVertices}
use Rattle.reuse_paths.specs.Places.{place_of}
use Rattle.wavefront.specs.Waves.{Wave, WavePoint, IsSoundPoint, IsSoundWave, words_of, all_words}
use Rattle.reuse_paths.proofs.NestPoints.{points-long}
use Rattle.reuse_paths.proofs.ReadSources.{source-read}
use Rattle.wavefront.proofs.Lists.{All-parts}
use Rattle.wavefront.proofs.WaveLoads.{waves-reloaded}

-- parts of at most one each are at most as many
few-parts : {X Y : Type 0} (f : X → List Y) → ((x : X) → length (f x) ≤ 1) → (xs : List X) → length (flat_map f xs) ≤ length xs
few-parts f few [] = omega arith
few-parts f few (x ∷ xs) = omega (arith, length-append (f x) (flat_map f xs), few x, few-parts f few xs)

module _ (program : AffineProgram) (term : WavefrontTerm) (parameters : List ℤ) where
  abbrev graph : ComputationGraph
  graph = computation_graph program parameters

  abbrev word : List ℤ → ℕ
  word u = word_vertex program term parameters u

  abbrev vertex_place : List ℤ → ℕ
  vertex_place u = place_of program parameters (instance_of term.vertex parameters u)

  abbrev user_place : List ℤ → ℕ
  user_place u = place_of program parameters (instance_of term.user parameters u)

  abbrev wave_point : List ℤ → WavePoint
  wave_point u = record { word = word u; reader = user_place u }

  abbrev at_source : Source → ℕ
  at_source z = vertex_of (length (execution program parameters)) (input_cells program parameters) z

  -- the wave of points over one of the outer variables, none where there is no point over it
  abbrev wave_over : List (List ℤ) → List Wave
  wave_over [] = []
  wave_over (u ∷ us) = record { vertex = vertex_place u; points = map wave_point (u ∷ us) } ∷ []

  abbrev over : List ℤ → List (List ℤ)
  over front = points_over term.outer term.nest parameters front

  abbrev fronts : List (List ℤ)
  fronts = points (outer_nest term) parameters

  abbrev waves : List Wave
  waves = flat_map (λ (front : List ℤ). wave_over (over front)) fronts

  sound-point : (u : List ℤ) (vertex : ℕ) → vertex ≡ vertex_place u → IsSoundAt program term parameters u → IsSoundPoint graph vertex (wave_point u)
  sound-point u vertex e at = record {
    reader_there = slice_get-below (execution program parameters) (user_place u) (instance_of term.user parameters u) at.user;
    reads = source-read program parameters (user_read term) (user_place u) (spot_values term.user parameters u) at.read at.user;
    behind = subst (λ (v : ℕ). IsReached graph (user_place u) v) (sym e) at.behind;
    before = there term.source (subst (λ (v : ℕ). IsThereAt program term parameters u v term.source) (sym e) at.word);
  } where
    there : (source : Option SpotForms) → IsThereAt program term parameters u vertex source → (graph.instances ≤ word u) ⊎ IsReached graph vertex (word u)
    there None h = inl (subst (λ (z : Source). length (execution program parameters) ≤ at_source z) (sym h) (omega arith))
    there (Some spot) h = inr (subst (λ (z : Source). IsReached graph vertex (at_source z)) (sym h.1) h.2)

  sound-wave : (us : List (List ℤ)) → ((u v : List ℤ) → Member u us → Member v us → vertex_place u ≡ vertex_place v) → AllByRecursion (IsSoundAt program term parameters) us
      → AllByRecursion (IsSoundWave graph) (wave_over us)
  sound-wave [] same h = tt
  sound-wave (u ∷ us) same h = (
    record {
      there = slice_get-below (execution program parameters) (vertex_place u) (instance_of term.vertex parameters u) h.0.vertex;
      points = All-map (IsSoundPoint graph (vertex_place u)) wave_point (u ∷ us)
          (All-from (λ (v : List ℤ). IsSoundPoint graph (vertex_place u) (wave_point v)) (u ∷ us)
          (λ v m. sound-point v (vertex_place u) (same u v (inl refl) m) (All-member (IsSoundAt program term parameters) (u ∷ us) v h m)));
    },
    tt,
  )

  words-over : (us : List (List ℤ)) → flat_map words_of (wave_over us) ≡ map word us
  words-over [] = refl
  words-over (u ∷ us) = append-nil (map (λ (point : WavePoint). point.word) (map wave_point (u ∷ us))) ∙ map-map (λ (point : WavePoint). point.word) wave_point (u ∷ us)

  -- the words of the waves are the footprint
  words-same : all_words waves ≡ front_footprint program term parameters
  words-same =
      flat_map-flat_map (λ (front : List ℤ). wave_over (over front)) words_of fronts
      ∙ flat_map-same (λ (front : List ℤ). flat_map words_of (wave_over (over front))) (λ (front : List ℤ). map word (over front)) (λ front. words-over (over front)) fronts
      ∙ sym (map-flat_map over word fronts)
      ∙ ap (map word) (sym (points-parted term.outer term.nest parameters))

  wave-few : (us : List (List ℤ)) → length (wave_over us) ≤ 1
  wave-few [] = omega arith
  wave-few (u ∷ us) = omega arith

  module _ (sound : IsSoundUnder program term parameters) where
    -- over one point of the outer variables there is one vertex
    one-vertex : (front : List ℤ) → length front ≡ length (outer_nest term) → (u v : List ℤ) → Member u (over front) → Member v (over front) → vertex_place u ≡ vertex_place v
    one-vertex front long u v m n =
        let one = Member-map_from (λ (rest : List ℤ). front ++ rest) u _ m in
        let other = Member-map_from (λ (rest : List ℤ). front ++ rest) v _ n in
        ap vertex_place one.1.1
        ∙ ap (place_of program parameters) (sound.outer front one.0 other.0 long)
        ∙ sym (ap vertex_place other.1.1)

    waves-sound : AllByRecursion (IsSoundWave graph) waves
    waves-sound =
        let each : AllByRecursion (λ (front : List ℤ). AllByRecursion (IsSoundAt program term parameters) (over front)) fronts =
        All-parts (IsSoundAt program term parameters) over fronts (subst (AllByRecursion (IsSoundAt program term parameters)) (points-parted term.outer term.nest parameters) sound.each) in
        All-flat_map (IsSoundWave graph) (λ (front : List ℤ). wave_over (over front)) fronts
        (All-from (λ (front : List ℤ). AllByRecursion (IsSoundWave graph) (wave_over (over front))) fronts
        (λ front m. sound-wave (over front)
        (one-vertex front (All-member (λ (t : List ℤ). length t ≡ length (outer_nest term)) fronts front (points-long (outer_nest term) parameters) m))
        (All-member (λ (t : List ℤ). AllByRecursion (IsSoundAt program term parameters) (over t)) fronts front each m)))

pub front-words-loaded : FrontWordsAreLoaded
front-words-loaded program term parameters s moves sound game =
    let all : List ℕ = front_footprint program term parameters in
    let distinct : IsDistinct nat_eq (all_words (waves program term parameters)) = subst (IsDistinct nat_eq) (sym (words-same program term parameters)) sound.apart in
    let loaded : length all ≤ length (loaded_among all moves) + s * length (waves program term parameters) =
    subst (λ (l : List ℕ). length l ≤ length (loaded_among l moves) + s * length (waves program term parameters)) (words-same program term parameters)
    (waves-reloaded (graph program term parameters) s moves (waves program term parameters) game (waves-sound program term parameters sound) distinct) in
    let few : length (waves program term parameters) ≤ length (fronts program term parameters) =
    few-parts (λ (front : List ℤ). wave_over program term parameters (over program term parameters front)) (λ front. wave-few program term parameters (over program term parameters front)) (fronts program term parameters) in
    omega (arith, loaded, mul-le-mul_left s few, length-map (points term.nest parameters) (word_vertex program term parameters))

pub fronts-loaded : FrontsAreLoaded
fronts-loaded program term parameters s moves sound game =
    omega (arith, different_are_loads moves (front_footprint program term parameters) sound.apart, front-words-loaded program term parameters s moves sound game)

pub fronts-vertices : FrontsHaveVertices
fronts-vertices program term parameters sound =
    All-map (λ (v : ℕ). v < vertices (computation_graph program parameters)) (word_vertex program term parameters) (points term.nest parameters)
    (All-weaken (IsSoundAt program term parameters) (λ (u : List ℤ). word_vertex program term parameters u < vertices (computation_graph program parameters)) (points term.nest parameters)
    (λ u at. there u at term.source at.word) sound.each) where
      there : (u : List ℤ) → IsSoundAt program term parameters u → (source : Option SpotForms)
          → IsThereAt program term parameters u (place_of program parameters (instance_of term.vertex parameters u)) source
          → word_vertex program term parameters u < vertices (computation_graph program parameters)
      there u at None h =
          subst (λ (z : Source). at_source program term parameters z < vertices (computation_graph program parameters)) (sym h)
          (input_reads_vertices program parameters term.user.statement term.read (spot_values term.user parameters u ∷ []) (
            record {
              there = at.read.read;
              place = place_of program parameters (instance_of term.user parameters u);
              executed = at.user;
              source = h;
            },
            tt,
          )).0
      there u at (Some spot) h =
          subst (λ (z : Source). at_source program term parameters z < vertices (computation_graph program parameters)) (sym h.1)
          (omega (arith, slice_get-below (execution program parameters) (place_of program parameters (instance_of spot parameters u)) (instance_of spot parameters u) h.0))
