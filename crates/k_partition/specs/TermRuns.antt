-- What sound partition terms cost in red runs.
use Rattle.std.specs.Prelude.{◌≡◌, ℕ, ◌+◌, ◌-◌, ◌*◌, ◌/◌, ◌<◌, ◌≤◌, true, Bool, nat_eq, ℤ, List, length, sum_by}
use Rattle.std.specs.List.{AllByRecursion, IsDistinct}
use Rattle.iolb_model.specs.declared.game.Move.{Move}
use Rattle.iolb_model.specs.Program.{AffineProgram, IsWellFormed}
use Rattle.iolb_model.specs.Bound.{IsAdmitted, StretchNumbers, events_of, points_of}
use Rattle.iolb_model.specs.Footprint.{Footprint}
use Rattle.iolb_model.specs.Game.{loads_of, stands_in}
use Rattle.iolb_model.specs.Graph.{computation_graph}
use Rattle.domain_count.specs.Points.{count}
use Rattle.k_partition.specs.declared.term.Shape.{Shape}
use Rattle.k_partition.specs.declared.term.Shape.TheVariants.{Each, Sum}
use Rattle.k_partition.specs.Laws.{start_label_count}
use Rattle.k_partition.specs.Numbers.{factor_over, factor_under}
use Rattle.k_partition.specs.Reuse.{ReuseFamily, ReusePartition}
use Rattle.k_partition.specs.ReusedWords.{IsSoundTerm, counted_points, credited_vertices, reuse_partition}
use Rattle.k_partition.specs.Runs.{events}
use Rattle.k_partition.specs.Term.{PartitionTerm, credited_nests}
use Rattle.k_partition.specs.TermLoads.{AreApartFor, AreApartWhere, IsGreatestOf, credited_count, stretch_of, term_footprint, weight_of}
use Rattle.stretch_laws.specs.Runs.{IsRedRun, computations_of, computed_among, computed_vertices}

-- a term's numbers as those of a bound's term
abbrev pub stretch_numbers : PartitionTerm → StretchNumbers
stretch_numbers term = record { a = term.a; b = term.b; q = term.q; m = weight_of term; num = factor_over term.shape term; den = factor_under term.shape term }

-- a stretch has at most so many start labels, in each family or in all families together
abbrev pub AreLabelsFew : Shape → ReusePartition → List Move → ℕ → Type 0
AreLabelsFew Each partition stretch k = AllByRecursion (λ (family : ReuseFamily). start_label_count partition stretch family ≤ k) partition.families
AreLabelsFew Sum partition stretch k = sum_by (λ (family : ReuseFamily). start_label_count partition stretch family) partition.families ≤ k

-- With T and U of its value a stretch of at most T events has at most s + T start labels of a sound term, and computes at most
-- U of its points.
abbrev pub StretchesOfTermsAreSmall : Type 0
StretchesOfTermsAreSmall = (program : AffineProgram) (term : PartitionTerm) (parameters : List ℤ) (s : ℕ) (red : List Bool) (stretch : List Move)
    → IsWellFormed program → IsAdmitted program parameters → IsSoundTerm program term → AreApartFor term.shape program term parameters
    → IsRedRun (computation_graph program parameters) s red stretch → events (reuse_partition program term parameters) stretch ≤ events_of (stretch_numbers term) s
    → AreLabelsFew term.shape (reuse_partition program term parameters) stretch (s + events_of (stretch_numbers term) s)
    × (length (computed_among (counted_points program term parameters) stretch) ≤ points_of (stretch_numbers term) s)

-- In every red run a sound term takes at least as many loads of its footprint and computations of credited vertices as the
-- events of a stretch, once for each u but the last of n points that are computed.
abbrev pub SoundTermsAreLoadedInRuns : Type 0
SoundTermsAreLoadedInRuns = (program : AffineProgram) (term : PartitionTerm) (parameters : List ℤ) (s u n : ℕ) (red : List Bool) (moves : List Move)
    → IsWellFormed program → IsAdmitted program parameters → IsSoundTerm program term → AreApartFor term.shape program term parameters → IsGreatestOf term.shape term s u
    → IsRedRun (computation_graph program parameters) s red moves → n ≤ length (computed_among (counted_points program term parameters) moves)
    → stretch_of term s * ((n - 1) / u)
    ≤ loads_of (term_footprint program term parameters) moves + computations_of (credited_vertices program (credited_nests term) parameters) moves

-- How a cost is shared among red runs. At all admitted parameter values, of any size, the points are instances, of which one may
-- stand several times, and as many as is counted; and for every s a run that computes n of them, and no vertex again, makes at
-- least as many loads of the footprint as a stretch has events, once for each u of the n but the last, less the credits.
pub record SharesAmongRuns (program : AffineProgram) (counted credits : List ℤ → ℕ) (numbers : StretchNumbers) (points footprint : Footprint) : Type 0 where
  pub instances : (values : List ℤ) (v : ℕ) → IsAdmitted program values → stands_in (points values) v ≡ true → v < (computation_graph program values).instances
  pub many : (values : List ℤ) → IsAdmitted program values → length (points values) ≡ counted values
  pub loaded : (values : List ℤ) (s n : ℕ) (red : List Bool) (moves : List Move) → IsAdmitted program values → IsRedRun (computation_graph program values) s red moves
      → IsDistinct nat_eq (computed_vertices moves) → n ≤ length (computed_among (points values) moves)
      → events_of numbers s * ((n - 1) / points_of numbers s) ≤ loads_of (footprint values) moves + credits values

-- How a term's cost splits among red runs: it is shared so, and the points are different instances.
pub record SplitsAmongRuns (program : AffineProgram) (counted credits : List ℤ → ℕ) (numbers : StretchNumbers) (points footprint : Footprint) : Type 0 where
  pub distinct : (values : List ℤ) → IsAdmitted program values → IsDistinct nat_eq (points values)
  pub shares : SharesAmongRuns program counted credits numbers points footprint

-- that of a term does, over its points and its footprint
abbrev pub TermSplits : AffineProgram → PartitionTerm → Type 0
TermSplits program term = SplitsAmongRuns program (count term.nest) (credited_count term) (stretch_numbers term) (counted_points program term) (term_footprint program term)

-- That of a sound term does.
abbrev pub SoundTermsSplit : Type 0
SoundTermsSplit = (program : AffineProgram) (term : PartitionTerm) → IsWellFormed program → IsSoundTerm program term → AreApartWhere program term → TermSplits program term
