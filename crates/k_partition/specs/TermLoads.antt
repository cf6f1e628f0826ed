-- What sound partition terms cost.
use Rattle.std.specs.Prelude.{ℕ, ◌+◌, ◌-◌, ◌*◌, ◌/◌, ◌^◌, ◌≤◌, ℤ, List, map, flat_map, sum_by}
use Rattle.iolb_model.specs.declared.game.Move.{Move}
use Rattle.iolb_model.specs.Program.{AffineProgram, IsWellFormed}
use Rattle.iolb_model.specs.Bound.{IsAdmitted}
use Rattle.iolb_model.specs.Footprint.{Footprint, ArePairwiseDisjoint}
use Rattle.iolb_model.specs.Game.{IsCompletePebbling, loads_of}
use Rattle.iolb_model.specs.Graph.{computation_graph}
use Rattle.domain_count.specs.Points.{count}
use Rattle.reuse_paths.specs.Families.{CreditedNest, FamilyForms}
use Rattle.reuse_paths.specs.FamilyFootprint.{family_footprint}
use Rattle.uniform_cover.specs.Greatest.{IsGreatest}
use Rattle.uniform_cover.specs.Products.{product_by}
use Rattle.k_partition.specs.declared.term.Shape.{Shape}
use Rattle.k_partition.specs.declared.term.Shape.TheVariants.{Each, Sum}
use Rattle.k_partition.specs.ReusedWords.{IsSoundTerm}
use Rattle.k_partition.specs.Term.{PartitionTerm, credited_nests}

-- the footprints of the families, and that of the term, which has the vertices of all of them
abbrev pub footprint_in : AffineProgram → PartitionTerm → List ℤ → FamilyForms → List ℕ
footprint_in program term parameters family = family_footprint program term.statement term.nest family parameters

abbrev pub term_footprint : AffineProgram → PartitionTerm → Footprint
term_footprint program term parameters = flat_map (footprint_in program term parameters) term.families

-- the sum of the weights, and the events of a stretch
abbrev pub weight_of : PartitionTerm → ℕ
weight_of term = sum_by (λ (family : FamilyForms). family.weight) term.families

abbrev pub stretch_of : PartitionTerm → ℕ → ℕ
stretch_of term s = term.a * s + term.b

-- u is the greatest number of points that go into a stretch, by the cover inequality, where s words are red at most
abbrev pub IsGreatestOf : Shape → PartitionTerm → ℕ → ℕ → Type 0
IsGreatestOf Each term s u = IsGreatest term.q 1 (1 * (s + stretch_of term s) ^ weight_of term) u
IsGreatestOf Sum term s u =
    IsGreatest term.q (weight_of term ^ weight_of term) (product_by (λ (family : FamilyForms). family.weight ^ family.weight) term.families * (s + stretch_of term s) ^ weight_of term) u

-- for the second shape no two families have a word in common
abbrev pub AreApartFor : Shape → AffineProgram → PartitionTerm → List ℤ → Type 0
AreApartFor Each program term parameters = Unit {0}
AreApartFor Sum program term parameters = ArePairwiseDisjoint (map (footprint_in program term parameters) term.families)

-- at all admitted parameter values, of any size
abbrev pub AreApartWhere : AffineProgram → PartitionTerm → Type 0
AreApartWhere program term = (parameters : List ℤ) → IsAdmitted program parameters → AreApartFor term.shape program term parameters

-- how many points the credited nests have
abbrev pub credited_count : PartitionTerm → List ℤ → ℕ
credited_count term parameters = sum_by (λ (credit : CreditedNest). count credit.nest parameters) (credited_nests term)

-- In every complete pebbling with s red pebbles a sound term takes at least as many loads of its footprint as the events of a
-- stretch, once for each u of its points but the last, less the credited points.
abbrev pub SoundTermsAreLoaded : Type 0
SoundTermsAreLoaded = (program : AffineProgram) (term : PartitionTerm) (parameters : List ℤ) (s u : ℕ) (moves : List Move) → IsWellFormed program → IsAdmitted program parameters
    → IsSoundTerm program term → AreApartFor term.shape program term parameters → IsGreatestOf term.shape term s u → IsCompletePebbling (computation_graph program parameters) s moves
    → stretch_of term s * ((count term.nest parameters - 1) / u) ≤ loads_of (term_footprint program term parameters) moves + credited_count term parameters
