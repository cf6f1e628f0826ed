-- The families of a sound term are sound in the computation graph.
use Rattle.std.proofs.Common.{◌≡◌, refl, sym, ◌∙◌, ap, subst, inl, inr, ℕ, zero, suc, ◌<◌, ◌≤◌, true, List, [], ◌∷◌, ◌++◌, length, map, arith}
use Rattle.std.specs.Prelude.{◌==◌, Contains, slice_index_or}
use Rattle.std.specs.List.{AllByRecursion, range_with_len}
use Rattle.std.proofs.Math.IntN.{ℤ, pos, ◌*ℤ◌}
use Rattle.std.proofs.lemmas.Bool.{eq-eqb, eqb-true}
use Rattle.base_laws.proofs.Lists.{All-map, All-every, cons-same}
use Rattle.base_laws.proofs.Ring.{mul-cancel}
use Rattle.execution_laws.proofs.Domains.{counted-has}
use Rattle.execution_laws.proofs.Members.{Contains-member, Member, Member-filter, Member-flat_map, Member-map}
use Rattle.execution_laws.proofs.Ordered.{All-member, Member-flat_map_from, Member-map_from}
use Rattle.iolb_model.specs.Form.{AffineForm, form_value}
use Rattle.iolb_model.specs.Program.{AffineProgram, IsWellFormed}
use Rattle.iolb_model.specs.Bound.{IsAdmitted}
use Rattle.iolb_model.specs.Execution.{Instance}
use Rattle.iolb_model.specs.Game.{stands_in}
use Rattle.iolb_model.specs.Graph.{ComputationGraph, computation_graph}
use Rattle.affine_form.specs.Combination.{scale_form}
use Rattle.affine_form.specs.Substitution.{values_at}
use Rattle.affine_form.proofs.Combination.{form_value-scale}
use Rattle.domain_count.specs.Points.{points}
use Rattle.k_partition.specs.ReusedWords.{vertex_label}
use Rattle.k_partition.proofs.ReusedWords.{start-reads, word-reads}
use Rattle.pebble_game.proofs.Marks.{member-stands, standing-member}
use Rattle.reuse_paths.specs.FamilyFootprint.{instances_in}
use Rattle.reuse_paths.specs.Places.{IsExecuted, place_of}
use Rattle.reuse_paths.specs.SoundFamilies.{IsSoundFamily}
use Rattle.stretch_laws.specs.Reuse.{BeginsWalk, CountedPoint, FixesCoordinates, GoesOn, JointPartition, ReadsWord, coordinate_of, IsSoundFamily as IsSoundWalks}
use Rattle.stretch_laws.proofs.Points.{member-of}
use Rattle.joint_partition.specs.JointWords.{IsSoundJointFamily, IsSoundJointTerm, IsSoundPart, counted_point, dimensions_of, joint_partition, labeling_at, part_points, walk_family, walk_words, walks_labeled}
use Rattle.joint_partition.specs.Term.{JointFamily, JointTerm, PartTerm, PartWalks, credited_nests, no_form, part_walks, start_label, walks_from, way_walks}
use Rattle.joint_partition.proofs.PartWalks.{left-member, part-has, walk-labels, walks-are}

-- ---- start labels

form-at : (forms : List AffineForm) (i : ℕ) (point : List ℤ) → form_value (slice_index_or forms i no_form) point ≡ slice_index_or (values_at forms point) i (pos 0)
form-at [] i point = refl
form-at (form ∷ forms) zero point = refl
form-at (form ∷ forms) (suc i) point = form-at forms i point

module _ (program : AffineProgram) (parameters : List ℤ) (family : JointFamily) (part : PartTerm) (values : List ℤ) where
  entries-are : (set : List ℕ)
      → values_at (map (λ (i : ℕ). scale_form (pos family.scale) (slice_index_or part.image i no_form)) set) (parameters ++ values)
      ≡ map (λ (i : ℕ). pos family.scale *ℤ coordinate_of (counted_point program parameters part values) i) set
  entries-are [] = refl
  entries-are (i ∷ set) =
      cons-same _ _ _ _
      (form_value-scale (pos family.scale) (slice_index_or part.image i no_form) (parameters ++ values)
      ∙ ap (λ (z : ℤ). pos family.scale *ℤ z) (form-at part.image i (parameters ++ values)))
      (entries-are set)

-- a start label fixes the coordinates of the set, since the scale isn't zero
same-at : (f g : ℕ → ℤ) (set : List ℕ) → map f set ≡ map g set → (i : ℕ) → Member i set → f i ≡ g i
same-at f g [] e i m = absurd m
same-at f g (j ∷ set) e i (inl same) = ap f same ∙ first e ∙ sym (ap g same) where
  first : {a b : ℤ} {xs ys : List ℤ} → a ∷ xs ≡ b ∷ ys → a ≡ b
  first p = cc
same-at f g (j ∷ set) e i (inr m) = same-at f g set (rest e) i m where
  rest : {a b : ℤ} {xs ys : List ℤ} → a ∷ xs ≡ b ∷ ys → xs ≡ ys
  rest p = cc

cancelled : (scale : ℕ) → 1 ≤ scale → (a b : ℤ) → pos scale *ℤ a ≡ pos scale *ℤ b → a ≡ b
cancelled zero least a b e = absurd (omega (arith, least))
cancelled (suc scale) least a b e = mul-cancel scale a b e

-- words and labels may be more and called otherwise
reads-among : (graph : ComputationGraph) (words others : List ℕ) (label another : ℕ → List ℤ) (vertex : ℕ) (value : List ℤ)
    → ((w : ℕ) → stands_in words w ≡ true → stands_in others w ≡ true) → ((w : ℕ) → label w ≡ another w) → ReadsWord graph words label vertex value → ReadsWord graph others another vertex value
reads-among graph words others label another vertex value among same reads =
    record { word = reads.word; read = reads.read; stands = among reads.word reads.stands; same = sym (same reads.word) ∙ reads.same }

module _ (program : AffineProgram) (term : JointTerm) (parameters : List ℤ) (formed : IsWellFormed program) (admitted : IsAdmitted program parameters) (sound : IsSoundJointTerm program term) where
  abbrev graph : ComputationGraph
  graph = computation_graph program parameters

  abbrev partition : JointPartition
  partition = joint_partition program term parameters

  part-executed : (part : PartTerm) → Member part term.parts → AllByRecursion (IsExecuted program parameters) (instances_in part.statement part.nest parameters)
  part-executed part m = (All-member (IsSoundPart program (dimensions_of term)) term.parts part sound.parts m).instances parameters admitted

  module _ (family : JointFamily) (family-sound : IsSoundJointFamily program term family) where
    abbrev all_walks : List PartWalks
    all_walks = part_walks family term.parts family.starts

    abbrev label_in : ℕ → ℕ → List ℤ
    label_in number = vertex_label program (way_walks family (record { labels = number; regions = [] })) parameters

    walks-sound : (from : PartWalks) → Member from all_walks → IsSoundFamily program from.part.statement from.part.nest (credited_nests term) from.walks
    walks-sound from m =
        All-member (λ (w : PartWalks). IsSoundFamily program w.part.statement w.part.nest (credited_nests term) w.walks) all_walks from family-sound.walks m

    -- the words of walks are words of their labeling, with its labels
    words-among : (from : PartWalks) (number : ℕ) → Member from all_walks → from.labeling ≡ number → (w : ℕ) → stands_in (walk_words program parameters from) w ≡ true
        → stands_in (labeling_at program term parameters family number).words w ≡ true
    words-among from number m e w stands =
        member-stands (labeling_at program term parameters family number).words w
        (Member-flat_map (walk_words program parameters) from (walks_labeled term family number) w
        (Member-filter (λ (f : PartWalks). f.labeling == number) from all_walks m (eq-true from.labeling number e))
        (standing-member (walk_words program parameters from) w stands)) where
          eq-true : (a b : ℕ) → a ≡ b → (a == b) ≡ true
          eq-true a b p = eq-eqb a b p

    -- a point begins a walk
    begins : (point : CountedPoint) → Contains partition.points point → BeginsWalk graph (walk_family program term parameters family) point
    begins point c =
        let of_part = Member-flat_map_from (part_points program parameters) point term.parts (member-of point partition.points c) in
        let part : PartTerm = of_part.0 in
        let of_point = Member-map_from (counted_point program parameters part) point (points part.nest parameters) of_part.1.1 in
        let values : List ℤ = of_point.0 in
        let has = part-has family term.parts family.starts family-sound.one_each part of_part.1.0 in
        let from : PartWalks = walks_from family part has.0 in
        let instance : Instance = record { statement = part.statement; values = values } in
        let reads = start-reads program parameters formed part.statement part.nest (credited_nests term) admitted (part-executed part of_part.1.0) from.walks (walks-sound from has.1) instance
        (Member-map (λ (v : List ℤ). record { statement = part.statement; values = v }) values (points part.nest parameters) of_point.1.0) in
        subst (BeginsWalk graph (walk_family program term parameters family)) (sym of_point.1.1) (record {
          labeling = labeling_at program term parameters family from.labeling;
          is = Contains-member (labeling_at program term parameters family from.labeling) (walk_family program term parameters family).labelings
              (Member-map (labeling_at program term parameters family) from.labeling (range_with_len 0 (length family.labels))
              (counted-has 0 (length family.labels) from.labeling (omega arith)
              (omega (arith, All-member (λ (w : PartWalks). w.labeling < length family.labels) all_walks from family-sound.labeled has.1))));
          reads = subst (ReadsWord graph (labeling_at program term parameters family from.labeling).words (label_in from.labeling) (place_of program parameters instance))
              (entries-are program parameters family part values family.set)
              (reads-among graph (walk_words program parameters from) (labeling_at program term parameters family from.labeling).words (vertex_label program from.walks parameters) (label_in from.labeling)
              (place_of program parameters instance) (values_at (start_label part family) (parameters ++ values)) (words-among from from.labeling has.1 refl)
              (walk-labels program parameters family part has.0) reads);
        })

    -- walks of a labeling go on in it
    goes-on : (number : ℕ) → GoesOn graph partition.credited (labeling_at program term parameters family number)
    goes-on number vertex stands below free =
        let of_walks = Member-flat_map_from (walk_words program parameters) vertex (walks_labeled term family number)
        (standing-member (labeling_at program term parameters family number).words vertex stands) in
        let from : PartWalks = of_walks.0 in
        let chosen = left-member (λ (f : PartWalks). f.labeling == number) all_walks from of_walks.1.0 in
        let is = walks-are family term.parts family.starts from chosen.0 in
        let same : from.labeling ≡ number = eqb-true from.labeling number chosen.1 in
        let labels : (w : ℕ) → vertex_label program from.walks parameters w ≡ label_in number w = λ w.
        ap (λ (f : PartWalks). vertex_label program f.walks parameters w) is.1.1.1
        ∙ walk-labels program parameters family is.0 is.1.1.0 w
        ∙ ap (λ (n : ℕ). label_in n w) (sym (ap (λ (f : PartWalks). f.labeling) is.1.1.1) ∙ same) in
        let executed : AllByRecursion (IsExecuted program parameters) (instances_in from.part.statement from.part.nest parameters) =
        subst (λ (p : PartTerm). AllByRecursion (IsExecuted program parameters) (instances_in p.statement p.nest parameters)) (sym (ap (λ (f : PartWalks). f.part) is.1.1.1)) (part-executed is.0 is.1.0) in
        let reads = word-reads program parameters formed from.part.statement from.part.nest (credited_nests term) admitted executed from.walks (walks-sound from chosen.0) vertex
        (member-stands (walk_words program parameters from) vertex of_walks.1.1) below free in
        subst (ReadsWord graph (labeling_at program term parameters family number).words (label_in number) vertex) (labels vertex)
        (reads-among graph (walk_words program parameters from) (labeling_at program term parameters family number).words (vertex_label program from.walks parameters) (label_in number)
        vertex (vertex_label program from.walks parameters vertex) (words-among from number chosen.0 same) labels reads)

    pub family-reuses : IsSoundWalks graph partition (walk_family program term parameters family)
    family-reuses = record {
      begins = begins;
      goes_on = All-map (GoesOn graph partition.credited) (labeling_at program term parameters family) (range_with_len 0 (length family.labels))
          (All-every (λ (number : ℕ). GoesOn graph partition.credited (labeling_at program term parameters family number)) goes-on (range_with_len 0 (length family.labels)));
    }

    pub family-fixes : FixesCoordinates partition (walk_family program term parameters family)
    family-fixes one other a b e i below has =
        cancelled family.scale family-sound.scale (coordinate_of one i) (coordinate_of other i)
        (same-at (λ (j : ℕ). pos family.scale *ℤ coordinate_of one j) (λ (j : ℕ). pos family.scale *ℤ coordinate_of other j) family.set e i (standing-member family.set i has))
