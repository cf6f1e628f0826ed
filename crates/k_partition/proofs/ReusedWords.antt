-- A sound partition term is a sound partition of the computation graph.
use Rattle.std.proofs.Common.{◌≡◌, refl, sym, ◌∙◌, ap, subst, inl, inr, ℕ, zero, suc, ◌+◌, ◌-◌, ◌<◌, ◌≤◌, Bool, true, false, if◌then◌else◌, List, [], ◌∷◌, ◌++◌, length, map, arith}
use Rattle.std.specs.Prelude.{◌⊎◌, nat_eq, nat_lt, Option, Some, None, option_map, slice_index_or, flat_map}
use Rattle.std.specs.List.{AllByRecursion, position_or_len}
use Rattle.std.specs.Option.{unwrap_or}
use Rattle.std.proofs.Math.IntN.{ℤ}
use Rattle.std.proofs.lemmas.Bool.{eqb-true, lt-ltb, ltb-true}
use Rattle.std.proofs.lemmas.Option.{unwrap_or-slice_get}
use Rattle.iolb_model.specs.Form.{AffineForm}
use Rattle.iolb_model.specs.Program.{AffineProgram, IsWellFormed}
use Rattle.iolb_model.specs.Bound.{IsAdmitted}
use Rattle.iolb_model.specs.Domain.{IsWithin, IsAt}
use Rattle.iolb_model.specs.Execution.{Instance, execution}
use Rattle.iolb_model.specs.Game.{stands_in}
use Rattle.iolb_model.specs.Graph.{ComputationGraph, computation_graph, input_cells, vertex_of}
use Rattle.iolb_model.specs.Source.{Cell, Source, written_at, input, read_cell, same_cell, source_or, last_write_before}
use Rattle.execution_laws.proofs.Cells.{position-Member}
use Rattle.execution_laws.proofs.Members.{Member, Member-map, Member-flat_map, Member-distinct, Member-slice_get}
use Rattle.execution_laws.proofs.Ordered.{All-member, Member-map_from}
use Rattle.pebble_game.proofs.InputVertices.{Member-input_cells, slice_get-below}
use Rattle.pebble_game.proofs.Marks.{member-stands, standing-member}
use Rattle.affine_form.specs.Substitution.{values_at}
use Rattle.domain_count.specs.Points.{points}
use Rattle.reuse_paths.specs.Families.{CreditedNest, FamilyForms, NodeForms, node_label, node_region, label_at}
use Rattle.reuse_paths.specs.FamilyFootprint.{instances_in, word_of, family_footprint}
use Rattle.reuse_paths.specs.Places.{place_of, IsExecuted}
use Rattle.reuse_paths.specs.SoundFamilies.{read_from, source_from, label_of_instance, label_of_cell, IsInside, IsCreditedBy, IsWord, TakesWord, IsSoundFamily}
use Rattle.reuse_paths.specs.WalkSettings.{region_at}
use Rattle.reuse_paths.specs.Walks.{WalkTree, WalkRegion}
use Rattle.reuse_paths.proofs.FamilyWords.{StartWord, RegionWord, word-cases, start-member, region-member}
use Rattle.reuse_paths.proofs.NestPoints.{points-within, points-all}
use Rattle.reuse_paths.proofs.Places.{stands-alone}
use Rattle.reuse_paths.proofs.ReadSources.{source-read}
use Rattle.k_partition.specs.Reuse.{IsSoundFamily as IsSoundReuse}
use Rattle.stretch_laws.specs.Reuse.{ReadsWord}
use Rattle.k_partition.specs.ReusedWords.{instance_at, cell_at, vertex_label, reuse_family, nest_vertices, credited_vertices, reuse_partition, IsSoundTerm}
use Rattle.k_partition.specs.Term.{PartitionTerm, credited_nests}

-- a statement with a region has a label
region-label : (nodes : List (Option NodeForms)) (s : ℕ) (region : WalkRegion) → region_at (map node_region nodes) s ≡ Some region
    → (label : List AffineForm) × (label_at (map node_label nodes) s ≡ Some label)
region-label [] s region e = absurd cc
region-label (None ∷ nodes) zero region e = absurd cc
region-label (Some node ∷ nodes) zero region e = (node.label, refl)
region-label (node ∷ nodes) (suc s) region e = region-label nodes s region e

-- a source that is an input is the cell that is read
input-is : (found : Option ℕ) (cell other : Cell) → source_or found cell ≡ input other → cell ≡ other
input-is None cell other e = same e where
  same : input cell ≡ input other → cell ≡ other
  same p = cc
input-is (Some n) cell other e = absurd cc

module _ (program : AffineProgram) (parameters : List ℤ) (formed : IsWellFormed program) where
  abbrev runs : List Instance
  runs = execution program parameters

  abbrev cells : List Cell
  cells = input_cells program parameters

  abbrev graph : ComputationGraph
  graph = computation_graph program parameters

  pub instance-is : (n : ℕ) (instance : Instance) → IsAt program parameters n instance → instance_at program parameters n ≡ instance
  instance-is n instance at =
      sym (unwrap_or-slice_get runs n (record { statement = 0; values = [] })) ∙ ap (λ (o : Option Instance). unwrap_or o (record { statement = 0; values = [] })) at

  cell-is : (cell : Cell) → Member cell cells → cell_at program parameters (vertex_of (length runs) cells (input cell)) ≡ cell
  cell-is cell member =
      let none : Cell = record { array = 0; subscripts = [] } in
      ap (λ (n : ℕ). slice_index_or cells n none) (less (length runs) (position_or_len (same_cell cell) cells))
      ∙ sym (unwrap_or-slice_get cells (position_or_len (same_cell cell) cells) none)
      ∙ ap (λ (o : Option Cell). unwrap_or o none) (position-Member cell cells member) where
        less : (m n : ℕ) → (m + n) - m ≡ n
        less m n = omega arith

  module _ (credits : List CreditedNest) (family : FamilyForms) where
    some-label : (found : Option (List ℤ)) (label : List ℤ) → found ≡ Some label → unwrap_or found [] ≡ label
    some-label found label e = ap (λ (o : Option (List ℤ)). unwrap_or o []) e

    -- the vertex of a word has its label
    label-of-word : (label : List ℤ) (source : Source) → IsWord program credits family parameters label source → ((cell : Cell) → source ≡ input cell → Member cell cells)
        → vertex_label program family parameters (vertex_of (length runs) cells source) ≡ label
    label-of-word label (written_at n) word there =
        let below : n < length runs = slice_get-below runs n word.0 word.1.0 in
        ap (λ (b : Bool). if b then unwrap_or (label_of_instance family parameters (instance_at program parameters n)) [] else unwrap_or (label_of_cell family parameters (cell_at program parameters n)) []) (lt-ltb n (length runs) below)
        ∙ some-label (label_of_instance family parameters (instance_at program parameters n)) label (ap (label_of_instance family parameters) (instance-is n word.0 word.1.0) ∙ word.1.1)
    label-of-word label (input cell) word there =
        let vertex : ℕ = vertex_of (length runs) cells (input cell) in
        ap (λ (b : Bool). if b then unwrap_or (label_of_instance family parameters (instance_at program parameters vertex)) [] else unwrap_or (label_of_cell family parameters (cell_at program parameters vertex)) []) (not-less vertex (length runs) (omega arith))
        ∙ some-label (label_of_cell family parameters (cell_at program parameters vertex)) label (ap (label_of_cell family parameters) (cell-is cell (there cell refl)) ∙ word) where
          not-less : (m n : ℕ) → n ≤ m → nat_lt m n ≡ false
          not-less m n le = by (nat_lt m n) refl where
            by : (b : Bool) → nat_lt m n ≡ b → nat_lt m n ≡ false
            by true e = absurd (omega (arith, le, ltb-true m n e))
            by false e = e

    -- a word that is an instance was written
    written-below : (source : Source) → vertex_of (length runs) cells source < length runs → (n : ℕ) × (source ≡ written_at n)
    written-below (written_at n) below = (n, refl)
    written-below (input cell) below = absurd (omega (arith, below))

    -- what a walk takes is a predecessor, and has the label of its vertex
    taken-word : (walk : WalkTree) (n : ℕ) (instance : Instance) (label : List ℤ) (these : List ℕ) → IsAt program parameters n instance
        → TakesWord program credits family parameters label walk n instance → stands_in these (word_of program parameters walk n instance) ≡ true
        → ReadsWord graph these (vertex_label program family parameters) n label
    taken-word walk n instance label these at takes stands = record {
      word = word_of program parameters walk n instance;
      read = source-read program parameters (read_from walk parameters instance) n instance.values takes.read at;
      stands = stands;
      same = label-of-word label (source_from program parameters walk n instance) takes.word (λ cell e.
          let reads : Cell = read_cell program parameters instance.statement (read_from walk parameters instance).read instance.values in
          let same : reads ≡ cell = input-is (last_write_before program parameters runs reads n) reads cell e in
          subst (λ (c : Cell). Member c cells) same
          (Member-input_cells program parameters instance.statement (read_from walk parameters instance).read instance.values
          (record { there = takes.read.read; place = n; executed = at; source = e ∙ ap input (sym same) })));
    }

  -- ---- the vertices of credited nests

  credited-stands : (credits : List CreditedNest) (n : ℕ) (instance : Instance) → IsAt program parameters n instance → IsCreditedBy credits parameters instance
      → stands_in (credited_vertices program credits parameters) n ≡ true
  credited-stands credits n instance at by =
      let nest : CreditedNest = by.credit in
      let among : Member instance (instances_in nest.statement nest.nest parameters) =
      subst (λ (s : ℕ). Member (record { statement = s; values = instance.values }) (instances_in nest.statement nest.nest parameters)) (sym by.statement)
      (Member-map (λ (values : List ℤ). record { statement = nest.statement; values = values }) instance.values (points nest.nest parameters) (points-all nest.nest parameters instance.values by.within)) in
      let vertex : Member (place_of program parameters instance) (nest_vertices program parameters nest) =
      Member-map (place_of program parameters) instance (instances_in nest.statement nest.nest parameters) among in
      member-stands (credited_vertices program credits parameters) n
      (subst (λ (v : ℕ). Member v (credited_vertices program credits parameters)) (sym (stands-alone program parameters n instance formed at))
      (Member-distinct nat_eq eqb-true (place_of program parameters instance) (flat_map (nest_vertices program parameters) credits)
      (Member-flat_map (nest_vertices program parameters) nest credits (place_of program parameters instance) (Member-slice_get credits by.number nest by.is) vertex)))

  -- ---- what the walks of a family from the points of a nest read

  module _ (statement : ℕ) (nest : List (AffineForm × AffineForm)) (credits : List CreditedNest) (admitted : IsAdmitted program parameters)
      (executed : AllByRecursion (IsExecuted program parameters) (instances_in statement nest parameters)) (family : FamilyForms)
      (family-sound : IsSoundFamily program statement nest credits family) where
    abbrev words : List ℕ
    words = family_footprint program statement nest family parameters

    abbrev counted : List Instance
    counted = instances_in statement nest parameters

    -- what the start walk takes from a counted instance
    start-takes : (instance : Instance) → Member instance counted
        → IsAt program parameters (place_of program parameters instance) instance
        × TakesWord program credits family parameters (values_at family.start_label (parameters ++ instance.values)) family.start (place_of program parameters instance) instance
    start-takes instance member =
        let there : IsExecuted program parameters instance = All-member (IsExecuted program parameters) counted instance executed member in
        let from = Member-map_from (λ (values : List ℤ). record { statement = statement; values = values }) instance (points nest parameters) member in
        let within : IsWithin nest parameters from.0 = All-member (λ (u : List ℤ). IsWithin nest parameters u) (points nest parameters) from.0 (points-within nest parameters) from.1.0 in
        let same : record { statement = statement; values = from.0 } ≡ instance = sym from.1.1 in (
          there,
          subst (λ (i : Instance). IsAt program parameters (place_of program parameters i) i
              → TakesWord program credits family parameters (values_at family.start_label (parameters ++ i.values)) family.start (place_of program parameters i) i) same
              (λ at. family-sound.begins parameters from.0 (place_of program parameters (record { statement = statement; values = from.0 })) admitted within at) there,
        )

    -- what the walk of a region takes from an instance in it
    region-takes : (n : ℕ) (instance : Instance) → IsAt program parameters n instance → (inside : IsInside family parameters instance)
        → (label : List ℤ) × ((label_of_instance family parameters instance ≡ Some label) × TakesWord program credits family parameters label inside.region.tree n instance)
    region-takes n instance at inside =
        let label = region-label family.nodes instance.statement inside.region inside.is in
        let value : List ℤ = values_at label.0 (parameters ++ instance.values) in
        let has : label_of_instance family parameters instance ≡ Some value = ap (option_map (λ (l : List AffineForm). values_at l (parameters ++ instance.values))) label.1 in
        (value, (has, family-sound.goes_on parameters n instance admitted at inside value has))

    -- a word that is an instance and isn't credited is in its statement's region
    abbrev IsGoing : ℕ → Type 0
    IsGoing v = (instance : Instance) × (IsAt program parameters v instance × IsInside family parameters instance)

    word-going : (label : List ℤ) (source : Source) (v : ℕ) → v ≡ vertex_of (length runs) cells source → v < length runs → stands_in (credited_vertices program credits parameters) v ≡ false
        → IsWord program credits family parameters label source → IsGoing v
    word-going label (input cell) v e below free word = absurd (omega (arith, below, e))
    word-going label (written_at n) v e below free word =
        let at : IsAt program parameters v word.0 = subst (λ (m : ℕ). IsAt program parameters m word.0) (sym e) word.1.0 in
        by at word.1.2 where
          by : IsAt program parameters v word.0 → IsCreditedBy credits parameters word.0 ⊎ IsInside family parameters word.0 → IsGoing v
          by at (inl credited) = absurd (let yes : stands_in (credited_vertices program credits parameters) v ≡ true = credited-stands credits v word.0 at credited in cc)
          by at (inr inside) = (word.0, (at, inside))

    start-going : (v : ℕ) → StartWord program statement nest family parameters v → v < length runs → stands_in (credited_vertices program credits parameters) v ≡ false → IsGoing v
    start-going v from below free =
        let taken = start-takes from.0 from.1.0 in
        word-going (values_at family.start_label (parameters ++ from.0.values)) (source_from program parameters family.start (place_of program parameters from.0) from.0) v from.1.1 below free taken.1.word

    region-going : (v : ℕ) → RegionWord program family parameters v → v < length runs → stands_in (credited_vertices program credits parameters) v ≡ false → IsGoing v
    region-going v from below free =
        let taken = region-takes from.place from.instance from.at from.inside in
        word-going taken.0 (source_from program parameters from.inside.region.tree from.place from.instance) v from.is below free taken.1.1.word

    -- a counted instance reads a word with its start label
    pub start-reads : (instance : Instance) → Member instance counted
        → ReadsWord graph words (vertex_label program family parameters) (place_of program parameters instance) (values_at family.start_label (parameters ++ instance.values))
    start-reads instance member =
        let taken = start-takes instance member in
        let place : ℕ = place_of program parameters instance in
        taken-word credits family family.start place instance (values_at family.start_label (parameters ++ instance.values)) words taken.0 taken.1
        (member-stands words (word_of program parameters family.start place instance) (start-member program statement nest family parameters instance member))

    -- and a word that is an instance and isn't credited one with its own label
    pub word-reads : (vertex : ℕ) → stands_in words vertex ≡ true → vertex < length runs → stands_in (credited_vertices program credits parameters) vertex ≡ false
        → ReadsWord graph words (vertex_label program family parameters) vertex (vertex_label program family parameters vertex)
    word-reads vertex stands below free =
        let going : IsGoing vertex = by vertex below free (word-cases program statement nest family parameters vertex (standing-member words vertex stands)) in
        let taken = region-takes vertex going.0 going.1.0 going.1.1 in
        let reads = taken-word credits family going.1.1.region.tree vertex going.0 taken.0 words going.1.0 taken.1.1 (member-stands words (word_of program parameters going.1.1.region.tree vertex going.0) (region-member program statement nest family parameters vertex going.0 going.1.0 going.1.1)) in
        subst (λ (l : List ℤ). ReadsWord graph words (vertex_label program family parameters) vertex l)
        (sym (label-is vertex going.0 going.1.0 below taken.0 taken.1.0)) reads where
          by : (v : ℕ) → v < length runs → stands_in (credited_vertices program credits parameters) v ≡ false
              → StartWord program statement nest family parameters v ⊎ RegionWord program family parameters v → IsGoing v
          by v below free (inl m) = start-going v m below free
          by v below free (inr m) = region-going v m below free

          label-is : (v : ℕ) (instance : Instance) → IsAt program parameters v instance → v < length runs → (label : List ℤ) → label_of_instance family parameters instance ≡ Some label
              → vertex_label program family parameters v ≡ label
          label-is v instance at below label has =
              ap (λ (b : Bool). if b then unwrap_or (label_of_instance family parameters (instance_at program parameters v)) [] else unwrap_or (label_of_cell family parameters (cell_at program parameters v)) []) (lt-ltb v (length runs) below)
              ∙ some-label credits family (label_of_instance family parameters (instance_at program parameters v)) label (ap (label_of_instance family parameters) (instance-is v instance at) ∙ has)

  -- the family of a term is sound
  pub family-reuses : (term : PartitionTerm) → IsAdmitted program parameters → IsSoundTerm program term → (family : FamilyForms)
      → IsSoundFamily program term.statement term.nest (credited_nests term) family → IsSoundReuse graph (reuse_partition program term parameters) (reuse_family program term parameters family)
  family-reuses term admitted sound family family-sound = record {
    begins = λ vertex stands.
        let from = Member-map_from (place_of program parameters) vertex (instances_in term.statement term.nest parameters)
        (standing-member (nest_vertices program parameters (record { statement = term.statement; nest = term.nest })) vertex stands) in
        let instance : Instance = from.0 in
        let executed = sound.instances parameters admitted in
        let reads = start-reads term.statement term.nest (credited_nests term) admitted executed family family-sound instance from.1.0 in
        let there : IsAt program parameters (place_of program parameters instance) instance =
        All-member (IsExecuted program parameters) (instances_in term.statement term.nest parameters) instance executed from.1.0 in
        let same : instance_at program parameters vertex ≡ instance = ap (instance_at program parameters) from.1.1 ∙ instance-is (place_of program parameters instance) instance there in
        subst (λ (l : List ℤ). ReadsWord graph (reuse_family program term parameters family).words (vertex_label program family parameters) vertex l)
        (ap (λ (i : Instance). values_at family.start_label (parameters ++ i.values)) (sym same))
        (subst (λ (v : ℕ). ReadsWord graph (reuse_family program term parameters family).words (vertex_label program family parameters) v (values_at family.start_label (parameters ++ instance.values)))
        (sym from.1.1) reads);
    goes_on = λ vertex stands below free. word-reads term.statement term.nest (credited_nests term) admitted (sound.instances parameters admitted) family family-sound vertex stands below free;
  }
