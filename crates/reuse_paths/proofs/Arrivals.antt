-- A reach whose claims hold arrives: by induction on the place of the instance from which a walk goes on, since the source
-- of a read comes before its reader.
use Rattle.std.proofs.Common.{◌≡◌, refl, sym, ◌∙◌, ap, subst, ℕ, zero, suc, ◌*◌, ◌<◌, List, [], ◌∷◌, ◌++◌, length, map, arith, zero-add}
use Rattle.std.specs.Prelude.{Option, Some, Contains, codes}
use Rattle.std.proofs.Math.IntN.{ℤ}
use Rattle.std.proofs.lemmas.List.{append-nil, length-map}
use Rattle.iolb_model.specs.Form.{AffineForm}
use Rattle.iolb_model.specs.Program.{IsWellFormed}
use Rattle.iolb_model.specs.Bound.{IsAdmitted}
use Rattle.iolb_model.specs.Domain.{IsWithin, IsAt}
use Rattle.iolb_model.specs.Execution.{execution}
use Rattle.iolb_model.specs.Source.{Source}
use Rattle.iolb_model.specs.Graph.{ComputationGraph, input_cells, vertex_of, computation_graph}
use Rattle.iolb_model.specs.Game.{predecessors_at}
use Rattle.claims.specs.Claims.{Claim, AllHold, numbered}
use Rattle.claims.specs.declared.place.Step.{Step}
use Rattle.claims.specs.declared.place.Step.TheVariants.{Key, Index}
use Rattle.claims.proofs.Laws.{AllHold-left, AllHold-right}
use Rattle.affine_form.specs.Multipliers.{FarkasMultipliers}
use Rattle.affine_form.specs.Substitution.{values_at}
use Rattle.affine_form.specs.System.{IsMet}
use Rattle.affine_form.specs.Rows.{widened, equality_rows}
use Rattle.affine_form.proofs.ShownLemmas.{Shows-none}
use Rattle.affine_form.proofs.Meaning.{equality_rows-say, values_at-front}
use Rattle.affine_program.specs.Domain.{depth_of}
use Rattle.dep_quast.specs.Truth.{ReadFits}
use Rattle.claims.proofs.Systems.{goals-met}
use Rattle.dep_quast.proofs.Fits.{equality_rows-few}
use Rattle.domain_count.specs.Count.{rows_before}
use Rattle.reuse_paths.specs.Arrival.{instance_of, ReachesArrive}
use Rattle.reuse_paths.specs.EntryClaims.{arriving_claims, aimed_claims, going_goals}
use Rattle.reuse_paths.specs.LeafClaims.{LeafClaim, no_point, stops, is_credited, goes_on, arrives}
use Rattle.dep_quast.specs.OpenLeaves.{LeafOrigin, written, as_input, unknown, form_at}
use Rattle.footprint_pieces.specs.Pieces.{FootprintPiece}
use Rattle.reuse_paths.specs.Reached.{IsReached}
use Rattle.reuse_paths.specs.ReachClaims.{region_claims, start_claims, same_claims, setting_of}
use Rattle.reuse_paths.specs.SoundFamilies.{read_taken}
use Rattle.dep_quast.specs.Trees.{read_of, RowsFit, RowsAreTrue}
use Rattle.reuse_paths.specs.WalkPieces.{walk_pieces}
use Rattle.reuse_paths.specs.WalkFits.{SpotFits, ArrivingFits, AimedFits, RegionFits, RegionsFit}
use Rattle.reuse_paths.specs.WalkSettings.{WalkAim, arrives_at, WalkSetting, spot_variables, region_variables, reading_point, region_context, region_at, entering_rows}
use Rattle.reuse_paths.specs.Walks.{WalkRegion, SpotForms, same, walked}
use Rattle.dep_quast.proofs.ChosenLeaves.{forms_at-values}
use Rattle.reuse_paths.proofs.NestPoints.{nest-met}
use Rattle.footprint_pieces.proofs.PieceVertices.{wide-values}
use Rattle.reuse_paths.proofs.ReadSources.{place-there, source-read, source-before}
use Rattle.reuse_paths.proofs.Regions.{there-is, region-claimed, region-fits, spot-many, entering-met, going-met, reading-there, context-met}
use Rattle.reuse_paths.proofs.WordsTaken.{IsTrueOrigin, Takes, walk-takes}
use Rattle.pebble_game.proofs.InputVertices.{slice_get-below}

module _ (condition : ℕ) (walk : WalkSetting) (target : SpotForms) (place : List Step) (values u : List ℤ) (formed : IsWellFormed walk.program) (admitted : IsAdmitted walk.program values)
    (within : IsWithin walk.nest values u) (trees-fit : RowsFit walk.program 0 walk.trees) (trees-true : RowsAreTrue walk.program 0 walk.trees)
    (aim : walk.aim ≡ arrives_at target) (target-fits : SpotFits walk.program (spot_variables walk) target) where
  abbrev graph : ComputationGraph
  graph = computation_graph walk.program values

  -- the target is reached from the instance at a place
  abbrev Reaches : ℕ → Type 0
  Reaches n = (end : ℕ) × (IsAt walk.program values end (instance_of target values u) × IsReached graph n end)

  -- the instance at a place is in its statement's region
  abbrev IsInside : ℕ → ℕ → List ℤ → WalkRegion → Type 0
  IsInside n s x region = IsAt walk.program values n (record { statement = s; values = x }) × (region_at walk.nodes s ≡ Some region) × IsMet region.rows ((values ++ u) ++ x)

  -- so it is from a vertex one of whose predecessors reaches it
  step : (n m : ℕ) → n < graph.instances → Contains (predecessors_at graph n) m → Reaches m → Reaches n
  step n m there read h = (h.0, (h.1.0, (suc h.1.1.0, (there, m, read, h.1.1.1))))

  module _ (n s : ℕ) (x : List ℤ) (here : IsAt walk.program values n (record { statement = s; values = x }))
      (later : (m t : ℕ) (y : List ℤ) (region : WalkRegion) → m < n → IsInside m t y region → Reaches m) where
    abbrev point : List ℤ
    point = (values ++ u) ++ x

    abbrev vars : ℕ
    vars = region_variables walk s

    abbrev forms : List AffineForm
    forms = reading_point walk s

    there : values_at forms point ≡ values ++ x
    there = reading-there walk values u formed admitted within n s x here

    -- at a leaf whose word no instance wrote no entry's claims hold
    no-entry : (at : List Step) (rows : List AffineForm) (origin : LeafOrigin) (entry : LeafClaim) → ((writer : ℕ) (forms : List AffineForm) → origin ≡ written writer forms → ⊥) → IsMet rows point
        → AllHold (arriving_claims condition walk target at (record { vars = vars; rows = rows }) forms origin entry) → ⊥
    no-entry at rows origin (no_point shown) is met h = Shows-none (record { vars = vars; rows = rows }) shown h.0.0 h.0.1 point met
    no-entry at rows origin (stops label) is met h = h.0
    no-entry at rows origin (is_credited credit rs label) is met h = h.0
    no-entry at rows as_input (goes_on rs label) is met h = h.0
    no-entry at rows unknown (goes_on rs label) is met h = h.0
    no-entry at rows (written t p) (goes_on rs label) is met h = is t p refl
    no-entry at rows as_input (arrives equal) is met h = h.0
    no-entry at rows unknown (arrives equal) is met h = h.0
    no-entry at rows (written t p) (arrives equal) is met h = is t p refl

    module _ (read : ℕ) (fits : ReadFits walk.program (read_of s read)) (writer : ℕ) (forms-written : List AffineForm)
        (says : IsTrueOrigin walk.program values (read_of s read) n x (written writer forms-written)) where
      abbrev m : ℕ
      m = says.0

      abbrev source-values : List ℤ
      source-values = values_at forms-written (values ++ x)

      source-there : m < graph.instances
      source-there = slice_get-below (execution walk.program values) m (record { statement = writer; values = source-values }) says.1.0

      before : m < n
      before = source-before walk.program values (read_of s read) n x fits here m source-there says.1.1

      from-source : Reaches m → Reaches n
      from-source h =
          step n m (place-there walk.program values (read_of s read) n x fits here)
          (subst (λ (z : Source). Contains (predecessors_at graph n) (vertex_of (length (execution walk.program values)) (input_cells walk.program values) z)) says.1.1
          (source-read walk.program values (read_of s read) n x fits here)) h

      -- the source is the target
      arrived : (at : List Step) (rows : List AffineForm) (equal : List FarkasMultipliers) → length equal ≡ 2 * depth_of walk.program target.statement → IsMet rows point
          → AllHold (arriving_claims condition walk target at (record { vars = vars; rows = rows }) forms (written writer forms-written) (arrives equal)) → Reaches m
      arrived at rows equal enough met h =
          let goal : List AffineForm = map (widened vars) target.point in
          let goals : List AffineForm = equality_rows vars (map (form_at vars forms) forms-written) goal in
          let shown : IsMet goals point =
          goals-met condition (at ++ Key (codes "arrive") ∷ []) (record { vars = vars; rows = rows }) 0 goals equal point
          (omega (arith, enough, equality_rows-few vars (map (form_at vars forms) forms-written) goal, length-map target.point (widened vars), target-fits.point)) h.1 met in
          let alike : length (map (form_at vars forms) forms-written) ≡ length goal =
          length-map forms-written (form_at vars forms) ∙ says.1.2 ∙ ap (depth_of walk.program) h.0 ∙ sym target-fits.point ∙ sym (length-map target.point (widened vars)) in
          let equal-values : source-values ≡ values_at target.point (values ++ u) =
          sym (forms_at-values vars forms forms-written point (values ++ x) there) ∙ equality_rows-say vars (map (form_at vars forms) forms-written) goal point alike shown
          ∙ wide-values vars target.point point
          ∙ values_at-front (spot_variables walk) target.point (values ++ u) x target-fits.forms (spot-many walk values u formed admitted within) in (
            m,
            (
              subst (λ (v : List ℤ). IsAt walk.program values m (record { statement = target.statement; values = v })) equal-values
                  (subst (λ (t : ℕ). IsAt walk.program values m (record { statement = t; values = source-values })) h.0 says.1.0),
              (0, refl),
            ),
          )

      -- the walk goes on from the source
      gone-on : (at : List Step) (rows : List AffineForm) (shown label : List FarkasMultipliers) → length shown ≡ length (going_goals walk vars forms (written writer forms-written)) → IsMet rows point
          → AllHold (arriving_claims condition walk target at (record { vars = vars; rows = rows }) forms (written writer forms-written) (goes_on shown label)) → Reaches m
      gone-on at rows shown label enough met h =
          let inside : (region : WalkRegion) × ((region_at walk.nodes writer ≡ Some region) × IsMet region.rows ((values ++ u) ++ source-values)) =
          going-met walk values u formed admitted within n s x here condition at rows writer forms-written shown enough met h.0 h.1 in
          later m writer source-values inside.0 before (says.1.0, inside.1.0, inside.1.1)

      source-entry : (at : List Step) (rows : List AffineForm) (entry : LeafClaim) → ArrivingFits walk target (read_of s read) (written writer forms-written) entry
          → IsMet rows point → AllHold (arriving_claims condition walk target at (record { vars = vars; rows = rows }) forms (written writer forms-written) entry) → Reaches n
      source-entry at rows (no_point shown) enough met h = absurd (Shows-none (record { vars = vars; rows = rows }) shown h.0.0 h.0.1 point met)
      source-entry at rows (stops label) enough met h = absurd h.0
      source-entry at rows (is_credited credit rs label) enough met h = absurd h.0
      source-entry at rows (goes_on shown label) enough met h = from-source (gone-on at rows shown label enough.0 met h)
      source-entry at rows (arrives equal) enough met h = from-source (arrived at rows equal enough met h)

    -- from what a walk takes the target is reached
    taken-reaches : (read : ℕ) → ReadFits walk.program (read_of s read) → (origin : LeafOrigin) → IsTrueOrigin walk.program values (read_of s read) n x origin
        → (at : List Step) (rows : List AffineForm) (entry : LeafClaim) → ArrivingFits walk target (read_of s read) origin entry → IsMet rows point
        → AllHold (arriving_claims condition walk target at (record { vars = vars; rows = rows }) forms origin entry) → Reaches n
    taken-reaches read fits (written writer written-forms) says at rows entry enough met h = source-entry read fits writer written-forms says at rows entry enough met h
    taken-reaches read fits as_input says at rows entry enough met h = absurd (no-entry at rows as_input entry (λ t p e. absurd cc) met h)
    taken-reaches read fits unknown says at rows entry enough met h = absurd (no-entry at rows unknown entry (λ t p e. absurd cc) met h)

    walk-reaches : (read : ℕ) (pieces : List FootprintPiece) → Takes condition walk values u formed admitted within trees-fit trees-true n s x here read pieces → Reaches n
    walk-reaches read pieces taken =
        taken-reaches read taken.read_fits taken.origin taken.says taken.place taken.rows taken.entry
        (subst (λ (a : WalkAim). AimedFits walk a (read_of s read) taken.origin taken.entry) aim taken.fits) taken.met
        (subst (λ (a : WalkAim). AllHold (aimed_claims condition walk a (read_of s read) taken.place (record { vars = vars; rows = taken.rows }) forms taken.origin taken.entry)) aim taken.hold)

  module _ (regions-fit : RegionsFit walk 0 walk.nodes) (holds : AllHold (numbered (region_claims condition walk place) 0 walk.nodes)) where
    -- from each instance in a region the target is reached, place by place
    inside-reaches : (bound n s : ℕ) (x : List ℤ) (region : WalkRegion) → n < bound → IsInside n s x region → Reaches n
    inside-reaches zero n s x region below inside = absurd (omega (arith, below))
    inside-reaches (suc bound) n s x region below inside =
        walk-reaches n s x inside.0 (λ m t y other less there. inside-reaches bound m t y other (omega (arith, less, below)) there)
        (read_taken region.tree ((values ++ u) ++ x)) (walk_pieces walk s (region_context walk s region.rows) region.tree)
        (walk-takes condition walk values u formed admitted within trees-fit trees-true n s x inside.0 (place ++ Index s ∷ Key (codes "tree") ∷ []) (region_context walk s region.rows) region.tree
        (context-met walk values u formed admitted within n s x inside.0 region.rows inside.2)
        (subst (λ (k : ℕ). RegionFits walk k (Some region)) (zero-add s) (region-fits walk 0 s walk.nodes region inside.1 regions-fit)).1
        (subst (λ (k : ℕ). AllHold (region_claims condition walk place k (Some region))) (zero-add s) (region-claimed condition walk place 0 s walk.nodes region inside.1 holds)))

    -- from a start in a region it is reached
    pub start-reaches : (at : List Step) (from : SpotForms) (start : List FarkasMultipliers) (n : ℕ) → length start ≡ length (entering_rows walk (spot_variables walk) (region_at walk.nodes from.statement) from.point)
        → AllHold (start_claims condition walk at from start) → IsAt walk.program values n (instance_of from values u) → Reaches n
    start-reaches at from start n enough h here =
        let region : (r : WalkRegion) × (region_at walk.nodes from.statement ≡ Some r) = there-is (region_at walk.nodes from.statement) h.0 in
        let x : List ℤ = values_at from.point (values ++ u) in
        let entering : IsMet (entering_rows walk (spot_variables walk) (region_at walk.nodes from.statement) from.point) (values ++ u) =
        goals-met condition (at ++ Key (codes "start") ∷ []) (rows_before walk.program walk.nest) 0 (entering_rows walk (spot_variables walk) (region_at walk.nodes from.statement) from.point) start (values ++ u)
        (omega (arith, enough)) h.1 (nest-met walk.program walk.nest values u formed admitted within) in
        let inside : IsMet region.0.rows ((values ++ u) ++ x) =
        entering-met walk values u formed admitted within (spot_variables walk) region.0 from.point (values ++ u) [] (omega arith) (sym (append-nil (values ++ u)))
        (subst (λ (o : Option WalkRegion). IsMet (entering_rows walk (spot_variables walk) o from.point) (values ++ u)) region.1 entering) in
        inside-reaches (suc n) n from.statement x region.0 (omega arith) (here, region.1, inside)

  -- spots that are the same are at one place
  pub same-reaches : (at : List Step) (from : SpotForms) (equal : List FarkasMultipliers) (n : ℕ) → SpotFits walk.program (spot_variables walk) from
      → (from.statement ≡ target.statement → length equal ≡ 2 * depth_of walk.program from.statement) → AllHold (same_claims condition walk target at from equal)
      → IsAt walk.program values n (instance_of from values u) → Reaches n
  same-reaches at from equal n from-fits enough h here =
      let goals : List AffineForm = equality_rows (spot_variables walk) from.point target.point in
      let alike : length from.point ≡ length target.point = from-fits.point ∙ ap (depth_of walk.program) h.0 ∙ sym target-fits.point in
      let shown : IsMet goals (values ++ u) =
      goals-met condition (at ++ Key (codes "same") ∷ []) (rows_before walk.program walk.nest) 0 goals equal (values ++ u)
      (omega (arith, enough h.0, equality_rows-few (spot_variables walk) from.point target.point, from-fits.point, alike)) h.1 (nest-met walk.program walk.nest values u formed admitted within) in (
        n,
        (
          subst (λ (v : List ℤ). IsAt walk.program values n (record { statement = target.statement; values = v })) (equality_rows-say (spot_variables walk) from.point target.point (values ++ u) alike shown)
              (subst (λ (t : ℕ). IsAt walk.program values n (record { statement = t; values = values_at from.point (values ++ u) })) h.0 here),
          (0, refl),
        ),
      )

pub reaches-arrive : ReachesArrive
reaches-arrive program trees nest from to (same equal) condition place formed trees-fit trees-true fits holds values u n admitted within here =
    same-reaches condition (setting_of program trees nest to (same equal)) to place values u formed admitted within trees-fit trees-true refl fits.to_fits place from equal n fits.from_fits fits.shown holds here
reaches-arrive program trees nest from to (walked start nodes) condition place formed trees-fit trees-true fits holds values u n admitted within here =
    let walk : WalkSetting = setting_of program trees nest to (walked start nodes) in
    let first : List Claim = start_claims condition walk place from start in
    let regions : List Claim = numbered (region_claims condition walk (place ++ Key (codes "nodes") ∷ [])) 0 nodes in
    start-reaches condition walk to (place ++ Key (codes "nodes") ∷ []) values u formed admitted within trees-fit trees-true refl fits.to_fits fits.shown.2 (AllHold-right first regions holds)
    place from start n fits.shown.0 (AllHold-left first regions holds) here
