-- Where what is asked of families and credits holds, they fit the program.
use Rattle.std.proofs.Common.{◌≡◌, sym, ◌∙◌, ap, subst, ℕ, suc, ◌+◌, ◌<◌, ◌≤◌, List, [], ◌∷◌, ◌++◌, length, map, arith, zero-add}
use Rattle.std.specs.Prelude.{Option, Some, None, slice_get, codes}
use Rattle.std.specs.List.{AllByRecursion}
use Rattle.std.proofs.lemmas.List.{length-map}
use Rattle.std.proofs.Math.Nat.{add-zero}
use Rattle.iolb_model.specs.Form.{AffineForm}
use Rattle.iolb_model.specs.Program.{Array, AffineProgram}
use Rattle.iolb_model.specs.declared.limits.TheConstants.{NEST_VARIABLES, TREE_TESTS}
use Rattle.claims.specs.Claims.{Claim, AllHold, numbered}
use Rattle.claims.specs.declared.place.Step.{Step}
use Rattle.claims.specs.declared.place.Step.TheVariants.{Key, Index}
use Rattle.claims.proofs.Laws.{AllHold-left, AllHold-right}
use Rattle.claims.proofs.Members.{suc-moved}
use Rattle.affine_form.specs.Matrix.{IntegerMatrix}
use Rattle.affine_form.specs.Rows.{BoundsFit}
use Rattle.affine_program.specs.Domain.{depth_of}
use Rattle.affine_program.specs.Parts.{ProgramParts, meaning}
use Rattle.dep_quast.specs.Tree.{SelectionTree}
use Rattle.domain_count.specs.Claims.{SumClaims, FitsCount}
use Rattle.reuse_paths.specs.declared.family.Credit.{Credit}
use Rattle.reuse_paths.specs.Families.{CreditedNest, NodeForms, FamilyForms, credit_of, node_label}
use Rattle.reuse_paths.specs.FamilyClaims.{family_setting}
use Rattle.reuse_paths.specs.FamilyFits.{CountedFits, NodesFit, FamilyFits}
use Rattle.dep_quast.specs.Trees.{RowsFit}
use Rattle.reuse_paths.specs.WalkFits.{IsLabel, AreInstanceLabels, AreCellLabels, CreditFits}
use Rattle.reuse_paths.specs.WalkSettings.{WalkSetting}
use Rattle.certificate_fit.specs.FamilyFit.{RisesBelow, label_fit, subscripts_of, input_fit, inputs_fit, node_fit, nodes_fit, set_fit, start_fit, family_fit, family_at, credit_nest_fit, credit_count_fit, credit_fit}
use Rattle.certificate_fit.specs.FamilyViews.{credit_at}
use Rattle.certificate_fit.specs.Limits.{AreSmall, AreSmallBounds, IsSmallFamily, IsSmallFamilyNode, IsSmallLabel}
use Rattle.certificate_fit.specs.TreeFit.{trees_fit}
use Rattle.certificate_fit.specs.WalkFit.{region_fit_at, walk_fit}
use Rattle.certificate_fit.proofs.ReadTrees.{bounds-fit}
use Rattle.certificate_fit.proofs.TreeParts.{forms-over}
use Rattle.certificate_fit.proofs.WalkParts.{walk-fits, region-fits}

-- ---- labels

pub label-is : (size vars : ℕ) (place : List Step) (label : List AffineForm) → AreSmall label → AllHold (label_fit size vars place label) → IsLabel size vars label
label-is size vars place label small h = record { each = h.0; over = forms-over vars place 0 label small h.1 }

module _ (program : AffineProgram) (size : ℕ) (place : List Step) where
  -- the arrays from one on
  abbrev Follow : ℕ → List Array → Type 0
  Follow i arrays = (k : ℕ) → slice_get program.arrays (i + k) ≡ slice_get arrays k

  follow : (i : ℕ) (array : Array) (arrays : List Array) → Follow i (array ∷ arrays) → Follow (suc i) arrays
  follow i array arrays from k = ap (slice_get program.arrays) (suc-moved i k) ∙ from (suc k)

  pub cell-labels : (i : ℕ) (arrays : List Array) (labels : List (Option (List AffineForm))) → Follow i arrays → length labels ≡ length arrays
      → AllByRecursion IsSmallLabel labels → AllHold (numbered (input_fit program size place) i labels) → AreCellLabels program size arrays labels
  cell-labels i [] [] from many small h = tt
  cell-labels i [] (label ∷ labels) from many small h = absurd (omega (arith, many))
  cell-labels i (array ∷ arrays) [] from many small h = absurd (omega (arith, many))
  cell-labels i (array ∷ arrays) (None ∷ labels) from many small h = (tt, cell-labels (suc i) arrays labels (follow i array arrays from) (omega (arith, many)) small.1 h)
  cell-labels i (array ∷ arrays) (Some label ∷ labels) from many small h =
      let vars : ℕ = length program.parameters + subscripts_of (slice_get program.arrays i) in
      let here : List Claim = label_fit size vars (place ++ Index i ∷ []) label in
      let rest : List Claim = numbered (input_fit program size place) (suc i) labels in
      let ranked : subscripts_of (slice_get program.arrays i) ≡ array.rank = ap (λ (n : ℕ). subscripts_of (slice_get program.arrays n)) (sym (add-zero i)) ∙ ap subscripts_of (from 0) in (
        subst (λ (n : ℕ). IsLabel size (length program.parameters + n) label) ranked (label-is size vars (place ++ Index i ∷ []) label small.0 (AllHold-left here rest h)),
        cell-labels (suc i) arrays labels (follow i array arrays from) (omega (arith, many)) small.1 (AllHold-right here rest h),
      )

-- ---- families

-- what holds of the rows of a set
pub set-below : (depth count least : ℕ) (set : List ℕ) → count ≡ depth → RisesBelow depth least set → AllByRecursion (λ (row : ℕ). row < count) set
set-below depth count least [] e h = tt
set-below depth count least (row ∷ set) e h = (omega (arith, e, h.0.1), set-below depth count (suc row) set e h.1)

module _ (program : AffineProgram) (trees : List (List SelectionTree)) (fit : AllHold (trees_fit program trees)) (rows : RowsFit program 0 trees) (credits : List CreditedNest) where
  module _ (family : FamilyForms) (place : List Step) where
    abbrev each : ℕ → Option NodeForms → List Claim
    each = node_fit program trees credits family place

    abbrev labelled : ℕ → NodeForms → List Claim
    labelled statement node =
        label_fit (length family.set) (length program.parameters + depth_of program statement) ((place ++ Index statement ∷ []) ++ Key (codes "label") ∷ []) node.label

    abbrev regioned : ℕ → NodeForms → List Claim
    regioned statement node =
        region_fit_at (family_setting program trees credits family node.label) statement ((place ++ Index statement ∷ []) ++ Key (codes "region") ∷ []) node.region

    instance-labels : (statement : ℕ) (nodes : List (Option NodeForms)) → AllByRecursion IsSmallFamilyNode nodes → AllHold (numbered each statement nodes)
        → AreInstanceLabels program (length family.set) statement (map node_label nodes)
    instance-labels statement [] small h = tt
    instance-labels statement (None ∷ nodes) small h = (tt, instance-labels (suc statement) nodes small.1 h)
    instance-labels statement (Some node ∷ nodes) small h =
        let here : List Claim = each statement (Some node) in
        let rest : List Claim = numbered each (suc statement) nodes in (
          label-is (length family.set) (length program.parameters + depth_of program statement) ((place ++ Index statement ∷ []) ++ Key (codes "label") ∷ []) node.label small.0.0
              (AllHold-left (labelled statement node) (regioned statement node) (AllHold-left here rest h)),
          instance-labels (suc statement) nodes small.1 (AllHold-right here rest h),
        )

    regions-fit : (statement : ℕ) (nodes : List (Option NodeForms)) → statement + length nodes ≤ length program.statements → AllByRecursion IsSmallFamilyNode nodes
        → AllHold (numbered each statement nodes) → NodesFit program trees credits family statement nodes
    regions-fit statement [] le small h = tt
    regions-fit statement (None ∷ nodes) le small h = (tt, regions-fit (suc statement) nodes (omega (arith, le)) small.1 h)
    regions-fit statement (Some node ∷ nodes) le small h =
        let here : List Claim = each statement (Some node) in
        let rest : List Claim = numbered each (suc statement) nodes in (
          region-fits (family_setting program trees credits family node.label) fit rows ((place ++ Index statement ∷ []) ++ Key (codes "region") ∷ []) statement node.region (omega (arith, le)) small.0.1
              (AllHold-right (labelled statement node) (regioned statement node) (AllHold-left here rest h)),
          regions-fit (suc statement) nodes (omega (arith, le)) small.1 (AllHold-right here rest h),
        )

  module _ (statement : ℕ) (nest : List (AffineForm × AffineForm)) (matrix : IntegerMatrix) (counted : CountedFits program statement nest matrix)
      (credits_fit : AllByRecursion (CreditFits program) credits) where
    -- a family fits
    pub family-fits : (place : List Step) (family : FamilyForms) → IsSmallFamily family → AllHold (family_fit program trees statement credits place family)
        → FamilyFits program trees statement nest matrix credits family
    family-fits place family small h =
        let size : ℕ = length family.set in
        let vars : ℕ = length program.parameters + depth_of program statement in
        let walk : WalkSetting = family_setting program trees credits family family.start_label in
        let inputs : List Claim = inputs_fit program (place ++ Key (codes "inputs") ∷ []) (length family.set) family.inputs in
        let nodes : List Claim = nodes_fit program trees credits (place ++ Key (codes "nodes") ∷ []) family in
        let set : List Claim = set_fit (depth_of program statement) (place ++ Key (codes "set") ∷ []) family.set in
        let start : List Claim = start_fit program trees statement credits (place ++ Key (codes "start") ∷ []) family in
        let label : List Claim = label_fit size vars ((place ++ Key (codes "start") ∷ []) ++ Key (codes "label") ∷ []) family.start_label in
        let tree : List Claim = walk_fit walk statement ((place ++ Key (codes "start") ∷ []) ++ Key (codes "tree") ∷ []) family.start in
        let in_inputs : AllHold inputs = AllHold-left inputs (nodes ++ (set ++ start)) h in
        let past_inputs : AllHold (nodes ++ (set ++ start)) = AllHold-right inputs (nodes ++ (set ++ start)) h in
        let in_nodes : AllHold nodes = AllHold-left nodes (set ++ start) past_inputs in
        let in_set : AllHold set = AllHold-left set start (AllHold-right nodes (set ++ start) past_inputs) in
        let in_start : AllHold start = AllHold-right set start (AllHold-right nodes (set ++ start) past_inputs) in
        let same : (k : ℕ) → slice_get program.arrays (0 + k) ≡ slice_get program.arrays k = λ k. ap (slice_get program.arrays) (zero-add k) in record {
          counted = counted;
          scale = small.some_scale;
          set = set-below (depth_of program statement) matrix.rows 0 family.set counted.rows in_set.0;
          start_label = label-is size vars ((place ++ Key (codes "start") ∷ []) ++ Key (codes "label") ∷ []) family.start_label small.start_label (AllHold-left label tree in_start);
          labels = record {
            instances = instance-labels family (place ++ Key (codes "nodes") ∷ []) 0 family.nodes small.nodes in_nodes.1;
            each = length-map family.nodes node_label ∙ in_nodes.0;
            cells = cell-labels program size (place ++ Key (codes "inputs") ∷ []) 0 program.arrays family.inputs same in_inputs.0 small.inputs in_inputs.1;
            credits = credits_fit;
          };
          start = walk-fits walk fit rows TREE_TESTS ((place ++ Key (codes "start") ∷ []) ++ Key (codes "tree") ∷ []) statement family.start counted.there small.start.nested (AllHold-right label tree in_start);
          regions = regions-fit family (place ++ Key (codes "nodes") ∷ []) 0 family.nodes (omega (arith, in_nodes.0)) small.nodes in_nodes.1;
        }

    -- families do, from an index on
    pub families-fit : (place : List Step) (index : ℕ) (families : List FamilyForms) → AllByRecursion IsSmallFamily families
        → AllHold (numbered (family_at program trees statement credits place) index families)
        → AllByRecursion (FamilyFits program trees statement nest matrix credits) families
    families-fit place index [] small h = tt
    families-fit place index (family ∷ families) small h =
        let here : List Claim = family_at program trees statement credits place index family in
        let rest : List Claim = numbered (family_at program trees statement credits place) (suc index) families in (
          family-fits (place ++ Index index ∷ []) family small.0 (AllHold-left here rest h),
          families-fit place (suc index) families small.1 (AllHold-right here rest h),
        )

-- ---- credits

-- the bounds of a credit's nest
credit-bounds : (program : AffineProgram) (place : List Step) (credit : CreditedNest) → AreSmallBounds credit.nest → AllHold (credit_nest_fit program place credit)
    → BoundsFit (length program.parameters) credit.nest
credit-bounds program place credit small h =
    subst (λ (n : ℕ). BoundsFit n credit.nest) (add-zero (length program.parameters)) (bounds-fit (length program.parameters) 0 (place ++ Key (codes "nest") ∷ []) credit.nest small h.1)

-- a credit fits
pub credit-fits : (program : AffineProgram) (place : List Step) (credit : CreditedNest) (count : SumClaims) → AreSmallBounds credit.nest → AllHold (credit_fit program place credit count)
    → CreditFits program credit
credit-fits program place credit count small h =
    let nest : List Claim = credit_nest_fit program place credit in
    let counts : List Claim = credit_count_fit program place credit count in
    let in_nest : AllHold nest = AllHold-left nest counts h in record {
      there = (AllHold-right nest counts h).1.0;
      each = in_nest.0;
      bounds = credit-bounds program place credit small in_nest;
    }

-- and so does what is claimed of how many instances it has
pub credit-counts : (program : ProgramParts) (place : List Step) (credit : CreditedNest) (count : SumClaims) → length credit.nest ≤ NEST_VARIABLES → AreSmallBounds credit.nest
    → AllHold (credit_fit (meaning program) place credit count) → FitsCount program credit.nest count
credit-counts program place credit count few small h =
    let nest : List Claim = credit_nest_fit (meaning program) place credit in
    let counts : List Claim = credit_count_fit (meaning program) place credit count in
    let in_counts : AllHold counts = AllHold-right nest counts h in record {
      few = few;
      bounds = credit-bounds (meaning program) place credit small (AllHold-left nest counts h);
      shown = in_counts.0;
      sums = in_counts.1.1.0;
    }

-- credits do, from an index on, where each is within limits that say so of its nest
module _ (program : ProgramParts) (place : List Step) (Small : Credit → Type 0)
    (nest : (credit : Credit) → Small credit → (length credit.nest ≤ NEST_VARIABLES) × AreSmallBounds credit.nest) where
  pub credits-fit : (index : ℕ) (credits : List Credit) → AllByRecursion Small credits → AllHold (numbered (credit_at (meaning program) place) index credits)
      → AllByRecursion (CreditFits (meaning program)) (map credit_of credits)
  credits-fit index [] small h = tt
  credits-fit index (credit ∷ credits) small h =
      let here : List Claim = credit_at (meaning program) place index credit in
      let rest : List Claim = numbered (credit_at (meaning program) place) (suc index) credits in (
        credit-fits (meaning program) (place ++ Index index ∷ []) (credit_of credit) credit.sums (nest credit small.0).1 (AllHold-left here rest h),
        credits-fit (suc index) credits small.1 (AllHold-right here rest h),
      )

  pub credits-count : (index : ℕ) (credits : List Credit) → AllByRecursion Small credits → AllHold (numbered (credit_at (meaning program) place) index credits)
      → AllByRecursion (λ (credit : Credit). FitsCount program credit.nest credit.sums) credits
  credits-count index [] small h = tt
  credits-count index (credit ∷ credits) small h =
      let here : List Claim = credit_at (meaning program) place index credit in
      let rest : List Claim = numbered (credit_at (meaning program) place) (suc index) credits in (
        credit-counts program (place ++ Index index ∷ []) (credit_of credit) credit.sums (nest credit small.0).0 (nest credit small.0).1 (AllHold-left here rest h),
        credits-count (suc index) credits small.1 (AllHold-right here rest h),
      )
