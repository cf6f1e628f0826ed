-- A family whose claims hold is sound: its start walk and the walks of its regions take words with the labels of their readers.
use Rattle.std.proofs.Common.{◌≡◌, refl, sym, ◌∙◌, ap, subst, ℕ, zero, suc, ◌+◌, List, [], ◌∷◌, ◌++◌, length, map, zero-add}
use Rattle.std.specs.Prelude.{Option, Some, None, option_map, codes}
use Rattle.std.proofs.Math.IntN.{ℤ}
use Rattle.std.proofs.lemmas.List.{append-nil}
use Rattle.std.proofs.Math.Nat.{add-zero}
use Rattle.iolb_model.specs.Form.{AffineForm}
use Rattle.iolb_model.specs.Program.{AffineProgram, IsWellFormed}
use Rattle.iolb_model.specs.Bound.{IsAdmitted}
use Rattle.iolb_model.specs.Domain.{IsWithin, IsAt}
use Rattle.iolb_model.specs.Execution.{Instance}
use Rattle.claims.specs.Claims.{Claim, AllHold, numbered}
use Rattle.claims.specs.declared.place.Step.{Step}
use Rattle.claims.specs.declared.place.Step.TheVariants.{Key, Index}
use Rattle.claims.proofs.Laws.{AllHold-left, AllHold-right}
use Rattle.claims.proofs.Members.{suc-moved}
use Rattle.affine_form.specs.Matrix.{IntegerMatrix}
use Rattle.affine_form.specs.Substitution.{values_at}
use Rattle.affine_form.specs.System.{IsMet}
use Rattle.affine_form.proofs.Meaning.{within_rows-met}
use Rattle.affine_program.specs.Domain.{depth_of}
use Rattle.dep_quast.specs.Context.{parameter_point}
use Rattle.dep_quast.specs.Tree.{SelectionTree}
use Rattle.dep_quast.specs.Truth.{ReadFits, source_at}
use Rattle.reuse_paths.specs.Families.{CreditedNest, NodeForms, FamilyForms, node_label, node_region, label_at}
use Rattle.reuse_paths.specs.FamilyClaims.{family_setting, start_rows, start_tree, start_walk, label_rows, region_walk, node_walk, family_claims}
use Rattle.reuse_paths.specs.FamilyFits.{FamilyFits, NodesFit, WalksFit}
use Rattle.reuse_paths.specs.SoundFamilies.{read_taken, IsInside, IsWord, TakesWord, IsSoundFamily, FamiliesAreSound, WalksAreSound}
use Rattle.dep_quast.specs.Trees.{read_of, RowsFit, RowsAreTrue}
use Rattle.reuse_paths.specs.WalkClaims.{walk_claims}
use Rattle.reuse_paths.specs.WalkPieces.{walk_pieces}
use Rattle.reuse_paths.specs.WalkFits.{LabelsFit, RegionFits, WalkFits}
use Rattle.reuse_paths.specs.WalkSettings.{WalkSetting, region_variables, region_values, region_context, region_at}
use Rattle.reuse_paths.specs.Walks.{WalkTree, WalkRegion}
use Rattle.reuse_paths.proofs.KeptLabels.{instance-label-many}
use Rattle.reuse_paths.proofs.KeptWords.{kept-word}
use Rattle.reuse_paths.proofs.Regions.{params-there, loops-there, context-met}
use Rattle.reuse_paths.proofs.WordsTaken.{Takes, walk-takes}

-- the parameters before the values of no nest
pub in-front : (values x : List ℤ) → (values ++ []) ++ x ≡ values ++ x
in-front values x = ap (λ (v : List ℤ). v ++ x) (append-nil values)

module _ (program : AffineProgram) (trees : List (List SelectionTree)) (credits : List CreditedNest) (family : FamilyForms) where
  -- the node of a statement with this region: its label, what makes it fit, and what it claims
  pub record IsNode (place : List Step) (s : ℕ) (region : WalkRegion) (labels : List (Option NodeForms)) (at : ℕ) : Type 0 where
    pub label : List AffineForm
    pub is : label_at (map node_label labels) at ≡ Some label
    pub fits : RegionFits (family_setting program trees credits family label) s (Some region)
    pub hold : AllHold (region_walk (family_setting program trees credits family label) place s (Some region))

  node-there : (place : List Step) (first s : ℕ) (nodes : List (Option NodeForms)) (region : WalkRegion) → region_at (map node_region nodes) s ≡ Some region
      → NodesFit program trees credits family first nodes → AllHold (numbered (node_walk program trees credits family place) first nodes)
      → IsNode place (first + s) region nodes s
  node-there place first s [] region e fits h = absurd cc
  node-there place first zero (None ∷ nodes) region e fits h = absurd cc
  node-there place first zero (Some node ∷ nodes) region e fits h =
      let walk : WalkSetting = family_setting program trees credits family node.label in record {
        label = node.label;
        is = refl;
        fits = subst (λ (k : ℕ). RegionFits walk k (Some region)) (sym (add-zero first)) (subst (λ (o : Option WalkRegion). RegionFits walk first o) e fits.0);
        hold = subst (λ (k : ℕ). AllHold (region_walk walk place k (Some region))) (sym (add-zero first))
            (subst (λ (o : Option WalkRegion). AllHold (region_walk walk place first o)) e
            (AllHold-left (region_walk walk place first node.region) (numbered (node_walk program trees credits family place) (suc first) nodes) h));
      }
  node-there place first (suc s) (node ∷ nodes) region e fits h =
      let later : IsNode place (suc first + s) region nodes s =
      node-there place (suc first) s nodes region e fits.1 (AllHold-right (node_walk program trees credits family place first node) (numbered (node_walk program trees credits family place) (suc first) nodes) h) in
      subst (λ (k : ℕ). IsNode place k region (node ∷ nodes) (suc s)) (suc-moved first s) (record { label = later.label; is = later.is; fits = later.fits; hold = later.hold })

module _ (program : AffineProgram) (trees : List (List SelectionTree)) (statement : ℕ) (nest : List (AffineForm × AffineForm)) (credits : List CreditedNest) (family : FamilyForms) (size : ℕ)
    (start-place nodes-place : List Step) (formed : IsWellFormed program) (trees-fit : RowsFit program 0 trees) (trees-true : RowsAreTrue program 0 trees)
    (fits : WalksFit program trees statement credits family size) (holds-start : AllHold (start_tree program trees statement nest credits family start-place))
    (holds-nodes : AllHold (numbered (node_walk program trees credits family nodes-place) 0 family.nodes)) where
  abbrev pub setting : List AffineForm → WalkSetting
  setting reader = family_setting program trees credits family reader

  module _ (values : List ℤ) (admitted : IsAdmitted program values) where
    -- what the walk of readers with a label takes from an instance, of these pieces
    abbrev pub Taken : List AffineForm → (n s : ℕ) (x : List ℤ) → IsAt program values n (record { statement = s; values = x }) → WalkTree → List AffineForm → Type 0
    Taken reader n s x here tree rows =
        Takes 15 (setting reader) values [] formed admitted tt trees-fit trees-true n s x here (read_taken tree ((values ++ []) ++ x)) (walk_pieces (setting reader) s (region_context (setting reader) s rows) tree)

    taken : (reader : List AffineForm) (n s : ℕ) (x : List ℤ) (here : IsAt program values n (record { statement = s; values = x })) (at : List Step) (rows : List AffineForm) (tree : WalkTree)
        → IsMet rows ((values ++ []) ++ x) → WalkFits (setting reader) s tree → AllHold (walk_claims 15 (setting reader) s at (region_context (setting reader) s rows) tree) → Taken reader n s x here tree rows
    taken reader n s x here at rows tree met walk-fits h =
        walk-takes 15 (setting reader) values [] formed admitted tt trees-fit trees-true n s x here at (region_context (setting reader) s rows) tree
        (context-met (setting reader) values [] formed admitted tt n s x here rows met) walk-fits h

    -- what the start walk takes from a counted instance
    pub start-taken : (x : List ℤ) (n : ℕ) → IsWithin nest values x → (here : IsAt program values n (record { statement = statement; values = x }))
        → Taken family.start_label n statement x here family.start (start_rows (setting family.start_label) statement nest)
    start-taken x n within here =
        let walk : WalkSetting = setting family.start_label in
        let vars : ℕ = region_variables walk statement in
        let point : List ℤ = (values ++ []) ++ x in
        taken family.start_label n statement x here start-place (start_rows walk statement nest) family.start
        (within_rows-met vars nest (parameter_point program vars) (region_values walk statement) point
        (subst (λ (ps : List ℤ). IsWithin nest ps (values_at (region_values walk statement) point)) (sym (params-there walk values [] formed admitted tt n statement x here))
        (subst (λ (ys : List ℤ). IsWithin nest values ys) (sym (loops-there walk values [] formed admitted tt n statement x here)) within)))
        fits.start holds-start

    -- what the walk of a region takes from an instance in it
    pub record RegionTaken (n : ℕ) (instance : Instance) (here : IsAt program values n instance) (region : WalkRegion) : Type 0 where
      pub label : List AffineForm
      pub is : label_at (map node_label family.nodes) instance.statement ≡ Some label
      pub takes : Taken label n instance.statement instance.values here region.tree region.rows

    pub region-taken : (n : ℕ) (instance : Instance) (here : IsAt program values n instance) (inside : IsInside family values instance) → RegionTaken n instance here inside.region
    region-taken n instance here inside =
        let s : ℕ = instance.statement in
        let node : IsNode program trees credits family nodes-place (0 + s) inside.region family.nodes s =
        node-there program trees credits family nodes-place 0 s family.nodes inside.region inside.is fits.regions holds-nodes in
        let walk : WalkSetting = setting node.label in
        let region-fits : RegionFits walk s (Some inside.region) = subst (λ (k : ℕ). RegionFits walk k (Some inside.region)) (zero-add s) node.fits in
        let hold : AllHold (region_walk walk nodes-place s (Some inside.region)) = subst (λ (k : ℕ). AllHold (region_walk walk nodes-place k (Some inside.region))) (zero-add s) node.hold in record {
          label = node.label;
          is = node.is;
          takes = taken node.label n s instance.values here (nodes-place ++ Index s ∷ Key (codes "region") ∷ Key (codes "tree") ∷ []) inside.region.rows inside.region.tree
              (subst (IsMet inside.region.rows) (sym (in-front values instance.values)) inside.met) region-fits.1 hold;
        }

    -- it is a word with the reader's label
    word-of-taken : (reader : List AffineForm) (n s : ℕ) (x : List ℤ) (here : IsAt program values n (record { statement = s; values = x })) (tree : WalkTree) (rows : List AffineForm)
        → length reader ≡ size → Taken reader n s x here tree rows
        → TakesWord program credits family values (values_at reader (values ++ x)) tree n (record { statement = s; values = x })
    word-of-taken reader n s x here tree rows many takes =
        let read : ℕ = read_taken tree ((values ++ []) ++ x) in
        let labels-fit : LabelsFit program (size) (record { reader = reader; instances = map node_label family.nodes; cells = family.inputs; credits = credits }) =
        record { instances = fits.labels.instances; each = fits.labels.each; cells = fits.labels.cells; credits = fits.labels.credits } in
        let word : IsWord program credits family values (values_at reader ((values ++ []) ++ x)) (source_at program values (read_of s read) n x) =
        kept-word program trees credits family reader values formed admitted (size) many labels-fit n s x here read takes.rows takes.place takes.met takes.origin takes.says takes.entry takes.fits takes.hold in
        subst (λ (p : List ℤ). ReadFits program (read_of s (read_taken tree p)) × IsWord program credits family values (values_at reader p) (source_at program values (read_of s (read_taken tree p)) n x)
        → TakesWord program credits family values (values_at reader (values ++ x)) tree n (record { statement = s; values = x })) (sym (in-front values x))
        (λ both. record { read = both.0; word = both.1 }) (takes.read_fits, word)

  sound : IsSoundFamily program statement nest credits family
  sound = record {
    begins = λ values x n admitted within here.
        word-of-taken values admitted family.start_label n statement x here family.start (start_rows (setting family.start_label) statement nest) fits.start_label (start-taken values admitted x n within here);
    goes_on = λ values n instance admitted here inside label is.
        let region : RegionTaken values admitted n instance here inside.region = region-taken values admitted n instance here inside in
        let many : length region.label ≡ size = instance-label-many program (size) 0 instance.statement (map node_label family.nodes) region.label fits.labels.instances region.is in
        subst (λ (l : List ℤ). TakesWord program credits family values l inside.region.tree n instance)
        (same (values_at region.label (values ++ instance.values)) label (sym (ap (option_map (λ (l : List AffineForm). values_at l (values ++ instance.values))) region.is) ∙ is))
        (word-of-taken values admitted region.label n instance.statement instance.values here inside.region.tree inside.region.rows many region.takes);
  } where
    same : (a b : List ℤ) → Some a ≡ Some b → a ≡ b
    same a b p = cc

-- so the walks of a family are sound wherever their trees stand
pub walks-sound : WalksAreSound
walks-sound program trees statement nest credits family size start-place nodes-place formed trees-fit trees-true fits holds-start holds-nodes =
    sound program trees statement nest credits family size start-place nodes-place formed trees-fit trees-true fits holds-start holds-nodes

-- and those of a family whose claims hold
module _ (program : AffineProgram) (trees : List (List SelectionTree)) (statement : ℕ) (nest : List (AffineForm × AffineForm)) (matrix : IntegerMatrix) (credits : List CreditedNest) (family : FamilyForms)
    (place : List Step) (fits : FamilyFits program trees statement nest matrix credits family) (holds : AllHold (family_claims program trees statement nest matrix credits family place)) where
  abbrev start : List Claim
  start = start_walk program trees statement nest credits family place

  abbrev nodes : List Claim
  nodes = numbered (node_walk program trees credits family (place ++ Key (codes "nodes") ∷ [])) 0 family.nodes

  abbrev labels : List Claim
  labels = label_rows matrix family.scale (length program.parameters) (depth_of program statement) (place ++ Key (codes "start") ∷ Key (codes "label") ∷ []) 0 family.set family.start_label

  pub holds-start-of : AllHold start
  holds-start-of = AllHold-right labels start (AllHold-left (labels ++ start) nodes holds)

  pub holds-nodes-of : AllHold nodes
  holds-nodes-of = AllHold-right (labels ++ start) nodes holds

  pub walks-fit : WalksFit program trees statement credits family (length family.set)
  walks-fit = record { start_label = fits.start_label.each; labels = fits.labels; start = fits.start; regions = fits.regions }

pub families-sound : FamiliesAreSound
families-sound program trees statement nest matrix credits family place formed trees-fit trees-true fits holds =
    walks-sound program trees statement nest credits family (length family.set) (place ++ Key (codes "start") ∷ Key (codes "tree") ∷ []) (place ++ Key (codes "nodes") ∷ []) formed trees-fit trees-true
    (walks-fit program trees statement nest matrix credits family place fits holds) (holds-start-of program trees statement nest matrix credits family place fits holds)
    (holds-nodes-of program trees statement nest matrix credits family place fits holds)
