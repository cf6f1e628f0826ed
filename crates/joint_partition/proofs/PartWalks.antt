-- The walks of a family from the parts: one for each, whose labels are those of their labeling.
use Rattle.std.proofs.Common.{◌≡◌, refl, sym, ◌∙◌, ap, inl, inr, ℕ, Bool, true, false, cond, List, [], ◌∷◌, ◌++◌, length, map, arith}
use Rattle.std.specs.Prelude.{filter, Option, None, Some, if◌then◌else◌, nat_lt, option_map}
use Rattle.std.specs.Option.{unwrap_or}
use Rattle.std.proofs.Math.IntN.{ℤ}
use Rattle.base_laws.proofs.Lists.{cons-same}
use Rattle.execution_laws.proofs.Members.{Member}
use Rattle.iolb_model.specs.Form.{AffineForm}
use Rattle.iolb_model.specs.Program.{AffineProgram}
use Rattle.iolb_model.specs.Execution.{execution}
use Rattle.affine_form.specs.Substitution.{values_at}
use Rattle.k_partition.specs.ReusedWords.{cell_at, instance_at, vertex_label}
use Rattle.reuse_paths.specs.Families.{label_at, node_label}
use Rattle.reuse_paths.specs.SoundFamilies.{label_of_cell}
use Rattle.reuse_paths.specs.Walks.{WalkRegion, WalkTree, take}
use Rattle.joint_partition.specs.Term.{JointFamily, LabelForms, PartTerm, PartWalks, StartTerm, labels_of, part_walks, start_label, walks_from, walks_with, way_at, way_node, way_nodes, way_walks}

-- what is left by a test is a member and passes it
pub left-member : {X : Type 0} (test : X → Bool) (xs : List X) (x : X) → Member x (filter test xs) → Member x xs × (test x ≡ true)
left-member test [] x m = absurd m
left-member {X} test (y ∷ xs) x m = by (test y) refl m (λ n. left-member test xs x n) where
  by : (b : Bool) → b ≡ test y → Member x (cond b (y ∷ filter test xs) (filter test xs)) → (Member x (filter test xs) → Member x xs × (test x ≡ true)) → Member x (y ∷ xs) × (test x ≡ true)
  by true e (inl same) later = (inl same, ap test same ∙ sym e)
  by true e (inr n) later = let r = later n in (inr r.0, r.1)
  by false e n later = let r = later n in (inr r.0, r.1)

-- ---- one for each part

pub part-has : (family : JointFamily) (parts : List PartTerm) (starts : List StartTerm) → length starts ≡ length parts → (part : PartTerm) → Member part parts
    → (start : StartTerm) × Member (walks_from family part start) (part_walks family parts starts)
part-has family [] starts e part m = absurd m
part-has family (p ∷ parts) [] e part m = absurd (omega (arith, e))
part-has family (p ∷ parts) (s ∷ starts) e part (inl same) = (s, inl (ap (λ (q : PartTerm). walks_from family q s) same))
part-has family (p ∷ parts) (s ∷ starts) e part (inr m) = let later = part-has family parts starts (omega (arith, e)) part m in (later.0, inr later.1)

-- where the walks from a part come from
pub walks-are : (family : JointFamily) (parts : List PartTerm) (starts : List StartTerm) (from : PartWalks) → Member from (part_walks family parts starts)
    → (part : PartTerm) × (Member part parts × ((start : StartTerm) × (from ≡ walks_from family part start)))
walks-are family [] starts from m = absurd m
walks-are family (p ∷ parts) [] from m = absurd m
walks-are family (p ∷ parts) (s ∷ starts) from (inl same) = (p, (inl refl, (s, same)))
walks-are family (p ∷ parts) (s ∷ starts) from (inr m) = let later = walks-are family parts starts from m in (later.0, (inr later.1.0, later.1.1))

-- ---- labels

node-has : (region : Option WalkRegion) (label : Option (List AffineForm)) → node_label (option_map (way_node region) label) ≡ label
node-has region None = refl
node-has region (Some label) = refl

pub nodes-have : (labels : List (Option (List AffineForm))) (regions : List (Option WalkRegion)) → map node_label (way_nodes labels regions) ≡ labels
nodes-have [] regions = refl
nodes-have (label ∷ labels) [] = cons-same _ _ _ _ (node-has None label) (nodes-have labels [])
nodes-have (label ∷ labels) (region ∷ regions) = cons-same _ _ _ _ (node-has region label) (nodes-have labels regions)

-- a vertex has the label of the labeling, in whatever regions walks go on
labels-same : (program : AffineProgram) (parameters : List ℤ) (family : JointFamily) (labels : LabelForms) (regions others : List (Option WalkRegion)) (label another : List AffineForm)
    (tree other : WalkTree) (vertex : ℕ) → vertex_label program (walks_with family labels regions label tree) parameters vertex ≡ vertex_label program (walks_with family labels others another other) parameters vertex
labels-same program parameters family labels regions others label another tree other vertex =
    ap
    (λ (nodes : List (Option (List AffineForm))). if nat_lt vertex (length (execution program parameters))
    then unwrap_or (option_map (λ (l : List AffineForm). values_at l (parameters ++ (instance_at program parameters vertex).values)) (label_at nodes (instance_at program parameters vertex).statement)) []
    else unwrap_or (label_of_cell (walks_with family labels regions label tree) parameters (cell_at program parameters vertex)) [])
    (nodes-have labels.nodes regions ∙ sym (nodes-have labels.nodes others))

-- so the walks from a part have those of their labeling
pub walk-labels : (program : AffineProgram) (parameters : List ℤ) (family : JointFamily) (part : PartTerm) (start : StartTerm) (vertex : ℕ)
    → vertex_label program (walks_from family part start).walks parameters vertex
    ≡ vertex_label program (way_walks family (record { labels = (walks_from family part start).labeling; regions = [] })) parameters vertex
walk-labels program parameters family part start vertex =
    labels-same program parameters family (labels_of family (way_at family start.way).labels) (way_at family start.way).regions [] (start_label part family) [] start.tree (take 0 []) vertex
