-- The families of a projective program's whole domain: for each array the walks back from the read of it along its sources,
-- whose words all have as label the values of the loops that stand in the array's reference. (Olivry et al. 2020; Dinh and
-- Demmel 2020.)
use Rattle.std.specs.Prelude.{ℕ, suc, ◌+◌, Bool, not, ◌==◌, if◌then◌else◌, pos, List, [], ◌∷◌, ◌++◌, map, length, Option, Some, None, slice_index_or}
use Rattle.std.specs.List.{range_with_len}
use Rattle.std.specs.Ordering.{int_eq}
use Rattle.iolb_model.specs.Form.{AffineForm}
use Rattle.iolb_model.specs.Program.{Access, AffineProgram, read_at, statement_at}
use Rattle.projective.specs.Turns.{width}
use Rattle.affine_form.specs.Rows.{variable}
use Rattle.dep_quast.specs.Tree.{SelectionTree, leaf, test, source, input, empty, blank}
use Rattle.reuse_paths.specs.Families.{FamilyForms, NodeForms}
use Rattle.reuse_paths.specs.LeafClaims.{LeafClaim, goes_on, stops}
use Rattle.dep_quast.specs.Quasts.{tree_for}
use Rattle.dep_quast.specs.Trees.{read_of}
use Rattle.reuse_paths.specs.Walks.{WalkTree, take}
use Rattle.projective_bounds.specs.Multipliers.{labels_agree}

-- ---- labels

-- the variable of a loop
abbrev pub loop_form : AffineProgram → ℕ → AffineForm
loop_form program loop = variable (width program) (length program.parameters + loop)

-- the values of these loops
abbrev pub loops_label : AffineProgram → List ℕ → List AffineForm
loops_label program loops = map (loop_form program) loops

-- whether a variable has a coefficient in a form
abbrev pub has_variable : ℕ → AffineForm → Bool
has_variable place form = not (int_eq (slice_index_or form.coefficients place (pos 0)) (pos 0))

-- the place of the first form in which a variable has a coefficient
abbrev pub place_among : List AffineForm → ℕ → ℕ
place_among [] place = 0
place_among (form ∷ forms) place = if has_variable place form then 0 else suc (place_among forms place)

-- the label of a cell: for each of these loops the subscript in which it stands, over the parameters and the subscripts
abbrev pub cell_form : AffineProgram → List AffineForm → ℕ → AffineForm
cell_form program subscripts loop =
    variable (length program.parameters + length subscripts) (length program.parameters + place_among subscripts (length program.parameters + loop))

abbrev pub cell_label : AffineProgram → List AffineForm → List ℕ → List AffineForm
cell_label program subscripts loops = map (cell_form program subscripts) loops

-- ---- walks

-- the number of the first reference to an array
abbrev pub first_to : ℕ → List Access → ℕ
first_to array [] = 0
first_to array (access ∷ accesses) = if access.array == array then 0 else suc (first_to array accesses)

-- the entries at the leaves of a source tree, for labels of so many forms: the walk goes on at a source, and stops at an input
abbrev pub entries_of : ℕ → SelectionTree → List LeafClaim
entries_of size (leaf (source claim)) = goes_on [] (labels_agree size) ∷ []
entries_of size (leaf (input shown)) = stops (labels_agree size) ∷ []
entries_of size (leaf (empty shown)) = []
entries_of size (leaf blank) = stops (labels_agree size) ∷ []
entries_of size (test form above below) = entries_of size above ++ entries_of size below

-- the read of an array, its subscripts, and the walk along its sources
abbrev pub array_read : AffineProgram → ℕ → ℕ
array_read program array = first_to array (statement_at program 0).reads

abbrev pub array_subscripts : AffineProgram → ℕ → List AffineForm
array_subscripts program array = (read_at program 0 (array_read program array)).subscripts

abbrev pub array_walk : AffineProgram → List (List SelectionTree) → ℕ → ℕ → WalkTree
array_walk program trees array size = take (array_read program array) (entries_of size (tree_for trees (read_of 0 (array_read program array))))

-- ---- families

-- walks go on from all instances, where the array is written
abbrev pub array_node : AffineProgram → List (List SelectionTree) → ℕ → List ℕ → Option NodeForms
array_node program trees array set =
    if (statement_at program 0).writes.array == array then
    Some (record { label = loops_label program set; region = Some (record { rows = []; tree = array_walk program trees array (length set) }) })
    else None

-- the cells of the array alone have a label
abbrev pub label_if : AffineProgram → ℕ → List ℕ → ℕ → Option (List AffineForm)
label_if program array set other = if other == array then Some (cell_label program (array_subscripts program array) set) else None

abbrev pub array_inputs : AffineProgram → ℕ → List ℕ → List (Option (List AffineForm))
array_inputs program array set = map (label_if program array set) (range_with_len 0 (length program.arrays))

-- the family of an array, in whose reference these loops stand
abbrev pub array_family : AffineProgram → List (List SelectionTree) → ℕ → List ℕ → ℕ → FamilyForms
array_family program trees array set weight = record {
  scale = 1;
  set = set;
  weight = weight;
  start_label = loops_label program set;
  start = array_walk program trees array (length set);
  nodes = array_node program trees array set ∷ [];
  inputs = array_inputs program array set;
}

-- those of the arrays from one on whose weight isn't 0
abbrev pub array_families : AffineProgram → List (List SelectionTree) → ℕ → List (List ℕ) → List ℕ → List FamilyForms
array_families program trees array [] weights = []
array_families program trees array (set ∷ sets) [] = []
array_families program trees array (set ∷ sets) (weight ∷ weights) =
    (if weight == 0 then [] else array_family program trees array set weight ∷ []) ++ array_families program trees (suc array) sets weights
