-- The families of arrays: all that they claim holds, and they fit.
use Rattle.std.proofs.Common.{◌≡◌, ◌≢◌, refl, sym, ◌∙◌, ap, subst, ℕ, suc, ◌+◌, ◌*◌, ◌<◌, ◌≤◌, List, [], ◌∷◌, ◌++◌, length, map, get_or, arith, Bool, true, false}
use Rattle.std.specs.Prelude.{Some, None, slice_get, ◌==◌, if◌then◌else◌, pos, codes}
use Rattle.std.specs.List.{AllByRecursion, range_with_len}
use Rattle.std.proofs.lemmas.Bool.{eqb-true, eqb-false}
use Rattle.base_laws.proofs.Lists.{All-weaken}
use Rattle.std.proofs.lemmas.List.{length-append, length-map}
use Rattle.base_laws.proofs.Ring.{one-mul}
use Rattle.iolb_model.specs.Form.{AffineForm}
use Rattle.iolb_model.specs.Program.{Array, AffineProgram, statement_at}
use Rattle.projective.specs.Turns.{width}
use Rattle.claims.specs.Claims.{AllHold, numbered}
use Rattle.claims.specs.declared.place.Step.{Step}
use Rattle.claims.specs.declared.place.Step.TheVariants.{Key, Index}
use Rattle.claims.proofs.Laws.{AllHold-append}
use Rattle.execution_laws.specs.Inverse.{scaled_entry}
use Rattle.affine_form.specs.Combination.{coefficient_of}
use Rattle.affine_form.specs.Matrix.{IntegerMatrix, entry}
use Rattle.affine_form.specs.Rows.{BoundsFit, IsSmallOver, widened, within_rows}
use Rattle.affine_form.specs.System.{AllOver}
use Rattle.affine_form.proofs.Meaning.{length-within_rows}
use Rattle.affine_form.proofs.RowLemmas.{length-variables, variables-over}
use Rattle.affine_program.specs.Domain.{bounds_at, depth_of, domain_rows, guards_at}
use Rattle.dep_quast.specs.Context.{parameter_point, reference_of}
use Rattle.dep_quast.specs.Tree.{SelectionTree, leaf_count}
use Rattle.domain_count.specs.Count.{rows_before}
use Rattle.reuse_paths.specs.Families.{FamilyForms, node_label}
use Rattle.reuse_paths.specs.FamilyClaims.{family_claims, label_rows, node_walk, start_rows, start_walk}
use Rattle.reuse_paths.specs.FamilyFits.{CountedFits, FamilyFits, NodeFits}
use Rattle.dep_quast.specs.Quasts.{tree_at, tree_for, tree_or_blank}
use Rattle.dep_quast.specs.OpenLeaves.{open_leaves}
use Rattle.dep_quast.specs.Trees.{read_of}
use Rattle.reuse_paths.specs.WalkClaims.{leaves_claims, walk_claims}
use Rattle.reuse_paths.specs.WalkFits.{AreCellLabels, EntriesFit, IsLabel, IsLabelIf, WalkFits}
use Rattle.reuse_paths.specs.WalkSettings.{region_context, region_values}
use Rattle.projective.proofs.Units.{unit, unit-at, unit-other, unit-same}
use Rattle.projective.proofs.Facts.{rows-bare}
use Rattle.projective_bounds.specs.Families.{array_family, array_node, array_read, array_subscripts, array_walk, cell_form, cell_label, entries_of, label_if, loop_form, loops_label, place_among}
use Rattle.projective_bounds.specs.Trees.{KeepsLoops}
use Rattle.projective_bounds.proofs.ReaderLabels.{none}
use Rattle.projective_bounds.proofs.Leaves as at

-- What is known of an array that is read: the loops that stand in its reference, and its source tree.
pub record IsWalked (program : AffineProgram) (trees : List (List SelectionTree)) (array : ℕ) (set : List ℕ) : Type 0 where
  pub inside : AllByRecursion (λ (loop : ℕ). loop < depth_of program 0) set
  pub read : array_read program array < length (statement_at program 0).reads
  pub reads : (reference_of program (read_of 0 (array_read program array))).array ≡ array
  pub known : array < length program.arrays
  pub rank : (a : Array) → slice_get program.arrays array ≡ Some a → length (array_subscripts program array) ≡ a.rank
  pub over : AllOver (width program) (array_subscripts program array)
  pub stand : AllByRecursion (λ (loop : ℕ). (place_among (array_subscripts program array) (length program.parameters + loop) < length (array_subscripts program array))
      × (get_or (array_subscripts program array) (place_among (array_subscripts program array) (length program.parameters + loop)) none ≡ loop_form program loop)) set
  pub tree : SelectionTree
  pub there : tree_at trees 0 (array_read program array) ≡ Some tree
  pub few : leaf_count tree ≤ 64
  pub keeps : KeepsLoops program ((statement_at program 0).writes.array == array) set 16 tree

-- the arrays from one on are so whose weight isn't 0
abbrev pub AreWalked : AffineProgram → List (List SelectionTree) → ℕ → List (List ℕ) → List ℕ → Type 0
AreWalked program trees array [] weights = Unit {0}
AreWalked program trees array (set ∷ sets) [] = Unit {0}
AreWalked program trees array (set ∷ sets) (weight ∷ weights) = ((weight ≢ 0) → IsWalked program trees array set) × AreWalked program trees (suc array) sets weights

pub tree-is : (program : AffineProgram) (trees : List (List SelectionTree)) (array : ℕ) (set : List ℕ) (h : IsWalked program trees array set) → tree_for trees (read_of 0 (array_read program array)) ≡ h.tree
tree-is program trees array set h = ap tree_or_blank h.there

-- What is known of the nest of all instances, and of a matrix of coordinates.
pub record IsNest (program : AffineProgram) (nest : List (AffineForm × AffineForm)) (matrix : IntegerMatrix) : Type 0 where
  pub one : length program.statements ≡ 1
  pub around : bounds_at program 0 ≡ nest
  pub bare : guards_at program 0 ≡ []
  pub bounds : BoundsFit (length program.parameters) nest
  pub few : length nest ≤ 6
  pub assumed : length program.assumptions ≤ 32
  pub rows : matrix.rows ≡ length nest
  pub columns : matrix.columns ≡ length nest
  pub entries : (row column : ℕ) → row < length nest → column < length nest → entry matrix row column ≡ scaled_entry 1 row column

module _ (program : AffineProgram) (trees : List (List SelectionTree)) (array : ℕ) (set : List ℕ) (weight : ℕ) (nest : List (AffineForm × AffineForm)) (matrix : IntegerMatrix)
    (h : IsWalked program trees array set) (g : IsNest program nest matrix) where
  abbrev family : FamilyForms
  family = array_family program trees array set weight

  abbrev p : ℕ
  p = length program.parameters

  abbrev d : ℕ
  d = depth_of program 0

  depth : d ≡ length nest
  depth = ap (λ loops. length loops) g.around

  -- ---- the start label

  coefficient-is : (loop column : ℕ) → loop < d → coefficient_of (p + column) (loop_form program loop) ≡ scaled_entry 1 loop column
  coefficient-is loop column below = unit-at (width program) (p + loop) (p + column) (omega arith) ∙ by (loop == column) refl where
    by : (b : Bool) → b ≡ (loop == column) → unit (p + loop) (p + column) ≡ (if b then pos 1 else pos 0)
    by true e = ap (λ (n : ℕ). unit (p + n) (p + column)) (eqb-true loop column (sym e)) ∙ unit-same (p + column)
    by false e = unit-other (p + loop) (p + column) (λ same. let not : loop ≢ column = eqb-false loop column (sym e) in not (omega arith))

  rows-hold : (place : List Step) (index : ℕ) (loops : List ℕ) → AllByRecursion (λ (loop : ℕ). loop < d) loops → AllHold (label_rows matrix 1 p d place index loops (loops_label program loops))
  rows-hold place index [] inside = tt
  rows-hold place index (loop ∷ loops) inside = (
    λ column below. coefficient-is loop column inside.0 ∙ sym (g.entries loop column (omega (arith, depth, inside.0)) (omega (arith, depth, below))) ∙ sym (one-mul (entry matrix loop column)),
    rows-hold place (suc index) loops inside.1,
  )

  -- ---- the walks

  context-many : (rows : List AffineForm) → length (region_context (at.walk program trees array set weight) 0 rows) ≡ length program.assumptions + 2 * length nest + length rows
  context-many rows =
      let v = at.vars program trees array set weight in
      let first = map (widened v) (rows_before program []).rows in
      let domain = domain_rows program 0 v (parameter_point program v) (region_values (at.walk program trees array set weight) 0) in
      let inner : length domain ≡ 2 * length nest =
      ap (λ goals. length goals) (rows-bare program 0 v (parameter_point program v) (region_values (at.walk program trees array set weight) 0) g.bare)
      ∙ ap (λ loops. length (within_rows v loops (parameter_point program v) (region_values (at.walk program trees array set weight) 0))) g.around
      ∙ length-within_rows v nest (parameter_point program v) (region_values (at.walk program trees array set weight) 0) (length-variables v (p + 0) d ∙ depth) in
      omega (
        arith,
        length-append (first ++ domain) rows,
        length-append first domain,
        inner,
        length-map (rows_before program []).rows (widened v),
        length-append (map (widened (p + 0)) program.assumptions) [],
        length-map program.assumptions (widened (p + 0)),
      )

  walk-holds : (place : List Step) (rows : List AffineForm) → length rows ≤ 12
      → AllHold (walk_claims 15 (at.walk program trees array set weight) 0 place (region_context (at.walk program trees array set weight) 0 rows) (array_walk program trees array (length set)))
  walk-holds place rows short =
      subst (λ (tree : SelectionTree). AllHold (leaves_claims 15 (at.walk program trees array set weight) (read_of 0 (array_read program array)) (place ++ Key (codes "leaves") ∷ [])
      (region_context (at.walk program trees array set weight) 0 rows) 0 (open_leaves (at.vars program trees array set weight) (at.here program trees array set weight) [] tree) (entries_of (length set) tree))) (sym (tree-is program trees array set h))
      (at.tree-holds program trees array set weight h.inside (array_read program array) h.known h.reads h.over h.stand refl (place ++ Key (codes "leaves") ∷ []) (region_context (at.walk program trees array set weight) 0 rows)
      16 [] h.tree 0 h.keeps (omega (arith, context-many rows, g.few, g.assumed)))

  start-many : length (start_rows (at.walk program trees array set weight) 0 nest) ≡ 2 * length nest
  start-many =
      let v = at.vars program trees array set weight in
      length-within_rows v nest (parameter_point program v) (region_values (at.walk program trees array set weight) 0) (length-variables v (p + 0) d ∙ depth)

  node-holds : (place : List Step) → AllHold (node_walk program trees [] family place 0 (array_node program trees array set))
  node-holds place = by ((statement_at program 0).writes.array == array) where
    by : (b : Bool) → AllHold (node_walk program trees [] family place 0 (if b then Some (record { label = loops_label program set; region = Some (record { rows = []; tree = array_walk program trees array (length set) }) }) else None))
    by true = walk-holds (place ++ Index 0 ∷ Key (codes "region") ∷ Key (codes "tree") ∷ []) [] (omega arith)
    by false = tt

  pub family-holds : (place : List Step) → AllHold (family_claims program trees 0 nest matrix [] family place)
  family-holds place =
      AllHold-append
      (label_rows matrix 1 p d (place ++ Key (codes "start") ∷ Key (codes "label") ∷ []) 0 set (loops_label program set) ++ start_walk program trees 0 nest [] family place)
      (numbered (node_walk program trees [] family (place ++ Key (codes "nodes") ∷ [])) 0 family.nodes)
      (AllHold-append (label_rows matrix 1 p d (place ++ Key (codes "start") ∷ Key (codes "label") ∷ []) 0 set (loops_label program set)) (start_walk program trees 0 nest [] family place)
      (rows-hold (place ++ Key (codes "start") ∷ Key (codes "label") ∷ []) 0 set h.inside)
      (walk-holds (place ++ Key (codes "start") ∷ Key (codes "tree") ∷ []) (start_rows (at.walk program trees array set weight) 0 nest) (omega (arith, start-many, g.few))))
      (AllHold-append (node_walk program trees [] family (place ++ Key (codes "nodes") ∷ []) 0 (array_node program trees array set)) [] (node-holds (place ++ Key (codes "nodes") ∷ [])) tt)

  -- ---- they fit

  label-fits : IsLabel (length set) (width program) (loops_label program set)
  label-fits = record { each = length-map set (loop_form program); over = own set } where
    own : (loops : List ℕ) → AllByRecursion (IsSmallOver (width program)) (loops_label program loops)
    own [] = tt
    own (loop ∷ loops) = ((variables-over (width program) (p + loop) 1).0, own loops)

  cells-over : (forms : List AffineForm) (loops : List ℕ) → AllByRecursion (IsSmallOver (p + length forms)) (cell_label program forms loops)
  cells-over forms [] = tt
  cells-over forms (loop ∷ loops) = ((variables-over (p + length forms) (p + place_among forms (p + loop)) 1).0, cells-over forms loops)

  cell-fits : (rank : ℕ) → length (array_subscripts program array) ≡ rank → IsLabel (length set) (p + rank) (cell_label program (array_subscripts program array) set)
  cell-fits rank e = subst (λ (n : ℕ). IsLabel (length set) (p + n) (cell_label program (array_subscripts program array) set)) e (record {
    each = length-map set (cell_form program (array_subscripts program array));
    over = cells-over (array_subscripts program array) set;
  })

  -- labels of the arrays from one on
  inputs-fit : (arrays : List Array) (first : ℕ) → ((k : ℕ) (a : Array) → slice_get arrays k ≡ Some a → first + k ≡ array → length (array_subscripts program array) ≡ a.rank)
      → AreCellLabels program (length set) arrays (map (label_if program array set) (range_with_len first (length arrays)))
  inputs-fit [] first ranks = tt
  inputs-fit (a ∷ arrays) first ranks = (
    by (first == array) refl,
    inputs-fit arrays (first + 1) (λ k b there e. ranks (suc k) b there (omega arith)),
  ) where
    by : (b : Bool) → b ≡ (first == array) → IsLabelIf (length set) (p + a.rank) (if b then Some (cell_label program (array_subscripts program array) set) else None)
    by true e = cell-fits a.rank (ranks 0 a refl (let same = eqb-true first array (sym e) in omega arith))
    by false e = tt

  node-fits : IsLabelIf (length set) (width program) (node_label (array_node program trees array set))
  node-fits = by ((statement_at program 0).writes.array == array) where
    by : (b : Bool) → IsLabelIf (length set) (width program) (node_label (if b then Some (record { label = loops_label program set; region = Some (record { rows = []; tree = array_walk program trees array (length set) }) }) else None))
    by true = label-fits
    by false = tt

  walk-fits : WalkFits (at.walk program trees array set weight) 0 (array_walk program trees array (length set))
  walk-fits = record {
    read_fits = record { statement = omega (arith, g.one); read = h.read };
    there = h.there ∙ ap Some (sym (tree-is program trees array set h));
    entries_fit = subst (λ (tree : SelectionTree). EntriesFit (at.walk program trees array set weight) (read_of 0 (array_read program array))
        (open_leaves (at.vars program trees array set weight) (at.here program trees array set weight) [] tree) (entries_of (length set) tree)) (sym (tree-is program trees array set h))
        (at.tree-fits program trees array set weight h.inside (array_read program array) h.known h.reads h.over h.stand refl 16 [] h.tree h.keeps);
  }

  region-fits : NodeFits program trees [] family 0 (array_node program trees array set)
  region-fits = by ((statement_at program 0).writes.array == array) where
    by : (b : Bool) → NodeFits program trees [] family 0 (if b then Some (record { label = loops_label program set; region = Some (record { rows = []; tree = array_walk program trees array (length set) }) }) else None)
    by true = (tt, walk-fits)
    by false = tt

  pub counted : CountedFits program 0 nest matrix
  counted = record { there = omega (arith, g.one); each = sym depth; bounds = g.bounds; rows = g.rows ∙ sym depth; columns = λ some. g.columns ∙ sym depth }

  pub family-fits : FamilyFits program trees 0 nest matrix [] family
  family-fits = record {
    counted = counted;
    scale = omega arith;
    set = All-weaken (λ (loop : ℕ). loop < d) (λ (row : ℕ). row < matrix.rows) set (λ loop below. omega (arith, below, depth, g.rows)) h.inside;
    start_label = label-fits;
    labels = record {
      instances = (node-fits, tt);
      each = sym g.one;
      cells = inputs-fit program.arrays 0 (λ k a there e. h.rank a (subst (λ (n : ℕ). slice_get program.arrays n ≡ Some a) (omega arith) there));
      credits = tt;
    };
    start = walk-fits;
    regions = (region-fits, tt);
  }
