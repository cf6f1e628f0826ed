-- The pieces of the families of different arrays have different targets.
use Rattle.std.proofs.Common.{◌≡◌, ◌≢◌, refl, sym, ◌∙◌, ap, subst, ℕ, zero, suc, ◌<◌, List, [], ◌∷◌, ◌++◌, length, map, arith, Bool, true, false, inl, inr}
use Rattle.std.specs.Prelude.{◌⊎◌, Some, None, ◌==◌, if◌then◌else◌, filter}
use Rattle.std.specs.List.{AllByRecursion}
use Rattle.std.proofs.lemmas.Bool.{eqb-true, eqb-false}
use Rattle.base_laws.proofs.Lists.{All-append, All-weaken}
use Rattle.iolb_model.specs.Form.{AffineForm}
use Rattle.iolb_model.specs.Program.{AffineProgram, statement_at}
use Rattle.affine_form.specs.System.{AffineSystem}
use Rattle.dep_quast.specs.Context.{ReadOf, reference_of}
use Rattle.dep_quast.specs.Tree.{SelectionTree, leaf, test, source, input, empty, blank}
use Rattle.footprint_pieces.specs.declared.piece.Target.{Target}
use Rattle.footprint_pieces.specs.declared.piece.Target.TheVariants.{Cell, Instance}
use Rattle.footprint_pieces.specs.DisjointClaims.{pairwise_systems, same_target, shared_system, shared_systems, systems_with, systems_with_lists}
use Rattle.reuse_paths.specs.FamilyClaims.{start_rows}
use Rattle.reuse_paths.specs.FamilyPieces.{family_pieces, region_pieces}
use Rattle.reuse_paths.specs.Families.{FamilyForms, node_region}
use Rattle.reuse_paths.specs.LeafClaims.{LeafClaim}
use Rattle.dep_quast.specs.OpenLeaves.{OpenLeaf, form_at, no_at, open_leaves}
use Rattle.footprint_pieces.specs.Pieces.{FootprintPiece}
use Rattle.dep_quast.specs.Trees.{read_of}
use Rattle.reuse_paths.specs.WalkPieces.{entry_pieces, leaves_pieces, walk_pieces}
use Rattle.reuse_paths.specs.WalkSettings.{WalkSetting, region_context}
use Rattle.projective_bounds.specs.Families.{array_families, array_family, array_node, array_read, array_walk, entries_of, loops_label}
use Rattle.projective_bounds.specs.Trees.{KeepsLoops}
use Rattle.projective_bounds.proofs.Family.{AreWalked, IsWalked, tree-is}
use Rattle.projective_bounds.proofs.Leaves as at

-- a target is the array's cells, or, where the array is written, the instances
abbrev IsOf : AffineProgram → ℕ → Target → Type 0
IsOf program array target = (target ≡ Cell array) ⊎ ((target ≡ Instance 0) × ((statement_at program 0).writes.array ≡ array))

abbrev AreOf : AffineProgram → ℕ → List FootprintPiece → Type 0
AreOf program array pieces = AllByRecursion (λ (piece : FootprintPiece). IsOf program array piece.target) pieces

-- ---- the pieces of a family

module _ (program : AffineProgram) (trees : List (List SelectionTree)) (array : ℕ) (set : List ℕ) (weight : ℕ) where
  abbrev walk : WalkSetting
  walk = at.walk program trees array set weight

  abbrev vars : ℕ
  vars = at.vars program trees array set weight

  abbrev here : List AffineForm
  here = at.here program trees array set weight

  module _ (read : ℕ) (reads : (reference_of program (read_of 0 read)).array ≡ array) where
    abbrev reader : ReadOf
    reader = read_of 0 read

    both : (rows : List AffineForm) (xs ys : List OpenLeaf) (es fs : List LeafClaim) → length xs ≡ length es → AreOf program array (leaves_pieces walk reader rows xs es)
        → AreOf program array (leaves_pieces walk reader rows ys fs) → AreOf program array (leaves_pieces walk reader rows (xs ++ ys) (es ++ fs))
    both rows [] ys [] fs e h g = g
    both rows [] ys (c ∷ es) fs e h g = absurd (omega arith)
    both rows (x ∷ xs) ys [] fs e h g = absurd (omega arith)
    both rows (x ∷ xs) ys (c ∷ es) fs e h g =
        All-append (λ (piece : FootprintPiece). IsOf program array piece.target) (entry_pieces walk reader (rows ++ x.tests) x.origin c) (leaves_pieces walk reader rows (xs ++ ys) (es ++ fs))
        (first (entry_pieces walk reader (rows ++ x.tests) x.origin c) (leaves_pieces walk reader rows xs es) h)
        (both rows xs ys es fs (omega arith) (second (entry_pieces walk reader (rows ++ x.tests) x.origin c) (leaves_pieces walk reader rows xs es) h) g) where
          first : (ms bs : List FootprintPiece) → AreOf program array (ms ++ bs) → AreOf program array ms
          first [] bs p = tt
          first (a ∷ ms) bs p = (p.0, first ms bs p.1)

          second : (ms bs : List FootprintPiece) → AreOf program array (ms ++ bs) → AreOf program array bs
          second [] bs p = p
          second (a ∷ ms) bs p = second ms bs p.1

    tree-of : (rows tests : List AffineForm) (nested : ℕ) (tree : SelectionTree) → KeepsLoops program ((statement_at program 0).writes.array == array) set nested tree
        → AreOf program array (leaves_pieces walk reader rows (open_leaves vars here tests tree) (entries_of (length set) tree))
    tree-of rows tests nested (leaf (source claim)) keeps = (inr (ap Instance keeps.1, eqb-true (statement_at program 0).writes.array array keeps.0), tt)
    tree-of rows tests nested (leaf (input shown)) keeps = (inl (ap Cell reads), tt)
    tree-of rows tests nested (leaf (empty shown)) keeps = absurd keeps
    tree-of rows tests nested (leaf blank) keeps = absurd keeps
    tree-of rows tests zero (test form above below) keeps = absurd keeps
    tree-of rows tests (suc nested) (test form above below) keeps =
        both rows (open_leaves vars here (tests ++ form_at vars here form ∷ []) above) (open_leaves vars here (tests ++ no_at vars here form ∷ []) below) (entries_of (length set) above) (entries_of (length set) below)
        (at.as-many-leaves program trees array set weight (tests ++ form_at vars here form ∷ []) above)
        (tree-of rows (tests ++ form_at vars here form ∷ []) nested above keeps.0) (tree-of rows (tests ++ no_at vars here form ∷ []) nested below keeps.1)

  module _ (h : IsWalked program trees array set) where
    walk-of : (rows : List AffineForm) → AreOf program array (walk_pieces walk 0 rows (array_walk program trees array (length set)))
    walk-of rows =
        subst (λ (tree : SelectionTree). AreOf program array (leaves_pieces walk (read_of 0 (array_read program array)) rows (open_leaves vars here [] tree) (entries_of (length set) tree)))
        (sym (tree-is program trees array set h)) (tree-of (array_read program array) h.reads rows [] 16 h.tree h.keeps)

    node-of : AreOf program array (region_pieces walk 0 (node_region (array_node program trees array set)))
    node-of = by ((statement_at program 0).writes.array == array) where
      by : (b : Bool) → AreOf program array (region_pieces walk 0 (node_region (if b then Some (record { label = loops_label program set; region = Some (record { rows = []; tree = array_walk program trees array (length set) }) }) else None)))
      by true = walk-of (region_context walk 0 [])
      by false = tt

    pub family-of : (nest : List (AffineForm × AffineForm)) → AreOf program array (family_pieces program trees 0 nest (array_family program trees array set weight))
    family-of nest =
        All-append (λ (piece : FootprintPiece). IsOf program array piece.target) (walk_pieces walk 0 (region_context walk 0 (start_rows walk 0 nest)) (array_walk program trees array (length set)))
        (region_pieces walk 0 (node_region (array_node program trees array set)) ++ []) (walk-of (region_context walk 0 (start_rows walk 0 nest)))
        (All-append (λ (piece : FootprintPiece). IsOf program array piece.target) (region_pieces walk 0 (node_region (array_node program trees array set))) [] node-of tt)

-- ---- different targets

other-target : (program : AffineProgram) (a b : ℕ) (t u : Target) → a ≢ b → IsOf program a t → IsOf program b u → same_target t u ≡ false
other-target program a b t u not (inl p) (inl q) = ap (λ (x : Target). same_target x u) p ∙ ap (same_target (Cell a)) q ∙ differ (a == b) refl where
  differ : (c : Bool) → c ≡ (a == b) → (a == b) ≡ false
  differ true e = absurd (not (eqb-true a b (sym e)))
  differ false e = sym e
other-target program a b t u not (inl p) (inr q) = ap (λ (x : Target). same_target x u) p ∙ ap (same_target (Cell a)) q.0
other-target program a b t u not (inr p) (inl q) = ap (λ (x : Target). same_target x u) p.0 ∙ ap (same_target (Instance 0)) q
other-target program a b t u not (inr p) (inr q) = absurd (not (sym p.1 ∙ q.1))

filter-none : {X : Type 0} (passes : X → Bool) (xs : List X) → AllByRecursion (λ (x : X). passes x ≡ false) xs → filter passes xs ≡ []
filter-none passes [] h = refl
filter-none passes (x ∷ xs) h = ap (λ (b : Bool). if b then x ∷ filter passes xs else filter passes xs) h.0 ∙ filter-none passes xs h.1

module _ (program : AffineProgram) (a b : ℕ) (not : a ≢ b) where
  none-with : (piece : FootprintPiece) (others : List FootprintPiece) → IsOf program a piece.target → AreOf program b others → systems_with program others piece ≡ []
  none-with piece others p q =
      ap (map (shared_system program piece)) (filter-none (λ (other : FootprintPiece). same_target piece.target other.target) others
      (All-weaken (λ (other : FootprintPiece). IsOf program b other.target) (λ (other : FootprintPiece). same_target piece.target other.target ≡ false) others
      (λ other h. other-target program a b piece.target other.target not p h) q))

  none-shared : (first second : List FootprintPiece) → AreOf program a first → AreOf program b second → shared_systems program first second ≡ []
  none-shared [] second p q = refl
  none-shared (piece ∷ first) second p q =
      ap (λ (ss : List AffineSystem). ss ++ shared_systems program first second) (none-with piece second p.0 q) ∙ none-shared first second p.1 q

-- the pieces of an array behind one
abbrev AreBeyond : AffineProgram → ℕ → List FootprintPiece → Type 0
AreBeyond program a pieces = (b : ℕ) × (a < b) × AreOf program b pieces

none-among : (program : AffineProgram) (a : ℕ) (pieces : List FootprintPiece) (lists : List (List FootprintPiece)) → AreOf program a pieces → AllByRecursion (AreBeyond program a) lists
    → systems_with_lists program pieces lists ≡ []
none-among program a pieces [] p q = refl
none-among program a pieces (others ∷ lists) p q =
    let not : a ≢ q.0.0 = λ e. absurd (omega (arith, q.0.1, e)) in
    ap (λ (ss : List AffineSystem). ss ++ systems_with_lists program pieces lists) (none-shared program a q.0.0 not pieces others p q.0.2) ∙ none-among program a pieces lists p q.1

module _ (program : AffineProgram) (trees : List (List SelectionTree)) (nest : List (AffineForm × AffineForm)) where
  abbrev pieces_in : ℕ → List (List ℕ) → List ℕ → List (List FootprintPiece)
  pieces_in first sets weights = map (family_pieces program trees 0 nest) (array_families program trees first sets weights)

  abbrev one_in : Bool → ℕ → List ℕ → ℕ → List FamilyForms
  one_in b first set weight = if b then [] else array_family program trees first set weight ∷ []

  beyond : (a first : ℕ) (sets : List (List ℕ)) (weights : List ℕ) → a < first → AreWalked program trees first sets weights → AllByRecursion (AreBeyond program a) (pieces_in first sets weights)
  beyond a first [] weights less h = tt
  beyond a first (set ∷ sets) [] less h = tt
  beyond a first (set ∷ sets) (weight ∷ weights) less h = by (weight == 0) refl (beyond a (suc first) sets weights (omega arith) h.1) where
    by : (b : Bool) → b ≡ (weight == 0) → AllByRecursion (AreBeyond program a) (pieces_in (suc first) sets weights)
        → AllByRecursion (AreBeyond program a) (map (family_pieces program trees 0 nest) (one_in b first set weight ++ array_families program trees (suc first) sets weights))
    by true e rest = rest
    by false e rest = ((first, less, family-of program trees first set weight (h.0 (eqb-false weight 0 (sym e))) nest), rest)

  pub none-pairwise : (first : ℕ) (sets : List (List ℕ)) (weights : List ℕ) → AreWalked program trees first sets weights → pairwise_systems program (pieces_in first sets weights) ≡ []
  none-pairwise first [] weights h = refl
  none-pairwise first (set ∷ sets) [] h = refl
  none-pairwise first (set ∷ sets) (weight ∷ weights) h = by (weight == 0) refl (none-pairwise (suc first) sets weights h.1) where
    by : (b : Bool) → b ≡ (weight == 0) → pairwise_systems program (pieces_in (suc first) sets weights) ≡ []
        → pairwise_systems program (map (family_pieces program trees 0 nest) (one_in b first set weight ++ array_families program trees (suc first) sets weights)) ≡ []
    by true e rest = rest
    by false e rest =
        ap (λ (ss : List AffineSystem). ss ++ pairwise_systems program (pieces_in (suc first) sets weights))
        (none-among program first (family_pieces program trees 0 nest (array_family program trees first set weight)) (pieces_in (suc first) sets weights)
        (family-of program trees first set weight (h.0 (eqb-false weight 0 (sym e))) nest) (beyond first (suc first) sets weights (omega arith) h.1)) ∙ rest
