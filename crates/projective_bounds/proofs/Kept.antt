-- Source trees by their shapes.
use Rattle.std.proofs.Common.{◌≡◌, refl, sym, ◌∙◌, ap, subst, ℕ, zero, suc, ◌+◌, ◌<◌, List, [], ◌∷◌, ◌++◌, length, get_or, arith, Bool, true, false}
use Rattle.std.specs.Prelude.{Some, ◌||◌, ◌==◌, if◌then◌else◌, nat_lt, negsuc}
use Rattle.std.specs.List.{AllByRecursion, range_with_len}
use Rattle.std.proofs.lemmas.Bool.{eq-eqb, eqb-true}
use Rattle.base_laws.proofs.Lists.{All-weaken}
use Rattle.iolb_model.specs.Form.{AffineForm}
use Rattle.iolb_model.specs.Program.{Access, AffineProgram, read_at, statement_at}
use Rattle.affine_form.specs.Form.{variables}
use Rattle.affine_form.specs.Rows.{IsSmallOver, widened}
use Rattle.affine_program.specs.Domain.{bounds_at, depth_of}
use Rattle.dep_quast.specs.Context.{no_row, variables_at}
use Rattle.dep_quast.specs.Tree.{SelectionTree, leaf, test, source, input, empty, blank}
use Rattle.dep_quast.specs.Truth.{FitsUnder}
use Rattle.certificate_fit.specs.Limits.{IsNestedTree}
use Rattle.projective.specs.Projective.{IsProjective, coordinates, shifted_variable, stands_in}
use Rattle.flow_deps.specs.Shapes.{last_write, no_write, shape_of, split}
use Rattle.projective.specs.SourceTrees.{AreSourceTrees, IsSourceTree, read_number, turns_shape}
use Rattle.projective.specs.Turns.{is_kept, later_turn, turn_before, turn_value, turn_values, width}
use Rattle.projective_bounds.specs.Families.{loop_form}
use Rattle.projective_bounds.specs.Trees.{HaveKeepingTrees, KeepsLoops}
use Rattle.projective_bounds.proofs.ReaderLabels.{none}
use Rattle.projective_bounds.proofs.Readings.{filter-both, range-below}
use Rattle.projective.proofs.ProjectiveFacts.{read-same}
use Rattle.projective.proofs.ReadTrees.{tree-is, tree-there, tree_of_read}
use Rattle.projective_bounds.specs.KeptLaws.{SourceTreesKeepLoops}

-- ---- the values one turn before

turn-at : (program : AffineProgram) (loop place k : ℕ) (loops : List (AffineForm × AffineForm)) → k < length loops → (upper : AffineForm) × (get_or (turn_values program loop place loops) k none ≡ turn_value program loop (place + k) upper)
turn-at program loop place k [] below = absurd (omega arith)
turn-at program loop place zero (bounds ∷ loops) below = (bounds.1, ap (λ (n : ℕ). turn_value program loop n bounds.1) (back place)) where
  back : (n : ℕ) → n ≡ n + 0
  back n = omega arith
turn-at program loop place (suc k) (bounds ∷ loops) below =
    let there = turn-at program loop (suc place) k loops (omega arith) in (there.0, there.1 ∙ ap (λ (n : ℕ). turn_value program loop n there.0) (moved place k)) where
      moved : (m n : ℕ) → suc m + n ≡ m + suc n
      moved m n = omega arith

-- a loop that stands in the reference has the reader's value
kept-value : (program : AffineProgram) (loop place : ℕ) (upper : AffineForm) → is_kept program loop ≡ false → is_kept program place ≡ true → turn_value program loop place upper ≡ loop_form program place
kept-value program loop place upper out stands = by (place == loop) refl where
  either : (b c : Bool) → c ≡ true → (if b || c then loop_form program place else widened (width program) upper) ≡ loop_form program place
  either true c e = refl
  either false true e = refl
  either false false e = absurd cc

  by : (b : Bool) → b ≡ (place == loop) → turn_value program loop place upper ≡ loop_form program place
  by true e = let same : place ≡ loop = eqb-true place loop (sym e) in let clash : true ≡ false = sym stands ∙ ap (is_kept program) same ∙ out in absurd cc
  by false e =
      ap (λ (b : Bool). if b then shifted_variable (width program) (length program.parameters + place) (negsuc 0)
      else (if nat_lt place loop || is_kept program place then loop_form program place else widened (width program) upper)) (sym e)
      ∙ either (nat_lt place loop) (is_kept program place) stands

-- a tree whose shape is an input
input-keeps : (program : AffineProgram) (set : List ℕ) (written : Bool) (nested : ℕ) (tree : SelectionTree) → shape_of tree ≡ no_write → KeepsLoops program written set nested tree
input-keeps program set written nested (leaf (source claim)) e = absurd cc
input-keeps program set written nested (leaf (input shown)) e = tt
input-keeps program set written nested (leaf (empty shown)) e = absurd cc
input-keeps program set written nested (leaf blank) e = absurd cc
input-keeps program set written nested (test form above below) e = absurd cc

module _ (program : AffineProgram) (set : List ℕ) (kept : AllByRecursion (λ (l : ℕ). (l < depth_of program 0) × (is_kept program l ≡ true)) set) where
  point-keeps : (loop : ℕ) → is_kept program loop ≡ false → (loops : List ℕ) → AllByRecursion (λ (l : ℕ). (l < depth_of program 0) × (is_kept program l ≡ true)) loops
      → AllByRecursion (λ (l : ℕ). get_or (turn_before program loop) l none ≡ loop_form program l) loops
  point-keeps loop out [] h = tt
  point-keeps loop out (l ∷ loops) h =
      let at = turn-at program loop 0 l (bounds_at program 0) h.0.0 in
      (at.1 ∙ ap (λ (n : ℕ). turn_value program loop n at.0) (front l) ∙ kept-value program loop l at.0 out h.0.1, point-keeps loop out loops h.1) where
        front : (n : ℕ) → 0 + n ≡ n
        front n = omega arith

  -- ---- trees of these shapes

  module _ (read : ℕ) where
    source-keeps : (nested loop : ℕ) (tests : List AffineForm) (tree : SelectionTree) → is_kept program loop ≡ false → shape_of tree ≡ last_write 0 loop (turn_before program loop)
        → FitsUnder program (read_number read) tests tree → KeepsLoops program true set nested tree
    source-keeps nested loop tests (leaf (source claim)) out e fits =
        let statement : claim.statement ≡ 0 = cc in
        let point : claim.point ≡ turn_before program loop = cc in (
          refl,
          statement,
          fits.there.point ∙ ap (depth_of program) statement,
          All-weaken (IsSmallOver (width program)) (λ (form : AffineForm). variables form ≡ width program) claim.point (λ form small. small.over) fits.there.forms,
          subst (λ (values : List AffineForm). AllByRecursion (λ (l : ℕ). get_or values l none ≡ loop_form program l) set) (sym point) (point-keeps loop out set kept),
        )
    source-keeps nested loop tests (leaf (input shown)) out e fits = absurd cc
    source-keeps nested loop tests (leaf (empty shown)) out e fits = absurd cc
    source-keeps nested loop tests (leaf blank) out e fits = absurd cc
    source-keeps nested loop tests (test form above below) out e fits = absurd cc

    tree-keeps : (loop nested : ℕ) (tests : List AffineForm) (tree : SelectionTree) → shape_of tree ≡ turns_shape program loop → FitsUnder program (read_number read) tests tree → IsNestedTree nested tree
        → KeepsLoops program true set nested tree
    tree-keeps zero nested tests tree e fits small = input-keeps program set true nested tree e
    tree-keeps (suc loop) nested tests tree e fits small = by (is_kept program loop) refl e (λ f. tree-keeps loop nested tests tree f fits small) (λ n ts t f g s. tree-keeps loop n ts t f g s) where
      parted : (n : ℕ) (t : SelectionTree) → is_kept program loop ≡ false → shape_of t ≡ split (later_turn program loop) (last_write 0 loop (turn_before program loop)) (turns_shape program loop)
          → FitsUnder program (read_number read) tests t → IsNestedTree n t
          → ((m : ℕ) (ts : List AffineForm) (u : SelectionTree) → shape_of u ≡ turns_shape program loop → FitsUnder program (read_number read) ts u → IsNestedTree m u → KeepsLoops program true set m u)
          → KeepsLoops program true set n t
      parted n (leaf (source claim)) out f g s rest = absurd cc
      parted n (leaf (input shown)) out f g s rest = absurd cc
      parted n (leaf (empty shown)) out f g s rest = absurd cc
      parted n (leaf blank) out f g s rest = absurd cc
      parted zero (test form above below) out f g s rest = absurd s
      parted (suc n) (test form above below) out f g s rest =
          let first : shape_of above ≡ last_write 0 loop (turn_before program loop) = cc in
          let second : shape_of below ≡ turns_shape program loop = cc in
          (source-keeps n loop (tests ++ form ∷ []) above out first g.1, rest n (tests ++ no_row (variables_at program (read_number read)) form ∷ []) below second g.2 s.2)

      by : (b : Bool) → b ≡ is_kept program loop → shape_of tree ≡ (if b then turns_shape program loop else split (later_turn program loop) (last_write 0 loop (turn_before program loop)) (turns_shape program loop))
          → (shape_of tree ≡ turns_shape program loop → KeepsLoops program true set nested tree)
          → ((m : ℕ) (ts : List AffineForm) (u : SelectionTree) → shape_of u ≡ turns_shape program loop → FitsUnder program (read_number read) ts u → IsNestedTree m u → KeepsLoops program true set m u)
          → KeepsLoops program true set nested tree
      by true same f own rest = own f
      by false same f own rest = parted nested tree (sym same) f fits small rest

-- ---- the trees of reads

module _ (program : AffineProgram) (projective : IsProjective program) where
  abbrev reads : List Access
  reads = (statement_at program 0).reads

  abbrev writes : Access
  writes = (statement_at program 0).writes

  keeping : (rows : List (List SelectionTree)) → AreSourceTrees program rows → HaveKeepingTrees program rows
  keeping rows h read below =
      let is : IsSourceTree program read (tree_of_read program rows h read below) = tree-is program rows h read below in
      record {
        tree = tree_of_read program rows h read below;
        there = tree-there program rows h read below;
        few = is.few;
        keeps = by ((read_at program 0 read).array == writes.array) refl is.shape is;
      } where
        by : (b : Bool) → b ≡ ((read_at program 0 read).array == writes.array)
            → shape_of (tree_of_read program rows h read below) ≡ (if b then turns_shape program (depth_of program 0) else no_write) → IsSourceTree program read (tree_of_read program rows h read below)
            → KeepsLoops program (writes.array == (read_at program 0 read).array) (coordinates (length program.parameters) (depth_of program 0) (Some (read_at program 0 read))) 16 (tree_of_read program rows h read below)
        by true e shape is =
            let same : (read_at program 0 read).array ≡ writes.array = eqb-true (read_at program 0 read).array writes.array (sym e) in
            let one : read_at program 0 read ≡ writes = read-same program read projective below same in
            let stand = filter-both (λ place. stands_in (length program.parameters + place) (read_at program 0 read)) (λ (l : ℕ). l < depth_of program 0) (range_with_len 0 (depth_of program 0))
            (range-below 0 (depth_of program 0) (depth_of program 0) (omega arith)) in
            subst (λ (b : Bool). KeepsLoops program b (coordinates (length program.parameters) (depth_of program 0) (Some (read_at program 0 read))) 16 (tree_of_read program rows h read below))
            (sym (eq-eqb writes.array (read_at program 0 read).array (sym same)))
            (tree-keeps program (coordinates (length program.parameters) (depth_of program 0) (Some (read_at program 0 read)))
            (All-weaken (λ (l : ℕ). (l < depth_of program 0) × (stands_in (length program.parameters + l) (read_at program 0 read) ≡ true)) (λ (l : ℕ). (l < depth_of program 0) × (is_kept program l ≡ true))
            (coordinates (length program.parameters) (depth_of program 0) (Some (read_at program 0 read)))
            (λ l p. (p.0, subst (λ (a : Access). stands_in (length program.parameters + l) a ≡ true) one p.1)) stand)
            read (depth_of program 0) 16 [] (tree_of_read program rows h read below) shape is.stands.fits is.stands.small)
        by false e shape is =
            input-keeps program (coordinates (length program.parameters) (depth_of program 0) (Some (read_at program 0 read))) (writes.array == (read_at program 0 read).array) 16 (tree_of_read program rows h read below) shape

pub source-trees-keep : SourceTreesKeepLoops
source-trees-keep program trees projective h = keeping program projective trees h
