-- Steps of the code that makes source trees.
use Rattle.std.proofs.Common.{◌≡◌, ◌≢◌, sym, ◌∙◌, ap, subst, inl, inr, ℕ, zero, suc, ◌+◌, ◌<◌, ◌≤◌, Bool, true, false, List, [], ◌∷◌, ◌++◌, length, map, get_or, drop, arith}
use Rattle.std.specs.Prelude.{◌⊎◌, ◌==◌, if◌then◌else◌}
use Rattle.std.specs.List.{AllByRecursion}
use Rattle.std.proofs.lemmas.List.{length-append, map-append}
use Rattle.std.proofs.Math.IntN.{pos, negsuc}
use Rattle.std.proofs.Math.Nat.{eq-or-lt_of_le}
use Rattle.base_laws.proofs.Lists.{All-append, rest_at}
use Rattle.iolb_model.specs.Form.{AffineForm}
use Rattle.iolb_model.specs.Program.{AffineProgram, statement_at, read_at}
use Rattle.iolb_model.specs.declared.limits.TheConstants.{TREE_TESTS}
use Rattle.affine_form.specs.Form.{variables}
use Rattle.affine_form.specs.Rows.{IsSmallOver}
use Rattle.affine_form.proofs.RowLemmas.{length-difference}
use Rattle.affine_program.specs.Domain.{depth_of}
use Rattle.dep_quast.specs.Context.{ReadOf, variables_at, no_row}
use Rattle.dep_quast.specs.Tree.{SourceClaim, SelectionTree, test, tree_of}
use Rattle.dep_quast.specs.Truth.{IsLevel, IsThere}
use Rattle.flow_deps.specs.declared.wanted.Wanted.TheVariants.{Short}
use Rattle.dep_quast.specs.declared.quast.Quast.{Quast}
use Rattle.projective.specs.Projective.{HoldsOfOne}
use Rattle.projective.specs.FirstTurns.{AreFirstTurns}
use Rattle.projective.specs.SourceTrees.{read_number, source_shape, turns_shape, AreFromRead, IsSourceTree}
use Rattle.flow_deps.specs.Shapes.{Shape, no_write, last_write, split}
use Rattle.flow_deps.specs.Shown.{IsShown}
use Rattle.flow_deps.proofs.ShownTrees.{split-shown, shape_leaves, leaves-of_shape}
use Rattle.projective.specs.Turns.{width, is_kept, later_turn, turn_before, turn_value, turn_values}
use Rattle.projective.proofs.Fits.{shifted-fits}

-- one loop more
pub values-next : (program : AffineProgram) (loop place : ℕ) (bounds : List (AffineForm × AffineForm)) (pair : AffineForm × AffineForm) → place < length bounds → pair ≡ get_or bounds place pair
    → turn_values program loop place (drop place bounds) ≡ turn_value program loop place pair.1 ∷ turn_values program loop (place + 1) (drop (place + 1) bounds)
values-next program loop place bounds pair below is =
    ap (λ (rest : List (AffineForm × AffineForm)). turn_values program loop place rest) (rest_at bounds place pair below is)
    ∙ ap (λ (k : ℕ). turn_value program loop place pair.1 ∷ turn_values program loop k (drop (place + 1) bounds)) next where
      next : suc place ≡ place + 1
      next = omega arith

-- one tree more
from-push : (program : AffineProgram) (read : ℕ) (trees : List SelectionTree) (tree : SelectionTree) → AreFromRead program read trees → IsSourceTree program (read + length trees) tree
    → AreFromRead program read (trees ++ tree ∷ [])
from-push program read [] tree h one = (subst (λ (k : ℕ). IsSourceTree program k tree) (omega arith) one, tt)
from-push program read (t ∷ trees) tree h one = (h.0, from-push program (suc read) trees tree h.1 (subst (λ (k : ℕ). IsSourceTree program k tree) (omega arith) one))

pub row-push : (program : AffineProgram) (read : ℕ) (row next : List Quast) (tree : Quast) → length (map tree_of row) ≡ read → AreFromRead program 0 (map tree_of row) → IsSourceTree program read (tree_of tree)
    → next ≡ row ++ tree ∷ [] → (length (map tree_of next) ≡ read + 1) × AreFromRead program 0 (map tree_of next)
row-push program read row next tree many each one is =
    let pushed : map tree_of next ≡ map tree_of row ++ tree_of tree ∷ [] = ap (map tree_of) is ∙ map-append tree_of row (tree ∷ []) in (
      ap (λ (trees : List SelectionTree). length trees) pushed ∙ length-append (map tree_of row) (tree_of tree ∷ []) ∙ ap (λ (k : ℕ). k + 1) many,
      subst (AreFromRead program 0) (sym pushed) (from-push program 0 (map tree_of row) (tree_of tree) each (subst (λ (k : ℕ). IsSourceTree program k (tree_of tree)) (sym many ∙ none) one)),
    ) where
      none : length (map tree_of row) ≡ 0 + length (map tree_of row)
      none = omega arith

-- ---- first turns

one-left : (P : AffineForm → Type 0) (tests more : List AffineForm) → HoldsOfOne P tests → HoldsOfOne P (tests ++ more)
one-left P [] more h = absurd h
one-left P (t ∷ tests) more (inl h) = inl h
one-left P (t ∷ tests) more (inr h) = inr (one-left P tests more h)

one-last : (P : AffineForm → Type 0) (tests : List AffineForm) (row : AffineForm) → P row → HoldsOfOne P (tests ++ row ∷ [])
one-last P [] row h = inl h
one-last P (t ∷ tests) row h = inr (one-last P tests row h)

module _ (program : AffineProgram) (level : ℕ) (tests : List AffineForm) (h : AreFirstTurns program (suc level) tests) where
  -- a loop that stands in the reference isn't tested
  pub kept-passed : is_kept program level ≡ true → AreFirstTurns program level tests
  kept-passed kept = record { first = λ other from below free. by other (eq-or-lt_of_le {n = level} {m = other} from) below free; over = h.over; few = omega (arith, h.few) } where
    by : (other : ℕ) → (level ≡ other) ⊎ (level < other) → other < depth_of program 0 → is_kept program other ≡ false
        → HoldsOfOne (λ (test : AffineForm). test ≡ no_row (width program) (later_turn program other)) tests
    by other (inl e) below free = absurd (apart (sym kept ∙ ap (is_kept program) e ∙ free)) where
      apart : true ≡ false → ⊥
      apart p = cc
    by other (inr less) below free = h.first other (omega (arith, less)) below free

  -- another is in its first turn below its test
  pub first-passed : level < depth_of program 0 → AreFirstTurns program level (tests ++ no_row (width program) (later_turn program level) ∷ [])
  first-passed there =
      record {
        first = λ other from below free. by other (eq-or-lt_of_le {n = level} {m = other} from) below free;
        over = All-append (λ row. variables row ≡ width program) tests (no_row (width program) (later_turn program level) ∷ []) h.over
            (length-difference (width program) (record { coefficients = []; constant = pos 0 }) (later_turn program level) (negsuc 0) (omega arith) (omega (arith, (shifted-fits (width program) (length program.parameters + level)).over)), tt);
        few = omega (arith, h.few, length-append tests (no_row (width program) (later_turn program level) ∷ []));
      } where
        by : (other : ℕ) → (level ≡ other) ⊎ (level < other) → other < depth_of program 0 → is_kept program other ≡ false
            → HoldsOfOne (λ (test : AffineForm). test ≡ no_row (width program) (later_turn program other)) (tests ++ no_row (width program) (later_turn program level) ∷ [])
        by other (inl e) below free =
            one-last (λ (test : AffineForm). test ≡ no_row (width program) (later_turn program other)) tests (no_row (width program) (later_turn program level)) (ap (λ (k : ℕ). no_row (width program) (later_turn program k)) e)
        by other (inr less) below free =
            one-left (λ (test : AffineForm). test ≡ no_row (width program) (later_turn program other)) tests (no_row (width program) (later_turn program level) ∷ []) (h.first other (omega (arith, less)) below free)

-- ---- trees that are shown

-- what is there doesn't depend on multipliers
pub there-same : (program : AffineProgram) (reader : ReadOf) (claim other : SourceClaim) → claim.statement ≡ other.statement → claim.level ≡ other.level → claim.point ≡ other.point
    → IsThere program reader other → IsThere program reader claim
there-same program reader claim other s l p h = record {
  statement = subst (λ (k : ℕ). k < length program.statements) (sym s) h.statement;
  level = subst (λ (k : ℕ). IsLevel program k reader.statement claim.level) (sym s) (subst (λ (k : ℕ). IsLevel program other.statement reader.statement k) (sym l) h.level);
  point = ap (λ (forms : List AffineForm). length forms) p ∙ h.point ∙ sym (ap (depth_of program) s);
  forms = subst (AllByRecursion (IsSmallOver (variables_at program reader))) (sym p) h.forms;
}

pub shape-kept : (program : AffineProgram) (loops level : ℕ) → loops ≡ suc level → is_kept program level ≡ true → turns_shape program loops ≡ turns_shape program level
shape-kept program loops level e kept =
    ap (turns_shape program) e
    ∙ ap (λ (b : Bool). if b then turns_shape program level else split (later_turn program level) (last_write 0 level (turn_before program level)) (turns_shape program level)) kept

pub shape-free : (program : AffineProgram) (loops level : ℕ) → loops ≡ suc level → is_kept program level ≡ false
    → turns_shape program loops ≡ split (later_turn program level) (last_write 0 level (turn_before program level)) (turns_shape program level)
shape-free program loops level e free =
    ap (turns_shape program) e
    ∙ ap (λ (b : Bool). if b then turns_shape program level else split (later_turn program level) (last_write 0 level (turn_before program level)) (turns_shape program level)) free

-- a test over the write one turn before and the tree of the loops before
pub turn-split : (program : AffineProgram) (read loops level : ℕ) (tests above below : List AffineForm) (form : AffineForm) (first rest : SelectionTree) → loops ≡ suc level → is_kept program level ≡ false
    → form ≡ later_turn program level → above ≡ tests ++ form ∷ [] → below ≡ tests ++ no_row (width program) form ∷ []
    → ((nested : ℕ) → IsShown Short program (read_number read) above nested (last_write 0 level (turn_before program level)) first)
    → ((nested : ℕ) → level ≤ nested → IsShown Short program (read_number read) below nested (turns_shape program level) rest)
    → (nested : ℕ) → loops ≤ nested → IsShown Short program (read_number read) tests nested (turns_shape program loops) (test form first rest)
turn-split program read loops level tests above below form first rest e free is up down p q zero more = absurd (omega (arith, e, more))
turn-split program read loops level tests above below form first rest e free is up down p q (suc nested) more =
    let reader : ReadOf = read_number read in
    let a : Shape = last_write 0 level (turn_before program level) in
    let b : Shape = turns_shape program level in
    let small : IsSmallOver (width program) form = subst (IsSmallOver (width program)) (sym is) (shifted-fits (width program) (length program.parameters + level)) in
    subst (λ (shape : Shape). IsShown Short program reader tests (suc nested) shape (test form first rest))
    (ap (λ (f : AffineForm). split f a b) is ∙ sym (shape-free program loops level e free))
    (split-shown program reader tests nested form a b Short first rest small (subst (λ (ts : List AffineForm). IsShown Short program reader ts nested a first) up (p nested))
    (subst (λ (ts : List AffineForm). IsShown Short program reader ts nested b rest) down (q nested (omega (arith, e, more)))))

shape-few : (program : AffineProgram) (loops : ℕ) → shape_leaves (turns_shape program loops) ≤ suc loops
shape-few program zero = omega arith
shape-few program (suc loop) = by (is_kept program loop) (shape-few program loop) where
  by : (b : Bool) → shape_leaves (turns_shape program loop) ≤ suc loop → shape_leaves (if b then turns_shape program loop else split (later_turn program loop) (last_write 0 loop (turn_before program loop)) (turns_shape program loop)) ≤ suc (suc loop)
  by true h = omega (arith, h)
  by false h = omega (arith, h)

module _ (program : AffineProgram) (read : ℕ) (tree : SelectionTree) where
  abbrev shaped : Bool → Shape
  shaped b = if b then turns_shape program (depth_of program 0) else no_write

  -- the tree of an array that isn't written
  pub unwritten-tree : ((read_at program 0 read).array ≢ (statement_at program 0).writes.array) → ((nested : ℕ) → IsShown Short program (read_number read) [] nested no_write tree) → IsSourceTree program read tree
  unwritten-tree other h =
      let shape : source_shape program read ≡ no_write = ap shaped (eqb-false (read_at program 0 read).array (statement_at program 0).writes.array other) in
      record { shape = (h TREE_TESTS).has_shape ∙ sym shape; stands = (h TREE_TESTS).stands; few = omega (arith, leaves-of_shape tree ∙ ap shape_leaves (h 0).has_shape) } where
        eqb-false : (a b : ℕ) → (a ≢ b) → (a == b) ≡ false
        eqb-false a b apart = grind (arith, apart)

  -- the tree of the array that is written
  pub written-tree : (read_at program 0 read).array ≡ (statement_at program 0).writes.array → depth_of program 0 ≤ 6
      → ((nested : ℕ) → depth_of program 0 ≤ nested → IsShown Short program (read_number read) [] nested (turns_shape program (depth_of program 0)) tree) → IsSourceTree program read tree
  written-tree same few h =
      let shown = h TREE_TESTS (omega (arith, few)) in
      let shape : source_shape program read ≡ turns_shape program (depth_of program 0) = ap shaped (eqb-true (read_at program 0 read).array (statement_at program 0).writes.array same) in
      record {
        shape = shown.has_shape ∙ sym shape;
        stands = shown.stands;
        few = omega (arith, leaves-of_shape tree ∙ ap shape_leaves shown.has_shape, shape-few program (depth_of program 0), few);
      } where
        eqb-true : (a b : ℕ) → a ≡ b → (a == b) ≡ true
        eqb-true a b e = grind (arith, e)
