-- Reads of a statement, counted in the code and in what it means.
use Rattle.std.proofs.Common.{◌≡◌, refl, sym, ◌∙◌, ap, subst, Bool, true, false, not, ℕ, ◌+◌, List, [], ◌∷◌, ◌++◌, length, map, arith, Vec, Global}
use Rattle.std.specs.Prelude.{◌||◌, ◌≤◌, Result, Ok, Err, IfOk}
use Rattle.std.specs.List.{list_any}
use Rattle.std.proofs.lemmas.Bool.{or_left}
use Rattle.std.proofs.lemmas.List.{length-append, length-map}
use Rattle.affine_program.specs.Parts.{ProgramParts, IsProgram, meaning, statement_of}
use Rattle.dep_quast.specs.Truth.{ReadFits}
use Rattle.iolb_model.specs.Program.{AffineProgram}
use Rattle.dep_quast.specs.declared.quast.Quast.{Quast}
use Rattle.dep_quast.specs.Context.{ReadOf, reference_of}
use Rattle.dep_quast.specs.Tree.{SelectionTree, leaf, blank, leaf_count, tree_of}
use Rattle.dep_quast.specs.Quasts.{row_trees}
use Rattle.dep_quast.specs.Trees.{read_of}
use Rattle.find_terms.specs.Trees.{HasRow, IsSourceTree, RowStands, RowsStand, is_named, is_of_read, is_sought, is_written}
use Rattle.find_terms.specs.declared.trees.Scope.{Scope}
use Rattle.find_terms.specs.declared.trees.Scope.TheVariants.{All, Few}
use Rattle.flow_deps.specs.Plain.{IsPlain}
use Rattle.flow_deps.specs.Shown.{Stands}
use Rattle.flow_deps.proofs.StandingLaws.{blank-stands, context-few}
use Rattle.iolb_model.specs.declared.limits.TheConstants.{TREE_LEAVES, TREE_TESTS}
use Rattle.find_terms.proofs.Standing.{row-pushed, rows-pushed}

-- the tree of a read that is named is looked for
named-sought : (program : AffineProgram) (scope : Scope) (reader : ReadOf) → is_named scope reader ≡ true → is_sought program scope reader ≡ true
named-sought program All reader named = refl
named-sought program (Few terms) reader named = or_left (list_any (is_of_read reader) terms.now) (not (is_written program (reference_of program reader).array)) named

differ : (b : Bool) → b ≡ true → b ≡ false → ⊥
differ b one other = cc

-- a blank tree of a read whose tree isn't looked for
pub blank-tree : (parts : ProgramParts) (scope : Scope) (reader : ReadOf) → IsProgram parts → ReadFits (meaning parts) reader → is_sought (meaning parts) scope reader ≡ false → IsSourceTree (meaning parts) scope reader (leaf blank)
blank-tree parts scope reader kept fits unsought = record {
  standing = record {
    stands = blank-stands (meaning parts) reader [] TREE_TESTS (context-few parts kept reader [] (omega (arith, fits.statement, length-map parts.statements statement_of)) (omega arith));
    few = omega arith;
  };
  plain = λ named other plain. absurd (differ (is_sought (meaning parts) scope reader) (named-sought (meaning parts) scope reader named) unsought);
  unsought = λ never. refl;
}

-- a tree that was looked for, with a plain one where there is such
pub sought-tree : {E : Type 0} (program : AffineProgram) (scope : Scope) (reader : ReadOf) (found : Result Quast E) → is_sought program scope reader ≡ true
    → IfOk found (λ quast. Stands program reader [] TREE_TESTS (tree_of quast)) → IfOk found (λ quast. leaf_count (tree_of quast) ≤ TREE_LEAVES)
    → IfOk found (λ quast. (tree : SelectionTree) → IsPlain program reader tree → IsPlain program reader (tree_of quast))
    → IfOk found (λ quast. IsSourceTree program scope reader (tree_of quast))
sought-tree program scope reader (Ok quast) sought stands few plain = record {
  standing = record { stands = stands; few = few };
  plain = λ named tree is. plain tree is;
  unsought = λ never. absurd (differ (is_sought program scope reader) sought never);
}
sought-tree program scope reader (Err error) sought stands few plain = tt

map-push : {X Y : Type 0} (f : X → Y) (xs : List X) (x : X) → map f (xs ++ x ∷ []) ≡ map f xs ++ f x ∷ []
map-push f [] x = refl
map-push f (y ∷ xs) x = ap (λ ys. f y ∷ ys) (map-push f xs x)

-- One tree more, and one row more.
pub record RowSoFar (program : AffineProgram) (scope : Scope) (statement read : ℕ) (row : List Quast) : Type 0 where
  pub many : length (map tree_of row) ≡ read
  pub stand : RowStands program scope statement 0 (map tree_of row)

pub row-next : (program : AffineProgram) (scope : Scope) (statement read : ℕ) (row after : List Quast) (tree : Quast) → length (map tree_of row) ≡ read → RowStands program scope statement 0 (map tree_of row)
    → IsSourceTree program scope (read_of statement read) (tree_of tree) → after ≡ row ++ tree ∷ [] → RowSoFar program scope statement (read + 1) after
row-next program scope statement read row after tree many stand is pushed =
    let same : map tree_of after ≡ map tree_of row ++ tree_of tree ∷ [] = ap (map tree_of) pushed ∙ map-push tree_of row tree in record {
      many = omega (arith, ap length same, length-append (map tree_of row) (tree_of tree ∷ []), many);
      stand = subst (λ trees. RowStands program scope statement 0 trees) (sym same)
          (row-pushed program scope statement 0 (map tree_of row) (tree_of tree) stand (subst (λ (n : ℕ). IsSourceTree program scope (read_of statement n) (tree_of tree)) (omega (arith, many)) is));
    }

pub record RowsSoFar (program : AffineProgram) (scope : Scope) (statement : ℕ) (rows : List (Vec Quast Global)) : Type 0 where
  pub many : length (map row_trees rows) ≡ statement
  pub stand : RowsStand program scope 0 (map row_trees rows)

pub rows-next : (program : AffineProgram) (scope : Scope) (statement : ℕ) (rows after : List (Vec Quast Global)) (row : Vec Quast Global) → length (map row_trees rows) ≡ statement → RowsStand program scope 0 (map row_trees rows)
    → HasRow program scope statement (row_trees row) → after ≡ rows ++ row ∷ [] → RowsSoFar program scope (statement + 1) after
rows-next program scope statement rows after row many stand has pushed =
    let same : map row_trees after ≡ map row_trees rows ++ row_trees row ∷ [] = ap (map row_trees) pushed ∙ map-push row_trees rows row in record {
      many = omega (arith, ap length same, length-append (map row_trees rows) (row_trees row ∷ []), many);
      stand = subst (λ trees. RowsStand program scope 0 trees) (sym same)
          (rows-pushed program scope 0 (map row_trees rows) (row_trees row) stand (subst (λ (n : ℕ). HasRow program scope n (row_trees row)) (omega (arith, many)) has));
    }
