-- Trees with a test that are shown, and why none is.
use Rattle.std.proofs.Common.{◌≡◌, refl, ◌∙◌, ap, subst, ℕ, suc, ◌+◌, List, [], ◌∷◌, ◌++◌, arith}
use Rattle.std.specs.Prelude.{Option, Some, None, IfSome, codes}
use Rattle.iolb_model.specs.Form.{AffineForm}
use Rattle.iolb_model.specs.Program.{AffineProgram}
use Rattle.affine_form.specs.Rows.{IsSmallOver}
use Rattle.claims.proofs.Laws.{AllHold-left, AllHold-right}
use Rattle.claims.specs.declared.place.Step.TheVariants.{Key}
use Rattle.dep_quast.specs.Context.{ReadOf, variables_at, no_row}
use Rattle.dep_quast.specs.Claims.{claims}
use Rattle.dep_quast.specs.Tree.{source, input, empty, blank, SelectionTree, leaf, test, tree_of, leaf_count}
use Rattle.dep_quast.specs.declared.quast.Quast.{Quast}
use Rattle.flow_deps.specs.declared.wanted.Wanted.{Wanted}
use Rattle.flow_deps.specs.declared.wanted.Wanted.TheVariants.{Short}
use Rattle.flow_deps.specs.Shapes.{Shape, shape_of, no_write, last_write, other, split}
use Rattle.flow_deps.specs.Shown.{IsLeafUnder}
use Rattle.flow_deps.specs.Shown.{IsShown, IsNotShown, FindsTree}
use Rattle.flow_deps.proofs.StandingLaws.{test-stands}
use Rattle.flow_deps.proofs.Moved.{tree-moved}

-- the parts of a shape with a test
abbrev form_of : Shape → AffineForm → AffineForm
form_of (split form above below) none = form
form_of no_write none = none
form_of (last_write statement level point) none = none
form_of other none = none

abbrev above_of : Shape → Shape
above_of (split form above below) = above
above_of no_write = other
above_of (last_write statement level point) = other
above_of other = other

abbrev below_of : Shape → Shape
below_of (split form above below) = below
below_of no_write = other
below_of (last_write statement level point) = other
below_of other = other

module _ (program : AffineProgram) (reader : ReadOf) (tests : List AffineForm) (nested : ℕ) (form : AffineForm) (a b : Shape) where
  abbrev yes_tests : List AffineForm
  yes_tests = tests ++ form ∷ []

  abbrev no_tests : List AffineForm
  no_tests = tests ++ no_row (variables_at program reader) form ∷ []

  pub split-shown : (wanted : Wanted) (above below : SelectionTree) → IsSmallOver (variables_at program reader) form → IsShown wanted program reader yes_tests nested a above
      → IsShown wanted program reader no_tests nested b below → IsShown wanted program reader tests (suc nested) (split form a b) (test form above below)
  split-shown wanted above below small shown hidden = record {
    has_shape = λ i. split form (shown.has_shape i) (hidden.has_shape i);
    stands = test-stands program reader tests nested form above below small shown.stands hidden.stands;
    as_short = (shown.as_short, hidden.as_short);
  }

  -- what a tree of this shape shows: a small form, and a tree of each side's shape
  pub record Sides : Type 0 where
    pub above : SelectionTree
    pub below : SelectionTree
    pub small : IsSmallOver (variables_at program reader) form
    pub yes : IsShown Short program reader yes_tests nested a above
    pub no : IsShown Short program reader no_tests nested b below

  pub split-sides : (tree : SelectionTree) → IsShown Short program reader tests (suc nested) (split form a b) tree → Sides
  split-sides (leaf (source claim)) h = absurd (let e : last_write claim.statement claim.level claim.point ≡ split form a b = h.has_shape in cc)
  split-sides (leaf (input ms)) h = absurd (let e : no_write ≡ split form a b = h.has_shape in cc)
  split-sides (leaf (empty m)) h = absurd (let e : other ≡ split form a b = h.has_shape in cc)
  split-sides (leaf blank) h = absurd (let e : other ≡ split form a b = h.has_shape in cc)
  split-sides (test tested above below) h =
      let same : tested ≡ form = ap (λ (s : Shape). form_of s form) h.has_shape in
      let holds = h.stands.valid [] in
      let yes_at : List AffineForm = tests ++ tested ∷ [] in
      let no_at : List AffineForm = tests ++ no_row (variables_at program reader) tested ∷ [] in
      let yes_holds = AllHold-left (claims program reader yes_at (Key (codes "yes") ∷ []) above) (claims program reader no_at (Key (codes "no") ∷ []) below) holds in
      let no_holds = AllHold-right (claims program reader yes_at (Key (codes "yes") ∷ []) above) (claims program reader no_at (Key (codes "no") ∷ []) below) holds in
      let yes : IsShown Short program reader yes_at nested (shape_of above) above = record {
        has_shape = λ i. shape_of above;
        stands = record { fits = h.stands.fits.1; valid = λ place. tree-moved program reader yes_at (Key (codes "yes") ∷ []) place above yes_holds; small = h.stands.small.1 };
        as_short = h.as_short.0;
      } in
      let not : IsShown Short program reader no_at nested (shape_of below) below = record {
        has_shape = λ i. shape_of below;
        stands = record { fits = h.stands.fits.2; valid = λ place. tree-moved program reader no_at (Key (codes "no") ∷ []) place below no_holds; small = h.stands.small.2 };
        as_short = h.as_short.1;
      } in
      record {
        above = above;
        below = below;
        small = subst (IsSmallOver (variables_at program reader)) same h.stands.fits.0;
        yes = subst (λ (s : Shape). IsShown Short program reader yes_tests nested s above) (ap above_of h.has_shape)
            (subst (λ (f : AffineForm). IsShown Short program reader (tests ++ f ∷ []) nested (shape_of above) above) same yes);
        no = subst (λ (s : Shape). IsShown Short program reader no_tests nested s below) (ap below_of h.has_shape)
            (subst (λ (f : AffineForm). IsShown Short program reader (tests ++ no_row (variables_at program reader) f ∷ []) nested (shape_of below) below) same not);
      }

-- what a search for a tree found
pub finds-none : (wanted : Wanted) (program : AffineProgram) (reader : ReadOf) (tests : List AffineForm) (nested : ℕ) (shape : Shape) (found : Option Quast) → found ≡ None
    → FindsTree wanted program reader tests nested shape found → IsNotShown program reader tests nested shape
finds-none wanted program reader tests nested shape found e h = subst (FindsTree wanted program reader tests nested shape) e h

pub finds-some : (wanted : Wanted) (program : AffineProgram) (reader : ReadOf) (tests : List AffineForm) (nested : ℕ) (shape : Shape) (found : Option Quast) (quast : Quast) → found ≡ Some quast
    → FindsTree wanted program reader tests nested shape found → IsShown wanted program reader tests nested shape (tree_of quast)
finds-some wanted program reader tests nested shape found quast e h = subst (FindsTree wanted program reader tests nested shape) e h

-- how many leaves a tree of a shape has
abbrev pub shape_leaves : Shape → ℕ
shape_leaves no_write = 1
shape_leaves (last_write statement level point) = 1
shape_leaves other = 1
shape_leaves (split form above below) = shape_leaves above + shape_leaves below

pub leaves-of_shape : (tree : SelectionTree) → leaf_count tree ≡ shape_leaves (shape_of tree)
leaves-of_shape (leaf (source claim)) = refl
leaves-of_shape (leaf (input ms)) = refl
leaves-of_shape (leaf (empty m)) = refl
leaves-of_shape (leaf blank) = refl
leaves-of_shape (test form above below) = omega (arith, leaves-of_shape above, leaves-of_shape below)

-- a leaf that a search found stands
pub leaf-stands : (wanted : Wanted) (program : AffineProgram) (reader : ReadOf) (tests : List AffineForm) (shape : Shape) (found : Option Quast) → shape_leaves shape ≡ 1
    → ((nested : ℕ) → FindsTree wanted program reader tests nested shape found) → IfSome found (λ quast. IsLeafUnder program reader tests (tree_of quast))
leaf-stands wanted program reader tests shape None one h = tt
leaf-stands wanted program reader tests shape (Some quast) one h = record {
  stands = λ nested. (h nested).stands;
  one = leaves-of_shape (tree_of quast) ∙ ap shape_leaves (h 0).has_shape ∙ one;
}
