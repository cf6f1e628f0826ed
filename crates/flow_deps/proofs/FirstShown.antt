-- The first shape that short lists show.
use Rattle.std.proofs.Common.{◌≡◌, sym, ap, subst, inl, inr, ℕ, ◌+◌, ◌<◌, ◌≤◌, List, [], ◌∷◌, length, map, drop, get_or, arith}
use Rattle.std.specs.Prelude.{◌↔◌}
use Rattle.std.proofs.lemmas.List.{drop_all}
use Rattle.std.specs.List.{AllByRecursion}
use Rattle.base_laws.proofs.Lists.{All-every, All-map, rest_at}
use Rattle.iolb_model.specs.Program.{AffineProgram}
use Rattle.iolb_model.specs.declared.limits.TheConstants.{TREE_TESTS}
use Rattle.dep_quast.specs.Context.{ReadOf}
use Rattle.dep_quast.specs.Tree.{SelectionTree, leaf_count}
use Rattle.flow_deps.specs.declared.candidate.Candidate.{Candidate}
use Rattle.flow_deps.specs.declared.candidate.Candidate.TheVariants.{NoWrite, SameTurn, TurnBefore}
use Rattle.flow_deps.specs.declared.wanted.Wanted.TheVariants.{Short}
use Rattle.flow_deps.specs.Shapes.{Shape}
use Rattle.flow_deps.specs.Candidates.{candidate_shape, candidates}
use Rattle.flow_deps.specs.Shown.{IsShown, IsNotShown, Stands}
use Rattle.flow_deps.specs.Plain.{IsFirstShown, IsPlain}
use Rattle.flow_deps.proofs.ShownTrees.{shape_leaves, leaves-of_shape}

module _ (program : AffineProgram) (reader : ReadOf) (shapes : List Shape) (i : ℕ) (shape : Shape) (below : i < length shapes) (is : shape ≡ get_or shapes i shape) where
  -- what is found first from a shape on, where none before is shown, is found first of all
  abbrev Same : ℕ → Type 0
  Same k = (tree : SelectionTree) → IsFirstShown program reader (drop k shapes) tree ↔ IsFirstShown program reader shapes tree

  from : drop i shapes ≡ shape ∷ drop (i + 1) shapes
  from = rest_at shapes i shape below is

  pub first-here : (tree : SelectionTree) → Same i → IsShown Short program reader [] TREE_TESTS shape tree → IsFirstShown program reader shapes tree
  first-here tree same h = (same tree).0 (subst (λ (xs : List Shape). IsFirstShown program reader xs tree) (sym from) (inl h))

  pub first-later : Same i → IsNotShown program reader [] TREE_TESTS shape → Same (i + 1)
  first-later same none tree = (
    λ h. (same tree).0 (subst (λ (xs : List Shape). IsFirstShown program reader xs tree) (sym from) (inr (none, h))),
    λ h. elim (subst (λ (xs : List Shape). IsFirstShown program reader xs tree) from ((same tree).1 h)) [ inl shown ↦ absurd (none tree shown) | inr later ↦ later.1 ],
  )

-- nothing is left
pub first-none : (program : AffineProgram) (reader : ReadOf) (shapes : List Shape) (i : ℕ) → length shapes ≤ i
    → ((tree : SelectionTree) → IsFirstShown program reader (drop i shapes) tree ↔ IsFirstShown program reader shapes tree) → (tree : SelectionTree) → ¬ IsFirstShown program reader shapes tree
first-none program reader shapes i past same tree h = subst (λ (xs : List Shape). IsFirstShown program reader xs tree) (drop_all i shapes past) ((same tree).1 h)

-- what is found first stands
pub first-stands : (program : AffineProgram) (reader : ReadOf) (shapes : List Shape) (tree : SelectionTree) → IsFirstShown program reader shapes tree → Stands program reader [] TREE_TESTS tree
first-stands program reader [] tree h = absurd h
first-stands program reader (shape ∷ shapes) tree (inl shown) = shown.stands
first-stands program reader (shape ∷ shapes) tree (inr later) = first-stands program reader shapes tree later.1

-- and has no more leaves than the shapes
pub first-few : (program : AffineProgram) (reader : ReadOf) (most : ℕ) (shapes : List Shape) (tree : SelectionTree) → AllByRecursion (λ (shape : Shape). shape_leaves shape ≤ most) shapes
    → IsFirstShown program reader shapes tree → leaf_count tree ≤ most
first-few program reader most [] tree few h = absurd h
first-few program reader most (shape ∷ shapes) tree few (inl shown) = omega (arith, few.0, leaves-of_shape tree, ap shape_leaves shown.has_shape)
first-few program reader most (shape ∷ shapes) tree few (inr later) = first-few program reader most shapes tree few.1 later.1

two-leaves : (program : AffineProgram) (reader : ReadOf) (candidate : Candidate) → shape_leaves (candidate_shape program reader candidate) ≤ 2
two-leaves program reader NoWrite = omega arith
two-leaves program reader (SameTurn writer) = omega arith
two-leaves program reader (TurnBefore loop writer) = omega arith

pub plain-few : (program : AffineProgram) (reader : ReadOf) (tree : SelectionTree) → IsPlain program reader tree → leaf_count tree ≤ 2
plain-few program reader tree h =
    first-few program reader 2 (map (candidate_shape program reader) (candidates program reader)) tree
    (All-map (λ (shape : Shape). shape_leaves shape ≤ 2) (candidate_shape program reader) (candidates program reader)
    (All-every (λ (candidate : Candidate). shape_leaves (candidate_shape program reader candidate) ≤ 2) (two-leaves program reader) (candidates program reader))) h
