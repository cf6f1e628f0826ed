-- Cells that are the same are equal, and cells that differ have different places in a list.
use Rattle.std.proofs.Common.{◌≡◌, refl, sym, ◌∙◌, ap, subst, inl, inr, ℕ, suc, ◌+◌, Bool, true, false, cond, not, List, [], ◌∷◌, arith}
use Rattle.std.specs.Prelude.{◌==◌, Some, slice_get}
use Rattle.std.specs.List.{position_or_len}
use Rattle.std.specs.Ordering.{int_eq}
use Rattle.std.specs.Cmp.{signed_Decides}
use Rattle.std.proofs.lemmas.Bool.{eqb-true, eq-eqb, and_from, and_parts}
use Rattle.std.proofs.lemmas.Slice.Eq.{slice_eq-Decides}
use lib.Pointwise.{pointwise}
use Rattle.iolb_model.specs.Source.{Cell, same_cell}
use Rattle.execution_laws.proofs.Members.{Member}

pub same_cell-equal : (a b : Cell) → same_cell a b ≡ true → a ≡ b
same_cell-equal a b e =
    let parts : ((a.array == b.array) ≡ true) × (pointwise int_eq a.subscripts b.subscripts ≡ true) = and_parts (a.array == b.array) (pointwise int_eq a.subscripts b.subscripts) e in
    let first : a.array ≡ b.array = eqb-true a.array b.array parts.0 in
    let second : a.subscripts ≡ b.subscripts = (slice_eq-Decides signed_Decides a.subscripts b.subscripts (pointwise int_eq a.subscripts b.subscripts) refl).0 parts.1 in
    λ i. record { array = first i; subscripts = second i }

pub same_cell_refl : (a : Cell) → same_cell a a ≡ true
same_cell_refl a = and_from (a.array == a.array) (pointwise int_eq a.subscripts a.subscripts) (eq-eqb a.array a.array refl)
    ((slice_eq-Decides signed_Decides a.subscripts a.subscripts (pointwise int_eq a.subscripts a.subscripts) refl).1 refl)

place_first : (cell y : Cell) (cells : List Cell) (n : ℕ) → Member cell (y ∷ cells) → (Member cell cells → slice_get cells n ≡ Some cell)
    → (b : Bool) → b ≡ same_cell cell y → slice_get (y ∷ cells) (cond (not b) (1 + n) 0) ≡ Some cell
place_first cell y cells n m here true e = ap Some (sym (same_cell-equal cell y (sym e)))
place_first cell y cells n (inl w) here false e = absurd (let yes : same_cell cell y ≡ true = subst (λ (z : Cell). same_cell cell z ≡ true) w (same_cell_refl cell) in cc)
place_first cell y cells n (inr m) here false e = let one : 1 + n ≡ suc n = omega arith in rw one (here m)

-- a member of a list stands at the place where the first that is the same does
pub position-Member : (cell : Cell) (cells : List Cell) → Member cell cells → slice_get cells (position_or_len (same_cell cell) cells) ≡ Some cell
position-Member cell [] m = absurd m
position-Member cell (y ∷ cells) m = place_first cell y cells (position_or_len (same_cell cell) cells) m (position-Member cell cells) (same_cell cell y) refl

-- members that differ have different places
pub position-apart : (a b : Cell) (cells : List Cell) → Member a cells → Member b cells → same_cell a b ≡ false
    → position_or_len (same_cell a) cells ≡ position_or_len (same_cell b) cells → ⊥
position-apart a b cells m n apart e =
    let found : slice_get cells (position_or_len (same_cell a) cells) ≡ Some b = ap (slice_get cells) e ∙ position-Member b cells n in
    let same : a ≡ b = let first : slice_get cells (position_or_len (same_cell a) cells) ≡ Some a = position-Member a cells m in cc in
    let yes : same_cell a b ≡ true = subst (λ (z : Cell). same_cell a z ≡ true) same (same_cell_refl a) in
    cc
