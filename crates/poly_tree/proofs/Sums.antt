-- Sums of expansions, part by part.
use Rattle.std.proofs.Common.{◌≡◌, ℕ, zero, suc, ◌+◌, ◌<◌, ◌≤◌, max, List, [], ◌∷◌, ◌++◌, length, get_or, arith, subst, sym, refl, ◌∙◌, ap, inl, inr, ◌⊎◌}
use Rattle.std.proofs.Math.IntN.{ℤ, pos, ◌+ℤ◌, ◌*ℤ◌}
use Rattle.std.proofs.lemmas.Int.{ints}
use Rattle.std.proofs.lemmas.List.{get_or_append_left, get_or_push, map-append, length-map}
use borrow.Author.Count.{below_more}
use Rattle.base_laws.proofs.Ring.{mul-add, mul-zero, add_pairs}
use Rattle.poly_tree.specs.declared.tree.Tree.{Tree}
use Rattle.poly_tree.specs.Expansion.{Expansion, Parts, number, over, zero_expansion, parts_from, value, parts_value, weight, parts_weight, nodes, parts_nodes, IsCanonical, AreCanonical, IsJoined, IsSum, IsOver, IsPartsIn, IsHighest, TopBelow, TopAtMost, DegreesAtMost, PartsDegreesAtMost}
use Rattle.poly_tree.specs.Tree.{expansion, expansions, part_at}
use Rattle.affine_form.proofs.Sizes.{size-add}
use Rattle.poly_tree.proofs.Expansions.{parts_count-length}

-- the higher of two variables
pub highest-both : (a b : Expansion) (v w m : ℕ) (ps qs : Parts) → a ≡ over v ps → b ≡ over w qs → m ≡ max v w → IsHighest m a b
highest-both a b v w m ps qs e f is = record {
  one = which (v_or_w m v w is);
  first = subst (TopAtMost m) (sym e) (omega arith);
  second = subst (TopAtMost m) (sym f) (omega arith);
} where
  v_or_w : (n x y : ℕ) → n ≡ max x y → (n ≡ x) ⊎ (n ≡ y)
  v_or_w n x y h = grind arith

  which : (m ≡ v) ⊎ (m ≡ w) → IsOver m a ⊎ IsOver m b
  which (inl h) = inl (ps, e ∙ ap (λ (x : ℕ). over x ps) (sym h))
  which (inr h) = inr (qs, f ∙ ap (λ (x : ℕ). over x qs) (sym h))

-- a number and nothing
plus_nothing : (a x : ℤ) → a +ℤ (x *ℤ pos 0) ≡ a
plus_nothing a x = ap (λ (y : ℤ). a +ℤ y) (mul-zero x) ∙ plus a where
  plus : (y : ℤ) → y +ℤ pos 0 ≡ y
  plus y = omega (arith, ints)

-- the parts in a variable have the polynomial's value
pub parts_in-value : (v : ℕ) (t : Expansion) (ts : List Expansion) → IsPartsIn v t ts → (point : ℕ → ℤ) → parts_value (parts_from ts) (point v) point ≡ value t point
parts_in-value v t ts (inl e) point = sym (ap (λ (u : Expansion). value u point) e)
parts_in-value v t ts (inr h) point = ap (λ (us : List Expansion). parts_value (parts_from us) (point v) point) h.0 ∙ plus_nothing (value t point) (point v)

-- and its weight
pub parts_in-weight : (v : ℕ) (t : Expansion) (ts : List Expansion) → IsPartsIn v t ts → parts_weight (parts_from ts) ≡ weight t
parts_in-weight v t ts (inl e) = sym (ap weight e)
parts_in-weight v t ts (inr h) = ap (λ (us : List Expansion). parts_weight (parts_from us)) h.0 ∙ plus (weight t) where
  plus : (n : ℕ) → n + 0 ≡ n
  plus n = omega arith

-- a canonical polynomial in lower variables is canonical below
lower : (bound v : ℕ) (t : Expansion) → TopBelow v t → IsCanonical bound t → IsCanonical v t
lower bound v (number n) p h = tt
lower bound v (over w ps) p h = (p, h.1, h.2)

pub parts_in-canonical : (bound v : ℕ) (t : Expansion) (ts : List Expansion) → IsPartsIn v t ts → IsCanonical bound t → AreCanonical v (parts_from ts)
parts_in-canonical bound v t ts (inl e) h = (subst (IsCanonical bound) e h).1
parts_in-canonical bound v t ts (inr p) h = subst (λ (us : List Expansion). AreCanonical v (parts_from us)) (sym p.0) (lower bound v t p.1 h, tt)

-- a part has no more nodes than all
nodes-at : (ts : List Expansion) (k : ℕ) → nodes (get_or ts k zero_expansion) ≤ parts_nodes (parts_from ts)
nodes-at [] k = omega arith
nodes-at (t ∷ ts) zero = omega arith
nodes-at (t ∷ ts) (suc k) = omega (arith, nodes-at ts k)

-- a part is no heavier than all
pub weight-at : (ts : List Expansion) (k : ℕ) → weight (get_or ts k zero_expansion) ≤ parts_weight (parts_from ts)
weight-at [] k = omega arith
weight-at (t ∷ ts) zero = omega arith
weight-at (t ∷ ts) (suc k) = omega (arith, weight-at ts k)

pub parts_in-nodes : (v : ℕ) (t : Expansion) (ts : List Expansion) (k : ℕ) → IsPartsIn v t ts → nodes (get_or ts k zero_expansion) ≤ nodes t
parts_in-nodes v t ts k (inl e) = omega (arith, nodes-at ts k, ap nodes e)
parts_in-nodes v t ts k (inr h) = omega (arith, nodes-at ts k, ap (λ (us : List Expansion). parts_nodes (parts_from us)) h.0)

-- and fewer where the polynomial has the variable
pub parts_in-fewer : (v : ℕ) (t : Expansion) (ts : List Expansion) (k : ℕ) → IsPartsIn v t ts → IsOver v t → nodes (get_or ts k zero_expansion) < nodes t
parts_in-fewer v t ts k (inl e) o = omega (arith, nodes-at ts k, ap nodes e)
parts_in-fewer v t ts k (inr h) o = absurd (omega (arith, subst (TopBelow v) o.1 h.1))

-- a part of each of two polynomials have fewer nodes than they
pub pair-fewer : (v : ℕ) (a b : Expansion) (xs ys : List Expansion) (k : ℕ) → IsPartsIn v a xs → IsPartsIn v b ys → IsHighest v a b
    → nodes (get_or xs k zero_expansion) + nodes (get_or ys k zero_expansion) < nodes a + nodes b
pair-fewer v a b xs ys k p q h = by h.one where
  by : IsOver v a ⊎ IsOver v b → nodes (get_or xs k zero_expansion) + nodes (get_or ys k zero_expansion) < nodes a + nodes b
  by (inl o) = omega (arith, parts_in-fewer v a xs k p o, parts_in-nodes v b ys k q)
  by (inr o) = omega (arith, parts_in-nodes v a xs k p, parts_in-fewer v b ys k q o)

-- and are no heavier
pub pair-light : (v : ℕ) (a b : Expansion) (xs ys : List Expansion) (k : ℕ) → IsPartsIn v a xs → IsPartsIn v b ys
    → weight (get_or xs k zero_expansion) + weight (get_or ys k zero_expansion) ≤ weight a + weight b
pair-light v a b xs ys k p q =
    omega (arith, weight-at xs k, weight-at ys k, parts_in-weight v a xs p, parts_in-weight v b ys q)

-- each part of one is the sum of the others' parts
abbrev pub AllSums : List Expansion → List Expansion → List Expansion → Type 0
AllSums xs ys zs = (k : ℕ) → k < length zs → IsSum (get_or xs k zero_expansion) (get_or ys k zero_expansion) (get_or zs k zero_expansion)

-- Horner's step of a sum
horner : (a b c x f g h : ℤ) → c ≡ a +ℤ b → h ≡ f +ℤ g → c +ℤ (x *ℤ h) ≡ (a +ℤ (x *ℤ f)) +ℤ (b +ℤ (x *ℤ g))
horner a b c x f g h p q = ap (λ (y : ℤ). y +ℤ (x *ℤ h)) p ∙ ap (λ (y : ℤ). (a +ℤ b) +ℤ y) (ap (λ (y : ℤ). x *ℤ y) q ∙ mul-add x f g) ∙ add_pairs a b (x *ℤ f) (x *ℤ g)

nothing : (x : ℤ) → pos 0 ≡ pos 0 +ℤ (x *ℤ pos 0)
nothing x = sym (plus_nothing (pos 0) x)

pub sums-value : (xs ys zs : List Expansion) (x : ℤ) (point : ℕ → ℤ) → AllSums xs ys zs → length xs ≤ length zs → length ys ≤ length zs
    → parts_value (parts_from zs) x point ≡ parts_value (parts_from xs) x point +ℤ parts_value (parts_from ys) x point
sums-value [] [] [] x point h p q = refl
sums-value (a ∷ xs) ys [] x point h p q = absurd (omega arith)
sums-value [] (b ∷ ys) [] x point h p q = absurd (omega arith)
sums-value [] [] (c ∷ zs) x point h p q =
    horner (pos 0) (pos 0) (value c point) x (pos 0) (pos 0) (parts_value (parts_from zs) x point) ((h 0 (omega arith)).sum point) (sums-value [] [] zs x point (λ k r. h (suc k) (omega arith)) (omega arith) (omega arith))
    ∙ ap (λ (y : ℤ). y +ℤ y) (sym (nothing x))
sums-value (a ∷ xs) [] (c ∷ zs) x point h p q =
    horner (value a point) (pos 0) (value c point) x (parts_value (parts_from xs) x point) (pos 0) (parts_value (parts_from zs) x point) ((h 0 (omega arith)).sum point) (sums-value xs [] zs x point (λ k r. h (suc k) (omega arith)) (omega arith) (omega arith))
    ∙ ap (λ (y : ℤ). (value a point +ℤ (x *ℤ parts_value (parts_from xs) x point)) +ℤ y) (sym (nothing x))
sums-value [] (b ∷ ys) (c ∷ zs) x point h p q =
    horner (pos 0) (value b point) (value c point) x (pos 0) (parts_value (parts_from ys) x point) (parts_value (parts_from zs) x point) ((h 0 (omega arith)).sum point) (sums-value [] ys zs x point (λ k r. h (suc k) (omega arith)) (omega arith) (omega arith))
    ∙ ap (λ (y : ℤ). y +ℤ (value b point +ℤ (x *ℤ parts_value (parts_from ys) x point))) (sym (nothing x))
sums-value (a ∷ xs) (b ∷ ys) (c ∷ zs) x point h p q =
    horner (value a point) (value b point) (value c point) x (parts_value (parts_from xs) x point) (parts_value (parts_from ys) x point) (parts_value (parts_from zs) x point) ((h 0 (omega arith)).sum point) (sums-value xs ys zs x point (λ k r. h (suc k) (omega arith)) (omega arith) (omega arith))

-- the rest of a list; of none, none
tail_of : List Expansion → List Expansion
tail_of [] = []
tail_of (t ∷ ts) = ts

get_or-tail : (ts : List Expansion) (k : ℕ) → get_or ts (suc k) zero_expansion ≡ get_or (tail_of ts) k zero_expansion
unfolding tail_of
get_or-tail [] k = refl
get_or-tail (t ∷ ts) k = refl

weight-tail : (ts : List Expansion) → parts_weight (parts_from ts) ≡ weight (get_or ts 0 zero_expansion) + parts_weight (parts_from (tail_of ts))
unfolding tail_of
weight-tail [] = refl
weight-tail (t ∷ ts) = refl

pub sums-weight : (xs ys zs : List Expansion) → AllSums xs ys zs → parts_weight (parts_from zs) ≤ parts_weight (parts_from xs) + parts_weight (parts_from ys)
sums-weight xs ys [] h = omega arith
sums-weight xs ys (c ∷ zs) h =
    omega (
      arith,
      weight-tail xs,
      weight-tail ys,
      (h 0 (omega arith)).light,
      sums-weight (tail_of xs) (tail_of ys) zs (λ k p. subst (λ (u : Expansion). IsSum u (get_or (tail_of ys) k zero_expansion) (get_or zs k zero_expansion)) (get_or-tail xs k)
          (subst (λ (u : Expansion). IsSum (get_or xs (suc k) zero_expansion) u (get_or zs k zero_expansion)) (get_or-tail ys k) (h (suc k) (omega arith)))),
    )

canonical-at : (bound : ℕ) (ts : List Expansion) (k : ℕ) → AreCanonical bound (parts_from ts) → IsCanonical bound (get_or ts k zero_expansion)
canonical-at bound [] k h = tt
canonical-at bound (t ∷ ts) zero h = h.0
canonical-at bound (t ∷ ts) (suc k) h = canonical-at bound ts k h.1

canonical-each : (bound : ℕ) (ts : List Expansion) → ((k : ℕ) → k < length ts → IsCanonical bound (get_or ts k zero_expansion)) → AreCanonical bound (parts_from ts)
canonical-each bound [] h = tt
canonical-each bound (t ∷ ts) h = (h 0 (omega arith), canonical-each bound ts (λ k p. h (suc k) (omega arith)))

pub sums-canonical : (bound : ℕ) (xs ys zs : List Expansion) → AllSums xs ys zs → AreCanonical bound (parts_from xs) → AreCanonical bound (parts_from ys) → AreCanonical bound (parts_from zs)
sums-canonical bound xs ys zs h p q =
    canonical-each bound zs (λ k r. (h k r).canonical bound (canonical-at bound xs k p) (canonical-at bound ys k q))

-- the parts in a variable have the polynomial's degrees
parts_in-degrees : (d v : ℕ) (t : Expansion) (ts : List Expansion) → IsPartsIn v t ts → DegreesAtMost d t → (length ts ≤ d + 1) × PartsDegreesAtMost d (parts_from ts)
parts_in-degrees d v t ts (inl e) h = let p = subst (DegreesAtMost d) e h in (omega (arith, p.0, parts_count-length ts), p.1)
parts_in-degrees d v t ts (inr p) h = (omega (arith, ap length p.0), subst (λ (us : List Expansion). PartsDegreesAtMost d (parts_from us)) (sym p.0) (h, tt))

degrees-at : (d : ℕ) (ts : List Expansion) (k : ℕ) → PartsDegreesAtMost d (parts_from ts) → DegreesAtMost d (get_or ts k zero_expansion)
degrees-at d [] k h = tt
degrees-at d (t ∷ ts) zero h = h.0
degrees-at d (t ∷ ts) (suc k) h = degrees-at d ts k h.1

degrees-each : (d : ℕ) (ts : List Expansion) → ((k : ℕ) → k < length ts → DegreesAtMost d (get_or ts k zero_expansion)) → PartsDegreesAtMost d (parts_from ts)
degrees-each d [] h = tt
degrees-each d (t ∷ ts) h = (h 0 (omega arith), degrees-each d ts (λ k p. h (suc k) (omega arith)))

-- the highest variable is below the bound
highest-below : (bound v : ℕ) (a b : Expansion) → IsHighest v a b → IsCanonical bound a → IsCanonical bound b → v < bound
highest-below bound v a b h p q = by h.one where
  by : IsOver v a ⊎ IsOver v b → v < bound
  by (inl o) = (subst (IsCanonical bound) o.1 p).0
  by (inr o) = (subst (IsCanonical bound) o.1 q).0

-- the joined sums of the parts are the sum
pub sum-joined : (v : ℕ) (a b t : Expansion) (xs ys zs : List Expansion) → IsPartsIn v a xs → IsPartsIn v b ys → IsHighest v a b
    → length xs ≤ length zs → length ys ≤ length zs → length zs ≤ max (length xs) (length ys) → AllSums xs ys zs → IsJoined v (parts_from zs) t → IsSum a b t
sum-joined v a b t xs ys zs p q high le_x le_y le_z sums joined = record {
  sum = λ point. joined.same point ∙ sums-value xs ys zs (point v) point sums le_x le_y
      ∙ ap (λ (y : ℤ). y +ℤ parts_value (parts_from ys) (point v) point) (parts_in-value v a xs p point)
      ∙ ap (λ (y : ℤ). value a point +ℤ y) (parts_in-value v b ys q point);
  light = omega (arith, joined.light, sums-weight xs ys zs sums, parts_in-weight v a xs p, parts_in-weight v b ys q);
  canonical = λ bound ca cb. joined.canonical bound (highest-below bound v a b high ca cb)
      (sums-canonical v xs ys zs sums (parts_in-canonical bound v a xs p ca) (parts_in-canonical bound v b ys q cb));
  degrees = λ d da db.
      let x = parts_in-degrees d v a xs p da in
      let y = parts_in-degrees d v b ys q db in
      joined.degrees d (omega (arith, parts_count-length zs, x.0, y.0, le_z)) (degrees-each d zs (λ k r. (sums k r).degrees d (degrees-at d xs k x.1) (degrees-at d ys k y.1)));
}

-- one sum more
pub sums-push : (xs ys : List Expansion) (zs : List Tree) (t : Tree) (n : ℕ) → length zs ≡ n
    → ((k : ℕ) → k < n → IsSum (get_or xs k zero_expansion) (get_or ys k zero_expansion) (part_at zs k))
    → IsSum (get_or xs n zero_expansion) (get_or ys n zero_expansion) (expansion t)
    → (k : ℕ) → k < n + 1 → IsSum (get_or xs k zero_expansion) (get_or ys k zero_expansion) (part_at (zs ++ t ∷ []) k)
sums-push xs ys zs t n len before here =
    below_more (λ (k : ℕ). IsSum (get_or xs k zero_expansion) (get_or ys k zero_expansion) (part_at (zs ++ t ∷ []) k)) n
    (λ k p. subst (IsSum (get_or xs k zero_expansion) (get_or ys k zero_expansion)) (sym (pushed k ∙ get_or_append_left (expansions zs) (expansion t ∷ []) zero_expansion k (omega (arith, length-map zs expansion)))) (before k p))
    (subst (IsSum (get_or xs n zero_expansion) (get_or ys n zero_expansion)) (sym (pushed n ∙ get_or_push (expansions zs) (expansion t) zero_expansion n (length-map zs expansion ∙ len))) here) where
      pushed : (k : ℕ) → part_at (zs ++ t ∷ []) k ≡ get_or (expansions zs ++ expansion t ∷ []) k zero_expansion
      pushed k = ap (λ (us : List Expansion). get_or us k zero_expansion) (map-append expansion zs (t ∷ []))
