-- Trees as expansions.
use Rattle.std.proofs.Common.{◌≡◌, ℕ, ◌+◌, ◌<◌, ◌≤◌, List, [], ◌∷◌, ◌++◌, length, get_or, map, take, drop, arith, subst, sym, refl, ◌∙◌, ap, Vec, Global, zero, suc, ◌-◌, Bool, true, false, Option, Some, None, IsTrue, ◌↔◌, MatchBool, slice_get, unwrap_or}
use Rattle.std.proofs.Math.IntN.{ℤ}
use Rattle.std.proofs.lemmas.List.{drop_more, get_or_default, get_or-map, length-map, take_all, append-nil, map-append, same_from_push}
use Rattle.std.specs.Option.{option_to_list}
use Rattle.poly_tree.specs.declared.tree.Tree.{Tree}
use Rattle.poly_tree.specs.declared.tree.Tree.TheViews.{Over}
use Rattle.poly_tree.specs.declared.tree.Tree.TheVariants.{Num, rolls-Num, rolls-Over}
use Rattle.poly_tree.specs.declared.tree.Tree.TheOpen.{Over as over_layer, Num as num_layer}
use Rattle.poly_tree.specs.declared.tree.Tree.TheFolds.{fold-roll-Tree}
use Rattle.poly_tree.specs.Expansion.{Expansion, Parts, number, over, none, part, zero_expansion, EndsInZero, EndsNonzero, IsTrimmed, IsJoined, parts_from, weight, parts_weight, nodes, parts_nodes, scaled}
use Rattle.poly_tree.specs.Tree.{expansion, expansions, expansion_step, parts_of}
use Rattle.poly_tree.proofs.Expansions.{weight-part, parts_from-scaled, EndsNonzero-end, IsTrimmed-more, IsJoined-over}

-- a tree that was read among the parts is no heavier than all
pub weight-read : (trees : List Tree) (k : ℕ) (t : Tree) → k < length trees → t ≡ get_or trees k t → weight (expansion t) ≤ parts_weight (parts_of trees)
weight-read trees k t p e =
    let is : get_or (expansions trees) k (expansion t) ≡ expansion t = get_or-map expansion trees k t (expansion t) p ∙ ap expansion (sym e) in
    let h : weight (get_or (expansions trees) k (expansion t)) ≤ parts_weight (parts_of trees) = weight-part (expansions trees) k (expansion t) (subst (λ (n : ℕ). k < n) (sym (length-map trees expansion)) p) in
    subst (λ (u : Expansion). weight u ≤ parts_weight (parts_of trees)) is h

-- a number as an expansion
pub expansion-Num : (n : ℤ) → expansion (Num n) ≡ number n
expansion-Num n = ap expansion (sym (rolls-Num n)) ∙ fold-roll-Tree Expansion expansion_step (num_layer n)

-- a tree over a variable as an expansion
pub expansion-Over : (v : ℕ) (ps : Vec Tree Global) → expansion (Over v ps) ≡ over v (parts_of ps.items)
expansion-Over v ps = ap expansion (sym (rolls-Over v ps)) ∙ fold-roll-Tree Expansion expansion_step (over_layer v ps)

-- a tree that was read among the parts is no heavier than all, and has no more nodes
nodes-part : (ts : List Expansion) (k : ℕ) (d : Expansion) → k < length ts → nodes (get_or ts k d) ≤ parts_nodes (parts_from ts)
nodes-part [] k d p = absurd (omega arith)
nodes-part (t ∷ ts) zero d p = omega arith
nodes-part (t ∷ ts) (suc k) d p = omega (arith, nodes-part ts k d (omega arith))

pub read_below : (trees : List Tree) (k : ℕ) (t : Tree) → k < length trees → t ≡ get_or trees k t
    → (weight (expansion t) ≤ parts_weight (parts_of trees)) × (nodes (expansion t) ≤ parts_nodes (parts_of trees))
read_below trees k t p e =
    let is : get_or (expansions trees) k (expansion t) ≡ expansion t = get_or-map expansion trees k t (expansion t) p ∙ ap expansion (sym e) in
    let h : nodes (get_or (expansions trees) k (expansion t)) ≤ parts_nodes (parts_of trees) = nodes-part (expansions trees) k (expansion t) (subst (λ (n : ℕ). k < n) (sym (length-map trees expansion)) p) in
    (weight-read trees k t p e, subst (λ (u : Expansion). nodes u ≤ parts_nodes (parts_of trees)) is h)

-- a tree that was read among the parts of another has fewer nodes
pub nodes-below : (t : Expansion) (v : ℕ) (trees : List Tree) (k : ℕ) (u : Tree) → t ≡ over v (parts_of trees) → k < length trees → u ≡ get_or trees k u
    → nodes (expansion u) < nodes t
nodes-below t v trees k u e p read =
    let h = (read_below trees k u p read).1 in omega (arith, ap nodes e, h)

-- and is no heavier
pub weight-below : (t : Expansion) (v : ℕ) (trees : List Tree) (k : ℕ) (u : Tree) → t ≡ over v (parts_of trees) → k < length trees → u ≡ get_or trees k u
    → weight (expansion u) ≤ weight t
weight-below t v trees k u e p read =
    let h = (read_below trees k u p read).0 in omega (arith, ap weight e, h)

-- multiples of all parts
pub scaled-over : (f : ℤ) (t : Expansion) (v : ℕ) (qs : Vec Tree Global) (trees : List Tree) (k : ℕ) → t ≡ over v (parts_of trees) → length trees ≤ k
    → map expansion qs.items ≡ map (scaled f) (map expansion (take k trees)) → expansion (Over v qs) ≡ scaled f t
scaled-over f t v qs trees k e all h =
    expansion-Over v qs
    ∙ ap (λ (us : List Expansion). over v (parts_from us)) (h ∙ ap (λ (us : List Tree). map (scaled f) (map expansion us)) (take_all k trees all))
    ∙ ap (over v) (parts_from-scaled f (map expansion trees))
    ∙ sym (ap (scaled f) e)

-- parts that end in a tree
front_of : (trees : List Tree) (t : Tree) → Some t ≡ slice_get trees (length trees - 1) → (front : List Expansion) × (expansions trees ≡ front ++ expansion t ∷ [])
front_of [] t e = absurd cc
front_of (x ∷ []) t e = ([], ap (λ (y : Tree). expansion y ∷ []) (sym (ap (λ (o : Option Tree). unwrap_or o x) e)))
front_of (x ∷ y ∷ ys) t e =
    let rest = front_of (y ∷ ys) t (e ∙ ap (λ (n : ℕ). slice_get (x ∷ y ∷ ys) n) (last-suc (length ys))) in
    (expansion x ∷ rest.0, ap (λ (us : List Expansion). expansion x ∷ us) rest.1) where
      last-suc : (n : ℕ) → suc (suc n) - 1 ≡ suc (suc n - 1)
      last-suc n = omega arith

-- whether they end in zero
pub ends_by : (trees : List Tree) (t : Tree) (b : Bool) → Some t ≡ slice_get trees (length trees - 1) → IsTrue b ↔ (expansion t ≡ zero_expansion)
    → MatchBool b (EndsInZero (expansions trees)) (EndsNonzero (expansions trees))
ends_by trees t true e h =
    let found = front_of trees t e in
    (found.0, found.1 ∙ ap (λ (u : Expansion). found.0 ++ u ∷ []) (h.0 refl))
ends_by trees t false e h =
    let found = front_of trees t e in EndsNonzero-end (expansions trees) found.0 (expansion t) found.1 (λ is. absurd (no (h.1 is))) where
      no : IsTrue false → ⊥
      no e = cc

-- a zero is taken off the end
pub popped : (old : List Expansion) (trees rest : List Tree) (o : Option Tree) → trees ≡ rest ++ option_to_list o → EndsInZero (expansions trees)
    → IsTrimmed old (expansions trees) → IsTrimmed old (expansions rest)
popped old trees rest None e h trimmed =
    subst (λ (us : List Tree). IsTrimmed old (expansions us)) (e ∙ append-nil rest) trimmed
popped old trees rest (Some t) e h trimmed =
    let same : expansions rest ++ expansion t ∷ [] ≡ h.0 ++ zero_expansion ∷ [] = sym (map-append expansion rest (t ∷ [])) ∙ sym (ap expansions e) ∙ h.1 in
    let both = same_from_push (expansions rest) h.0 (expansion t) zero_expansion same in
    IsTrimmed-more old (expansions trees) (expansions rest) (h.1 ∙ ap (λ (us : List Expansion). us ++ zero_expansion ∷ []) (sym both.0)) trimmed

-- two or more trimmed parts make a tree
pub joined-over : (v : ℕ) (old : List Tree) (qs : Vec Tree Global) → IsTrimmed (expansions old) (expansions qs.items) → EndsNonzero (expansions qs.items) → 2 ≤ length qs.items
    → IsJoined v (parts_of old) (expansion (Over v qs))
joined-over v old qs trimmed ends many =
    subst (IsJoined v (parts_of old)) (sym (expansion-Over v qs))
    (IsJoined-over v (expansions old) (expansions qs.items) trimmed ends (subst (λ (n : ℕ). 2 ≤ n) (sym (length-map qs.items expansion)) many))

-- the parts from one earlier on
pub parts_of-back : (trees : List Tree) (done : ℕ) (u : Tree) → done < length trees → u ≡ get_or trees (length trees - 1 - done) u
    → parts_of (drop (length trees - (done + 1)) trees) ≡ part (expansion u) (parts_of (drop (length trees - done) trees))
parts_of-back trees done u below read =
    ap (λ (n : ℕ). parts_of (drop n trees)) (first (length trees) done)
    ∙ ap parts_of (drop_more trees (length trees - 1 - done) u (omega arith))
    ∙ ap (λ (n : ℕ). part (expansion (get_or trees (length trees - 1 - done) u)) (parts_of (drop n trees))) (next (length trees) done below)
    ∙ ap (λ (w : Tree). part (expansion w) (parts_of (drop (length trees - done) trees))) (sym read) where
      first : (n m : ℕ) → n - (m + 1) ≡ n - 1 - m
      first n m = omega arith

      next : (n m : ℕ) → m < n → n - 1 - m + 1 ≡ n - m
      next n m p = omega arith

-- the parts from a place on are no heavier than all
parts_weight-drop : (n : ℕ) (trees : List Tree) → parts_weight (parts_of (drop n trees)) ≤ parts_weight (parts_of trees)
parts_weight-drop zero trees = omega arith
parts_weight-drop (suc n) [] = omega arith
parts_weight-drop (suc n) (t ∷ trees) = omega (arith, parts_weight-drop n trees)

-- a part and those after it are no heavier than the tree
pub weight-back : (t : Expansion) (v : ℕ) (trees : List Tree) (done : ℕ) (u : Tree) → t ≡ over v (parts_of trees) → done < length trees → u ≡ get_or trees (length trees - 1 - done) u
    → weight (expansion u) + parts_weight (parts_of (drop (length trees - done) trees)) ≤ weight t
weight-back t v trees done u e below read =
    omega (arith, ap weight e, ap parts_weight (parts_of-back trees done u below read), parts_weight-drop (length trees - (done + 1)) trees)

-- the parts as a list
parts_list : Parts → List Expansion
parts_list none = []
parts_list (part t ps) = t ∷ parts_list ps

parts_list-from : (ts : List Expansion) → parts_list (parts_from ts) ≡ ts
unfolding parts_list
parts_list-from [] = refl
parts_list-from (t ∷ ts) = ap (λ (us : List Expansion). t ∷ us) (parts_list-from ts)

over-parts : Expansion → Parts
over-parts (number n) = none
over-parts (over v ps) = ps

-- trees of which equal polynomials are made are equal one by one
pub same-parts : (t u : Expansion) (v w : ℕ) (xs ys : List Tree) → t ≡ over v (parts_of xs) → u ≡ over w (parts_of ys) → t ≡ u → expansions xs ≡ expansions ys
unfolding over-parts
same-parts t u v w xs ys e f h =
    sym (parts_list-from (expansions xs)) ∙ ap (λ (s : Expansion). parts_list (over-parts s)) (sym e ∙ h ∙ f) ∙ parts_list-from (expansions ys)

pub same-lengths : (xs ys : List Tree) → expansions xs ≡ expansions ys → length xs ≡ length ys
same-lengths xs ys e = sym (length-map xs expansion) ∙ ap length e ∙ length-map ys expansion

pub same-at : (xs ys : List Tree) (k : ℕ) (x y : Tree) → expansions xs ≡ expansions ys → k < length xs → k < length ys → x ≡ get_or xs k x → y ≡ get_or ys k y → expansion x ≡ expansion y
same-at xs ys k x y e p q read_x read_y =
    ap expansion read_x ∙ sym (get_or-map expansion xs k x (expansion x) p) ∙ ap (λ (us : List Expansion). get_or us k (expansion x)) e
    ∙ get_or-map expansion ys k x (expansion x) q ∙ ap expansion (get_or_default ys k x y q ∙ sym read_y)
