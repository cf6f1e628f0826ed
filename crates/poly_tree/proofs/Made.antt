-- Lists of trees that are made one by one, and what is said of one tree more.
use Rattle.std.proofs.Common.{◌≡◌, ℕ, ◌+◌, ◌<◌, List, [], ◌∷◌, ◌++◌, length, get_or, map, min, max, ◌≤◌, take, drop, replicate, sym, subst, ◌∙◌, ap, arith, add-one}
use Rattle.std.proofs.Math.IntN.{ℤ, pos, ◌+ℤ◌, ◌*ℤ◌}
use Rattle.std.proofs.lemmas.Int.{ints}
use Rattle.std.proofs.lemmas.List.{map-append, map_more, drop_more, append_assoc, replicate-append-replicate}
use Rattle.base_laws.proofs.Ring.{zero-mul}
use Rattle.iolb_model.specs.Polynomial.{Term}
use Rattle.poly_tree.specs.declared.tree.Tree.{Tree}
use Rattle.poly_tree.specs.declared.tree.Tree.TheVariants.{Num}
use Rattle.poly_tree.specs.Expansion.{Expansion, Parts, number, part, value, weight, zero_expansion, parts_from, parts_value, parts_weight, degree_in, parts_degree_in, IsCanonical, AreCanonical, IsJoined, IsPartsIn, IsProduct, IsRaised}
use Rattle.poly_tree.specs.Printed.{with_power, expansion_terms, parts_terms}
use Rattle.poly_tree.specs.Tree.{expansion, expansions, parts_of}
use Rattle.poly_tree.proofs.Sums.{parts_in-value, parts_in-weight, parts_in-canonical}
use Rattle.poly_tree.proofs.Trees.{expansion-Num}

-- one tree more
pub one-more : (us ts : List Tree) (t : Tree) → us ≡ ts ++ t ∷ [] → expansions us ≡ expansions ts ++ expansion t ∷ []
one-more us ts t e = ap expansions e ∙ map-append expansion ts (t ∷ [])

-- one zero more
pub zero-more : (us ts : List Tree) (es : List Expansion) → us ≡ ts ++ Num (pos 0) ∷ [] → expansions ts ≡ es → expansions us ≡ es ++ zero_expansion ∷ []
zero-more us ts es e h =
    one-more us ts (Num (pos 0)) e
    ∙ ap (λ (vs : List Expansion). vs ++ expansion (Num (pos 0)) ∷ []) h
    ∙ ap (λ (v : Expansion). es ++ v ∷ []) (expansion-Num (pos 0))

-- so many zeros, and one more
pub zeros-more : (us ts : List Tree) (n : ℕ) → us ≡ ts ++ Num (pos 0) ∷ [] → expansions ts ≡ replicate n zero_expansion → expansions us ≡ replicate (n + 1) zero_expansion
zeros-more us ts n e h = zero-more us ts (replicate n zero_expansion) e h ∙ replicate-append-replicate n 1 zero_expansion

-- one more of what trees are made into
pub made-more : (f : Expansion → Expansion) (us ts xs : List Tree) (i : ℕ) (t x : Tree) → i < length xs → x ≡ get_or xs i x → expansion t ≡ f (expansion x)
    → us ≡ ts ++ t ∷ [] → expansions ts ≡ map f (expansions (take i xs)) → expansions us ≡ map f (expansions (take (i + 1) xs))
made-more f us ts xs i t x below is made e h =
    one-more us ts t e
    ∙ ap (λ (vs : List Expansion). vs ++ expansion t ∷ []) h
    ∙ ap (λ (v : Expansion). map f (expansions (take i xs)) ++ v ∷ []) (made ∙ ap (λ (y : Tree). f (expansion y)) is)
    ∙ sym (map-append f (expansions (take i xs)) (expansion (get_or xs i x) ∷ []))
    ∙ ap (map f) (sym (map_more expansion xs i x below))

-- one copy more, after some trees
pub copied-more : (front : List Expansion) (us ts xs : List Tree) (i : ℕ) (t x : Tree) → i < length xs → x ≡ get_or xs i x → expansion t ≡ expansion x
    → us ≡ ts ++ t ∷ [] → expansions ts ≡ front ++ expansions (take i xs) → expansions us ≡ front ++ expansions (take (i + 1) xs)
copied-more front us ts xs i t x below is same e h =
    one-more us ts t e
    ∙ ap (λ (vs : List Expansion). vs ++ expansion t ∷ []) h
    ∙ append_assoc front (expansions (take i xs)) (expansion t ∷ [])
    ∙ ap (λ (v : Expansion). front ++ (expansions (take i xs) ++ v ∷ [])) (same ∙ ap expansion is)
    ∙ ap (λ (vs : List Expansion). front ++ vs) (sym (map_more expansion xs i x below))

-- the parts from one on
pub rest-parts : (xs : List Tree) (i : ℕ) (x : Tree) → i < length xs → x ≡ get_or xs i x → parts_of (drop i xs) ≡ part (expansion x) (parts_of (drop (i + 1) xs))
rest-parts xs i x below is = ap parts_of (drop_more xs i x below) ∙ ap (λ (y : Tree). part (expansion y) (parts_of (drop (i + 1) xs))) (sym is)

-- the greatest degree so far, and one part more
pub degree-more : (v degree more own whole : ℕ) (xs : List Tree) (i : ℕ) (x : Tree) → i < length xs → x ≡ get_or xs i x → own ≡ degree_in v (expansion x) → more ≡ max own degree
    → max degree (parts_degree_in v (parts_of (drop i xs))) ≡ whole → max more (parts_degree_in v (parts_of (drop (i + 1) xs))) ≡ whole
degree-more v degree more own whole xs i x below is e m h =
    let rest : parts_degree_in v (parts_of (drop i xs)) ≡ max (degree_in v (expansion x)) (parts_degree_in v (parts_of (drop (i + 1) xs))) = ap (parts_degree_in v) (rest-parts xs i x below is) in
    omega (arith, rest, e, m, h)

-- one tree more of two lists is the same
pub same-more : (xs ys : List Tree) (i : ℕ) (x y : Tree) → i < length xs → i < length ys → x ≡ get_or xs i x → y ≡ get_or ys i y → expansion x ≡ expansion y
    → expansions (take i xs) ≡ expansions (take i ys) → expansions (take (i + 1) xs) ≡ expansions (take (i + 1) ys)
same-more xs ys i x y below within is is' same h =
    map_more expansion xs i x below
    ∙ ap (λ (es : List Expansion). es ++ expansion (get_or xs i x) ∷ []) h
    ∙ ap (λ (e : Expansion). expansions (take i ys) ++ e ∷ []) (ap expansion (sym is) ∙ same ∙ ap expansion is')
    ∙ sym (map_more expansion ys i y within)

-- the terms so far, and those of one part more
pub terms-more : (v i : ℕ) (ts us inner whole : List Term) (xs : List Tree) (x : Tree) → i < length xs → x ≡ get_or xs i x → us ≡ ts ++ map (with_power v i) inner → inner ≡ expansion_terms (expansion x)
    → ts ++ parts_terms v i (parts_of (drop i xs)) ≡ whole → us ++ parts_terms v (i + 1) (parts_of (drop (i + 1) xs)) ≡ whole
terms-more v i ts us inner whole xs x below is e own h =
    ap (λ (l : List Term). l ++ parts_terms v (i + 1) (parts_of (drop (i + 1) xs))) (e ∙ ap (λ (l : List Term). ts ++ map (with_power v i) l) own)
    ∙ append_assoc ts (map (with_power v i) (expansion_terms (expansion x))) (parts_terms v (i + 1) (parts_of (drop (i + 1) xs)))
    ∙ ap (λ (k : ℕ). ts ++ (map (with_power v i) (expansion_terms (expansion x)) ++ parts_terms v k (parts_of (drop (i + 1) xs)))) (add-one i)
    ∙ ap (λ (ps : Parts). ts ++ parts_terms v i ps) (sym (rest-parts xs i x below is))
    ∙ h

-- parts after a zero
pub raised-low : (v : ℕ) (t u : Expansion) (ts us : List Expansion) → IsPartsIn v t ts → us ≡ zero_expansion ∷ ts → IsJoined v (parts_from us) u → IsRaised v t u
raised-low v t u ts us is e joined = record {
  times = λ point.
      joined.same point ∙ ap (λ (es : List Expansion). parts_value (parts_from es) (point v) point) e ∙ zero-first (point v *ℤ parts_value (parts_from ts) (point v) point)
      ∙ ap (λ (y : ℤ). point v *ℤ y) (parts_in-value v t ts is point);
  light = omega (arith, joined.light, ap (λ (es : List Expansion). parts_weight (parts_from es)) e, parts_in-weight v t ts is);
  canonical = λ bound below c. joined.canonical bound below (subst (λ (es : List Expansion). AreCanonical v (parts_from es)) (sym e) (tt, parts_in-canonical bound v t ts is c));
} where
  zero-first : (y : ℤ) → pos 0 +ℤ y ≡ y
  zero-first y = omega (arith, ints)

-- the weight so far, and that of one part more
pub weight-more : (sum own more limit whole : ℕ) (xs : List Tree) (i : ℕ) (x : Tree) → i < length xs → x ≡ get_or xs i x → own ≡ min (weight (expansion x)) limit → more ≡ min (sum + own) limit
    → min (sum + parts_weight (parts_of (drop i xs))) limit ≡ whole → (more ≤ limit) × (min (more + parts_weight (parts_of (drop (i + 1) xs))) limit ≡ whole)
weight-more sum own more limit whole xs i x below is e m h =
    let rest : parts_weight (parts_of (drop i xs)) ≡ weight (expansion x) + parts_weight (parts_of (drop (i + 1) xs)) = ap parts_weight (rest-parts xs i x below is) in
    (omega (arith, m), omega (arith, rest, e, m, h))

-- nothing times a polynomial
pub zero-product : (n : ℤ) (b t : Expansion) → n ≡ pos 0 → t ≡ zero_expansion → IsProduct (number n) b t
zero-product n b t zero e = record {
  product = λ point. ap (λ (u : Expansion). value u point) e ∙ sym (nothing (value b point)) ∙ ap (λ (k : ℤ). k *ℤ value b point) (sym zero);
  light = omega (arith, ap weight e);
  canonical = λ bound c d. subst (IsCanonical bound) (sym e) tt;
} where
  nothing : (y : ℤ) → pos 0 *ℤ y ≡ pos 0
  nothing y = zero-mul y
