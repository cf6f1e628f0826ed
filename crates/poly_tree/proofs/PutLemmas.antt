-- Polynomials put in for variables.
use Rattle.std.proofs.Common.{◌≡◌, ◌≢◌, ℕ, zero, suc, ◌+◌, ◌-◌, ◌*◌, ◌<◌, ◌≤◌, ◌^◌, ◌==◌, max, List, [], ◌∷◌, length, get_or, drop, arith, subst, sym, refl, ◌∙◌, ap, inl, inr, ◌⊎◌, mul-le-mul, mul-le-mul_left, mul-le-mul_right, if◌then◌else◌}
use Rattle.std.proofs.Math.IntN.{ℤ, ◌+ℤ◌, ◌*ℤ◌}
use Rattle.std.proofs.lemmas.Bool.Decides.{nat_tests}
use Rattle.poly_tree.specs.declared.tree.Tree.{Tree}
use Rattle.poly_tree.specs.Expansion.{Expansion, Parts, number, over, none, part, zero_expansion, put, growth, parts_count, degree_in, parts_degree_in, put_weight, put_parts_weight, value, weight, parts_weight, IsCanonical, AreCanonical, IsSum, IsProduct, IsRaised, IsPut, IsPutPower, IsPartsPut}
use Rattle.poly_tree.specs.Tree.{expansion, parts_of}
use Rattle.poly_tree.proofs.Expansions.{IsCanonical-more}
use Rattle.std.proofs.Math.Nat.{pow-zero, pow-succ'}
use Rattle.poly_tree.proofs.LinearLemmas.{power-some}
use Rattle.std.specs.Prelude.{unsigned_abs}
use Rattle.poly_tree.proofs.Unique.{put-same}
use Rattle.poly_tree.proofs.Trees.{parts_of-back}

pub growth-here : (v heavy w : ℕ) → w ≡ v → growth v heavy w ≡ heavy
growth-here v heavy w e = grind (arith, nat_tests)

pub growth-there : (v heavy w : ℕ) → w ≢ v → growth v heavy w ≡ 1
growth-there v heavy w e = grind (arith, nat_tests)

growth-some : (v heavy w : ℕ) → 1 ≤ heavy → 1 ≤ growth v heavy w
growth-some v heavy w p = grind (arith, nat_tests)

put-other : (point : ℕ → ℤ) (v : ℕ) (x : ℤ) (w : ℕ) → w ≢ v → put point v x w ≡ point w
unfolding put
put-other point v x w p = grind (arith, nat_tests)

pub put-here : (v w : ℕ) (f t u : Expansion) → w ≡ v → IsProduct f t u → IsPutPower v f w t u
put-here v w f t u e h = record {
  times = λ point. h.product point ∙ ap (λ (z : ℤ). z *ℤ value t point) (sym (ap (λ (n : ℕ). put point v (value f point) n) e ∙ put-same point v (value f point)));
  light =
      let le : weight f * weight t ≤ max 1 (weight f) * weight t = mul-le-mul_right (weight t) (omega arith) in
      omega (arith, h.light, ap (λ (n : ℕ). n * weight t) (growth-here v (max 1 (weight f)) w e));
  canonical = λ bound below ct cf. h.canonical bound cf ct;
}

pub put-there : (v w : ℕ) (f t u : Expansion) → w ≢ v → IsRaised w t u → IsPutPower v f w t u
put-there v w f t u e h = record {
  times = λ point. h.times point ∙ ap (λ (z : ℤ). z *ℤ value t point) (sym (put-other point v (value f point) w e));
  light = omega (arith, h.light, ap (λ (n : ℕ). n * weight t) (growth-there v (max 1 (weight f)) w e));
  canonical = λ bound below ct cf. h.canonical bound below ct;
}

-- one part more, from the front
pub put-part : (v : ℕ) (f : Expansion) (w : ℕ) (ps : Parts) (s m r total u : Expansion) → IsPartsPut v f w ps total → IsPut v f s m → IsPutPower v f w total r → IsSum m r u
    → IsPartsPut v f w (part s ps) u
put-part v f w ps s m r total u h here raised added = record {
  same = λ point. added.sum point ∙ ap (λ (y : ℤ). y +ℤ value r point) (here.same point)
      ∙ ap (λ (y : ℤ). value s (put point v (value f point)) +ℤ y) (raised.times point ∙ ap (λ (y : ℤ). put point v (value f point) w *ℤ y) (h.same point));
  light =
      let k = growth v (max 1 (weight f)) w in
      let le : k * weight total ≤ k * put_parts_weight v (max 1 (weight f)) k ps = mul-le-mul_left k h.light in
      omega (arith, added.light, here.light, raised.light);
  canonical = λ bound below c cf. added.canonical bound (here.canonical bound (IsCanonical-more w bound s (omega arith) c.0) cf) (raised.canonical bound below (h.canonical bound below c.1 cf) cf);
}

-- the parts from a place on are no heavier than all
later : (v heavy k n : ℕ) (trees : List Tree) → 1 ≤ k → put_parts_weight v heavy k (parts_of (drop n trees)) ≤ put_parts_weight v heavy k (parts_of trees)
later v heavy k zero trees p = omega arith
later v heavy k (suc n) [] p = omega arith
later v heavy k (suc n) (t ∷ trees) p =
    let tail = put_parts_weight v heavy k (parts_of trees) in
    let grown : 1 * tail ≤ k * tail = mul-le-mul_right tail p in
    omega (arith, later v heavy k n trees p)

-- a part and those after it, times the growth, are no heavier than the tree
pub put_weight-back : (v heavy : ℕ) (t : Expansion) (w : ℕ) (trees : List Tree) (done : ℕ) (u : Tree) → 1 ≤ heavy → t ≡ over w (parts_of trees) → done < length trees → u ≡ get_or trees (length trees - 1 - done) u
    → put_weight v heavy (expansion u) + growth v heavy w * put_parts_weight v heavy (growth v heavy w) (parts_of (drop (length trees - done) trees)) ≤ put_weight v heavy t
put_weight-back v heavy t w trees done u some e below read =
    omega (arith, ap (put_weight v heavy) e, ap (put_parts_weight v heavy (growth v heavy w)) (parts_of-back trees done u below read), later v heavy (growth v heavy w) (length trees - (done + 1)) trees (growth-some v heavy w some))

-- a polynomial in variables below another has the weight of its own
mutual
  absent : (v heavy : ℕ) (t : Expansion) (bound : ℕ) → bound ≤ v → IsCanonical bound t → put_weight v heavy t ≡ weight t
  absent v heavy (number n) bound le c = refl
  absent v heavy (over w ps) bound le c =
      ap (λ (k : ℕ). put_parts_weight v heavy k ps) (growth-there v heavy w (different w (omega (arith, c.0)))) ∙ absent-parts v heavy ps w (omega (arith, c.0)) c.1 where
        different : (n : ℕ) → n < v → n ≢ v
        different n p e = omega arith

  absent-parts : (v heavy : ℕ) (ps : Parts) (bound : ℕ) → bound ≤ v → AreCanonical bound ps → put_parts_weight v heavy 1 ps ≡ parts_weight ps
  absent-parts v heavy none bound le c = refl
  absent-parts v heavy (part t ps) bound le c = omega (arith, absent v heavy t bound le c.0, absent-parts v heavy ps bound le c.1)

power-more : (heavy d e : ℕ) → 1 ≤ heavy → d ≤ e → heavy ^ d ≤ heavy ^ e
power-more heavy zero e p le = omega (arith, pow-zero heavy, power-some heavy e p)
power-more heavy (suc d) zero p le = absurd (omega arith)
power-more heavy (suc d) (suc e) p le =
    let r : heavy * heavy ^ d ≤ heavy * heavy ^ e = mul-le-mul_left heavy (power-more heavy d e p (omega arith)) in omega (arith, pow-succ' heavy d, pow-succ' heavy e)

-- parts of lower variables, by Horner's rule
horner-heavy : (v heavy : ℕ) (ps : Parts) (n : ℕ) → 1 ≤ heavy → AreCanonical v ps → parts_count ps ≤ n + 1 → put_parts_weight v heavy heavy ps ≤ parts_weight ps * heavy ^ n
horner-heavy v heavy none n p c few = omega arith
horner-heavy v heavy (part t none) n p c few =
    let r : weight t * 1 ≤ weight t * heavy ^ n = mul-le-mul_left (weight t) (power-some heavy n p) in
    omega (arith, absent v heavy t v (omega arith) c.0, spread (weight t) 0 (heavy ^ n)) where
      spread : (a b k : ℕ) → (a + b) * k ≡ a * k + b * k
      spread a b k = omega arith
horner-heavy v heavy (part t (part u ps)) zero p c few = absurd (omega arith)
horner-heavy v heavy (part t (part u ps)) (suc n) p c few =
    let r : weight t * 1 ≤ weight t * heavy ^ suc n = mul-le-mul_left (weight t) (power-some heavy (suc n) p) in
    let s : heavy * put_parts_weight v heavy heavy (part u ps) ≤ heavy * (parts_weight (part u ps) * heavy ^ n) = mul-le-mul_left heavy (horner-heavy v heavy (part u ps) n p c.1 (omega arith)) in
    omega (arith, absent v heavy t v (omega arith) c.0, spread (weight t) (parts_weight (part u ps)) (heavy ^ suc n), turn heavy (parts_weight (part u ps)) (heavy ^ n) (heavy ^ suc n) (pow-succ' heavy n)) where
      spread : (a b k : ℕ) → (a + b) * k ≡ a * k + b * k
      spread a b k = omega arith

      turn : (h a k m : ℕ) → m ≡ h * k → h * (a * k) ≡ a * m
      turn h a k m e = rw e (swap h a k) where
        swap : (x y z : ℕ) → x * (y * z) ≡ y * (x * z)
        swap x y z = omega arith

-- the weight grows with each power of the variable alone
mutual
  pub heavy-tree : (v heavy e bound : ℕ) (t : Expansion) → 1 ≤ heavy → IsCanonical bound t → degree_in v t ≤ e → put_weight v heavy t ≤ weight t * heavy ^ e
  heavy-tree v heavy e bound (number n) p c le =
      let r : unsigned_abs n * 1 ≤ unsigned_abs n * heavy ^ e = mul-le-mul_left (unsigned_abs n) (power-some heavy e p) in omega arith
  heavy-tree v heavy e bound (over w ps) p c le = by (test w v) (λ q. heavy-parts v heavy e w ps p c.1 q) where
    test : (m n : ℕ) → (m ≡ n) ⊎ (m ≢ n)
    test m n = either (compared m n) where
      compared : (x y : ℕ) → (x ≡ y) ⊎ ((x < y) ⊎ (y < x))
      compared x y = grind arith

      either : (m ≡ n) ⊎ ((m < n) ⊎ (n < m)) → (m ≡ n) ⊎ (m ≢ n)
      either (inl q) = inl q
      either (inr (inl q)) = inr (λ s. omega arith)
      either (inr (inr q)) = inr (λ s. omega arith)

    here : w ≡ v → degree_in v (over w ps) ≡ parts_count ps - 1
    here q = tested (parts_count ps - 1) (parts_degree_in v ps) where
      tested : (m n : ℕ) → (if w == v then m else n) ≡ m
      tested m n = grind (arith, nat_tests)

    there : w ≢ v → degree_in v (over w ps) ≡ parts_degree_in v ps
    there q = tested (parts_count ps - 1) (parts_degree_in v ps) where
      tested : (m n : ℕ) → (if w == v then m else n) ≡ n
      tested m n = grind (arith, nat_tests)

    by : (w ≡ v) ⊎ (w ≢ v) → (parts_degree_in v ps ≤ e → put_parts_weight v heavy 1 ps ≤ parts_weight ps * heavy ^ e) → put_weight v heavy (over w ps) ≤ parts_weight ps * heavy ^ e
    by (inl q) f =
        let r = horner-heavy v heavy ps e p (subst (λ (n : ℕ). AreCanonical n ps) q c.1) (omega (arith, here q)) in
        omega (arith, r, ap (λ (k : ℕ). put_parts_weight v heavy k ps) (growth-here v heavy w q))
    by (inr q) f =
        let r = f (omega (arith, there q)) in
        omega (arith, r, ap (λ (k : ℕ). put_parts_weight v heavy k ps) (growth-there v heavy w q))

  heavy-parts : (v heavy e bound : ℕ) (ps : Parts) → 1 ≤ heavy → AreCanonical bound ps → parts_degree_in v ps ≤ e → put_parts_weight v heavy 1 ps ≤ parts_weight ps * heavy ^ e
  heavy-parts v heavy e bound none p c le = omega arith
  heavy-parts v heavy e bound (part t ps) p c le =
      omega (arith, heavy-tree v heavy e bound t p c.0 (omega arith), heavy-parts v heavy e bound ps p c.1 (omega arith), spread (weight t) (parts_weight ps) (heavy ^ e)) where
        spread : (a b k : ℕ) → (a + b) * k ≡ a * k + b * k
        spread a b k = omega arith

-- sizes that are small leave room for what is put in
pub put-room : (v heavy w d limit bound : ℕ) (t : Expansion) → 1 ≤ heavy → 1 ≤ d → IsCanonical bound t → w ≡ weight t → (max 1 w * d) * heavy ^ degree_in v t < limit → put_weight v heavy t < limit
put-room v heavy w d limit bound t p q c e h =
    let grown = heavy-tree v heavy (degree_in v t) bound t p c (omega arith) in
    let le : w * heavy ^ degree_in v t ≤ (max 1 w * d) * heavy ^ degree_in v t = mul-le-mul_right (heavy ^ degree_in v t) (wide w d (max 1 w) (omega arith) q) in
    omega (arith, grown, ap (λ (n : ℕ). n * heavy ^ degree_in v t) e) where
      wide : (n k m : ℕ) → n ≤ m → 1 ≤ k → n ≤ m * k
      wide n k m le some = let r : n * 1 ≤ m * k = mul-le-mul le some in omega arith
