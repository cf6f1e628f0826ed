-- Common factors of the coefficients.
use Rattle.std.proofs.Common.{◌≡◌, ℕ, zero, suc, ◌+◌, ◌<◌, ◌≤◌, List, [], ◌∷◌, ◌++◌, length, get_or, take, map, arith, subst, sym, ◌∙◌, ap, ◌^◌, Vec, Global, FitsSigned}
use lib.Signed.{◌≤ℤ◌}
use mir.Syntax.{w128}
use Rattle.std.proofs.Math.IntN.{ℤ, pos, negsuc, ◌+ℤ◌, ◌*ℤ◌, neg_ℤ}
use Rattle.std.specs.Prelude.{unsigned_abs, int_div, int_rem}
use Rattle.std.specs.Int.{◌∣◌, IsGcd}
use Rattle.std.proofs.lemmas.Int.{ints, quot-rem}
use Rattle.std.proofs.lemmas.Nat.Gcd.{mod-eq-zero_of_dvd, dvd_trans, le_of_dvd, dvd-zero}
use Rattle.std.proofs.lemmas.List.{take_more, take_all, map-append}
use Rattle.std.proofs.Math.Nat.{eq-zero_of_zero-dvd}
use Rattle.base_laws.proofs.Ring.{mul_comm}
use Rattle.poly_tree.specs.declared.tree.Tree.{Tree}
use Rattle.poly_tree.specs.declared.tree.Tree.TheViews.{Over}
use Rattle.poly_tree.specs.Expansion.{Expansion, Parts, number, over, none, part, parts_from, scaled, DividesAll, DividesParts, IsContent, IsPartsContent}
use Rattle.poly_tree.specs.Tree.{expansion, expansions, parts_of}
use Rattle.poly_tree.proofs.Expansions.{parts_from-scaled}
use Rattle.poly_tree.proofs.Trees.{expansion-Over}

-- an exact quotient times the divisor
pub exact-quotient : (n d : ℤ) → unsigned_abs d ∣ unsigned_abs n → (d *ℤ int_div n d) ≡ n
exact-quotient n d h = mul_comm d (int_div n d) ∙ drop_zero (int_div n d *ℤ d) (int_rem n d) n (none n h) (quot-rem n d) where
  none : (m : ℤ) → unsigned_abs d ∣ unsigned_abs m → int_rem m d ≡ pos 0
  none (pos a) p = ap pos (mod-eq-zero_of_dvd (unsigned_abs d) p)
  none (negsuc a) p = ap (λ (k : ℕ). neg_ℤ (pos k)) (mod-eq-zero_of_dvd (unsigned_abs d) p)

  drop_zero : (x r y : ℤ) → r ≡ pos 0 → x +ℤ r ≡ y → x ≡ y
  drop_zero x r y p q = omega (arith, ints)

-- the content of a number
pub content-number : (t : Expansion) (n : ℤ) (start size g : ℕ) → t ≡ number n → size ≡ unsigned_abs n → IsGcd start size g → IsContent t start g
content-number t n start size g e is h = record {
  divides_start = h.0;
  divides_all = subst (DividesAll g) (sym e) (subst (λ (m : ℕ). g ∣ m) is h.1);
  greatest = λ k p q. h.2 k p (subst (λ (m : ℕ). k ∣ m) (sym is) (subst (DividesAll k) e q));
}

divides-push : (k : ℕ) (ts : List Expansion) (u : Expansion) → DividesParts k (parts_from ts) → DividesAll k u → DividesParts k (parts_from (ts ++ u ∷ []))
divides-push k [] u p q = (q, tt)
divides-push k (t ∷ ts) u p q = (p.0, divides-push k ts u p.1 q)

divides-front : (k : ℕ) (ts : List Expansion) (u : Expansion) → DividesParts k (parts_from (ts ++ u ∷ [])) → DividesParts k (parts_from ts) × DividesAll k u
divides-front k [] u p = (tt, p.0)
divides-front k (t ∷ ts) u p = let h = divides-front k ts u p.1 in ((p.0, h.0), h.1)

mutual
  divides-less : (j k : ℕ) (t : Expansion) → j ∣ k → DividesAll k t → DividesAll j t
  divides-less j k (number n) p q = dvd_trans j p q
  divides-less j k (over v ps) p q = divides-less-parts j k ps p q

  divides-less-parts : (j k : ℕ) (ps : Parts) → j ∣ k → DividesParts k ps → DividesParts j ps
  divides-less-parts j k none p q = tt
  divides-less-parts j k (part t ps) p q = (divides-less j k t p q.0, divides-less-parts j k ps p q.1)

-- one part more
pub content-push : (trees : List Tree) (i : ℕ) (u : Tree) (start f g : ℕ) → i < length trees → u ≡ get_or trees i u
    → IsPartsContent (parts_of (take i trees)) start f → IsContent (expansion u) f g → IsPartsContent (parts_of (take (i + 1) trees)) start g
content-push trees i u start f g below read h here =
    let more : expansions (take (i + 1) trees) ≡ expansions (take i trees) ++ expansion u ∷ []
    = ap expansions (take_more trees i u below ∙ ap (λ (w : Tree). take i trees ++ w ∷ []) (sym read)) ∙ map-append expansion (take i trees) (u ∷ []) in
    subst (λ (us : List Expansion). IsPartsContent (parts_from us) start g) (sym more) (record {
      divides_start = dvd_trans g here.divides_start h.divides_start;
      divides_all = divides-push g (expansions (take i trees)) (expansion u) (divides-less-parts g f (parts_of (take i trees)) here.divides_start h.divides_all) here.divides_all;
      greatest = λ k p q. let both = divides-front k (expansions (take i trees)) (expansion u) q in here.greatest k (h.greatest k p both.0) both.1;
    })

-- a part is divided by what divides all
divides-at : (k : ℕ) (trees : List Tree) (i : ℕ) (d : Tree) → i < length trees → DividesParts k (parts_of trees) → DividesAll k (expansion (get_or trees i d))
divides-at k [] i d p h = absurd (omega arith)
divides-at k (t ∷ trees) zero d p h = h.0
divides-at k (t ∷ trees) (suc i) d p h = divides-at k trees i d (omega arith) h.1

pub divides-read : (k : ℕ) (t : Expansion) (v : ℕ) (trees : List Tree) (i : ℕ) (u : Tree) → t ≡ over v (parts_of trees) → i < length trees → u ≡ get_or trees i u
    → DividesAll k t → DividesAll k (expansion u)
divides-read k t v trees i u e below read h =
    subst (λ (w : Tree). DividesAll k (expansion w)) (sym read) (divides-at k trees i u below (subst (DividesAll k) e h))

-- all parts divided
pub divided-over : (f : ℤ) (t : Expansion) (v : ℕ) (qs : Vec Tree Global) (trees : List Tree) (k : ℕ) → t ≡ over v (parts_of trees) → length trees ≤ k
    → map (scaled f) (map expansion qs.items) ≡ map expansion (take k trees) → scaled f (expansion (Over v qs)) ≡ t
divided-over f t v qs trees k e all h =
    ap (scaled f) (expansion-Over v qs)
    ∙ ap (over v) (sym (parts_from-scaled f (map expansion qs.items)))
    ∙ ap (λ (us : List Expansion). over v (parts_from us)) (h ∙ ap (map expansion) (take_all k trees all))
    ∙ sym e

-- a content of a number of at least 1 is at least 1, and no greater
pub content-above : (t : Expansion) (start : ℤ) (g : ℕ) → IsContent t (unsigned_abs start) g → pos 1 ≤ℤ start → 1 ≤ g
content-above t start zero h some = absurd (omega (arith, ints, le_of_dvd (size start some) (zero-dvd (unsigned_abs start) h.divides_start))) where
  size : (z : ℤ) → pos 1 ≤ℤ z → 0 < unsigned_abs z
  size z p = omega (arith, ints)

  zero-dvd : (n : ℕ) → 0 ∣ n → suc n ∣ n
  zero-dvd n p = subst (λ (m : ℕ). suc n ∣ m) (sym (eq-zero_of_zero-dvd p)) (dvd-zero (suc n))
content-above t start (suc g) h some = omega arith

pub content-below : (t : Expansion) (start : ℤ) (g : ℕ) → IsContent t (unsigned_abs start) g → pos 1 ≤ℤ start → FitsSigned w128 start → g < 2 ^ 127
content-below t start g h some fits = omega (arith, ints, le_of_dvd (size start some) h.divides_start, below start fits some) where
  size : (z : ℤ) → pos 1 ≤ℤ z → 0 < unsigned_abs z
  size z p = omega (arith, ints)

  below : (z : ℤ) → FitsSigned w128 z → pos 1 ≤ℤ z → unsigned_abs z < 2 ^ 127
  below (pos n) p q = omega (arith, p.sfits)
  below (negsuc n) p q = absurd (omega (arith, ints))
