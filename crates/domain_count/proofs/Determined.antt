-- Each operation on polynomials has one answer, and none where it passes its limit.
use Rattle.std.proofs.Common.{◌≡◌, refl, sym, ◌∙◌, ap, subst, inl, inr, ℕ, ◌+◌, ◌*◌, ◌≤◌, ◌^◌, List, ◌++◌, length, replicate, arith, not-le_of_lt, mul-pos}
use Rattle.std.proofs.Math.IntN.{ℤ, pos, ◌-ℤ◌, ◌*ℤ◌}
use lib.Signed.{◌≤ℤ◌}
use Rattle.std.proofs.lemmas.Int.{ints}
use Rattle.std.proofs.lemmas.List.{length-append, length-replicate}
use Rattle.std.proofs.lemmas.Nat.Gcd.{dvd_refl}
use Rattle.base_laws.proofs.Ring.{mul_comm, mul_turn, mul-one}
use Rattle.iolb_model.specs.Form.{AffineForm, form_value}
use Rattle.poly_tree.specs.Expansion.{Expansion, at, put, value, scaled, IsCanonical, IsContent, DegreesAtMost}
use Rattle.poly_tree.specs.Poly.{Quotient, IsLegal, SameValues, numerator_at, size}
use Rattle.poly_tree.proofs.Products.{canonical-scaled, value-scaled}
use Rattle.poly_tree.proofs.Reduced.{degrees-scaled, legal-reduced}
use Rattle.poly_tree.proofs.SameLemmas.{at-listed, divides-multiple, length-listed, listed, nonzero, same-polynomial}
use Rattle.poly_tree.proofs.Unique.{agree, unique}
use Rattle.domain_count.specs.Antidifference.{less_one, IsShifted, ShiftPasses, IsSubtracted, SubtractionPasses, IsSubstituted, SubstitutionPasses, IsBackwardDifference, DifferencePasses, IsAntidifference, IsNoAntidifference, IsBetween, BetweenPasses}
use Rattle.domain_count.proofs.Fractions.{cancelled}
use Rattle.domain_count.proofs.Variables.{at-longer}
use Rattle.iolb_model.specs.declared.limits.TheConstants.{SUM_MEASURE}

-- two values over their denominators that are one value
pub crossed : (k d e : ℕ) (x y v : ℤ) → 1 ≤ k → x *ℤ pos k ≡ v *ℤ pos d → y *ℤ pos k ≡ v *ℤ pos e → x *ℤ pos e ≡ y *ℤ pos d
crossed k d e x y v some h g =
    cancelled k (x *ℤ pos e) (y *ℤ pos d) some
    (mul_turn x (pos e) (pos k) ∙ ap (λ (z : ℤ). z *ℤ pos e) h ∙ mul_turn v (pos d) (pos e) ∙ ap (λ (z : ℤ). z *ℤ pos d) (sym g) ∙ mul_turn y (pos k) (pos d))

-- what agrees at long points agrees at all
pub same-long : (n : ℕ) (a b : Quotient) → ((p : List ℤ) → n ≤ length p → (numerator_at a p *ℤ pos b.denominator) ≡ (numerator_at b p *ℤ pos a.denominator)) → SameValues a b
same-long n a b h = λ p.
    let long = p ++ replicate n (pos 1) in
    let points : at p ≡ at long = λ i w. at-longer p n w i in
    ap (λ (f : ℕ → ℤ). value a.tree f *ℤ pos b.denominator) points ∙ h long (omega (arith, length-append p (replicate n (pos 1)), length-replicate n (pos 1)))
    ∙ ap (λ (f : ℕ → ℤ). value b.tree f *ℤ pos a.denominator) (sym points)

everywhere-long : (n : ℕ) (t u : Expansion) → IsCanonical (2 ^ 16) t → IsCanonical (2 ^ 16) u → ((p : List ℤ) → n ≤ length p → value t (at p) ≡ value u (at p))
    → (point : ℕ → ℤ) → value t point ≡ value u point
everywhere-long n t u c d h point = by (2 ^ 16) c d where
  by : (bound : ℕ) → IsCanonical bound t → IsCanonical bound u → value t point ≡ value u point
  by bound c' d' =
      let long = listed point (bound + n) in
      sym (agree bound t (at long) point c' (λ w below. at-listed point (bound + n) w (omega arith))) ∙ h long (omega (arith, length-listed point (bound + n)))
      ∙ agree bound u (at long) point d' (λ w below. at-listed point (bound + n) w (omega arith))

-- a canonical tree that is a polynomial of the program times a number has its degrees
pub degrees-of : (n k : ℕ) (t : Expansion) (r : Quotient) → 1 ≤ k → IsLegal r → IsCanonical (2 ^ 16) t
    → ((p : List ℤ) → n ≤ length p → (numerator_at r p *ℤ pos k) ≡ (value t (at p) *ℤ pos r.denominator)) → DegreesAtMost 8 t
degrees-of n k t r some legal c h =
    let d = r.denominator in
    let left = canonical-scaled (2 ^ 16) (pos k) r.tree (nonzero k some) legal.canonical in
    let right = canonical-scaled (2 ^ 16) (pos d) t (nonzero d legal.positive) c in
    let same : scaled (pos k) r.tree ≡ scaled (pos d) t
    = unique (2 ^ 16) (scaled (pos k) r.tree) (scaled (pos d) t) left right
    (everywhere-long n (scaled (pos k) r.tree) (scaled (pos d) t) left right
    (λ p long. value-scaled (pos k) r.tree (at p) ∙ mul_comm (pos k) (numerator_at r p) ∙ h p long ∙ mul_comm (value t (at p)) (pos d) ∙ sym (value-scaled (pos d) t (at p)))) in
    let content : IsContent (scaled (pos d) t) d d = record { divides_start = dvd_refl d; divides_all = divides-multiple d t; greatest = λ j start all. start } in
    (legal-reduced (scaled (pos d) t) t (pos d) (pos 1) (pos d) (above d legal.positive) (above d legal.positive) content refl (mul-one (pos d)) right
    (subst (DegreesAtMost 8) same (degrees-scaled 8 (pos k) r.tree legal.degrees))).0.degrees where
      above : (n : ℕ) → 1 ≤ n → pos 1 ≤ℤ pos n
      above n p = omega (arith, ints)

shift-same : (var : ℕ) (sum s r : Quotient) → IsLegal sum → IsShifted var sum s → IsShifted var sum r → s ≡ r
shift-same var sum s r legal h g =
    same-polynomial s r h.legal g.legal
    (λ p. crossed sum.denominator s.denominator r.denominator (numerator_at s p) (numerator_at r p) (value sum.tree (put (at p) var (at p var -ℤ pos 1))) legal.positive (h.value p) (g.value p))

shift-stays : (var : ℕ) (sum s : Quotient) → IsLegal sum → IsShifted var sum s → ShiftPasses var sum → ⊥
shift-stays var sum s legal h (inl wide) = not-le_of_lt h.narrow wide
shift-stays var sum s legal h (inr passes) =
    passes.1.2 (degrees-of 0 sum.denominator passes.0 s legal.positive h.legal passes.1.0
    (λ p long. h.value p ∙ ap (λ (z : ℤ). z *ℤ pos s.denominator) (sym (passes.1.1 p))))

substituted-same : (var : ℕ) (form : AffineForm) (sum s r : Quotient) → IsLegal sum → IsSubstituted var form sum s → IsSubstituted var form sum r → s ≡ r
substituted-same var form sum s r legal h g =
    same-polynomial s r h.legal g.legal
    (same-long (length form.coefficients) s r
    (λ p long. crossed sum.denominator s.denominator r.denominator (numerator_at s p) (numerator_at r p) (value sum.tree (put (at p) var (form_value form p))) legal.positive (h.value p long) (g.value p long)))

substitution-stays : (var : ℕ) (form : AffineForm) (sum s : Quotient) → IsLegal sum → IsSubstituted var form sum s → SubstitutionPasses var form sum → ⊥
substitution-stays var form sum s legal h (inl wide) = not-le_of_lt h.narrow wide
substitution-stays var form sum s legal h (inr passes) =
    passes.1.2 (degrees-of (length form.coefficients) sum.denominator passes.0 s legal.positive h.legal passes.1.0
    (λ p long. h.value p long ∙ ap (λ (z : ℤ). z *ℤ pos s.denominator) (sym (passes.1.1 p long))))

subtracted-same : (a b c d r s : Quotient) → IsLegal a → IsLegal b → a ≡ c → b ≡ d → IsSubtracted a b r → IsSubtracted c d s → r ≡ s
subtracted-same a b c d r s la lb first second h g =
    let moved : IsSubtracted a b s
    = subst (λ (x : Quotient). IsSubtracted x b s) (sym first) (subst (λ (y : Quotient). IsSubtracted c y s) (sym second) g) in
    same-polynomial r s h.legal g.legal
    (λ p. crossed (a.denominator * b.denominator) r.denominator s.denominator (numerator_at r p) (numerator_at s p)
    ((numerator_at a p *ℤ pos b.denominator) -ℤ (numerator_at b p *ℤ pos a.denominator)) (mul-pos la.positive lb.positive) (h.value p) (moved.value p))

subtraction-stays : (a b c d r : Quotient) → a ≡ c → b ≡ d → IsSubtracted a b r → SubtractionPasses c d → ⊥
subtraction-stays a b c d r first second h wide =
    not-le_of_lt h.narrow (subst (λ (x : Quotient). SUM_MEASURE ≤ size x * size b) (sym first) (subst (λ (y : Quotient). SUM_MEASURE ≤ size c * size y) (sym second) wide))

difference-same : (var : ℕ) (sum d e : Quotient) → IsLegal sum → IsBackwardDifference var sum d → IsBackwardDifference var sum e → d ≡ e
difference-same var sum d e legal h g =
    subtracted-same sum h.shifted sum g.shifted d e legal h.shift.legal refl (shift-same var sum h.shifted g.shifted legal h.shift g.shift) h.less g.less

pub difference-stays : (var : ℕ) (sum d : Quotient) → IsLegal sum → IsBackwardDifference var sum d → DifferencePasses var sum → ⊥
difference-stays var sum d legal h (inl wide) = shift-stays var sum h.shifted legal h.shift wide
difference-stays var sum d legal h (inr passes) =
    subtraction-stays sum h.shifted sum passes.0 d refl (shift-same var sum h.shifted passes.0 legal h.shift passes.1.0) h.less passes.1.1

-- two summands of the same values have the same antidifferences
pub antidifference-stays : (var : ℕ) (summand other sum : Quotient) → IsLegal sum → 1 ≤ summand.denominator → SameValues summand other
    → IsAntidifference var summand sum → IsNoAntidifference var other sum → ⊥
antidifference-stays var summand other sum legal some same h g =
    let one = difference-same var sum h.difference g.difference legal h.backward g.backward in
    g.other (λ p.
    let here : numerator_at h.difference p ≡ numerator_at g.difference p = ap (λ (q : Quotient). numerator_at q p) one in
    ap (λ (z : ℤ). z *ℤ pos other.denominator) (sym here)
    ∙ chained summand.denominator h.difference.denominator other.denominator (numerator_at h.difference p) (numerator_at summand p) (numerator_at other p) some (h.same p) (same p)
    ∙ ap (λ (q : Quotient). numerator_at other p *ℤ pos q.denominator) one) where
      chained : (k d e : ℕ) (x y z : ℤ) → 1 ≤ k → x *ℤ pos k ≡ y *ℤ pos d → y *ℤ pos e ≡ z *ℤ pos k → x *ℤ pos e ≡ z *ℤ pos d
      chained k d e x y z some a b =
          cancelled k (x *ℤ pos e) (z *ℤ pos d) some
          (mul_turn x (pos e) (pos k) ∙ ap (λ (w : ℤ). w *ℤ pos e) a ∙ mul_turn y (pos d) (pos e) ∙ ap (λ (w : ℤ). w *ℤ pos d) b ∙ mul_turn z (pos k) (pos d))

pub between-same : (var : ℕ) (bounds : AffineForm × AffineForm) (sum s r : Quotient) → IsLegal sum → IsBetween var bounds sum s → IsBetween var bounds sum r → s ≡ r
between-same var bounds sum s r legal h g =
    subtracted-same h.upper h.lower g.upper g.lower s r h.at_upper.legal h.at_lower.legal (substituted-same var bounds.1 sum h.upper g.upper legal h.at_upper g.at_upper)
    (substituted-same var (less_one bounds.0) sum h.lower g.lower legal h.at_lower g.at_lower) h.less g.less

pub between-stays : (var : ℕ) (bounds : AffineForm × AffineForm) (sum s : Quotient) → IsLegal sum → IsBetween var bounds sum s → BetweenPasses var bounds sum → ⊥
between-stays var bounds sum s legal h (inl wide) = substitution-stays var bounds.1 sum h.upper legal h.at_upper wide
between-stays var bounds sum s legal h (inr (u, (is, inl wide))) = substitution-stays var (less_one bounds.0) sum h.lower legal h.at_lower wide
between-stays var bounds sum s legal h (inr (u, (is, inr (l, (at_l, wide))))) =
    subtraction-stays h.upper h.lower u l s (substituted-same var bounds.1 sum h.upper u legal h.at_upper is) (substituted-same var (less_one bounds.0) sum h.lower l legal h.at_lower at_l) h.less wide
