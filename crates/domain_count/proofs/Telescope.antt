-- Sums of differences over a range telescope.
use Rattle.std.proofs.Common.{◌≡◌, refl, ◌∙◌, ap, ℕ, zero, suc, ◌+◌, List, length, arith}
use Rattle.std.specs.Prelude.{◌<ℤ◌, flat_map}
use Rattle.std.proofs.Math.IntN.{ℤ, pos, negsuc, ◌+ℤ◌, ◌-ℤ◌, ◌*ℤ◌}
use lib.Signed.{◌≤ℤ◌}
use Rattle.std.proofs.lemmas.Int.{ints}
use Rattle.std.proofs.lemmas.List.{length-append}
use Rattle.std.proofs.lemmas.List.Concat.{flat_map-cons}
use Rattle.base_laws.proofs.Ring.{add-mul, zero-mul}
use Rattle.iolb_model.specs.Execution.{natural, rising, range}

pos-add : (m n : ℕ) → pos (m + n) ≡ pos m +ℤ pos n
pos-add m n = omega (arith, ints)

-- lists whose lengths, times a number, are the differences of F are as long together, times the number, as F differs
telescoped : {X : Type 0} (n : ℕ) (first factor : ℤ) (pieces : ℤ → List X) (F : ℤ → ℤ)
    → ((x : ℤ) → first ≤ℤ x → x <ℤ (first +ℤ pos n) → pos (length (pieces x)) *ℤ factor ≡ F x -ℤ F (x -ℤ pos 1))
    → pos (length (flat_map pieces (rising first n))) *ℤ factor ≡ F ((first +ℤ pos n) -ℤ pos 1) -ℤ F (first -ℤ pos 1)
telescoped zero first factor pieces F h =
    zero-mul factor ∙ nothing (F (first -ℤ pos 1)) ∙ ap (λ (z : ℤ). F z -ℤ F (first -ℤ pos 1)) (same first) where
      nothing : (z : ℤ) → pos 0 ≡ z -ℤ z
      nothing z = omega (arith, ints)

      same : (z : ℤ) → z -ℤ pos 1 ≡ (z +ℤ pos 0) -ℤ pos 1
      same z = omega (arith, ints)
telescoped (suc n) first factor pieces F h =
    let here : pos (length (pieces first)) *ℤ factor ≡ F first -ℤ F (first -ℤ pos 1) = h first (omega (arith, ints)) (omega (arith, ints)) in
    let rest : pos (length (flat_map pieces (rising (first +ℤ pos 1) n))) *ℤ factor ≡ F (((first +ℤ pos 1) +ℤ pos n) -ℤ pos 1) -ℤ F ((first +ℤ pos 1) -ℤ pos 1)
    = telescoped n (first +ℤ pos 1) factor pieces F (λ x p q. h x (omega (arith, ints)) (omega (arith, ints))) in
    let split : length (flat_map pieces (rising first (suc n))) ≡ length (pieces first) + length (flat_map pieces (rising (first +ℤ pos 1) n))
    = ap length (flat_map-cons pieces first (rising (first +ℤ pos 1) n)) ∙ length-append (pieces first) (flat_map pieces (rising (first +ℤ pos 1) n)) in
    ap (λ (k : ℕ). pos k *ℤ factor) split
    ∙ ap (λ (z : ℤ). z *ℤ factor) (pos-add (length (pieces first)) (length (flat_map pieces (rising (first +ℤ pos 1) n))))
    ∙ add-mul (pos (length (pieces first))) (pos (length (flat_map pieces (rising (first +ℤ pos 1) n)))) factor
    ∙ ap (λ (z : ℤ). z +ℤ (pos (length (flat_map pieces (rising (first +ℤ pos 1) n))) *ℤ factor)) here
    ∙ ap (λ (z : ℤ). (F first -ℤ F (first -ℤ pos 1)) +ℤ z) rest
    ∙ ap (λ (z : ℤ). (F first -ℤ F (first -ℤ pos 1)) +ℤ (F (((first +ℤ pos 1) +ℤ pos n) -ℤ pos 1) -ℤ F z)) (back first)
    ∙ joined (F first) (F (first -ℤ pos 1)) (F (((first +ℤ pos 1) +ℤ pos n) -ℤ pos 1))
    ∙ ap (λ (z : ℤ). F z -ℤ F (first -ℤ pos 1)) (last first) where
      back : (z : ℤ) → (z +ℤ pos 1) -ℤ pos 1 ≡ z
      back z = omega (arith, ints)

      joined : (a b c : ℤ) → (a -ℤ b) +ℤ (c -ℤ a) ≡ c -ℤ b
      joined a b c = omega (arith, ints)

      last : (z : ℤ) → ((z +ℤ pos 1) +ℤ pos n) -ℤ pos 1 ≡ (z +ℤ pos (suc n)) -ℤ pos 1
      last z = omega (arith, ints)

-- the same over the range from a lower to an upper end that isn't more than 1 below it
pub range-telescopes : {X : Type 0} (lower upper factor : ℤ) (pieces : ℤ → List X) (F : ℤ → ℤ) → pos 0 ≤ℤ ((upper -ℤ lower) +ℤ pos 1)
    → ((x : ℤ) → lower ≤ℤ x → x ≤ℤ upper → pos (length (pieces x)) *ℤ factor ≡ F x -ℤ F (x -ℤ pos 1))
    → pos (length (flat_map pieces (range lower upper))) *ℤ factor ≡ F upper -ℤ F (lower -ℤ pos 1)
range-telescopes {X} lower upper factor pieces F whole h = by ((upper -ℤ lower) +ℤ pos 1) refl whole where
  end : (n : ℕ) → pos n ≡ (upper -ℤ lower) +ℤ pos 1 → (lower +ℤ pos n) -ℤ pos 1 ≡ upper
  end n e = omega (arith, ints)

  by : (z : ℤ) → z ≡ (upper -ℤ lower) +ℤ pos 1 → pos 0 ≤ℤ z → pos (length (flat_map pieces (rising lower (natural z)))) *ℤ factor ≡ F upper -ℤ F (lower -ℤ pos 1)
  by (pos n) e p =
      telescoped n lower factor pieces F (λ x a b. h x a (omega (arith, ints))) ∙ ap (λ (z : ℤ). F z -ℤ F (lower -ℤ pos 1)) (end n e)
  by (negsuc n) e p = absurd (omega (arith, ints))
