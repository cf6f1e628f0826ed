-- Values over denominators.
use Rattle.std.proofs.Common.{◌≡◌, refl, sym, ◌∙◌, ap, ℕ, zero, suc, ◌*◌, ◌≤◌, arith}
use Rattle.std.proofs.Math.IntN.{ℤ, pos, ◌-ℤ◌, ◌*ℤ◌}
use Rattle.base_laws.proofs.Ring.{mul-cancel, mul_comm, mul_assoc_ℤ, mul_turn, sub-mul}

-- a factor of at least 1 cancels
pub cancelled : (n : ℕ) (a b : ℤ) → 1 ≤ n → a *ℤ pos n ≡ b *ℤ pos n → a ≡ b
cancelled zero a b some e = absurd (omega arith)
cancelled (suc n) a b some e = mul-cancel n a b (mul_comm (pos (suc n)) a ∙ e ∙ mul_comm b (pos (suc n)))

pos-mul : (m n : ℕ) → pos (m * n) ≡ pos m *ℤ pos n
pos-mul m n = refl

-- a step of a function over a denominator, where its backward difference has this summand
pub step-value : (s dsh dd din : ℕ) (here before shifted difference summand : ℤ) → 1 ≤ dsh → 1 ≤ dd
    → shifted *ℤ pos s ≡ before *ℤ pos dsh
    → difference *ℤ pos (s * dsh) ≡ ((here *ℤ pos dsh) -ℤ (shifted *ℤ pos s)) *ℤ pos dd
    → difference *ℤ pos din ≡ summand *ℤ pos dd
    → summand *ℤ pos s ≡ (here -ℤ before) *ℤ pos din
step-value s dsh dd din here before shifted difference summand p q a b c =
    let over : difference *ℤ pos s ≡ (here -ℤ before) *ℤ pos dd = cancelled dsh (difference *ℤ pos s) ((here -ℤ before) *ℤ pos dd) p
    (mul_assoc_ℤ difference (pos s) (pos dsh) ∙ ap (λ (z : ℤ). difference *ℤ z) (sym (pos-mul s dsh)) ∙ b
    ∙ ap (λ (z : ℤ). ((here *ℤ pos dsh) -ℤ z) *ℤ pos dd) a ∙ ap (λ (z : ℤ). z *ℤ pos dd) (sym (sub-mul here before (pos dsh))) ∙ mul_turn (here -ℤ before) (pos dsh) (pos dd)) in
    cancelled dd (summand *ℤ pos s) ((here -ℤ before) *ℤ pos din) q
    (mul_turn summand (pos s) (pos dd) ∙ ap (λ (z : ℤ). z *ℤ pos s) (sym c) ∙ mul_turn difference (pos din) (pos s)
    ∙ ap (λ (z : ℤ). z *ℤ pos din) over ∙ mul_turn (here -ℤ before) (pos dd) (pos din))

-- the value of a sum between bounds over a denominator from its values at the ends
pub ends-value : (s du dl dt : ℕ) (high low upper lower total : ℤ) → 1 ≤ du → 1 ≤ dl
    → upper *ℤ pos s ≡ high *ℤ pos du
    → lower *ℤ pos s ≡ low *ℤ pos dl
    → total *ℤ pos (du * dl) ≡ ((upper *ℤ pos dl) -ℤ (lower *ℤ pos du)) *ℤ pos dt
    → total *ℤ pos s ≡ (high -ℤ low) *ℤ pos dt
ends-value s du dl dt high low upper lower total q r a b c =
    let first : ((upper *ℤ pos dl) *ℤ pos s) ≡ (high *ℤ pos du) *ℤ pos dl = mul_turn upper (pos dl) (pos s) ∙ ap (λ (z : ℤ). z *ℤ pos dl) a in
    let second : ((lower *ℤ pos du) *ℤ pos s) ≡ (low *ℤ pos du) *ℤ pos dl = mul_turn lower (pos du) (pos s) ∙ ap (λ (z : ℤ). z *ℤ pos du) b ∙ mul_turn low (pos dl) (pos du) in
    let ends : (((upper *ℤ pos dl) -ℤ (lower *ℤ pos du)) *ℤ pos s) ≡ ((high -ℤ low) *ℤ pos du) *ℤ pos dl =
    sub-mul (upper *ℤ pos dl) (lower *ℤ pos du) (pos s) ∙ ap (λ (z : ℤ). z -ℤ ((lower *ℤ pos du) *ℤ pos s)) first ∙ ap (λ (z : ℤ). ((high *ℤ pos du) *ℤ pos dl) -ℤ z) second
    ∙ sym (sub-mul (high *ℤ pos du) (low *ℤ pos du) (pos dl)) ∙ ap (λ (z : ℤ). z *ℤ pos dl) (sym (sub-mul high low (pos du))) in
    let whole : (((total *ℤ pos s) *ℤ pos du) *ℤ pos dl) ≡ ((((high -ℤ low) *ℤ pos dt) *ℤ pos du) *ℤ pos dl) =
    ap (λ (z : ℤ). z *ℤ pos dl) (mul_turn total (pos s) (pos du)) ∙ mul_turn (total *ℤ pos du) (pos s) (pos dl)
    ∙ ap (λ (z : ℤ). z *ℤ pos s) (mul_assoc_ℤ total (pos du) (pos dl) ∙ ap (λ (z : ℤ). total *ℤ z) (sym (pos-mul du dl)) ∙ c)
    ∙ mul_turn ((upper *ℤ pos dl) -ℤ (lower *ℤ pos du)) (pos dt) (pos s) ∙ ap (λ (z : ℤ). z *ℤ pos dt) ends
    ∙ mul_turn ((high -ℤ low) *ℤ pos du) (pos dl) (pos dt) ∙ ap (λ (z : ℤ). z *ℤ pos dl) (mul_turn (high -ℤ low) (pos du) (pos dt)) in
    cancelled du (total *ℤ pos s) ((high -ℤ low) *ℤ pos dt) q
    (cancelled dl ((total *ℤ pos s) *ℤ pos du) (((high -ℤ low) *ℤ pos dt) *ℤ pos du) r whole)

-- the value of a summand from an antidifference of it, at a value and the one before
pub difference-value : (s dsh dd din : ℕ) (here before shifted difference summand number : ℤ) → 1 ≤ dsh → 1 ≤ dd → 1 ≤ din
    → shifted *ℤ pos s ≡ before *ℤ pos dsh
    → difference *ℤ pos (s * dsh) ≡ ((here *ℤ pos dsh) -ℤ (shifted *ℤ pos s)) *ℤ pos dd
    → difference *ℤ pos din ≡ summand *ℤ pos dd
    → summand ≡ number *ℤ pos din
    → number *ℤ pos s ≡ here -ℤ before
difference-value s dsh dd din here before shifted difference summand number p q r a b c d =
    cancelled din (number *ℤ pos s) (here -ℤ before) r
    (mul_turn number (pos s) (pos din) ∙ ap (λ (z : ℤ). z *ℤ pos s) (sym d) ∙ step-value s dsh dd din here before shifted difference summand p q a b c)

-- the value of a sum between bounds from its values at the ends
pub between-value : (s du dl dt : ℕ) (high low upper lower total number : ℤ) → 1 ≤ s → 1 ≤ du → 1 ≤ dl
    → upper *ℤ pos s ≡ high *ℤ pos du
    → lower *ℤ pos s ≡ low *ℤ pos dl
    → total *ℤ pos (du * dl) ≡ ((upper *ℤ pos dl) -ℤ (lower *ℤ pos du)) *ℤ pos dt
    → number *ℤ pos s ≡ high -ℤ low
    → total ≡ number *ℤ pos dt
between-value s du dl dt high low upper lower total number p q r a b c d =
    cancelled s total (number *ℤ pos dt) p
    (ends-value s du dl dt high low upper lower total q r a b c ∙ ap (λ (z : ℤ). z *ℤ pos dt) (sym d) ∙ mul_turn number (pos s) (pos dt))
