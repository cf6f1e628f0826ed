-- Along a chain to the halves that make a short list with another.
use Rattle.std.proofs.Common.{◌≡◌, refl, sym, subst, ◌∙◌, ap, ℕ, suc, ◌-◌, ◌<◌, ◌≤◌, List, length, get_or, arith, ◌⊎◌, inl, inr, true}
use Rattle.std.specs.List.{AllByRecursion}
use Rattle.std.proofs.Math.IntN.{ℤ, pos, ◌+ℤ◌, ◌-ℤ◌}
use lib.Signed.{◌≤ℤ◌, lt_z}
use Rattle.std.proofs.lemmas.Int.{ints}
use Rattle.base_laws.proofs.Lists.{All-at}
use Rattle.iolb_model.specs.Form.{AffineForm}
use Rattle.affine_form.specs.System.{AffineSystem}
use Rattle.int_sets.specs.Fingerprint.{value_at_point}
use Rattle.int_sets.specs.Halves.{IsHalf, Joins}
use Rattle.int_sets.specs.Chains.{AreChainsOf, chain_of, half_at, link_at, Leads, here, later}
use Rattle.int_sets.specs.declared.half.Half.{Half}
use Rattle.int_sets.specs.declared.chains.Link.{Link}
use Rattle.int_sets.proofs.Joined.{joins-value, joins-constant, left_over}

-- where a chain leads from a number: the number is behind a place, no link there says that it leads past, and it leads to that
-- place or on
Leads-cases : (links : List Link) (constant : ℤ) (n k : ℕ) → Leads links constant n k
    → (m : ℕ) × (n ≡ suc m) × ((link_at links m).least ≤ℤ constant) × ((k ≡ m) ⊎ Leads links constant (link_at links m).next k)
Leads-cases links constant _ _ (here k small) = (k, refl, small, inl refl)
Leads-cases links constant _ _ (later n k small onward) = (n, refl, small, inr onward)

before : (n m : ℕ) → n ≡ suc m → m ≡ n - 1
before n m e = omega arith

-- the chain of the value that is wanted leads to each half that joins
pub walk-start : (system : AffineSystem) (goal : AffineForm) (first : Half) (halves : List Half) (starts : List ℕ) (links : List Link) (value wanted : ℤ) (number : ℕ)
    → AreChainsOf (length halves) halves starts links → AllByRecursion (IsHalf system.rows) halves → IsHalf system.rows first
    → value ≡ value_at_point goal → wanted ≡ value -ℤ first.value → number ≡ get_or starts (chain_of wanted) 0
    → (k : ℕ) → k < length halves → (rest : ℕ) → Joins system goal first (half_at halves k) rest → Leads links (half_at halves k).constant number k
walk-start system goal first halves starts links value wanted number chains all f value_is wanted_is number_is k below rest joins =
    let half = half_at halves k in
    let s : IsHalf system.rows half = All-at (IsHalf system.rows) halves k _ all below in
    let same : wanted ≡ half.value = left_over value first.value half.value wanted wanted_is (value_is ∙ joins-value system goal first half rest f s joins) in
    subst (λ (n : ℕ). Leads links half.constant n k) (sym (number_is ∙ ap (λ (z : ℤ). get_or starts (chain_of z) 0) same)) (chains.leads k below)

no-room : (limit least constant whole first : ℤ) (rest : ℕ) → lt_z limit least ≡ true → least ≤ℤ constant → limit ≡ whole -ℤ first
    → whole ≡ (first +ℤ constant) +ℤ pos rest → ⊥
no-room limit least constant whole first rest above below is sum = grind (arith, ints)

-- where all constants from a number on are above the limit, none joins there
pub walk-stop : (system : AffineSystem) (goal : AffineForm) (first : Half) (halves : List Half) (links : List Link) (limit whole : ℤ) (number : ℕ) (link : Link)
    → AllByRecursion (IsHalf system.rows) halves → IsHalf system.rows first → limit ≡ whole -ℤ first.constant → whole ≡ goal.constant
    → link ≡ link_at links (number - 1) → lt_z limit link.least ≡ true
    → (k : ℕ) → k < length halves → (rest : ℕ) → Joins system goal first (half_at halves k) rest → Leads links (half_at halves k).constant number k → ⊥
walk-stop system goal first halves links limit whole number link all f limit_is whole_is link_is above k below rest joins leads =
    let half = half_at halves k in
    let s : IsHalf system.rows half = All-at (IsHalf system.rows) halves k _ all below in
    let ahead = Leads-cases links half.constant number k leads in
    let small : link.least ≤ℤ half.constant = subst (λ (one : Link). one.least ≤ℤ half.constant) (ap (link_at links) (before number ahead.0 ahead.1) ∙ sym link_is) ahead.2 in
    no-room limit link.least half.constant whole first.constant rest above small limit_is (whole_is ∙ joins-constant system goal first half rest f s joins)

-- past a place that isn't it the chain leads on
pub walk-on : (links : List Link) (constant : ℤ) (number k : ℕ) (link : Link) → link ≡ link_at links (number - 1) → (k ≡ number - 1 → ⊥)
    → Leads links constant number k → Leads links constant link.next k
walk-on links constant number k link is other leads =
    let ahead = Leads-cases links constant number k leads in
    let same : ahead.0 ≡ number - 1 = before number ahead.0 ahead.1 in
    elim ahead.3 [
      | inl e ↦ absurd (other (e ∙ same))
      | inr onward ↦ subst (λ (one : Link). Leads links constant one.next k) (ap (link_at links) same ∙ sym is) onward
    ]

-- no chain leads from its end
pub walk-end : (links : List Link) (constant : ℤ) (number k : ℕ) → number ≤ 0 → Leads links constant number k → ⊥
walk-end links constant number k done leads =
    let ahead = Leads-cases links constant number k leads in
    omega (arith, ahead.1)
