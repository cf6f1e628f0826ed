-- Chains with one half more.
use Rattle.std.proofs.Common.{◌≡◌, refl, sym, subst, ◌∙◌, ap, ℕ, suc, ◌+◌, ◌<◌, ◌≤◌, ◌≢◌, List, [], ◌∷◌, ◌++◌, length, get_or, arith, inl, inr, below_more}
use Rattle.std.specs.Prelude.{slice_set}
use Rattle.std.proofs.Math.IntN.{ℤ, pos}
use lib.Signed.{◌≤ℤ◌}
use Rattle.std.proofs.lemmas.Int.{ints}
use Rattle.std.proofs.lemmas.Bool.{cases_eq}
use Rattle.std.proofs.lemmas.List.{get_or_append_left, get_or_push, get_or-set_same, get_or-set_other, length-set, length-append}
use Rattle.int_sets.specs.Chains.{Leads, here, later, AreChainsOf, chain_of, half_at, link_at}
use Rattle.int_sets.specs.declared.half.Half.{Half}
use Rattle.int_sets.specs.declared.chains.Link.{Link}
use Rattle.int_sets.specs.declared.chains.TheConstants.{CHAINS}

-- a link that was there is so with one more behind
link-kept : (links : List Link) (link : Link) (n : ℕ) → n < length links → link_at (links ++ link ∷ []) n ≡ link_at links n
link-kept links link n below = get_or_append_left links (link ∷ []) (record { next = 0; least = pos 0 }) n below

link-new : (links : List Link) (link : Link) → link_at (links ++ link ∷ []) (length links) ≡ link
link-new links link = get_or_push links link (record { next = 0; least = pos 0 }) (length links) refl

-- a chain leads where it did
Leads-append : (links : List Link) (link : Link) (constant : ℤ) (n k : ℕ) → ((m : ℕ) → m < length links → (link_at links m).next ≤ m) → n ≤ length links
    → Leads links constant n k → Leads (links ++ link ∷ []) constant n k
Leads-append links link constant _ _ falls within (here k small) =
    here k (subst (λ (one : Link). one.least ≤ℤ constant) (sym (link-kept links link k (omega arith))) small)
Leads-append links link constant _ _ falls within (later n k small onward) =
    later n k (subst (λ (one : Link). one.least ≤ℤ constant) (sym (link-kept links link n (omega arith))) small)
    (subst (λ (one : Link). Leads (links ++ link ∷ []) constant one.next k) (sym (link-kept links link n (omega arith)))
    (Leads-append links link constant (link_at links n).next k falls (omega (arith, falls n (omega arith))) onward))

-- where a chain leads somewhere, its first link says so of the constant
Leads-least : (links : List Link) (constant : ℤ) (n k : ℕ) → Leads links constant n k → (m : ℕ) × (n ≡ suc m) × ((link_at links m).least ≤ℤ constant)
Leads-least links constant _ _ (here k small) = (k, refl, small)
Leads-least links constant _ _ (later n k small onward) = (n, refl, small)

through : (a b c : ℤ) → a ≤ℤ b → b ≤ℤ c → a ≤ℤ c
through a b c p q = omega (arith, ints)

-- one half more, whose link is the start of its value's chain
pub chains-more : (i : ℕ) (halves : List Half) (starts : List ℕ) (links : List Link) (chain : ℕ) (link : Link) → AreChainsOf i halves starts links
    → chain ≡ chain_of (half_at halves i).value → chain < CHAINS → link.next ≡ get_or starts chain 0 → link.least ≤ℤ (half_at halves i).constant
    → ((m : ℕ) → get_or starts chain 0 ≡ suc m → link.least ≤ℤ (link_at links m).least)
    → AreChainsOf (i + 1) halves (slice_set starts chain (i + 1)) (links ++ link ∷ [])
chains-more i halves starts links chain link old is below next least behind = record {
  one_each = omega (arith, length-append links (link ∷ []), old.one_each);
  chains = length-set starts chain (i + 1) ∙ old.chains;
  falls = below_more (λ (n : ℕ). (link_at (links ++ link ∷ []) n).next ≤ n) i
      (λ n less. subst (λ (one : Link). one.next ≤ n) (sym (kept n less)) (old.falls n less))
      (subst (λ (one : Link). one.next ≤ i) (sym new) (omega (arith, next, old.within chain)));
  within = λ other. elim (cases_eq other chain) [
    | inl e ↦ omega (arith, started other e)
    | inr apart ↦ omega (arith, left other apart, old.within other)
  ];
  leads = below_more (λ (k : ℕ). Leads (links ++ link ∷ []) (half_at halves k).constant (get_or (slice_set starts chain (i + 1)) (chain_of (half_at halves k).value) 0) k) i
      before at;
} where
  next_number : i + 1 ≡ suc i
  next_number = omega arith

  kept : (n : ℕ) → n < i → link_at (links ++ link ∷ []) n ≡ link_at links n
  kept n less = link-kept links link n (omega (arith, old.one_each))

  new : link_at (links ++ link ∷ []) i ≡ link
  new = subst (λ (n : ℕ). link_at (links ++ link ∷ []) n ≡ link) old.one_each (link-new links link)

  started : (other : ℕ) → other ≡ chain → get_or (slice_set starts chain (i + 1)) other 0 ≡ i + 1
  started other e = ap (λ (c : ℕ). get_or (slice_set starts chain (i + 1)) c 0) e ∙ get_or-set_same starts chain (i + 1) 0 (omega (arith, old.chains))

  left : (other : ℕ) → other ≢ chain → get_or (slice_set starts chain (i + 1)) other 0 ≡ get_or starts other 0
  left other apart = get_or-set_other starts chain other (i + 1) 0 apart

  grown : (k : ℕ) → k < i → Leads (links ++ link ∷ []) (half_at halves k).constant (get_or starts (chain_of (half_at halves k).value) 0) k
  grown k less = Leads-append links link (half_at halves k).constant (get_or starts (chain_of (half_at halves k).value) 0) k
      (λ m small. old.falls m (omega (arith, old.one_each))) (omega (arith, old.one_each, old.within (chain_of (half_at halves k).value))) (old.leads k less)

  before : (k : ℕ) → k < i → Leads (links ++ link ∷ []) (half_at halves k).constant (get_or (slice_set starts chain (i + 1)) (chain_of (half_at halves k).value) 0) k
  before k less = elim (cases_eq (chain_of (half_at halves k).value) chain) [
    | inr apart ↦ subst (λ (n : ℕ). Leads (links ++ link ∷ []) (half_at halves k).constant n k) (sym (left (chain_of (half_at halves k).value) apart)) (grown k less)
    | inl e ↦
        let first = Leads-least links (half_at halves k).constant (get_or starts (chain_of (half_at halves k).value) 0) k (old.leads k less) in
        let onward : Leads (links ++ link ∷ []) (half_at halves k).constant link.next k =
        subst (λ (n : ℕ). Leads (links ++ link ∷ []) (half_at halves k).constant n k) (ap (λ (c : ℕ). get_or starts c 0) e ∙ sym next) (grown k less) in
        let lower : link.least ≤ℤ (link_at links first.0).least = behind first.0 (sym (ap (λ (c : ℕ). get_or starts c 0) e) ∙ first.1) in
        let small : link.least ≤ℤ (half_at halves k).constant = through link.least (link_at links first.0).least (half_at halves k).constant lower first.2 in
        subst (λ (n : ℕ). Leads (links ++ link ∷ []) (half_at halves k).constant n k) (sym (started (chain_of (half_at halves k).value) e ∙ next_number))
        (later i k (subst (λ (one : Link). one.least ≤ℤ (half_at halves k).constant) (sym new) small)
        (subst (λ (one : Link). Leads (links ++ link ∷ []) (half_at halves k).constant one.next k) (sym new) onward))
  ]

  at : Leads (links ++ link ∷ []) (half_at halves i).constant (get_or (slice_set starts chain (i + 1)) (chain_of (half_at halves i).value) 0) i
  at = subst (λ (n : ℕ). Leads (links ++ link ∷ []) (half_at halves i).constant n i) (sym (started (chain_of (half_at halves i).value) (sym is) ∙ next_number))
      (here i (subst (λ (one : Link). one.least ≤ℤ (half_at halves i).constant) (sym new) least))
