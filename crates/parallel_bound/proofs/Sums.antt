-- Numbers of several processors, added up.
use Rattle.std.proofs.Common.{◌≡◌, refl, sym, ◌∙◌, ap, inl, inr, ℕ, zero, suc, ◌+◌, ◌*◌, ◌<◌, ◌≤◌, Bool, true, cond, arith}
use Rattle.std.specs.Prelude.{◌⊎◌, nat_eq}
use Rattle.std.proofs.lemmas.Bool.{cases_eq, eq-eqb, ne_eqb}
use Rattle.parallel_bound.specs.Merging.{added_up}

pub added-same : (n : ℕ) (f g : ℕ → ℕ) → ((i : ℕ) → i < n → f i ≡ g i) → added_up n f ≡ added_up n g
added-same zero f g h = refl
added-same (suc n) f g h = omega (arith, h n (omega arith), added-same n f g (λ i below. h i (omega (arith, below))))

pub added-more : (n : ℕ) (f g : ℕ → ℕ) → added_up n (λ i. f i + g i) ≡ added_up n f + added_up n g
added-more zero f g = refl
added-more (suc n) f g = omega (arith, added-more n f g)

pub added-nothing : (n : ℕ) → added_up n (λ i. 0) ≡ 0
added-nothing zero = refl
added-nothing (suc n) = omega (arith, added-nothing n)

-- a number that one processor alone has
none-has : (n who x : ℕ) → n ≤ who → added_up n (λ i. cond (nat_eq who i) x 0) ≡ 0
none-has zero who x h = refl
none-has (suc n) who x h = omega (arith, ap (λ b. cond b x 0) (ne_eqb who n (λ e. omega (arith, e, h))), none-has n who x (omega (arith, h)))

pub one-has : (n who x : ℕ) → who < n → added_up n (λ i. cond (nat_eq who i) x 0) ≡ x
one-has zero who x h = absurd (omega (arith, h))
one-has (suc n) who x h = by (cases_eq who n) (one-has n who x) where
  by : (who ≡ n) ⊎ (who ≡ n → ⊥) → (who < n → added_up n (λ i. cond (nat_eq who i) x 0) ≡ x) → added_up n (λ i. cond (nat_eq who i) x 0) + cond (nat_eq who n) x 0 ≡ x
  by (inl e) earlier = omega (arith, ap (λ b. cond b x 0) (eq-eqb who n e), none-has n who x (omega (arith, e)))
  by (inr apart) earlier = omega (arith, ap (λ b. cond b x 0) (ne_eqb who n apart), earlier (omega (arith, h, apart)))

-- 1 where so, 0 else
abbrev pub one : Bool → ℕ
one b = cond b 1 0

-- what is so of one at least is so of all together
pub some-has : (n who : ℕ) (has : ℕ → Bool) → who < n → has who ≡ true → 1 ≤ added_up n (λ i. cond (has i) 1 0)
some-has zero who has below h = absurd (omega (arith, below))
some-has (suc n) who has below h = by (cases_eq who n) (λ earlier. some-has n who has earlier h) where
  by : (who ≡ n) ⊎ (who ≡ n → ⊥) → (who < n → 1 ≤ added_up n (λ i. cond (has i) 1 0)) → 1 ≤ added_up n (λ i. cond (has i) 1 0) + cond (has n) 1 0
  by (inl e) earlier = omega (arith, ap one (sym (ap has e) ∙ h))
  by (inr apart) earlier = omega (arith, earlier (omega (arith, below, apart)))

pub order : (a b : ℕ) → (a ≤ b) ⊎ (b ≤ a)
order zero b = inl (omega arith)
order (suc a) zero = inr (omega arith)
order (suc a) (suc b) = by (order a b) where
  by : (a ≤ b) ⊎ (b ≤ a) → (suc a ≤ suc b) ⊎ (suc b ≤ suc a)
  by (inl less) = inl (omega (arith, less))
  by (inr more) = inr (omega (arith, more))

-- one of them has the greatest
greatest : (n : ℕ) (f : ℕ → ℕ) → (who : ℕ) × (who < suc n) × ((i : ℕ) → i < suc n → f i ≤ f who)
greatest zero f = (0, omega arith, λ i below. only i (omega (arith, below))) where
  only : (i : ℕ) → i ≡ 0 → f i ≤ f 0
  only i e = omega (arith, ap f e)
greatest (suc n) f = by (greatest n f) where
  at-most : (who : ℕ) → f (suc n) ≤ f who → ((i : ℕ) → i < suc n → f i ≤ f who) → (i : ℕ) → i < suc (suc n) → f i ≤ f who
  at-most who top below i h = or (cases_eq i (suc n)) where
    or : (i ≡ suc n) ⊎ (i ≡ suc n → ⊥) → f i ≤ f who
    or (inl e) = omega (arith, ap f e, top)
    or (inr apart) = below i (omega (arith, h, apart))

  by : (who : ℕ) × (who < suc n) × ((i : ℕ) → i < suc n → f i ≤ f who) → (who : ℕ) × (who < suc (suc n)) × ((i : ℕ) → i < suc (suc n) → f i ≤ f who)
  by found = which (order (f (suc n)) (f found.0)) where
    which : (f (suc n) ≤ f found.0) ⊎ (f found.0 ≤ f (suc n)) → (who : ℕ) × (who < suc (suc n)) × ((i : ℕ) → i < suc (suc n) → f i ≤ f who)
    which (inl less) = (found.0, omega (arith, found.1), at-most found.0 less found.2)
    which (inr more) = (suc n, omega arith, at-most (suc n) (omega arith) (λ i below. omega (arith, found.2 i below, more)))

all-most : (n k : ℕ) (f : ℕ → ℕ) → ((i : ℕ) → i < n → f i ≤ k) → added_up n f ≤ n * k
all-most zero k f h = omega arith
all-most (suc n) k f h = omega (arith, h n (omega arith), all-most n k f (λ i below. h i (omega (arith, below))))

-- so one has its share
pub has-share : (n : ℕ) (f : ℕ → ℕ) → 1 ≤ n → (who : ℕ) × (who < n) × (added_up n f ≤ n * f who)
has-share zero f some = absurd (omega (arith, some))
has-share (suc n) f some = let found = greatest n f in (found.0, found.1, all-most (suc n) (f found.0) f found.2)
