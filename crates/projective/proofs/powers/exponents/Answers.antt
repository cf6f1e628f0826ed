use Rattle.std.proofs.Common.{◌≡◌, refl, sym, ◌∙◌, ap, subst, ℕ, zero, suc, ◌+◌, ◌<◌, ◌≤◌, List, [], ◌∷◌, ◌++◌, length, get_or, take, replicate, arith}
use Rattle.std.specs.Prelude.{slice_set, ℤ, ◌*ℤ◌}
use Rattle.std.specs.List.{AllByRecursion}
use Rattle.std.proofs.lemmas.List.{length-replicate, length-set, take_more, get_or_default}
use Rattle.base_laws.proofs.Lists.{All-at, All-replicate, All-weaken}
use Rattle.poly_tree.specs.Expansion.{powers_from}
use Rattle.projective.specs.Products.{product_of}
use Rattle.projective.proofs.Exponents.{powers-more, powers-none, product-push}
use Rattle.projective.proofs.powers.exponents.Goals as goal
use Rattle.iolb_model.specs.declared.limits.TheConstants.{NEST_VARIABLES}

-- one exponent more
small-set : (es : List ℕ) (k e n : ℕ) → AllByRecursion (λ (x : ℕ). x ≤ n) es → e ≤ n + 1 → AllByRecursion (λ (x : ℕ). x ≤ n + 1) (slice_set es k e)
small-set [] k e n h le = tt
small-set (x ∷ es) zero e n h le = (le, All-weaken (λ (y : ℕ). y ≤ n) (λ (y : ℕ). y ≤ n + 1) es (λ y p. omega (arith, p)) h.1)
small-set (x ∷ es) (suc k) e n h le = (omega (arith, h.0), small-set es k e n h.1 le)

module _ (es vs : List ℕ) (i v e count : ℕ) where
  -- one variable more
  pub one-more : v ≡ get_or vs i 0 → i < length vs → v < count → e ≡ get_or es v 0
      → (length es ≡ count) × AllByRecursion (λ (x : ℕ). x ≤ i) es × ((f : ℕ → ℤ) → powers_from es 0 f ≡ product_of (take i vs) f)
      → (length (slice_set es v (e + 1)) ≡ count) × AllByRecursion (λ (x : ℕ). x ≤ i + 1) (slice_set es v (e + 1)) × ((f : ℕ → ℤ) → powers_from (slice_set es v (e + 1)) 0 f ≡ product_of (take (i + 1) vs) f)
  one-more is below inside read h =
      let less : v < length es = omega (arith, h.0) in (
        length-set es v (e + 1) ∙ h.0,
        small-set es v (e + 1) i h.1 (omega (arith, read, All-at (λ (x : ℕ). x ≤ i) es v 0 h.1 less)),
        λ f. ap (λ (n : ℕ). powers_from (slice_set es v (n + 1)) 0 f) read ∙ powers-more es v 0 f less ∙ ap (λ (n : ℕ). f n *ℤ powers_from es 0 f) (front v) ∙ ap (λ (z : ℤ). f v *ℤ z) (h.2 f)
            ∙ sym (product-push (take i vs) v f) ∙ ap (λ (ws : List ℕ). product_of (take i vs ++ ws) f) (ap (λ (n : ℕ). n ∷ []) is)
            ∙ ap (λ (ws : List ℕ). product_of ws f) (sym (take_more vs i 0 below)),
      ) where
        front : (n : ℕ) → 0 + n ≡ n
        front n = omega arith

pub loop-variable-init : goal.loop-variable-init
loop-variable-init c =
    let items : c.in_ok-exponents.exponents.items ≡ replicate c.args.count 0 = c.in_ok-exponents.ensures.items_if_clones_equal (λ y e. e) in (
      ap length items ∙ length-replicate c.args.count 0,
      subst (AllByRecursion (λ (x : ℕ). x ≤ 0)) (sym items) (All-replicate (λ (x : ℕ). x ≤ 0) c.args.count 0 (omega arith)),
      λ f. ap (λ (es : List ℕ). powers_from es 0 f) items ∙ powers-none c.args.count 0 f ∙ ap (λ (vs : List ℕ). product_of vs f) (sym (none c.args.variables.now)),
    ) where
      none : (vs : List ℕ) → take 0 vs ≡ []
      none [] = refl
      none (v ∷ vs) = refl

pub loop-variable-preserved : goal.loop-variable-preserved
loop-variable-preserved c =
    let v = get_or c.args.variables.now c.loop-variable.variable-index 0 in
    one-more c.loop-variable.exponents.items c.args.variables.now c.loop-variable.variable-index v c.index_mut.result.now c.args.count refl c.loop-variable-test.true
    (All-at (λ (variable : ℕ). variable < c.args.count) c.args.variables.now c.loop-variable.variable-index 0 c.requires.below c.loop-variable-test.true)
    (c.index_mut.ensures.value ∙ get_or_default c.loop-variable.exponents.items v c.index_mut.result.now 0
    (omega (arith, c.loop-variable.invariant.0, All-at (λ (variable : ℕ). variable < c.args.count) c.args.variables.now c.loop-variable.variable-index 0 c.requires.below c.loop-variable-test.true)))
    c.loop-variable.invariant

pub returns-clause-small : goal.returns-clause-small
returns-clause-small c =
    All-weaken (λ (x : ℕ). x ≤ c.loop-variable.variable-index) (λ (x : ℕ). x ≤ NEST_VARIABLES) c.loop-variable.exponents.items
    (λ x h. omega (arith, h, c.requires.few, c.loop-variable.auto.variable-index-end)) c.loop-variable.invariant.1
