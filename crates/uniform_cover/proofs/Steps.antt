-- The superadditive step where only some of the factors split, at least as many as the power.
use Rattle.std.proofs.Common.{◌≡◌, ℕ, zero, suc, ◌+◌, ◌*◌, ◌^◌, ◌≤◌, Bool, true, false, cond, List, [], ◌∷◌, length, count_by, arith, refl, ⊎_elim}
use Rattle.std.proofs.lemmas.Bool.{cases_lt}
use Rattle.std.proofs.lemmas.List.Sums.{sum_by-cons}
use Rattle.std.proofs.Math.Nat.{mul-le-mul_left, pow-zero}
use Rattle.uniform_cover.specs.Products.{product_by}
use Rattle.uniform_cover.specs.Mean.{Pair}
use Rattle.uniform_cover.proofs.MeanLemmas.{step}

-- a factor that grows joins the scale
into_scale : (c b f g r : ℕ) → f ≤ g → c ≤ b * (f * r) → c ≤ b * g * r
into_scale c b f g r le h =
    let grown : b * r * f ≤ b * r * g = mul-le-mul_left (b * r) le in
    omega arith

-- the step, where there are at least as many factors as the power says
step_more : (q b c e : ℕ) (ps : List Pair) → q ≤ length ps
    → c ^ q ≤ b * product_by (λ p. p.left) ps → e ^ q ≤ b * product_by (λ p. p.right) ps
    → (c + e) ^ q ≤ b * product_by (λ p. p.left + p.right) ps
step_more zero b c e [] long left right = simp pow-zero (let h : 1 ≤ b * 1 = simp pow-zero at left in omega arith)
step_more (suc q) b c e [] long left right = absurd (omega arith)
step_more q b c e (p ∷ ps) long left right =
    ⊎_elim
    (λ all. let is : q ≡ suc (length ps) = omega arith in rw is (step b c e (p ∷ ps) (rw is at left) (rw is at right)))
    (λ more.
    let rest : (c + e) ^ q ≤ b * (p.left + p.right) * product_by (λ p. p.left + p.right) ps =
    step_more q (b * (p.left + p.right)) c e ps more
    (into_scale (c ^ q) b p.left (p.left + p.right) (product_by (λ p. p.left) ps) (omega arith) left)
    (into_scale (e ^ q) b p.right (p.left + p.right) (product_by (λ p. p.right) ps) (omega arith) right)
    in omega arith)
    (cases_lt (length ps) q)

module _ {X : Type 0} (test : X → Bool) (left right whole : X → ℕ)
    (splits : (x : X) → test x ≡ true → left x + right x ≤ whole x)
    (keeps : (x : X) → test x ≡ false → (left x ≤ whole x) × (right x ≤ whole x)) where
  -- one more factor: it joins the pairs where it splits, and else the scale
  head_step : (q c e n lo ro wo : ℕ) (x : X)
      → ((b : ℕ) (ps : List Pair) → q ≤ length ps + n
      → c ^ q ≤ b * (product_by (λ p. p.left) ps * lo) → e ^ q ≤ b * (product_by (λ p. p.right) ps * ro)
      → (c + e) ^ q ≤ b * (product_by (λ p. p.left + p.right) ps * wo))
      → (b : ℕ) (ps : List Pair) (t : Bool) → test x ≡ t → q ≤ length ps + (cond t 1 0 + n)
      → c ^ q ≤ b * (product_by (λ p. p.left) ps * (left x * lo)) → e ^ q ≤ b * (product_by (λ p. p.right) ps * (right x * ro))
      → (c + e) ^ q ≤ b * (product_by (λ p. p.left + p.right) ps * (whole x * wo))
  head_step q c e n lo ro wo x go b ps true is counted l r =
      let p : Pair = record { left = left x; right = right x } in
      let rest : (c + e) ^ q ≤ b * ((left x + right x) * product_by (λ p. p.left + p.right) ps * wo) =
      go b (p ∷ ps) (omega arith) (omega arith) (omega arith) in
      let grown : b * product_by (λ p. p.left + p.right) ps * wo * (left x + right x) ≤ b * product_by (λ p. p.left + p.right) ps * wo * whole x =
      mul-le-mul_left (b * product_by (λ p. p.left + p.right) ps * wo) (splits x is) in
      omega arith
  head_step q c e n lo ro wo x go b ps false is counted l r =
      let rest : (c + e) ^ q ≤ b * whole x * (product_by (λ p. p.left + p.right) ps * wo) =
      go (b * whole x) ps (omega arith)
      (into_scale (c ^ q) b (left x) (whole x) (product_by (λ p. p.left) ps * lo) (keeps x is).0 (omega arith))
      (into_scale (e ^ q) b (right x) (whole x) (product_by (λ p. p.right) ps * ro) (keeps x is).1 (omega arith)) in
      omega arith

  -- the pairs are the factors that are known to split
  mixed_from : (q c e : ℕ) (xs : List X) (b : ℕ) (ps : List Pair) → q ≤ length ps + count_by test xs
      → c ^ q ≤ b * (product_by (λ p. p.left) ps * product_by left xs)
      → e ^ q ≤ b * (product_by (λ p. p.right) ps * product_by right xs)
      → (c + e) ^ q ≤ b * (product_by (λ p. p.left + p.right) ps * product_by whole xs)
  mixed_from q c e [] b ps long l r =
      let all : (c + e) ^ q ≤ b * product_by (λ p. p.left + p.right) ps = step_more q b c e ps (omega arith) (omega arith) (omega arith) in
      omega arith
  mixed_from q c e (x ∷ xs) b ps long l r =
      head_step q c e (count_by test xs) (product_by left xs) (product_by right xs) (product_by whole xs) x
      (mixed_from q c e xs) b ps (test x) refl
      (rw (sum_by-cons (λ x. cond (test x) 1 0) x xs) at long) l r

  -- of factors of which at least q split, the others being kept whole on both sides
  pub mixed : (q c e : ℕ) (xs : List X) → q ≤ count_by test xs
      → c ^ q ≤ product_by left xs → e ^ q ≤ product_by right xs → (c + e) ^ q ≤ product_by whole xs
  mixed q c e xs long l r =
      let all : (c + e) ^ q ≤ 1 * (1 * product_by whole xs) = mixed_from q c e xs 1 [] (omega arith) (omega arith) (omega arith) in
      omega arith
