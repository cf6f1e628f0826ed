-- The factors of a joint term's numbers, as the code takes them, and how great they are.
use Rattle.std.proofs.Common.{◌≡◌, refl, sym, ◌∙◌, ap, subst, inl, inr, ℕ, zero, suc, ◌+◌, ◌*◌, ◌^◌, ◌<◌, ◌≤◌, Bool, true, false, cond, List, [], ◌∷◌, get_or, length, map, take, sum_by, arith}
use Rattle.std.specs.Prelude.{◌⊎◌, ◌==◌}
use Rattle.std.specs.List.{AllByRecursion, range_with_len}
use Rattle.std.proofs.Math.Nat.{mul-le-mul, pow-le-pow_left, pow-le-pow_right}
use Rattle.std.proofs.Math.Seq.{take-suc}
use Rattle.std.proofs.lemmas.Bool.{cases_eq, eq-eqb, ne_eqb}
use Rattle.std.proofs.lemmas.List.FromFn.{map-range_with_len_more}
use Rattle.std.proofs.lemmas.List.Sums.{sum_by-cons, sum_by-le-sum_by, sum_by-take-le, sum_by_more_le_part}
use Rattle.std.proofs.lemmas.Nat.{pow-add}
use Rattle.base_laws.proofs.Lists.{All-take, add-one}
use Rattle.k_partition.proofs.OwnPowers.{own-rises, powers-within}
use Rattle.uniform_cover.specs.Products.{product_by}
use Rattle.uniform_cover.proofs.ProductLemmas.{product_by-append, product_by-map}
use Rattle.joint_partition.specs.declared.term.JointFamily.{JointFamily as Family}
use Rattle.joint_partition.specs.JointNumbers.{group_weight}

-- ---- products, one more

one-right : (n : ℕ) → n * 1 ≡ n
one-right n = omega arith

pub product-more : {X : Type 0} (of : X → ℕ) (xs : List X) (i : ℕ) (x : X) → i < length xs → x ≡ get_or xs i x
    → product_by of (take (i + 1) xs) ≡ product_by of (take i xs) * of x
product-more {X} of xs i x below is =
    ap (λ (k : ℕ). product_by of (take k xs)) (sym (add-one i)) ∙ ap (product_by of) (take-suc xs i x below) ∙ product_by-append of (take i xs) (get_or xs i x ∷ [])
    ∙ ap (λ (y : X). product_by of (take i xs) * (of y * 1)) (sym is) ∙ ap (λ (n : ℕ). product_by of (take i xs) * n) (one-right (of x))

pub range-more : (of : ℕ → ℕ) (i : ℕ) → product_by of (range_with_len 0 (i + 1)) ≡ product_by of (range_with_len 0 i) * of i
range-more of i =
    sym (product_by-map (λ (n : ℕ). n) of (range_with_len 0 (i + 1))) ∙ ap (product_by (λ (n : ℕ). n)) (map-range_with_len_more of 0 i i (omega arith))
    ∙ product_by-append (λ (n : ℕ). n) (map of (range_with_len 0 i)) (of i ∷ [])
    ∙ ap (λ (n : ℕ). n * (of i * 1)) (product_by-map (λ (n : ℕ). n) of (range_with_len 0 i))
    ∙ ap (λ (n : ℕ). product_by of (range_with_len 0 i) * n) (one-right (of i))

-- ---- labelings

abbrev pub labelings_power : Family → ℕ
labelings_power family = length family.labels.items ^ family.weight

abbrev pub joint_weights : List Family → ℕ
joint_weights families = sum_by (λ (f : Family). f.weight) families

labelings-within : (families : List Family) → AllByRecursion (λ (f : Family). length f.labels.items ≤ 4) families → product_by labelings_power families ≤ 4 ^ joint_weights families
labelings-within [] few = omega arith
labelings-within (family ∷ families) few =
    let both : labelings_power family * product_by labelings_power families ≤ 4 ^ family.weight * 4 ^ joint_weights families =
    mul-le-mul (pow-le-pow_left few.0 family.weight) (labelings-within families few.1) in
    subst (λ (n : ℕ). labelings_power family * product_by labelings_power families ≤ 4 ^ n) (sym (sum_by-cons (λ (f : Family). f.weight) family families))
    (subst (λ (n : ℕ). labelings_power family * product_by labelings_power families ≤ n) (sym (pow-add 4 family.weight (joint_weights families))) both)

labelings-most : (families : List Family) → joint_weights families ≤ 16 → AllByRecursion (λ (f : Family). length f.labels.items ≤ 4) families → product_by labelings_power families ≤ 4294967296
labelings-most families light few =
    let rises : 4 ^ joint_weights families ≤ 4 ^ 16 = pow-le-pow_right (omega arith) light in
    omega (arith, labelings-within families few, rises)

pub labelings-fit : (families : List Family) (i : ℕ) → joint_weights families ≤ 16 → AllByRecursion (λ (f : Family). length f.labels.items ≤ 4) families
    → product_by labelings_power (take i families) ≤ 4294967296
labelings-fit families i light few =
    let less : joint_weights (take i families) ≤ joint_weights families = sum_by-take-le (λ (f : Family). f.weight) families i in
    labelings-most (take i families) (omega (arith, less, light)) (All-take (λ (f : Family). length f.labels.items ≤ 4) i families few)

-- one family's
pub labelings-small : (size weight : ℕ) → size ≤ 4 → weight ≤ 16 → size ^ weight ≤ 4294967296
labelings-small size weight few light =
    let left : size ^ weight ≤ 4 ^ weight = pow-le-pow_left few weight in
    let right : 4 ^ weight ≤ 4 ^ 16 = pow-le-pow_right (omega arith) light in
    omega (arith, left, right)

-- ---- weights of groups

-- the weight of a family where it has a group's number, and else 0
abbrev pub weight_where : ℕ → Family → ℕ
weight_where number family = cond (family.group == number) family.weight 0

abbrev pub own_weight : List Family → ℕ → ℕ
own_weight families number = group_weight families number ^ group_weight families number

-- what is given to one number is given once at most
abbrev given : ℕ → ℕ → ℕ → ℕ
given k x g = cond (k == g) x 0

none-given : (k x a n : ℕ) → k < a → sum_by (given k x) (range_with_len a n) ≡ 0
none-given k x a zero less = refl
none-given k x a (suc n) less =
    omega (arith, sum_by-cons (given k x) a (range_with_len (a + 1) n), ap (λ (b : Bool). cond b x 0) (ne_eqb k a (λ e. omega (arith, e, less))), none-given k x (a + 1) n (omega (arith, less)))

once-given : (k x a n : ℕ) → sum_by (given k x) (range_with_len a n) ≤ x
once-given k x a zero = omega arith
once-given k x a (suc n) = by (cases_eq k a) (once-given k x (a + 1) n) where
  by : (k ≡ a) ⊎ (k ≡ a → ⊥) → sum_by (given k x) (range_with_len (a + 1) n) ≤ x → sum_by (given k x) (range_with_len a (suc n)) ≤ x
  by (inl e) later =
      omega (arith, sum_by-cons (given k x) a (range_with_len (a + 1) n), ap (λ (b : Bool). cond b x 0) (eq-eqb k a e), none-given k x (a + 1) n (omega (arith, e)))
  by (inr apart) later = omega (arith, sum_by-cons (given k x) a (range_with_len (a + 1) n), ap (λ (b : Bool). cond b x 0) (ne_eqb k a apart), later)

none-weighs : (numbers : List ℕ) → sum_by (group_weight []) numbers ≡ 0
none-weighs [] = refl
none-weighs (number ∷ numbers) = omega (arith, sum_by-cons (group_weight []) number numbers, none-weighs numbers)

one-more : (family : Family) (families : List Family) (numbers : List ℕ)
    → sum_by (group_weight (family ∷ families)) numbers ≡ sum_by (given family.group family.weight) numbers + sum_by (group_weight families) numbers
one-more family families [] = refl
one-more family families (number ∷ numbers) =
    omega (
      arith,
      sum_by-cons (group_weight (family ∷ families)) number numbers,
      sum_by-cons (given family.group family.weight) number numbers,
      sum_by-cons (group_weight families) number numbers,
      sum_by-cons (weight_where number) family families,
      one-more family families numbers,
    )

-- so the groups have no more weight than all families
groups-within : (families : List Family) (a n : ℕ) → sum_by (group_weight families) (range_with_len a n) ≤ joint_weights families
groups-within [] a n = omega (arith, none-weighs (range_with_len a n))
groups-within (family ∷ families) a n =
    omega (
      arith,
      one-more family families (range_with_len a n),
      once-given family.group family.weight a n,
      groups-within families a n,
      sum_by-cons (λ (f : Family). f.weight) family families,
    )

pub own-most : (n : ℕ) → n ≤ 16 → n ^ n ≤ 18446744073709551616
own-most n h = let risen : n ^ n ≤ 16 ^ 16 = own-rises n 16 (omega arith) h in omega (arith, risen)

pub powers-fit : (families : List Family) (i : ℕ) → joint_weights families ≤ 16 → product_by (own_weight families) (range_with_len 0 i) ≤ 18446744073709551616
powers-fit families i light =
    let total : ℕ = sum_by (group_weight families) (range_with_len 0 i) in
    let few : total ≤ 16 = omega (arith, groups-within families 0 i, light) in
    omega (arith, powers-within (group_weight families) (range_with_len 0 i), own-most total few)

kept : (b : Bool) (n : ℕ) → cond b n 0 ≤ n
kept true n = omega arith
kept false n = omega arith

-- a group has no more weight than all families, and what some of its families have beside a next family's weight neither
pub group-light : (families : List Family) (number : ℕ) → group_weight families number ≤ joint_weights families
group-light families number = sum_by-le-sum_by (weight_where number) (λ (f : Family). f.weight) families (λ f. kept (f.group == number) f.weight)

pub next-light : (families : List Family) (number i : ℕ) (family : Family) → i < length families → family ≡ get_or families i family
    → sum_by (weight_where number) (take i families) + family.weight ≤ joint_weights families
next-light families number i family below is =
    omega (arith, sum_by_more_le_part (weight_where number) (λ (f : Family). f.weight) families i family below (λ f. kept (f.group == number) f.weight), ap (λ (f : Family). f.weight) is)

-- ---- one more of a loop

pub labelings-next : (families : List Family) (i : ℕ) (family : Family) (product power : ℕ) → i < length families → family ≡ get_or families i family
    → product ≡ product_by labelings_power (take i families) → power ≡ labelings_power family → product * power ≡ product_by labelings_power (take (i + 1) families)
labelings-next families i family product power below is so e =
    ap (λ (n : ℕ). n * power) so ∙ ap (λ (n : ℕ). product_by labelings_power (take i families) * n) e ∙ sym (product-more labelings_power families i family below is)

pub range-next : (families : List Family) (i product weight power : ℕ) → product ≡ product_by (own_weight families) (range_with_len 0 i) → weight ≡ group_weight families i → power ≡ weight ^ weight
    → product * power ≡ product_by (own_weight families) (range_with_len 0 (i + 1))
range-next families i product weight power so e f =
    ap (λ (n : ℕ). n * power) so ∙ ap (λ (n : ℕ). product_by (own_weight families) (range_with_len 0 i) * n) (f ∙ ap (λ (n : ℕ). n ^ n) e) ∙ sym (range-more (own_weight families) i)

-- ---- both factors

pub both-fit : (families : List Family) (labelings groups : ℕ) → joint_weights families ≤ 16 → AllByRecursion (λ (f : Family). length f.labels.items ≤ 4) families
    → labelings ≡ product_by labelings_power families → groups ≡ product_by (own_weight families) (range_with_len 0 6) → labelings * groups ≤ 79228162514264337593543950336
both-fit families labelings groups light few e f =
    let one : labelings ≤ 4294967296 = omega (arith, e, labelings-most families light few) in
    let other : groups ≤ 18446744073709551616 = omega (arith, f, powers-fit families 6 light) in
    let both : labelings * groups ≤ 4294967296 * 18446744073709551616 = mul-le-mul one other in
    omega (arith, both)
