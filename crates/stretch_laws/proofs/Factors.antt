-- The numbers of labels that the families of groups hold, multiplied: what the words of the groups allow together.
use Rattle.std.proofs.Common.{◌≡◌, sym, ap, ℕ, ◌*◌, ◌^◌, ◌<◌, ◌≤◌, List, [], ◌∷◌, length, sum_by, arith}
use Rattle.std.proofs.Math.Nat.{mul-le-mul, mul-le-mul_left, pow-le-pow_left, pow-zero, le_of_mul-le-mul_right}
use Rattle.std.proofs.lemmas.Nat.{mul-pow, pow-add}
use Rattle.std.proofs.lemmas.List.Sums.{sum_by-cons}
use Rattle.std.specs.List.{AllByRecursion}
use Rattle.uniform_cover.specs.Products.{product_by}
use Rattle.uniform_cover.proofs.MeanLemmas.{weighted_by}
use Rattle.uniform_cover.proofs.Powers.{self_pow_pos}
use Rattle.stretch_laws.specs.Reuse.{WalkFamily, JointPartition, IsFactor, group_weight, joint_weight, labelings_factor, weight_factor}

times : (a b n k l m : ℕ) → a ≤ n * k → b ≤ l * m → a * b ≤ n * l * (k * m)
times a b n k l m h g =
    let both : a * b ≤ n * k * (l * m) = mul-le-mul h g in
    omega arith

within : (a l p mm g k num den : ℕ) → 0 < mm → a ≤ l * p → mm * p ≤ g * k → num * mm ≡ den * (l * g) → a * den ≤ num * k
within a l p mm g k num den some first mean ratio =
    let left : den * mm * a ≤ den * mm * (l * p) = mul-le-mul_left (den * mm) first in
    let right : den * l * (mm * p) ≤ den * l * (g * k) = mul-le-mul_left (den * l) mean in
    let same : num * mm * k ≡ den * (l * g) * k = ap (λ z. z * k) ratio in
    let joined : a * den * mm ≤ num * k * mm = omega arith in
    le_of_mul-le-mul_right joined some

module _ (count : WalkFamily → ℕ) where
  -- in a group: each family has at most its labelings times so many labels
  pub group-within : (words : ℕ) (group : List WalkFamily) → AllByRecursion (λ (family : WalkFamily). count family ≤ length family.labelings * words) group
      → product_by (λ (family : WalkFamily). count family ^ family.weight) group ≤ labelings_factor group * words ^ group_weight group
  group-within words [] few = simp pow-zero (omega arith)
  group-within words (family ∷ group) few =
      rw (sum_by-cons (λ (f : WalkFamily). f.weight) family group, pow-add words family.weight (group_weight group))
      (times (count family ^ family.weight) (product_by (λ (f : WalkFamily). count f ^ f.weight) group) (length family.labelings ^ family.weight)
      (words ^ family.weight) (labelings_factor group) (words ^ group_weight group)
      (rw (sym (mul-pow (length family.labelings) words family.weight)) (pow-le-pow_left few.0 family.weight)) (group-within words group few.1))

  module _ (words : List WalkFamily → ℕ) where
    pub groups-within : (groups : List (List WalkFamily))
        → AllByRecursion (λ (group : List WalkFamily). AllByRecursion (λ (family : WalkFamily). count family ≤ length family.labelings * words group) group) groups
        → product_by (λ (group : List WalkFamily). product_by (λ (family : WalkFamily). count family ^ family.weight) group) groups
        ≤ product_by labelings_factor groups * product_by (λ (group : List WalkFamily). words group ^ group_weight group) groups
    groups-within [] few = omega arith
    groups-within (group ∷ groups) few =
        times (product_by (λ (family : WalkFamily). count family ^ family.weight) group)
        (product_by (λ (g : List WalkFamily). product_by (λ (family : WalkFamily). count family ^ family.weight) g) groups)
        (labelings_factor group) (words group ^ group_weight group) (product_by labelings_factor groups)
        (product_by (λ (g : List WalkFamily). words g ^ group_weight g) groups)
        (group-within (words group) group few.0) (groups-within groups few.1)

    -- so together as many as the factor says, by the inequality of the means
    pub partition-within : (num den k a : ℕ) (partition : JointPartition) → IsFactor num den partition
        → AllByRecursion (λ (group : List WalkFamily). AllByRecursion (λ (family : WalkFamily). count family ≤ length family.labelings * words group) group) partition.groups
        → sum_by words partition.groups ≤ k
        → a ≤ product_by (λ (group : List WalkFamily). product_by (λ (family : WalkFamily). count family ^ family.weight) group) partition.groups
        → a * den ≤ num * k ^ joint_weight partition
    partition-within num den k a partition factor few together first =
        let groups : List (List WalkFamily) = partition.groups in
        let total : ℕ = joint_weight partition in
        let labels : a ≤ product_by labelings_factor groups * product_by (λ (group : List WalkFamily). words group ^ group_weight group) groups =
        le_trans first (groups-within groups few) in
        let mean : total ^ total * product_by (λ (group : List WalkFamily). words group ^ group_weight group) groups ≤ product_by weight_factor groups * sum_by words groups ^ total =
        weighted_by words group_weight groups in
        let grown : product_by weight_factor groups * sum_by words groups ^ total ≤ product_by weight_factor groups * k ^ total =
        mul-le-mul_left (product_by weight_factor groups) (pow-le-pow_left together total) in
        within a (product_by labelings_factor groups) (product_by (λ (group : List WalkFamily). words group ^ group_weight group) groups) (total ^ total) (product_by weight_factor groups)
        (k ^ total) num den (self_pow_pos total) labels (omega (arith, mean, grown)) factor.ratio where
          le_trans : {x y z : ℕ} → x ≤ y → y ≤ z → x ≤ z
          le_trans h g = omega arith
