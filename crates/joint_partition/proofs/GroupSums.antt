-- Families, group by group: each stands in one group, so sums and products over the groups are those over all families.
use Rattle.std.proofs.Common.{◌≡◌, refl, sym, ◌∙◌, ap, subst, inl, inr, ℕ, ◌+◌, ◌*◌, Bool, true, false, cond, List, [], ◌∷◌, map, sum_by, arith}
use Rattle.std.specs.Prelude.{◌==◌, filter, nat_eq}
use Rattle.std.specs.List.{AllByRecursion, IsDistinct}
use Rattle.std.proofs.lemmas.Bool.{eq-eqb, eqb-true}
use Rattle.std.proofs.lemmas.List.Sums.{sum_by-cons}
use Rattle.execution_laws.proofs.Members.{Member, Member-distinct, Member-map}
use Rattle.execution_laws.proofs.Ordered.{All-from}
use Rattle.pebble_game.proofs.WellFormed.{IsDistinct-distinct}
use Rattle.uniform_cover.specs.Products.{product_by}
use Rattle.joint_partition.specs.JointWords.{families_in, group_numbers}
use Rattle.joint_partition.specs.Term.{JointFamily, JointTerm}

-- a number that stands in none of others
flipped : (a b : ℕ) → nat_eq a b ≡ false → nat_eq b a ≡ false
flipped a b e = by (nat_eq b a) refl where
  by : (c : Bool) → nat_eq b a ≡ c → nat_eq b a ≡ false
  by false f = f
  by true f = let yes : nat_eq a b ≡ true = eq-eqb a b (sym (eqb-true b a f)) in absurd cc

other-number : (n g : ℕ) (others : List ℕ) → AllByRecursion (λ (y : ℕ). nat_eq n y ≡ false) others → Member g others → nat_eq g n ≡ false
other-number n g [] apart m = absurd m
other-number n g (o ∷ others) apart (inl e) = subst (λ (k : ℕ). nat_eq k n ≡ false) (sym e) (flipped n o apart.0)
other-number n g (o ∷ others) apart (inr m) = other-number n g others apart.1 m

-- an operation with a unit, whose terms may be exchanged, taken over lists
module _ (unit : ℕ) (op : ℕ → ℕ → ℕ) (left : (x : ℕ) → op unit x ≡ x) (right : (x : ℕ) → op x unit ≡ x)
    (exchange : (a b c d : ℕ) → op (op a b) (op c d) ≡ op (op a c) (op b d)) where
  abbrev total : {X : Type 0} → (X → ℕ) → List X → ℕ
  total of [] = unit
  total of (x ∷ xs) = op (of x) (total of xs)

  module _ (of : JointFamily → ℕ) where
    abbrev in_group : List JointFamily → ℕ → ℕ
    in_group families number = total of (filter (λ (family : JointFamily). family.group == number) families)

    abbrev if_in : JointFamily → ℕ → ℕ
    if_in family number = cond (family.group == number) (of family) unit

    one-more : (family : JointFamily) (families : List JointFamily) (number : ℕ) → in_group (family ∷ families) number ≡ op (if_in family number) (in_group families number)
    one-more family families number = by (family.group == number) where
      by : (b : Bool) → total of (cond b (family ∷ filter (λ (f : JointFamily). f.group == number) families) (filter (λ (f : JointFamily). f.group == number) families))
          ≡ op (cond b (of family) unit) (in_group families number)
      by true = refl
      by false = sym (left (in_group families number))

    absent : (family : JointFamily) (numbers : List ℕ) → AllByRecursion (λ (n : ℕ). nat_eq family.group n ≡ false) numbers → total (if_in family) numbers ≡ unit
    absent family [] apart = refl
    absent family (n ∷ numbers) apart =
        ap (λ (b : Bool). op (cond b (of family) unit) (total (if_in family) numbers)) apart.0 ∙ left (total (if_in family) numbers) ∙ absent family numbers apart.1

    once : (family : JointFamily) (numbers : List ℕ) → IsDistinct nat_eq numbers → Member family.group numbers → total (if_in family) numbers ≡ of family
    unfolding IsDistinct
    once family [] distinct m = absurd m
    once family (n ∷ numbers) distinct (inl e) =
        ap (λ (b : Bool). op (cond b (of family) unit) (total (if_in family) numbers)) (eq-eqb family.group n e)
        ∙ ap (op (of family)) (absent family numbers (subst (λ (g : ℕ). AllByRecursion (λ (y : ℕ). nat_eq g y ≡ false) numbers) (sym e) distinct.0))
        ∙ right (of family)
    once family (n ∷ numbers) distinct (inr m) =
        ap (λ (b : Bool). op (cond b (of family) unit) (total (if_in family) numbers)) (other-number n family.group numbers distinct.0 m)
        ∙ left (total (if_in family) numbers) ∙ once family numbers distinct.1 m

    added : (f g h : ℕ → ℕ) (numbers : List ℕ) → ((n : ℕ) → f n ≡ op (g n) (h n)) → total f numbers ≡ op (total g numbers) (total h numbers)
    added f g h [] e = sym (left unit)
    added f g h (n ∷ numbers) e =
        ap (λ (x : ℕ). op x (total f numbers)) (e n) ∙ ap (op (op (g n) (h n))) (added f g h numbers e) ∙ exchange (g n) (h n) (total g numbers) (total h numbers)

    none : (numbers : List ℕ) → total (in_group []) numbers ≡ unit
    none [] = refl
    none (n ∷ numbers) = left (total (in_group []) numbers) ∙ none numbers

    groups-total : (families : List JointFamily) (numbers : List ℕ) → IsDistinct nat_eq numbers → AllByRecursion (λ (family : JointFamily). Member family.group numbers) families
        → total (in_group families) numbers ≡ total of families
    groups-total [] numbers distinct there = none numbers
    groups-total (family ∷ families) numbers distinct there =
        added (in_group (family ∷ families)) (if_in family) (in_group families) numbers (one-more family families)
        ∙ ap (λ (x : ℕ). op x (total (in_group families) numbers)) (once family numbers distinct there.0)
        ∙ ap (op (of family)) (groups-total families numbers distinct there.1)

    term-total : (term : JointTerm) → total (λ (number : ℕ). total of (families_in term number)) (group_numbers term) ≡ total of term.families
    term-total term =
        groups-total term.families (group_numbers term) (IsDistinct-distinct (map (λ (family : JointFamily). family.group) term.families))
        (All-from (λ (family : JointFamily). Member family.group (group_numbers term)) term.families (λ family m.
        Member-distinct nat_eq eqb-true family.group (map (λ (f : JointFamily). f.group) term.families) (Member-map (λ (f : JointFamily). f.group) family term.families m)))

-- ---- sums

zero-left : (x : ℕ) → 0 + x ≡ x
zero-left x = omega arith

zero-right : (x : ℕ) → x + 0 ≡ x
zero-right x = omega arith

exchange-sum : (a b c d : ℕ) → (a + b) + (c + d) ≡ (a + c) + (b + d)
exchange-sum a b c d = omega arith

abbrev total_sum : {X : Type 0} → (X → ℕ) → List X → ℕ
total_sum of xs = total 0 (λ a b. a + b) zero-left zero-right exchange-sum of xs

sum-is : {X : Type 0} (of : X → ℕ) (xs : List X) → sum_by of xs ≡ total_sum of xs
sum-is of [] = refl
sum-is of (x ∷ xs) = sum_by-cons of x xs ∙ ap (λ (n : ℕ). of x + n) (sum-is of xs)

pub term-sum : (of : JointFamily → ℕ) (term : JointTerm) → sum_by (λ (number : ℕ). sum_by of (families_in term number)) (group_numbers term) ≡ sum_by of term.families
term-sum of term =
    sum-is (λ (number : ℕ). sum_by of (families_in term number)) (group_numbers term)
    ∙ (λ i. total_sum (λ (number : ℕ). sum-is of (families_in term number) i) (group_numbers term))
    ∙ term-total 0 (λ a b. a + b) zero-left zero-right exchange-sum of term
    ∙ sym (sum-is of term.families)

-- ---- products

one-left : (x : ℕ) → 1 * x ≡ x
one-left x = omega arith

one-right : (x : ℕ) → x * 1 ≡ x
one-right x = omega arith

exchange-product : (a b c d : ℕ) → (a * b) * (c * d) ≡ (a * c) * (b * d)
exchange-product a b c d = omega arith

abbrev total_product : {X : Type 0} → (X → ℕ) → List X → ℕ
total_product of xs = total 1 (λ a b. a * b) one-left one-right exchange-product of xs

product-is : {X : Type 0} (of : X → ℕ) (xs : List X) → product_by of xs ≡ total_product of xs
product-is of [] = refl
product-is of (x ∷ xs) = ap (λ (n : ℕ). of x * n) (product-is of xs)

pub term-product : (of : JointFamily → ℕ) (term : JointTerm)
    → product_by (λ (number : ℕ). product_by of (families_in term number)) (group_numbers term) ≡ product_by of term.families
term-product of term =
    product-is (λ (number : ℕ). product_by of (families_in term number)) (group_numbers term)
    ∙ (λ i. total_product (λ (number : ℕ). product-is of (families_in term number) i) (group_numbers term))
    ∙ term-total 1 (λ a b. a * b) one-left one-right exchange-product of term
    ∙ sym (product-is of term.families)
