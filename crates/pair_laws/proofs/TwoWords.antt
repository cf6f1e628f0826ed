-- What two words bring where they meet: their labels, that of the higher rank in the first family.
use Rattle.std.proofs.Common.{◌≡◌, refl, sym, ◌∙◌, ap, subst, inl, inr, ℕ, ◌+◌, ◌*◌, ◌≤◌, Bool, true, false, cond, List, [], ◌∷◌, ◌++◌, length, map, arith, length-append, ℤ, ◌<ℤ◌, int_lt}
use Rattle.std.specs.Prelude.{flat_map}
use Rattle.std.proofs.lemmas.Int.{ints}
use Rattle.std.proofs.lemmas.List.{length-map}
use Rattle.execution_laws.proofs.Members.{Member, Member-append_left, Member-append_right, Member-flat_map, Member-map}
use Rattle.stretch_laws.specs.Reuse.{Labeling}
use Rattle.pair_laws.specs.Pairs.{PairPartition, labels_of_two}

-- the labels of two words
abbrev pub Labels : Type 0
Labels = List ℤ × List ℤ

-- ---- the order of ranks

pub lower : (a b : ℤ) → a <ℤ b → int_lt a b ≡ true
lower a b less = by (int_lt a b) refl where
  by : (t : Bool) → int_lt a b ≡ t → t ≡ true
  by true e = refl
  by false e = absurd (omega (arith, ints))

pub never-lower : (a b : ℤ) → a <ℤ b → int_lt b a ≡ false
never-lower a b less = by (int_lt b a) refl where
  by : (t : Bool) → int_lt b a ≡ t → t ≡ false
  by true e = absurd (omega (arith, ints))
  by false e = refl

not-itself : (a : ℤ) → int_lt a a ≡ false
not-itself a = by (int_lt a a) refl where
  by : (t : Bool) → int_lt a a ≡ t → t ≡ false
  by true e = absurd (omega (arith, ints))
  by false e = refl

-- ---- meetings

labels-many : (firsts seconds : List Labeling) (x y : ℕ)
    → length {A = Labels} (flat_map (λ (l : Labeling). map (λ (m : Labeling). (l.label x, m.label y)) seconds) firsts) ≡ length firsts * length seconds
labels-many [] seconds x y = omega arith
labels-many (l ∷ firsts) seconds x y =
    omega (
      arith,
      length-append {A = Labels} (map (λ (m : Labeling). (l.label x, m.label y)) seconds) (flat_map (λ (k : Labeling). map (λ (m : Labeling). (k.label x, m.label y)) seconds) firsts),
      length-map {B = Labels} seconds (λ (m : Labeling). (l.label x, m.label y)),
      labels-many firsts seconds x y,
    )

module _ (pairs : PairPartition) where
  -- the labels of x in the first family and of y in the second
  abbrev labels : ℕ → ℕ → List Labels
  labels x y = flat_map (λ (l : Labeling). map (λ (m : Labeling). (l.label x, m.label y)) pairs.second.labelings) pairs.first.labelings

  -- what two vertices bring where they meet; nothing where their ranks are the same
  abbrev pub met : ℕ → ℕ → List Labels
  met w b = cond (int_lt (pairs.rank b) (pairs.rank w)) (labels w b) (cond (int_lt (pairs.rank w) (pairs.rank b)) (labels b w) [])

  met-few : (w b : ℕ) → length (met w b) ≤ labels_of_two pairs
  met-few w b = by (int_lt (pairs.rank b) (pairs.rank w)) (int_lt (pairs.rank w) (pairs.rank b)) where
    by : (over under : Bool) → length (cond over (labels w b) (cond under (labels b w) [])) ≤ labels_of_two pairs
    by true under = omega (arith, labels-many pairs.first.labelings pairs.second.labelings w b)
    by false true = omega (arith, labels-many pairs.first.labelings pairs.second.labelings b w)
    by false false = omega arith

  met-itself : (w b : ℕ) → w ≡ b → length (met w b) ≡ 0
  met-itself w b e =
      ap (λ (v : ℕ). length (met w v)) (sym e)
      ∙ ap (λ (t : Bool). length (cond t (labels w w) (cond t (labels w w) []))) (not-itself (pairs.rank w))

  met-above : (x y : ℕ) (l m : Labeling) → Member l pairs.first.labelings → Member m pairs.second.labelings → pairs.rank y <ℤ pairs.rank x → Member (l.label x, m.label y) (met x y)
  met-above x y l m is also less =
      subst (λ (t : Bool). Member (l.label x, m.label y) (cond t (labels x y) (cond (int_lt (pairs.rank x) (pairs.rank y)) (labels y x) []))) (sym (lower (pairs.rank y) (pairs.rank x) less))
      (Member-flat_map (λ (k : Labeling). map (λ (n : Labeling). (k.label x, n.label y)) pairs.second.labelings) l pairs.first.labelings (l.label x, m.label y) is
      (Member-map (λ (n : Labeling). (l.label x, n.label y)) m pairs.second.labelings also))

  met-below : (x y : ℕ) (l m : Labeling) → Member l pairs.first.labelings → Member m pairs.second.labelings → pairs.rank y <ℤ pairs.rank x → Member (l.label x, m.label y) (met y x)
  met-below x y l m is also less =
      subst (λ (t : Bool). Member (l.label x, m.label y) (cond t (labels y x) (cond (int_lt (pairs.rank y) (pairs.rank x)) (labels x y) []))) (sym (never-lower (pairs.rank y) (pairs.rank x) less))
      (subst (λ (t : Bool). Member (l.label x, m.label y) (cond t (labels x y) [])) (sym (lower (pairs.rank y) (pairs.rank x) less))
      (Member-flat_map (λ (k : Labeling). map (λ (n : Labeling). (k.label x, n.label y)) pairs.second.labelings) l pairs.first.labelings (l.label x, m.label y) is
      (Member-map (λ (n : Labeling). (l.label x, n.label y)) m pairs.second.labelings also)))

  -- what a vertex brings that meets others
  abbrev pub meetings : ℕ → List ℕ → List Labels
  meetings w others = flat_map (met w) others

  pub meetings-few : (w : ℕ) (others : List ℕ) → length (meetings w others) ≤ labels_of_two pairs * length others
  meetings-few w [] = omega arith
  meetings-few w (b ∷ others) = omega (arith, length-append (met w b) (meetings w others), met-few w b, meetings-few w others)

  -- it brings nothing with itself
  pub meetings-fewer : (w : ℕ) (others : List ℕ) → Member w others → length (meetings w others) + labels_of_two pairs ≤ labels_of_two pairs * length others
  meetings-fewer w [] m = absurd m
  meetings-fewer w (b ∷ others) (inl e) = omega (arith, length-append (met w b) (meetings w others), met-itself w b e, meetings-few w others)
  meetings-fewer w (b ∷ others) (inr m) = omega (arith, length-append (met w b) (meetings w others), met-few w b, meetings-fewer w others m)

  -- in either order
  pub meetings-above : (x y : ℕ) (l m : Labeling) (others : List ℕ) → Member l pairs.first.labelings → Member m pairs.second.labelings → pairs.rank y <ℤ pairs.rank x → Member y others
      → Member (l.label x, m.label y) (meetings x others)
  meetings-above x y l m others is also less there = Member-flat_map (met x) y others (l.label x, m.label y) there (met-above x y l m is also less)

  pub meetings-below : (x y : ℕ) (l m : Labeling) (others : List ℕ) → Member l pairs.first.labelings → Member m pairs.second.labelings → pairs.rank y <ℤ pairs.rank x → Member x others
      → Member (l.label x, m.label y) (meetings y others)
  meetings-below x y l m others is also less there = Member-flat_map (met y) x others (l.label x, m.label y) there (met-below x y l m is also less)

  -- ---- what is red at the start

  -- what all of these vertices bring, each two once
  unfoldable pub among : List ℕ → List Labels
  among [] = []
  among (v ∷ vertices) = meetings v vertices ++ among vertices

  pub among-few : (vertices : List ℕ) → 2 * length (among vertices) + labels_of_two pairs * length vertices ≤ labels_of_two pairs * (length vertices * length vertices)
  unfolding among
  among-few [] = omega arith
  among-few (v ∷ vertices) = omega (arith, length-append (meetings v vertices) (among vertices), meetings-few v vertices, among-few vertices)

  pub among-held : (x y : ℕ) (l m : Labeling) (vertices : List ℕ) → Member l pairs.first.labelings → Member m pairs.second.labelings → pairs.rank y <ℤ pairs.rank x
      → Member x vertices → Member y vertices → Member (l.label x, m.label y) (among vertices)
  unfolding among
  among-held x y l m [] is also less there here = absurd there
  among-held x y l m (v ∷ vertices) is also less (inl e) (inl f) = absurd (higher e f) where
    higher : x ≡ v → y ≡ v → ⊥
    higher p q = let same : pairs.rank y ≡ pairs.rank x = ap pairs.rank (q ∙ sym p) in omega (arith, ints)
  among-held x y l m (v ∷ vertices) is also less (inl e) (inr n) =
      Member-append_left (l.label x, m.label y) (meetings v vertices) (among vertices)
      (subst (λ (w : ℕ). Member (l.label x, m.label y) (meetings w vertices)) e (meetings-above x y l m vertices is also less n))
  among-held x y l m (v ∷ vertices) is also less (inr k) (inl f) =
      Member-append_left (l.label x, m.label y) (meetings v vertices) (among vertices)
      (subst (λ (w : ℕ). Member (l.label x, m.label y) (meetings w vertices)) f (meetings-below x y l m vertices is also less k))
  among-held x y l m (v ∷ vertices) is also less (inr k) (inr n) =
      Member-append_right (l.label x, m.label y) (meetings v vertices) (among vertices) (among-held x y l m vertices is also less k n)
