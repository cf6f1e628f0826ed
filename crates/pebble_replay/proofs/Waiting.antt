-- Who waits, by marks: what is said of them by their keys.
use Rattle.std.proofs.Common.{◌≡◌, refl, sym, ◌∙◌, ap, inl, inr, ℕ, zero, suc, ◌+◌, ◌<◌, Bool, true, false, cond, List, [], ◌∷◌, ◌++◌, length, map, take, set, get_or, Some, None, arith}
use Rattle.std.specs.Prelude.{◌⊎◌, ◌&&◌, ◌||◌, Option, nat_eq}
use Rattle.std.specs.List.{list_any}
use Rattle.std.specs.BTreeMap.{is_at}
use Rattle.std.specs.BinaryHeap.{IsHeap}
use Rattle.std.specs.List.{AllByRecursion}
use Rattle.std.specs.List.Sorted.{IsPermutation}
use Rattle.std.specs.Ordering.{nat_cmp, ordering_then, is_lt, is_gt}
use Rattle.std.specs.declared.cmp.Ordering.{Ordering}
use Rattle.std.specs.declared.cmp.Ordering.TheVariants.{Less, Equal, Greater}
use Rattle.std.specs.declared.cmp.Reverse.{Reverse}
use Rattle.std.specs.Cmp.{nat_cmp_is}
use Rattle.std.proofs.lemmas.Bool.{cases_eq, cases_order, and_parts, and_from, and_right, eq-eqb, ne_eqb, eqb-true, false_from_ne_true, or_left, or_right}
use Rattle.std.proofs.lemmas.List.{get_or-set_same, get_or-set_other}
use Rattle.std.proofs.lemmas.List.Folds.{list_any_more}
use Rattle.std.proofs.lemmas.List.Sorted.{list_any-IsPermutation}
use Rattle.pebble_replay.specs.Queue.{pair_cmp, has, waits_with, next_vertex, keys_of, is_key, earlier, IsCovered, IsSwitched}
use Rattle.pebble_replay.proofs.Queue.{at-pair}

-- ---- keys and marks

shifted : (p r : ℕ × ℕ → Bool) (keys : List (ℕ × ℕ)) → ((k : ℕ × ℕ) → p (next_vertex k) ≡ r k) → list_any p (map next_vertex keys) ≡ list_any r keys
shifted p r [] h = refl
shifted p r (k ∷ keys) h = ap (λ (b : Bool). b || list_any p (map next_vertex keys)) (h k) ∙ ap (λ (b : Bool). r k || b) (shifted p r keys h)

nobody : (keys : List (ℕ × ℕ)) → list_any (λ k. false) keys ≡ false
nobody [] = refl
nobody (k ∷ keys) = nobody keys

own : (l m : ℕ) → ((nat_eq l m && true) || false) ≡ nat_eq m l
own l m = by (cases_eq l m) where
  by : (l ≡ m) ⊎ (l ≡ m → ⊥) → ((nat_eq l m && true) || false) ≡ nat_eq m l
  by (inl e) = ap (λ (b : Bool). (b && true) || false) (eq-eqb l m e) ∙ sym (eq-eqb m l (sym e))
  by (inr apart) = ap (λ (b : Bool). (b && true) || false) (ne_eqb l m apart) ∙ sym (ne_eqb m l (λ e. apart (sym e)))

zero-apart : (n : ℕ) → nat_eq 0 (suc n) ≡ false
zero-apart n = ne_eqb 0 (suc n) (λ e. omega (arith, e))

suc-apart : (n : ℕ) → nat_eq (suc n) 0 ≡ false
suc-apart n = ne_eqb (suc n) 0 (λ e. omega (arith, e))

suc-same : (m n : ℕ) → nat_eq (suc m) (suc n) ≡ nat_eq m n
suc-same m n = by (cases_eq m n) where
  by : (m ≡ n) ⊎ (m ≡ n → ⊥) → nat_eq (suc m) (suc n) ≡ nat_eq m n
  by (inl e) = eq-eqb (suc m) (suc n) (ap suc e) ∙ sym (eq-eqb m n e)
  by (inr apart) = ne_eqb (suc m) (suc n) (λ e. apart (omega (arith, e))) ∙ sym (ne_eqb m n apart)

next-test : (l n : ℕ) (k : ℕ × ℕ) → is_at (pair_cmp (l, suc n)) (next_vertex k) ≡ is_at (pair_cmp (l, n)) k
next-test l n k = at-pair (l, suc n) (next_vertex k) ∙ ap (λ (b : Bool). nat_eq l k.0 && b) (suc-same n k.1) ∙ sym (at-pair (l, n) k)

first-vertex : (l : ℕ) (keys : List (ℕ × ℕ)) → list_any (is_at (pair_cmp (l, 0))) (map next_vertex keys) ≡ false
first-vertex l keys = shifted (is_at (pair_cmp (l, 0))) (λ k. false) keys (λ k. at-pair (l, 0) (next_vertex k) ∙ and_right (nat_eq l k.0) (nat_eq 0 (suc k.1)) (zero-apart k.1)) ∙ nobody keys

-- a key is there where its vertex waits with it
pub keys-test : (marks : List (Option ℕ)) (l n : ℕ) → list_any (is_at (pair_cmp (l, n))) (keys_of marks) ≡ waits_with marks (l, n)
keys-test [] l zero = refl
keys-test [] l (suc n) = refl
keys-test (None ∷ marks) l zero = first-vertex l (keys_of marks)
keys-test (None ∷ marks) l (suc n) =
    shifted (is_at (pair_cmp (l, suc n))) (is_at (pair_cmp (l, n))) (keys_of marks) (λ k. next-test l n k) ∙ keys-test marks l n
keys-test (Some m ∷ marks) l zero =
    ap (λ (b : Bool). b || list_any (is_at (pair_cmp (l, 0))) (map next_vertex (keys_of marks))) (at-pair (l, 0) (m, 0))
    ∙ ap (λ (b : Bool). (nat_eq l m && true) || b) (first-vertex l (keys_of marks)) ∙ own l m
keys-test (Some m ∷ marks) l (suc n) =
    ap (λ (b : Bool). b || list_any (is_at (pair_cmp (l, suc n))) (map next_vertex (keys_of marks))) (at-pair (l, suc n) (m, 0) ∙ and_right (nat_eq l m) (nat_eq (suc n) 0) (suc-apart n))
    ∙ shifted (is_at (pair_cmp (l, suc n))) (is_at (pair_cmp (l, n))) (keys_of marks) (λ k. next-test l n k) ∙ keys-test marks l n

-- who waits has a mark
pub waits-below : (marks : List (Option ℕ)) (l n : ℕ) → waits_with marks (l, n) ≡ true → n < length marks
waits-below [] l zero h = absurd cc
waits-below [] l (suc n) h = absurd cc
waits-below (m ∷ marks) l zero h = omega arith
waits-below (m ∷ marks) l (suc n) h = omega (arith, waits-below marks l n h)

-- a mark more at the end says nothing
pub waits-push : (marks : List (Option ℕ)) (l n : ℕ) → waits_with (marks ++ None ∷ []) (l, n) ≡ waits_with marks (l, n)
waits-push [] l zero = refl
waits-push [] l (suc zero) = refl
waits-push [] l (suc (suc n)) = refl
waits-push (m ∷ marks) l zero = refl
waits-push (m ∷ marks) l (suc n) = waits-push marks l n

-- who waits where a mark was put
put-waits : (marks : List (Option ℕ)) (u : ℕ) (mark : Option ℕ) (q : ℕ × ℕ) → u < length marks → waits_with (set marks u mark) q ≡ cond (nat_eq u q.1) (has mark q.0) (waits_with marks q)
put-waits marks u mark q below = by (cases_eq q.1 u) where
  by : (q.1 ≡ u) ⊎ (q.1 ≡ u → ⊥) → has (get_or (set marks u mark) q.1 None) q.0 ≡ cond (nat_eq u q.1) (has mark q.0) (has (get_or marks q.1 None) q.0)
  by (inl e) =
      ap (λ (n : ℕ). has (get_or (set marks u mark) n None) q.0) e ∙ ap (λ (o : Option ℕ). has o q.0) (get_or-set_same marks u mark None below)
      ∙ sym (ap (λ (b : Bool). cond b (has mark q.0) (has (get_or marks q.1 None) q.0)) (eq-eqb u q.1 (sym e)))
  by (inr apart) =
      ap (λ (o : Option ℕ). has o q.0) (get_or-set_other marks u q.1 mark None apart)
      ∙ sym (ap (λ (b : Bool). cond b (has mark q.0) (has (get_or marks q.1 None) q.0)) (ne_eqb u q.1 (λ e. apart (sym e))))

one-mark : (o : Option ℕ) (l m : ℕ) → has o l ≡ true → has o m ≡ nat_eq l m
one-mark None l m h = absurd cc
one-mark (Some k) l m h = ap (λ (n : ℕ). nat_eq n m) (eqb-true k l h)

-- ---- a vertex that is put into the queue, and one that is taken out

pub put-switched : (marks : List (Option ℕ)) (l u : ℕ) → u < length marks → ((m : ℕ) → list_any (is_at (pair_cmp (m, u))) (keys_of marks) ≡ true → m ≡ l)
    → IsSwitched (keys_of marks) (keys_of (set marks u (Some l))) (l, u) true
put-switched marks l u below free q =
    keys-test (set marks u (Some l)) q.0 q.1 ∙ put-waits marks u (Some l) q below
    ∙ by (nat_eq u q.1) (nat_eq l q.0) refl refl
    ∙ sym (ap (λ (b : Bool). cond b true (list_any (is_at (pair_cmp q)) (keys_of marks))) (at-pair (l, u) q)) where
      by : (s t : Bool) → nat_eq u q.1 ≡ s → nat_eq l q.0 ≡ t → cond s t (waits_with marks q) ≡ cond (t && s) true (list_any (is_at (pair_cmp q)) (keys_of marks))
      by true true e f = refl
      by true false e f = sym (false_from_ne_true (list_any (is_at (pair_cmp q)) (keys_of marks)) (λ h.
          let same : u ≡ q.1 = eqb-true u q.1 e in
          let key : q.0 ≡ l = free q.0 (ap (λ (n : ℕ). list_any (is_at (pair_cmp (q.0, n))) (keys_of marks)) same ∙ h) in
          let is : nat_eq l q.0 ≡ true = eq-eqb l q.0 (sym key) in cc))
      by false true e f = sym (keys-test marks q.0 q.1)
      by false false e f = sym (keys-test marks q.0 q.1)

pub taken-switched : (marks : List (Option ℕ)) (l u : ℕ) → waits_with marks (l, u) ≡ true → IsSwitched (keys_of marks) (keys_of (set marks u None)) (l, u) false
taken-switched marks l u there q =
    keys-test (set marks u None) q.0 q.1 ∙ put-waits marks u None q (waits-below marks l u there)
    ∙ by (nat_eq u q.1) (nat_eq l q.0) refl refl
    ∙ sym (ap (λ (b : Bool). cond b false (list_any (is_at (pair_cmp q)) (keys_of marks))) (at-pair (l, u) q)) where
      by : (s t : Bool) → nat_eq u q.1 ≡ s → nat_eq l q.0 ≡ t → cond s false (waits_with marks q) ≡ cond (t && s) false (list_any (is_at (pair_cmp q)) (keys_of marks))
      by true true e f = refl
      by true false e f =
          let same : u ≡ q.1 = eqb-true u q.1 e in
          sym (keys-test marks q.0 q.1 ∙ ap (λ (n : ℕ). has (get_or marks n None) q.0) (sym same) ∙ one-mark (get_or marks u None) l q.0 there ∙ f)
      by false true e f = sym (keys-test marks q.0 q.1)
      by false false e f = sym (keys-test marks q.0 q.1)

pub idle-switched : (marks : List (Option ℕ)) (l u : ℕ) → waits_with marks (l, u) ≡ false → IsSwitched (keys_of marks) (keys_of marks) (l, u) false
idle-switched marks l u off q =
    by (nat_eq u q.1) (nat_eq l q.0) refl refl ∙ sym (ap (λ (b : Bool). cond b false (list_any (is_at (pair_cmp q)) (keys_of marks))) (at-pair (l, u) q)) where
      by : (s t : Bool) → nat_eq u q.1 ≡ s → nat_eq l q.0 ≡ t → list_any (is_at (pair_cmp q)) (keys_of marks) ≡ cond (t && s) false (list_any (is_at (pair_cmp q)) (keys_of marks))
      by true true e f =
          keys-test marks q.0 q.1 ∙ ap (λ (n : ℕ). waits_with marks (q.0, n)) (sym (eqb-true u q.1 e)) ∙ ap (λ (n : ℕ). waits_with marks (n, u)) (sym (eqb-true l q.0 f)) ∙ off
      by true false e f = refl
      by false true e f = refl
      by false false e f = refl

-- ---- the heap

no-mark : (b : Bool) (c : Bool) → cond b false c ≡ true → c ≡ true
no-mark true c h = absurd cc
no-mark false c h = h

-- the heap covers those that are left where a mark is taken
pub covered-less : (marks : List (Option ℕ)) (l u : ℕ) (heap : List (Reverse (ℕ × ℕ))) → waits_with marks (l, u) ≡ true → IsCovered marks heap → IsCovered (set marks u None) heap
covered-less marks l u heap there h = record {
  ordered = h.ordered;
  covers = λ q on. h.covers q (no-mark (nat_eq u q.1) (waits_with marks q) (sym (put-waits marks u None q (waits-below marks l u there)) ∙ on));
}

or-false : (b c : Bool) → (b || c) ≡ true → b ≡ false → c ≡ true
or-false true c h e = absurd cc
or-false false c h e = h

-- it does where a key is put into it and its vertex is marked
pub covered-more : (marks : List (Option ℕ)) (l u : ℕ) (heap new : List (Reverse (ℕ × ℕ))) (entry : Reverse (ℕ × ℕ)) → u < length marks → entry.0 ≡ (l, u) → IsCovered marks heap
    → IsPermutation (entry ∷ heap) new → IsHeap earlier new → IsCovered (set marks u (Some l)) new
covered-more marks l u heap new entry below is h moved ordered = record {
  ordered = ordered;
  covers = λ q on. sym (list_any-IsPermutation (is_key q) (entry ∷ heap) new moved) ∙ by q (nat_eq u q.1) refl (sym (put-waits marks u (Some l) q below) ∙ on);
} where
  by : (q : ℕ × ℕ) (b : Bool) → nat_eq u q.1 ≡ b → cond (nat_eq u q.1) (nat_eq l q.0) (waits_with marks q) ≡ true → (is_key q entry || list_any (is_key q) heap) ≡ true
  by q true e on =
      let key : nat_eq l q.0 ≡ true = sym (ap (λ (b : Bool). cond b (nat_eq l q.0) (waits_with marks q)) e) ∙ on in
      or_left (is_key q entry) (list_any (is_key q) heap)
      (ap (λ (k : ℕ × ℕ). nat_eq q.0 k.0 && nat_eq q.1 k.1) is
      ∙ and_from (nat_eq q.0 l) (nat_eq q.1 u) (eq-eqb q.0 l (sym (eqb-true l q.0 key))) (eq-eqb q.1 u (sym (eqb-true u q.1 e))))
  by q false e on =
      or_right (is_key q entry) (list_any (is_key q) heap) (h.covers q (sym (ap (λ (b : Bool). cond b (nat_eq l q.0) (waits_with marks q)) e) ∙ on))

-- and where a key of no vertex that waits is taken out of it
pub covered-past : (marks : List (Option ℕ)) (heap new : List (Reverse (ℕ × ℕ))) (entry : Reverse (ℕ × ℕ)) → waits_with marks entry.0 ≡ false → IsCovered marks heap
    → IsPermutation heap (entry ∷ new) → IsHeap earlier new → IsCovered marks new
covered-past marks heap new entry off h moved ordered = record {
  ordered = ordered;
  covers = λ q on. or-false (is_key q entry) (list_any (is_key q) new) (sym (list_any-IsPermutation (is_key q) heap (entry ∷ new) moved) ∙ h.covers q on) (other q on);
} where
  other : (q : ℕ × ℕ) → waits_with marks q ≡ true → is_key q entry ≡ false
  other q on = false_from_ne_true (is_key q entry) (λ m.
      let parts = and_parts (nat_eq q.0 entry.0.0) (nat_eq q.1 entry.0.1) m in
      let same : waits_with marks q ≡ waits_with marks entry.0 = ap (λ (n : ℕ). waits_with marks (n, q.1)) (eqb-true q.0 entry.0.0 parts.0) ∙ ap (λ (n : ℕ). waits_with marks (entry.0.0, n)) (eqb-true q.1 entry.0.1 parts.1) in cc)

-- ---- the first key

nat-flips : (a b : ℕ) → is_gt (nat_cmp a b) ≡ is_lt (nat_cmp b a)
nat-flips a b = by (cases_order a b) where
  by : (a ≡ b) ⊎ ((a < b) ⊎ (b < a)) → is_gt (nat_cmp a b) ≡ is_lt (nat_cmp b a)
  by (inl e) = ap is_gt (sym (nat_cmp_is a b Equal e)) ∙ ap is_lt (nat_cmp_is b a Equal (sym e))
  by (inr (inl less)) = ap is_gt (sym (nat_cmp_is a b Less less)) ∙ ap is_lt (nat_cmp_is b a Greater less)
  by (inr (inr more)) = ap is_gt (sym (nat_cmp_is a b Greater more)) ∙ ap is_lt (nat_cmp_is b a Less more)

pair-flips : (a b : ℕ × ℕ) → is_gt (pair_cmp a b) ≡ is_lt (pair_cmp b a)
pair-flips a b = by (cases_order a.0 b.0) where
  by : (a.0 ≡ b.0) ⊎ ((a.0 < b.0) ⊎ (b.0 < a.0)) → is_gt (pair_cmp a b) ≡ is_lt (pair_cmp b a)
  by (inl e) =
      ap (λ (r : Ordering). is_gt (ordering_then r (nat_cmp a.1 b.1))) (sym (nat_cmp_is a.0 b.0 Equal e)) ∙ nat-flips a.1 b.1
      ∙ ap (λ (r : Ordering). is_lt (ordering_then r (nat_cmp b.1 a.1))) (nat_cmp_is b.0 a.0 Equal (sym e))
  by (inr (inl less)) =
      ap (λ (r : Ordering). is_gt (ordering_then r (nat_cmp a.1 b.1))) (sym (nat_cmp_is a.0 b.0 Less less))
      ∙ ap (λ (r : Ordering). is_lt (ordering_then r (nat_cmp b.1 a.1))) (nat_cmp_is b.0 a.0 Greater less)
  by (inr (inr more)) =
      ap (λ (r : Ordering). is_gt (ordering_then r (nat_cmp a.1 b.1))) (sym (nat_cmp_is a.0 b.0 Greater more))
      ∙ ap (λ (r : Ordering). is_lt (ordering_then r (nat_cmp b.1 a.1))) (nat_cmp_is b.0 a.0 Less more)

key-is : (q k : ℕ × ℕ) → (nat_eq q.0 k.0 && nat_eq q.1 k.1) ≡ true → q ≡ k
key-is q k h =
    let parts = and_parts (nat_eq q.0 k.0) (nat_eq q.1 k.1) h in
    λ i. (eqb-true q.0 k.0 parts.0 i, eqb-true q.1 k.1 parts.1 i)

none-before : (k : ℕ × ℕ) (heap : List (Reverse (ℕ × ℕ))) → AllByRecursion (λ y. is_lt (pair_cmp y.0 k) ≡ false) heap → (q : ℕ × ℕ) → list_any (is_key q) heap ≡ true → is_gt (pair_cmp k q) ≡ false
none-before k [] h q on = absurd cc
none-before k (y ∷ heap) h q on = by (is_key q y) refl (λ more. none-before k heap h.1 q more) where
  by : (b : Bool) → is_key q y ≡ b → (list_any (is_key q) heap ≡ true → is_gt (pair_cmp k q) ≡ false) → is_gt (pair_cmp k q) ≡ false
  by true e rest = pair-flips k q ∙ ap (λ (x : ℕ × ℕ). is_lt (pair_cmp x k)) (key-is q y.0 e) ∙ h.0
  by false e rest = rest (or-false (is_key q y) (list_any (is_key q) heap) on e)

-- no key of one that waits comes before the greatest of the heap
pub least-key : (marks : List (Option ℕ)) (heap : List (Reverse (ℕ × ℕ))) (entry : Reverse (ℕ × ℕ)) → IsCovered marks heap → AllByRecursion (λ y. is_lt (pair_cmp y.0 entry.0) ≡ false) heap
    → (q : ℕ × ℕ) → waits_with marks q ≡ true → is_gt (pair_cmp entry.0 q) ≡ false
least-key marks heap entry h all q on = none-before entry.0 heap all q (h.covers q on)

pub no-keys : (marks : List (Option ℕ)) → ((q : ℕ × ℕ) → waits_with marks q ≡ false) → keys_of marks ≡ []
no-keys marks h = by (keys_of marks) (λ q. keys-test marks q.0 q.1 ∙ h q) where
  by : (keys : List (ℕ × ℕ)) → ((q : ℕ × ℕ) → list_any (is_at (pair_cmp q)) keys ≡ false) → keys ≡ []
  by [] g = refl
  by (k ∷ keys) g = absurd (
      let here : is_at (pair_cmp k) k ≡ true = at-pair k k ∙ and_from (nat_eq k.0 k.0) (nat_eq k.1 k.1) (eq-eqb k.0 k.0 refl) (eq-eqb k.1 k.1 refl) in
      let there : list_any (is_at (pair_cmp k)) (k ∷ keys) ≡ true = or_left (is_at (pair_cmp k) k) (list_any (is_at (pair_cmp k)) keys) here in
      let off : list_any (is_at (pair_cmp k)) (k ∷ keys) ≡ false = g k in cc)

-- ---- a heap of the keys that vertices wait with

or-left : (b c : Bool) → (b || c) ≡ true → c ≡ false → b ≡ true
or-left true c g e = refl
or-left false c g e = absurd cc

-- of some entries those are kept that vertices wait with
abbrev pub AreKept : List (Option ℕ) → List (Reverse (ℕ × ℕ)) → List (Reverse (ℕ × ℕ)) → Type 0
AreKept marks entries kept = (q : ℕ × ℕ) → waits_with marks q ≡ true → list_any (is_key q) entries ≡ true → list_any (is_key q) kept ≡ true

pub kept-one : (marks : List (Option ℕ)) (entries : List (Reverse (ℕ × ℕ))) (i : ℕ) (entry d : Reverse (ℕ × ℕ)) (kept new : List (Reverse (ℕ × ℕ))) → i < length entries → entry ≡ get_or entries i d
    → AreKept marks (take i entries) kept → IsPermutation (entry ∷ kept) new → AreKept marks (take (i + 1) entries) new
kept-one marks entries i entry d kept new below is h moved q on m =
    sym (list_any-IsPermutation (is_key q) (entry ∷ kept) new moved)
    ∙ by (is_key q entry) refl (sym (list_any_more (is_key q) entries i d below ∙ ap (λ (e : Reverse (ℕ × ℕ)). list_any (is_key q) (take i entries) || is_key q e) (sym is)) ∙ m) where
      by : (b : Bool) → is_key q entry ≡ b → (list_any (is_key q) (take i entries) || is_key q entry) ≡ true → (is_key q entry || list_any (is_key q) kept) ≡ true
      by true e some = or_left (is_key q entry) (list_any (is_key q) kept) e
      by false e some = or_right (is_key q entry) (list_any (is_key q) kept) (h q on (or-left (list_any (is_key q) (take i entries)) (is_key q entry) some e))

pub kept-none : (marks : List (Option ℕ)) (entries : List (Reverse (ℕ × ℕ))) (i : ℕ) (entry d : Reverse (ℕ × ℕ)) (kept : List (Reverse (ℕ × ℕ))) → i < length entries → entry ≡ get_or entries i d
    → AreKept marks (take i entries) kept → waits_with marks entry.0 ≡ false → AreKept marks (take (i + 1) entries) kept
kept-none marks entries i entry d kept below is h off q on m =
    by (is_key q entry) refl (sym (list_any_more (is_key q) entries i d below ∙ ap (λ (e : Reverse (ℕ × ℕ)). list_any (is_key q) (take i entries) || is_key q e) (sym is)) ∙ m) where
      by : (b : Bool) → is_key q entry ≡ b → (list_any (is_key q) (take i entries) || is_key q entry) ≡ true → list_any (is_key q) kept ≡ true
      by true e some = absurd (let same : waits_with marks q ≡ waits_with marks entry.0 = ap (waits_with marks) (key-is q entry.0 e) in cc)
      by false e some = h q on (or-left (list_any (is_key q) (take i entries)) (is_key q entry) some e)

pub covered-same : (marks others : List (Option ℕ)) (heap : List (Reverse (ℕ × ℕ))) → ((q : ℕ × ℕ) → waits_with others q ≡ waits_with marks q) → IsCovered marks heap → IsCovered others heap
covered-same marks others heap same h = record { ordered = h.ordered; covers = λ q on. h.covers q (sym (same q) ∙ on) }

-- the same of marks that say the same
pub put-reached : (marks others : List (Option ℕ)) (l u : ℕ) → u < length others → ((q : ℕ × ℕ) → waits_with others q ≡ waits_with marks q)
    → ((m : ℕ) → list_any (is_at (pair_cmp (m, u))) (keys_of marks) ≡ true → m ≡ l) → IsSwitched (keys_of marks) (keys_of (set others u (Some l))) (l, u) true
put-reached marks others l u below same free q =
    put-switched others l u below (λ m h. free m (sym (tested (m, u)) ∙ h)) q
    ∙ ap (λ (b : Bool). cond (is_at (pair_cmp (l, u)) q) true b) (tested q) where
      tested : (q : ℕ × ℕ) → list_any (is_at (pair_cmp q)) (keys_of others) ≡ list_any (is_at (pair_cmp q)) (keys_of marks)
      tested q = keys-test others q.0 q.1 ∙ same q ∙ sym (keys-test marks q.0 q.1)

-- the greatest of the heap goes, and its vertex's mark with it
pub covered-popped : (marks : List (Option ℕ)) (heap new : List (Reverse (ℕ × ℕ))) (entry : Reverse (ℕ × ℕ)) → waits_with marks entry.0 ≡ true → IsCovered marks heap
    → IsPermutation heap (entry ∷ new) → IsHeap earlier new → IsCovered (set marks entry.0.1 None) new
covered-popped marks heap new entry there h moved ordered =
    covered-past (set marks entry.0.1 None) heap new entry off (covered-less marks entry.0.0 entry.0.1 heap there h) moved ordered where
      off : waits_with (set marks entry.0.1 None) entry.0 ≡ false
      off =
          put-waits marks entry.0.1 None entry.0 (waits-below marks entry.0.0 entry.0.1 there)
          ∙ ap (λ (b : Bool). cond b false (waits_with marks entry.0)) (eq-eqb entry.0.1 entry.0.1 refl)
