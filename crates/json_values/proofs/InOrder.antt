-- Members in the order of their keys.
use Rattle.std.proofs.Common.{◌≡◌, ℕ, zero, suc, ◌+◌, ◌-◌, ◌<◌, ◌≤◌, List, [], ◌∷◌, ◌++◌, length, get_or, take, String, Global, Ordering, Less, Equal, Greater, string_bytes, string_cmp, nat_cmp, refl, sym, ap, ◌∙◌, subst, arith}
use Rattle.std.proofs.lemmas.Cmp.{nat_list_cmp_total}
use Rattle.std.proofs.lemmas.List.{append-nil, append_assoc, get_or_default}
use Rattle.std.specs.Cmp.Lexicographic.{slice_cmp}
use Rattle.std.specs.List.{AllByRecursion}
use Rattle.std.specs.List.Sorted.{IsStrictlySortedBy}
use Rattle.std.specs.Map.{keys_of}
use Rattle.std.specs.Ordering.{match_ordering, ordering_reverse}
use Rattle.std.specs.BTreeMap.{insert_entry}
use Rattle.serde_json.specs.Data.{Members, no_members, member, put}
use Rattle.json_values.specs.Puts.{put_all}
use Rattle.json_values.specs.View.{json_data, members_data}
use Rattle.json_values.proofs.Members.{Entry}

-- ---- one after another

pub put-more : (es : List Entry) (e : Entry) (ms : Members) → put_all (es ++ e ∷ []) ms ≡ put (string_bytes e.0) (json_data e.1) (put_all es ms)
put-more [] e ms = refl
put-more (x ∷ es) e ms = put-more es e (put (string_bytes x.0) (json_data x.1) ms)

-- ---- into a map by keys

data-match : (o : Ordering) (a b c : List Entry) → members_data (match_ordering o a b c) ≡ match_ordering o (members_data a) (members_data b) (members_data c)
data-match Less a b c = refl
data-match Equal a b c = refl
data-match Greater a b c = refl

pub inserted : (es : List Entry) (k : String Global) (v : _) → members_data (insert_entry string_cmp es k v) ≡ put (string_bytes k) (json_data v) (members_data es)
inserted [] k v = refl
inserted (e ∷ es) k v = data-match (string_cmp k e.0) _ _ _ ∙ rw (inserted es k v)

-- ---- a list that is in order

below-next : (first : Entry) (es : List Entry) (e : Entry) (more : List Entry) → AllByRecursion (λ y. string_cmp first.0 y ≡ Less) (keys_of (es ++ e ∷ more)) → string_cmp first.0 e.0 ≡ Less
below-next first [] e more h = h.0
below-next first (x ∷ es) e more h = below-next first es e more h.1

-- a key above those before it goes last
put-last : (done : List Entry) (e : Entry) (more : List Entry) → IsStrictlySortedBy string_cmp (keys_of (done ++ e ∷ more))
    → put (string_bytes e.0) (json_data e.1) (members_data done) ≡ members_data (done ++ e ∷ [])
unfolding IsStrictlySortedBy
put-last [] e more h = refl
put-last (first ∷ done) e more h =
    let above : slice_cmp nat_cmp (string_bytes e.0) (string_bytes first.0) ≡ Greater =
    nat_list_cmp_total.antisymm (string_bytes e.0) (string_bytes first.0) ∙ ap ordering_reverse (below-next first done e more h.0) in
    rw above (ap (member (string_bytes first.0) (json_data first.1)) (put-last done e more h.1))

put-sorted : (done more : List Entry) → IsStrictlySortedBy string_cmp (keys_of (done ++ more)) → put_all more (members_data done) ≡ members_data (done ++ more)
put-sorted done [] h = ap members_data (sym (append-nil done))
put-sorted done (e ∷ more) h =
    let same : (done ++ e ∷ []) ++ more ≡ done ++ e ∷ more = append_assoc done (e ∷ []) more in
    ap (put_all more) (put-last done e more h)
    ∙ put-sorted (done ++ e ∷ []) more (subst (λ (l : List Entry). IsStrictlySortedBy string_cmp (keys_of l)) (sym same) h) ∙ ap members_data same

pub sorted-is : (es : List Entry) → IsStrictlySortedBy string_cmp (keys_of es) → members_data es ≡ put_all es no_members
sorted-is es h = sym (put-sorted [] es h)

-- ---- one member more in order

below-more : (x : String Global) (es : List Entry) (n : ℕ) (d : Entry) → n < length es → AllByRecursion (λ y. string_cmp x y ≡ Less) (keys_of (take n es)) → string_cmp x (get_or es n d).0 ≡ Less
    → AllByRecursion (λ y. string_cmp x y ≡ Less) (keys_of (take (n + 1) es))
below-more x [] n d within h is = absurd (omega (arith, within))
below-more x (e ∷ es) zero d within h is = (is, tt)
below-more x (e ∷ es) (suc n) d within h is =
    subst (λ (m : ℕ). AllByRecursion (λ y. string_cmp x y ≡ Less) (keys_of (take m (e ∷ es)))) (next n) (h.0, below-more x es n d (omega (arith, within)) h.1 is) where
      next : (m : ℕ) → suc (m + 1) ≡ suc m + 1
      next m = omega arith

below-at : (x : String Global) (es : List Entry) (n : ℕ) (d : Entry) → n < length es → AllByRecursion (λ y. string_cmp x y ≡ Less) (keys_of (take (suc n) es)) → string_cmp x (get_or es n d).0 ≡ Less
below-at x [] n d within h = absurd (omega (arith, within))
below-at x (e ∷ es) zero d within h = h.0
below-at x (e ∷ es) (suc n) d within h = below-at x es n d (omega (arith, within)) h.1

sorted-next : (es : List Entry) (n : ℕ) (d : Entry) → suc n < length es → IsStrictlySortedBy string_cmp (keys_of (take (suc n) es)) → string_cmp (get_or es n d).0 (get_or es (suc n) d).0 ≡ Less
    → IsStrictlySortedBy string_cmp (keys_of (take (suc (suc n)) es))
unfolding IsStrictlySortedBy
sorted-next [] n d within h is = absurd (omega (arith, within))
sorted-next (a ∷ []) zero d within h is = absurd (omega (arith, within))
sorted-next (a ∷ b ∷ es) zero d within h is = ((is, tt), (tt, tt))
sorted-next (a ∷ es) (suc n) d within h is =
    let before = below-at a.0 es n d (omega (arith, within)) h.0 in
    let above = nat_list_cmp_total.trans (string_bytes a.0) (string_bytes (get_or es n d).0) (string_bytes (get_or es (suc n) d).0) before is in (
      subst (λ (m : ℕ). AllByRecursion (λ y. string_cmp a.0 y ≡ Less) (keys_of (take m es))) (next n) (below-more a.0 es (suc n) d (omega (arith, within)) h.0 above),
      sorted-next es n d (omega (arith, within)) h.1 is,
    ) where
      next : (m : ℕ) → suc m + 1 ≡ suc (suc m)
      next m = omega arith

pub sorted-more : (es : List Entry) (n : ℕ) (d e : Entry) → 1 ≤ n → n < length es → IsStrictlySortedBy string_cmp (keys_of (take n es))
    → string_cmp (get_or es (n - 1) d).0 (get_or es n e).0 ≡ Less → IsStrictlySortedBy string_cmp (keys_of (take (n + 1) es))
sorted-more es zero d e some within h is = absurd (omega (arith, some))
sorted-more es (suc n) d e some within h is =
    subst (λ (m : ℕ). IsStrictlySortedBy string_cmp (keys_of (take m es))) (more n)
    (sorted-next es n e within h
    (ap (λ (x : Entry). string_cmp x.0 (get_or es (suc n) e).0) (sym (ap (λ (m : ℕ). get_or es m d) (before n) ∙ get_or_default es n d e (omega (arith, within)))) ∙ is)) where
      more : (m : ℕ) → suc (suc m) ≡ suc m + 1
      more m = omega arith

      before : (m : ℕ) → suc m - 1 ≡ m
      before m = omega arith

pub sorted-one : (es : List Entry) → IsStrictlySortedBy string_cmp (keys_of (take 1 es))
unfolding IsStrictlySortedBy
sorted-one [] = tt
sorted-one (e ∷ es) = (tt, tt)
