-- Members that were collected by their keys.
use Rattle.std.proofs.Common.{◌≡◌, List, [], ◌∷◌, Option, Some, None, String, Global, Ordering, Less, Equal, Greater, Bool, true, false, true≢false, cond, string_bytes, string_cmp, is_eq, refl, sym, ap, ◌∙◌}
use Rattle.std.proofs.lemmas.Bool.{cond-true}
use Rattle.std.proofs.lemmas.Cmp.{eq_by_cmp_equiv, tied_itself}
use Rattle.std.proofs.lemmas.Map.{lookup-none}
use Rattle.std.proofs.lemmas.Map.Entries.{lookup_tail, none_below_head, none_past_head}
use Rattle.std.proofs.lemmas.Map.Keys.{IsDistinct-from_sorted}
use Rattle.std.proofs.lemmas.Map.Text.{is_eq-slice_cmp}
use Rattle.std.proofs.lemmas.Slice.Eq.{bytes_eq-Decides}
use Rattle.std.specs.BTreeMap.{insert_entry, is_at}
use Rattle.std.specs.List.{AllByRecursion}
use Rattle.std.specs.List.Sorted.{IsStrictlySortedBy}
use Rattle.std.specs.Map.{keys_of, lookup, update, update_all}
use Rattle.std.specs.Ordering.{eq_by_cmp, match_ordering, ordering_reverse}
use Rattle.std.specs.String.{string_cmp_total}
use Rattle.serde_json.specs.Data.{no_members, member}
use Rattle.json_values.specs.Puts.{put_all}
use Rattle.json_values.specs.View.{json_data, members_data}
use Rattle.json_values.specs.declared.value.Json.{Json}
use Rattle.json_values.proofs.Members.{Entry}
use Rattle.json_values.proofs.InOrder.{inserted}

-- ---- the value of a key, after an insert

abbrev value_at : String Global → List Entry → Option Json
value_at q es = lookup (is_at (string_cmp q)) es

turned : (a b : String Global) → is_eq (string_cmp a b) ≡ is_eq (string_cmp b a)
turned a b = (eq_by_cmp_equiv string_cmp_total).symm a b

equal-from : (o : Ordering) → is_eq o ≡ true → o ≡ Equal
equal-from Less h = absurd (true≢false (sym h))
equal-from Equal h = refl
equal-from Greater h = absurd (true≢false (sym h))

twice : (b : Bool) (x y r : Option Json) → cond b x r ≡ cond b x (cond b y r)
twice true x y r = refl
twice false x y r = refl

swapped : (a b : Bool) (x y r : Option Json) → (a ≡ true → b ≡ false) → cond b y (cond a x r) ≡ cond a x (cond b y r)
swapped true true x y r apart = absurd (true≢false (apart refl))
swapped true false x y r apart = refl
swapped false b x y r apart = refl

value-insert : (es : List Entry) (k : String Global) (v : Json) (q : String Global) → value_at q (insert_entry string_cmp es k v) ≡ cond (eq_by_cmp string_cmp k q) (Some v) (value_at q es)
value-insert [] k v q = ap (λ (b : Bool). cond b (Some v) None) (turned q k)
value-insert (e ∷ es) k v q = at (string_cmp k e.0) refl (value-insert es k v q) where
  at : (o : Ordering) → string_cmp k e.0 ≡ o → value_at q (insert_entry string_cmp es k v) ≡ cond (eq_by_cmp string_cmp k q) (Some v) (value_at q es)
      → value_at q (match_ordering o ((k, v) ∷ e ∷ es) ((e.0, v) ∷ es) (e ∷ insert_entry string_cmp es k v)) ≡ cond (eq_by_cmp string_cmp k q) (Some v) (value_at q (e ∷ es))
  at Less is later = ap (λ (b : Bool). cond b (Some v) (value_at q (e ∷ es))) (turned q k)
  at Equal is later =
      let same : is_eq (string_cmp q e.0) ≡ is_eq (string_cmp k q) = turned q e.0 ∙ ap is_eq (sym (string_cmp_total.congr k e.0 q is)) in
      twice (is_eq (string_cmp q e.0)) (Some v) (Some e.1) (value_at q es) ∙ ap (λ (b : Bool). cond b (Some v) (value_at q (e ∷ es))) same
  at Greater is later =
      ap (λ (r : Option Json). cond (is_eq (string_cmp q e.0)) (Some e.1) r) later
      ∙ swapped (eq_by_cmp string_cmp k q) (is_eq (string_cmp q e.0)) (Some v) (Some e.1) (value_at q es)
      (λ h. ap is_eq (sym (string_cmp_total.congr k q e.0 (equal-from (string_cmp k q) h)) ∙ is))

-- ---- an insert keeps the order

below-all : (k x : String Global) (ks : List (String Global)) → string_cmp k x ≡ Less → AllByRecursion (λ y. string_cmp x y ≡ Less) ks → AllByRecursion (λ y. string_cmp k y ≡ Less) ks
below-all k x [] less h = tt
below-all k x (y ∷ ks) less h = (string_cmp_total.trans k x y less h.0, below-all k x ks less h.1)

below-insert : (x : String Global) (es : List Entry) (k : String Global) (v : Json) → AllByRecursion (λ y. string_cmp x y ≡ Less) (keys_of es) → string_cmp x k ≡ Less
    → AllByRecursion (λ y. string_cmp x y ≡ Less) (keys_of (insert_entry string_cmp es k v))
below-insert x [] k v h less = (less, tt)
below-insert x (e ∷ es) k v h less = at (string_cmp k e.0) (below-insert x es k v h.1 less) where
  at : (o : Ordering) → AllByRecursion (λ y. string_cmp x y ≡ Less) (keys_of (insert_entry string_cmp es k v)) → AllByRecursion (λ y. string_cmp x y ≡ Less) (keys_of (match_ordering o ((k, v) ∷ e ∷ es) ((e.0, v) ∷ es) (e ∷ insert_entry string_cmp es k v)))
  at Less later = (less, h)
  at Equal later = h
  at Greater later = (h.0, later)

insert-in_order : (es : List Entry) (k : String Global) (v : Json) → IsStrictlySortedBy string_cmp (keys_of es) → IsStrictlySortedBy string_cmp (keys_of (insert_entry string_cmp es k v))
unfolding IsStrictlySortedBy
insert-in_order [] k v h = (tt, tt)
insert-in_order (e ∷ es) k v h = at (string_cmp k e.0) refl (insert-in_order es k v h.1) where
  at : (o : Ordering) → string_cmp k e.0 ≡ o → IsStrictlySortedBy string_cmp (keys_of (insert_entry string_cmp es k v))
      → IsStrictlySortedBy string_cmp (keys_of (match_ordering o ((k, v) ∷ e ∷ es) ((e.0, v) ∷ es) (e ∷ insert_entry string_cmp es k v)))
  at Less is later = ((is, below-all k e.0 (keys_of es) is h.0), h)
  at Equal is later = h
  at Greater is later = (below-insert e.0 es k v h.0 (string_cmp_total.antisymm e.0 k ∙ ap ordering_reverse is), later)

-- ---- members that are inserted one after another

abbrev with_members : List Entry → List Entry → List Entry
with_members es [] = es
with_members es (x ∷ xs) = with_members (insert_entry string_cmp es x.0 x.1) xs

with-data : (xs es : List Entry) → members_data (with_members es xs) ≡ put_all xs (members_data es)
with-data [] es = refl
with-data (x ∷ xs) es = with-data xs (insert_entry string_cmp es x.0 x.1) ∙ ap (put_all xs) (inserted es x.0 x.1)

with-in_order : (xs es : List Entry) → IsStrictlySortedBy string_cmp (keys_of es) → IsStrictlySortedBy string_cmp (keys_of (with_members es xs))
with-in_order [] es h = h
with-in_order (x ∷ xs) es h = with-in_order xs (insert_entry string_cmp es x.0 x.1) (insert-in_order es x.0 x.1 h)

with-values : (xs es : List Entry) (f : String Global → Option Json) → ((q : String Global) → value_at q es ≡ f q) → (q : String Global) → value_at q (with_members es xs) ≡ update_all (eq_by_cmp string_cmp) f xs q
with-values [] es f given q = given q
with-values (x ∷ xs) es f given q =
    with-values xs (insert_entry string_cmp es x.0 x.1) (update (eq_by_cmp string_cmp) f x.0 (Some x.1))
    (λ k. value-insert es x.0 x.1 k ∙ ap (λ (r : Option Json). cond (eq_by_cmp string_cmp x.0 k) (Some x.1) r) (given k)) q

-- ---- members in order are known by the values of the keys

first-value : (q : String Global) (e : Entry) (es : List Entry) → string_cmp q e.0 ≡ Equal → value_at q (e ∷ es) ≡ Some e.1
first-value q e es is = cond-true (is_eq (string_cmp q e.0)) (Some e.1) (value_at q es) (ap is_eq is)

own-value : (e : Entry) (es : List Entry) → value_at e.0 (e ∷ es) ≡ Some e.1
own-value e es = first-value e.0 e es (tied_itself string_cmp_total e.0)

none-below : (q : String Global) (e : Entry) (es : List Entry) → IsStrictlySortedBy string_cmp (keys_of (e ∷ es)) → string_cmp q e.0 ≡ Less → value_at q (e ∷ es) ≡ None
none-below q e es h less = lookup-none (is_at (string_cmp q)) (e ∷ es) (none_below_head string_cmp_total q e es h less)

none-behind : (q : String Global) (e : Entry) (es : List Entry) → IsStrictlySortedBy string_cmp (keys_of (e ∷ es)) → is_eq (string_cmp q e.0) ≡ true → value_at q es ≡ None
none-behind q e es h is = lookup-none (is_at (string_cmp q)) es (none_past_head (eq_by_cmp_equiv string_cmp_total) q e es (IsDistinct-from_sorted string_cmp (keys_of (e ∷ es)) h) is)

tail-values : (a b : Entry) (ls rs : List Entry) → IsStrictlySortedBy string_cmp (keys_of (a ∷ ls)) → IsStrictlySortedBy string_cmp (keys_of (b ∷ rs)) → string_cmp a.0 b.0 ≡ Equal
    → (q : String Global) → value_at q (a ∷ ls) ≡ value_at q (b ∷ rs) → value_at q ls ≡ value_at q rs
tail-values a b ls rs ha hb is q same = at (is_eq (string_cmp q a.0)) refl where
  level : is_eq (string_cmp q b.0) ≡ is_eq (string_cmp q a.0)
  level = turned q b.0 ∙ ap is_eq (sym (string_cmp_total.congr a.0 b.0 q is)) ∙ turned a.0 q

  at : (t : Bool) → is_eq (string_cmp q a.0) ≡ t → value_at q ls ≡ value_at q rs
  at true h = none-behind q a ls ha h ∙ sym (none-behind q b rs hb (level ∙ h))
  at false h = sym (lookup_tail (is_at (string_cmp q)) a ls h) ∙ same ∙ lookup_tail (is_at (string_cmp q)) b rs (level ∙ h)

some-none : (v : Json) → Some v ≡ None → ⊥
some-none v h = cc

one-value : (v w : Json) → Some v ≡ Some w → v ≡ w
one-value v w h = cc

same-bytes : (a b : String Global) → string_cmp a b ≡ Equal → string_bytes a ≡ string_bytes b
same-bytes a b is = (bytes_eq-Decides (string_bytes a) (string_bytes b)).0 (sym (is_eq-slice_cmp (string_bytes a) (string_bytes b)) ∙ ap is_eq is)

same-data : (ls rs : List Entry) → IsStrictlySortedBy string_cmp (keys_of ls) → IsStrictlySortedBy string_cmp (keys_of rs) → ((q : String Global) → value_at q ls ≡ value_at q rs) → members_data ls ≡ members_data rs
unfolding IsStrictlySortedBy
same-data [] [] ha hb same = refl
same-data [] (b ∷ rs) ha hb same = absurd (some-none b.1 (sym (own-value b rs) ∙ sym (same b.0)))
same-data (a ∷ ls) [] ha hb same = absurd (some-none a.1 (sym (own-value a ls) ∙ same a.0))
same-data (a ∷ ls) (b ∷ rs) ha hb same = at (string_cmp a.0 b.0) refl (same-data ls rs ha.1 hb.1) where
  at : (o : Ordering) → string_cmp a.0 b.0 ≡ o → (((q : String Global) → value_at q ls ≡ value_at q rs) → members_data ls ≡ members_data rs) → members_data (a ∷ ls) ≡ members_data (b ∷ rs)
  at Less is tails = absurd (some-none a.1 (sym (own-value a ls) ∙ same a.0 ∙ none-below a.0 b rs hb is))
  at Greater is tails = absurd (some-none b.1 (sym (own-value b rs) ∙ sym (same b.0) ∙ none-below b.0 a ls ha (string_cmp_total.antisymm b.0 a.0 ∙ ap ordering_reverse is)))
  at Equal is tails =
      let value : a.1 ≡ b.1 = one-value a.1 b.1 (sym (own-value a ls) ∙ same a.0 ∙ first-value a.0 b rs is) in
      ap (λ k. member k (json_data a.1) (members_data ls)) (same-bytes a.0 b.0 is)
      ∙ ap (λ (v : Json). member (string_bytes b.0) (json_data v) (members_data ls)) value
      ∙ ap (member (string_bytes b.0) (json_data b.1)) (tails (λ q. tail-values a b ls rs ha hb is q (same q)))

pub collected : (xs es : List Entry) → IsStrictlySortedBy string_cmp (keys_of es) → ((q : String Global) → value_at q es ≡ update_all (eq_by_cmp string_cmp) (λ _. None) xs q) → members_data es ≡ put_all xs no_members
unfolding IsStrictlySortedBy
collected xs es h values =
    same-data es (with_members [] xs) h (with-in_order xs [] tt) (λ q. values q ∙ sym (with-values xs [] (λ _. None) (λ _. refl) q)) ∙ with-data xs []
