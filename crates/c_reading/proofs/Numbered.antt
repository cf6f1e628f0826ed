-- A list of names with one more, and their numbers by their bytes.
use Rattle.std.proofs.Common.{◌≡◌, ℕ, Bool, true, false, not, cond, List, [], ◌∷◌, ◌++◌, length, position, bytes_eq, Option, Some, None, is_some, Result, Ok, Err, is_err, OnOk, Bor, refl, sym, ap, ◌∙◌, true≢false, arith}
use Rattle.std.specs.BTreeMap.{BTreeMap, UpdatesBy, get_by}
use Rattle.std.specs.Cmp.Lexicographic.{slice_cmp}
use Rattle.std.specs.Ordering.{nat_cmp}
use Rattle.std.proofs.lemmas.Cmp.{nat_list_eq_equiv}
use Rattle.std.proofs.lemmas.Map.Text.{btree_map_updates_str}
use Rattle.std.proofs.lemmas.List.{length-append}
use Rattle.std.proofs.lemmas.List.Folds.{position_or_len_push}
use Rattle.std.proofs.lemmas.List.Sums.{prefix_len-le-length}
use Rattle.std.proofs.lemmas.Slice.Eq.{bytes_eq-Decides}

-- the first of two, where it is there
abbrev pub either : {X : Type 0} → Option X → Option X → Option X
either (Some x) b = Some x
either None b = b

module _ {X : Type 0} (p : X → Bool) (xs : List X) (y : X) where
  pub position-push : position p (xs ++ y ∷ []) ≡ either (position p xs) (cond (p y) (Some (length xs)) None)
  position-push = grind (arith, position_or_len_push p xs y, length-append xs (y ∷ []), prefix_len-le-length (λ x. not (p x)) xs)

-- a name that was there already changes no number
pub numbers_same : (xs : List (List ℕ)) (new : List ℕ) → is_some (position (bytes_eq new) xs) ≡ true → (name : List ℕ) → position (bytes_eq name) (xs ++ new ∷ []) ≡ position (bytes_eq name) xs
numbers_same xs new there name = position-push (bytes_eq name) xs new ∙ by (position (bytes_eq name) xs) refl (bytes_eq name new) refl
  where
    by : (r : Option ℕ) → position (bytes_eq name) xs ≡ r → (b : Bool) → bytes_eq name new ≡ b → either r (cond b (Some (length xs)) None) ≡ r
    by (Some i) h b e = refl
    by None h false e = refl
    by None h true e = absurd (true≢false (sym there ∙ ap (λ n. is_some (position (bytes_eq n) xs)) (sym ((bytes_eq-Decides name new).0 e)) ∙ ap is_some h))

-- the map gives the number of each name of the list
abbrev pub Numbers : BTreeMap (Bor (List ℕ)) ℕ → List (List ℕ) → Type 0
Numbers m xs = (name : List ℕ) → get_by (λ key. slice_cmp nat_cmp name key.now) m ≡ position (bytes_eq name) xs

-- a name that wasn't there has the next number
pub numbers_insert : (m n : BTreeMap (Bor (List ℕ)) ℕ) (xs : List (List ℕ)) (new : List ℕ) → Numbers m xs → position (bytes_eq new) xs ≡ None
    → UpdatesBy (λ x y. slice_cmp nat_cmp x.now y.now) (λ key. slice_cmp nat_cmp new key.now) m n (Some (length xs)) → Numbers n (xs ++ new ∷ [])
numbers_insert m n xs new same none is name =
    btree_map_updates_str new m n (Some (length xs)) is name ∙ by (bytes_eq new name) (nat_list_eq_equiv.symm name new) ∙ sym (position-push (bytes_eq name) xs new)
  where
    whole : (r : Option ℕ) → r ≡ either r None
    whole None = refl
    whole (Some i) = refl

    f : List ℕ → Option ℕ
    f ds = get_by (λ key. slice_cmp nat_cmp ds key.now) m

    absent : bytes_eq name new ≡ true → position (bytes_eq name) xs ≡ None
    absent e = ap (λ ds. position (bytes_eq ds) xs) ((bytes_eq-Decides name new).0 e) ∙ none

    by : (b : Bool) → bytes_eq name new ≡ b → cond b (Some (length xs)) (f name) ≡ either (position (bytes_eq name) xs) (cond (bytes_eq name new) (Some (length xs)) None)
    by true e = rw (e, absent e)
    by false e = rw e (same name ∙ whole (position (bytes_eq name) xs))

-- what holds on `Ok`, where there was no error
pub from_ok : {X E P : Type 0} (r : Result X E) → is_err r ≡ false → OnOk r P → P
from_ok (Ok x) h p = p
from_ok (Err e) h p = absurd (true≢false h)

-- what has no number has none
pub none_from_not_some : {X : Type 0} (r : Option X) → is_some r ≡ false → r ≡ None
none_from_not_some None h = refl
none_from_not_some (Some x) h = absurd (true≢false h)
