-- Members as data, and what is found among them.
use Rattle.std.proofs.Common.{◌≡◌, ◌≢◌, ℕ, zero, suc, ◌+◌, ◌<◌, length, get_or, drop, arith, List, [], ◌∷◌, Option, Some, String, Vec, Global, Ordering, Less, Equal, Greater, string_bytes, nat_cmp, is_eq, Bool, true, false, bytes_eq, true≢false, refl, sym, ap, ◌∙◌, rules}
use Rattle.std.proofs.lemmas.Cmp.{nat_list_cmp_total, tied_itself}
use Rattle.std.proofs.lemmas.Map.Text.{is_eq-slice_cmp}
use Rattle.std.proofs.lemmas.Slice.Eq.{bytes_eq-Decides}
use Rattle.std.specs.Cmp.Lexicographic.{slice_cmp}
use Rattle.std.specs.Ordering.{match_ordering}
use Rattle.serde_json.specs.Data.{Data, array, object}
use Rattle.serde_json.specs.Find.{get_member}
use Rattle.json_values.specs.View.{json_data, items_data, members_data}
use Rattle.json_values.specs.declared.value.Json.{Json, Array, Object, the_lemmas}

abbrev pub Entry : Type 0
Entry = String Global × Json

pub data-array : (v : Vec Json Global) → json_data (Array v) ≡ array (items_data v.items)
data-array v = search (rules, the_lemmas)

pub data-object : (v : Vec Entry Global) → json_data (Object v) ≡ object (members_data v.items)
data-object v = search (rules, the_lemmas)

-- ---- the value of a key

pub found-here : (name : List ℕ) (e : Entry) (es : List Entry) → name ≡ string_bytes e.0 → get_member name (members_data (e ∷ es)) ≡ Some (json_data e.1)
found-here name e es is = rw (is, tied_itself nat_list_cmp_total (string_bytes e.0))

either : (o : Ordering) (a b : Option Data) → is_eq o ≡ false → match_ordering o a b a ≡ a
either Less a b e = refl
either Equal a b e = absurd (true≢false e)
either Greater a b e = refl

apart : (xs ys : List ℕ) (b : Bool) → bytes_eq xs ys ≡ b → xs ≢ ys → b ≡ false
apart xs ys true e other = absurd (other ((bytes_eq-Decides xs ys).0 e))
apart xs ys false e other = refl

pub found-later : (name : List ℕ) (e : Entry) (es : List Entry) → name ≢ string_bytes e.0 → get_member name (members_data (e ∷ es)) ≡ get_member name (members_data es)
found-later name e es other =
    either (slice_cmp nat_cmp name (string_bytes e.0)) _ _ (is_eq-slice_cmp name (string_bytes e.0) ∙ apart name (string_bytes e.0) _ refl other)

-- a member, and those behind it
pub rest-at : (es : List Entry) (i : ℕ) (e : Entry) → i < length es → e ≡ get_or es i e → drop i es ≡ e ∷ drop (i + 1) es
rest-at [] i e within is = absurd (omega (arith, within))
rest-at (x ∷ es) zero e within is = ap (λ (y : Entry). y ∷ es) (sym is)
rest-at (x ∷ es) (suc i) e within is = rest-at es i e (omega (arith, within)) is ∙ ap (λ (n : ℕ). e ∷ drop n (x ∷ es)) (next i) where
  next : (n : ℕ) → suc (n + 1) ≡ suc n + 1
  next n = omega arith
