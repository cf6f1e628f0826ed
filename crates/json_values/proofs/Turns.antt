-- What the grammar's functions give, turn by turn, as data.
use Rattle.std.proofs.Common.{◌≡◌, ℕ, zero, suc, ◌-◌, ◌<◌, ◌≤◌, List, [], ◌∷◌, ◌++◌, length, Option, Some, None, option_map, option_and_then, inl, inr, refl, ap, ◌∙◌, arith}
use Rattle.std.specs.Prelude.{◌⊎◌}
use Rattle.json.specs.Token.{Token}
use Rattle.json.specs.Json as json
use Rattle.json.specs.Json.{Parse, parse_map, after_end_array, read_key, items, members, if_last}
use Rattle.json.proofs.Grammar.{items_end, items_fail, items_more, members_end, members_fail, members_no_key, members_more}
use Rattle.serde_json.specs.Data.{Data, array, object, Items, no_items, item, Members, no_members, put}
use Rattle.serde_json.specs.Read.{of_json, of_items, of_members, converted}
use Rattle.json_values.specs.View.{json_data, items_data}
use Rattle.json_values.specs.declared.value.Json.{Json}

-- ---- what was read, and its data

abbrev given : {A : Type 0} → A → Option A → A
given d None = d
given d (Some a) = a

-- what is left stays, whatever becomes of what was read
paired : {B : Type 0} (x : Option B) (b : B) (r s : List Token) → option_map {U = B × List Token} (λ y. (y, r)) x ≡ Some (b, s) → (r ≡ s) × (x ≡ Some b)
paired None b r s e = absurd cc
paired (Some y) b r s e = let both = ap (given (y, r)) e in (ap (λ p. p.1) both, ap (λ p. Some p.0) both)

refused : {B : Type 0} (x : Option B) (r : List Token) → option_map {U = B × List Token} (λ y. (y, r)) x ≡ None → x ≡ None
refused None r e = refl
refused (Some y) r e = absurd cc

-- data come of what was read
pub came-of : {A B : Type 0} (f : A → Option B) (o : Option (A × List Token)) (b : B) (r : List Token) → converted f o ≡ Some (b, r) → (a : A) × (o ≡ Some (a, r)) × (f a ≡ Some b)
came-of f None b r e = absurd cc
came-of f (Some p) b r e = let both = paired (f p.0) b p.1 r e in (p.0, ap (λ s. Some (p.0, s)) both.0, both.1)

-- there are none where nothing was read, or where what was read has none
none-of : {A B : Type 0} (f : A → Option B) (o : Option (A × List Token)) → converted f o ≡ None → (o ≡ None) ⊎ ((a : A) × (r : List Token) × (o ≡ Some (a, r)) × (f a ≡ None))
none-of f None e = inl refl
none-of f (Some p) e = inr (p.0, p.1, refl, refused (f p.0) p.1 e)

mapped-twice : {B C : Type 0} (g : B → C) (x : Option B) (r : List Token) → option_map (λ c. (c, r)) (option_map g x) ≡ parse_map g (option_map (λ b. (b, r)) x)
mapped-twice g None r = refl
mapped-twice g (Some b) r = refl

pub array-data : (o : Option (json.Items × List Token)) → converted of_json (parse_map json.array o) ≡ parse_map array (converted of_items o)
array-data None = refl
array-data (Some p) = mapped-twice array (of_items p.0) p.1

pub object-data : (o : Option (json.Members × List Token)) → converted of_json (parse_map json.object o) ≡ parse_map object (converted (λ ms. of_members ms no_members) o)
object-data None = refl
object-data (Some p) = mapped-twice object (of_members p.0 no_members) p.1

-- ---- arrays

front-item : (j : json.Json) (d : Data) → of_json j ≡ Some d → (o : Option (json.Items × List Token)) → converted of_items (parse_map (json.item j) o) ≡ parse_map (item d) (converted of_items o)
front-item j d e None = refl
front-item j d e (Some p) = rw e (mapped-twice (item d) (of_items p.0) p.1)

no-front-item : (j : json.Json) → of_json j ≡ None → (o : Option (json.Items × List Token)) → converted of_items (parse_map (json.item j) o) ≡ None
no-front-item j e None = refl
no-front-item j e (Some p) = rw e

module _ (p : Parse json.Json) where
  pub one-item : (n : ℕ) (ts r : List Token) (d : Data) → 0 < n → after_end_array ts ≡ None → converted of_json (p ts) ≡ Some (d, r)
      → converted of_items (items p n ts) ≡ parse_map (item d) (converted of_items (items p (n - 1) r))
  one-item n ts r d some going e =
      let read = came-of of_json (p ts) d r e in
      ap (converted of_items) (items_more p n ts r read.0 some going read.1) ∙ front-item read.0 d read.2 (items p (n - 1) r)

  pub no-item : (n : ℕ) (ts : List Token) → after_end_array ts ≡ None → converted of_json (p ts) ≡ None → converted of_items (items p n ts) ≡ None
  unfolding items
  no-item zero ts going e = refl
  no-item (suc n) ts going e = elim (none-of of_json (p ts) e) [
    | inl fails ↦ ap (converted of_items) (items_fail p (suc n) ts going fails)
    | inr read ↦ ap (converted of_items) (items_more p (suc n) ts read.1 read.0 (omega arith) going read.2) ∙ no-front-item read.0 read.3 (items p (suc n - 1) read.1)
  ]

  pub items-over : (n : ℕ) (ts r : List Token) → length ts ≤ n → after_end_array ts ≡ Some r → converted of_items (items p n ts) ≡ Some (no_items, r)
  items-over n ts r enough e = ap (converted of_items) (items_end p n ts r enough e)

-- the items so far, and then those that are left
abbrev pub items_before : List Json → Items → Items
items_before [] rest = rest
items_before (v ∷ vs) rest = item (json_data v) (items_before vs rest)

pub before-none : (vs : List Json) → items_before vs no_items ≡ items_data vs
before-none [] = refl
before-none (v ∷ vs) = ap (item (json_data v)) (before-none vs)

before-push : (vs : List Json) (v : Json) (rest : Items) → items_before vs (item (json_data v) rest) ≡ items_before (vs ++ v ∷ []) rest
before-push [] v rest = refl
before-push (w ∷ vs) v rest = ap (item (json_data w)) (before-push vs v rest)

pub one-more : (vs : List Json) (v : Json) (r : Option (Items × List Token)) → parse_map (items_before vs) (parse_map (item (json_data v)) r) ≡ parse_map (items_before (vs ++ v ∷ [])) r
one-more vs v None = refl
one-more vs v (Some p) = ap (λ ds. Some (ds, p.1)) (before-push vs v p.0)

-- ---- objects

front-member : (k : List ℕ) (j : json.Json) (d : Data) (old : Members) → of_json j ≡ Some d → (o : Option (json.Members × List Token))
    → converted (λ ms. of_members ms old) (parse_map (json.member k j) o) ≡ converted (λ ms. of_members ms (put k d old)) o
front-member k j d old e None = refl
front-member k j d old e (Some p) = rw e

no-front-member : (k : List ℕ) (j : json.Json) (old : Members) → of_json j ≡ None → (o : Option (json.Members × List Token)) → converted (λ ms. of_members ms old) (parse_map (json.member k j) o) ≡ None
no-front-member k j old e None = refl
no-front-member k j old e (Some p) = rw e

module _ (p : Parse json.Json) (old : Members) where
  pub one-member : (n : ℕ) (k : List ℕ) (ts s r : List Token) (d : Data) → 0 < n → read_key ts ≡ Some (Some k, s) → converted of_json (p s) ≡ Some (d, r)
      → converted (λ ms. of_members ms old) (members p n ts) ≡ converted (λ ms. of_members ms (put k d old)) (members p (n - 1) r)
  one-member n k ts s r d some key e =
      let read = came-of of_json (p s) d r e in
      ap (converted (λ ms. of_members ms old)) (members_more p n k ts s r read.0 some key read.1) ∙ front-member k read.0 d old read.2 (members p (n - 1) r)

  pub no-member : (n : ℕ) (k : List ℕ) (ts s : List Token) → read_key ts ≡ Some (Some k, s) → converted of_json (p s) ≡ None → converted (λ ms. of_members ms old) (members p n ts) ≡ None
  unfolding members
  no-member zero k ts s key e = refl
  no-member (suc n) k ts s key e = elim (none-of of_json (p s) e) [
    | inl fails ↦ ap (converted (λ ms. of_members ms old)) (members_fail p (suc n) k ts s key fails)
    | inr read ↦ ap (converted (λ ms. of_members ms old)) (members_more p (suc n) k ts s read.1 read.0 (omega arith) key read.2) ∙ no-front-member k read.0 old read.3 (members p (suc n - 1) read.1)
  ]

  pub no-key : (n : ℕ) (ts : List Token) → read_key ts ≡ None → converted (λ ms. of_members ms old) (members p n ts) ≡ None
  no-key n ts e = ap (converted (λ ms. of_members ms old)) (members_no_key p n ts e)

  pub members-over : (n : ℕ) (ts r : List Token) → length ts ≤ n → read_key ts ≡ Some (None, r) → converted (λ ms. of_members ms old) (members p n ts) ≡ Some (old, r)
  members-over n ts r enough e = ap (converted (λ ms. of_members ms old)) (members_end p n ts r enough e)

-- ---- the whole text

abbrev pub whole : Option (json.Json × List Token) → Option Data
whole o = option_and_then of_json (option_and_then (λ p. if_last p.0 p.1) o)

pub none-read : (o : Option (json.Json × List Token)) → converted of_json o ≡ None → whole o ≡ None
none-read o e = elim (none-of of_json o e) [
  | inl fails ↦ ap whole fails
  | inr read ↦ ap whole read.2 ∙ last read.0 read.1 read.3
] where
  last : (j : json.Json) (r : List Token) → of_json j ≡ None → option_and_then of_json (if_last j r) ≡ None
  last j [] f = f
  last j (t ∷ r) f = refl
