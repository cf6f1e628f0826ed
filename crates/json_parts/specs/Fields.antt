-- The members of an object, said one after the other by the byte order of their keys, and the object's shape.
use Rattle.std.specs.Prelude.{◌≡◌, ℕ, suc, ◌&&◌, List, [], ◌∷◌, length, Bool, true, false, Option, Some, is_some, if◌then◌else◌, Ok, IfOk, refl}
use Rattle.std.proofs.Common.{ap, ◌∙◌, subst, sym}
use Rattle.std.specs.List.{AllByRecursion}
use Rattle.std.specs.Ordering.{nat_cmp, match_ordering}
use Rattle.std.specs.declared.cmp.Ordering.{Ordering}
use Rattle.std.specs.declared.cmp.Ordering.TheVariants.{Less, Equal, Greater}
use Rattle.std.specs.Cmp.Lexicographic.{slice_cmp}
use Rattle.serde_json.specs.Data.{Data, object, Members, no_members, member, null, put}
use Rattle.serde_json.specs.Find.{get, get_member}
use Rattle.json_parts.specs.Outcome.{Outcome, ◌>>=◌, fault}
use Rattle.json_parts.specs.Json.{has_keys, count_of, part}
use Rattle.json_parts.specs.Given.{given_then, given_part, given_if}
use Rattle.json_parts.specs.Truths.{first_true, second_true}
use Rattle.json_parts.specs.Shape.{Shape, made_shape, made-kept}

-- ---- keys in byte order

abbrev pub is_before : List ℕ → List ℕ → Bool
is_before k l = match_ordering (slice_cmp nat_cmp k l) true false false && match_ordering (slice_cmp nat_cmp l k) false false true

abbrev pub is_before_all : List ℕ → List (List ℕ) → Bool
is_before_all k [] = true
is_before_all k (l ∷ ls) = is_before k l && is_before_all k ls

-- each key is behind those before it
abbrev pub rises : List (List ℕ) → Bool
rises [] = true
rises (k ∷ ks) = match_ordering (slice_cmp nat_cmp k k) false true false && is_before_all k ks && rises ks

-- ---- members

-- two lists of members agree at these keys
abbrev pub Agree : List (List ℕ) → Data → Members → Type 0
Agree names d ms = AllByRecursion (λ (k : List ℕ). get k d ≡ get_member k ms) names

abbrev pub AreThere : List (List ℕ) → Members → Type 0
AreThere names ms = AllByRecursion (λ (k : List ℕ). is_some (get_member k ms) ≡ true) names

pub record Fields (B : Type 0) : Type 1 where
  pub names : List (List ℕ)
  pub reads : Data → Outcome B
  pub members : B → Members
  pub IsWithin : B → Type 0
  pub kept : (d : Data) → IfOk (reads d) IsWithin
  pub there : (b : B) → rises names ≡ true → AreThere names (members b)
  pub count : (b : B) → count_of (members b) ≡ length names
  -- a key before all of these is put in front
  pub in_front : (name : List ℕ) (d : Data) (b : B) → is_before_all name names ≡ true → put name d (members b) ≡ member name d (members b)

-- ---- laws

found : {A : Type 0} (o : Ordering) (x y z : A) → match_ordering o false true false ≡ true → match_ordering o x y z ≡ y
found Less x y z h = absurd cc
found Equal x y z h = refl
found Greater x y z h = absurd cc

passed : {A : Type 0} (o : Ordering) (x y z : A) → match_ordering o false false true ≡ true → match_ordering o x y z ≡ z
passed Less x y z h = absurd cc
passed Equal x y z h = absurd cc
passed Greater x y z h = refl

-- a member in front isn't seen by the keys behind it
pub front_unseen : (name : List ℕ) (e : Data) (ms : Members) (names : List (List ℕ)) → is_before_all name names ≡ true
    → AllByRecursion (λ (k : List ℕ). get_member k (member name e ms) ≡ get_member k ms) names
front_unseen name e ms [] h = tt
front_unseen name e ms (k ∷ ks) h =
    let here = first_true (is_before name k) (is_before_all name ks) h in
    let behind = second_true (match_ordering (slice_cmp nat_cmp name k) true false false) (match_ordering (slice_cmp nat_cmp k name) false false true) here in (
      passed (slice_cmp nat_cmp k name) (get_member k ms) (Some e) (get_member k ms) behind,
      front_unseen name e ms ks (second_true (is_before name k) (is_before_all name ks) h),
    )

pub still_agree : (d : Data) (ms more : Members) (names : List (List ℕ)) → Agree names d more → AllByRecursion (λ (k : List ℕ). get_member k more ≡ get_member k ms) names → Agree names d ms
still_agree d ms more [] h g = tt
still_agree d ms more (k ∷ ks) h g = (h.0 ∙ g.0, still_agree d ms more ks h.1 g.1)

still_there : (ms more : Members) (names : List (List ℕ)) → AreThere names ms → AllByRecursion (λ (k : List ℕ). get_member k more ≡ get_member k ms) names → AreThere names more
still_there ms more [] h g = tt
still_there ms more (k ∷ ks) h g = (ap (λ (o : Option Data). is_some o) g.0 ∙ h.0, still_there ms more ks h.1 g.1)

pub first_rises : (name : List ℕ) (names : List (List ℕ)) → rises (name ∷ names) ≡ true → match_ordering (slice_cmp nat_cmp name name) false true false ≡ true
first_rises name names h =
    first_true (match_ordering (slice_cmp nat_cmp name name) false true false) (is_before_all name names)
    (first_true (match_ordering (slice_cmp nat_cmp name name) false true false && is_before_all name names) (rises names) h)

pub before_rest : (name : List ℕ) (names : List (List ℕ)) → rises (name ∷ names) ≡ true → is_before_all name names ≡ true
before_rest name names h =
    second_true (match_ordering (slice_cmp nat_cmp name name) false true false) (is_before_all name names)
    (first_true (match_ordering (slice_cmp nat_cmp name name) false true false && is_before_all name names) (rises names) h)

pub rest_rises : (name : List ℕ) (names : List (List ℕ)) → rises (name ∷ names) ≡ true → rises names ≡ true
rest_rises name names h = second_true (match_ordering (slice_cmp nat_cmp name name) false true false && is_before_all name names) (rises names) h

pub found_first : (name : List ℕ) (names : List (List ℕ)) (e : Data) (ms : Members) → rises (name ∷ names) ≡ true → get_member name (member name e ms) ≡ Some e
found_first name names e ms h = found (slice_cmp nat_cmp name name) (get_member name ms) (Some e) (get_member name ms) (first_rises name names h)

least : {A : Type 0} (o : Ordering) (x y z : A) → match_ordering o true false false ≡ true → match_ordering o x y z ≡ x
least Less x y z h = refl
least Equal x y z h = absurd cc
least Greater x y z h = absurd cc

pub put_first : (k l : List ℕ) (d e : Data) (ms : Members) (names : List (List ℕ)) → is_before_all k (l ∷ names) ≡ true → put k d (member l e ms) ≡ member k d (member l e ms)
put_first k l d e ms names h =
    least (slice_cmp nat_cmp k l) (member k d (member l e ms)) (member l d ms) (member l e (put k d ms))
    (first_true (match_ordering (slice_cmp nat_cmp k l) true false false) (match_ordering (slice_cmp nat_cmp l k) false false true) (first_true (is_before k l) (is_before_all k names) h))

-- ---- none, and one more

abbrev pub no_fields : Fields (Unit {0})
no_fields = record {
  names = [];
  reads = λ d. Ok tt;
  members = λ b. no_members;
  IsWithin = λ b. Unit {0};
  kept = λ d. tt;
  there = λ b r. tt;
  count = λ b. refl;
  in_front = λ name d b h. refl;
}

-- each member is read back from where it stands
abbrev pub AreReadBack : {B : Type 0} → Fields B → B → Type 0
AreReadBack fields b = (d : Data) → Agree fields.names d (fields.members b) → fields.reads d ≡ Ok b

pub field-kept : {A B : Type 0} (name : List ℕ) (shape : Shape A) (rest : Fields B) (d : Data)
    → IfOk (part name shape.reads d >>= λ a. rest.reads d >>= λ b. Ok (a, b)) (λ (p : A × B). shape.IsWithin p.0 × rest.IsWithin p.1)
field-kept {A = A} {B = B} name shape rest d =
    given_then (part name shape.reads d) (λ a. rest.reads d >>= λ b. Ok (a, b)) shape.IsWithin (λ (p : A × B). shape.IsWithin p.0 × rest.IsWithin p.1)
    (given_part name shape.reads shape.IsWithin d shape.kept)
    (λ a here. given_then (rest.reads d) (λ b. Ok (a, b)) rest.IsWithin (λ (p : A × B). shape.IsWithin p.0 × rest.IsWithin p.1) (rest.kept d) (λ b behind. (here, behind)))

pub field-there : {B : Type 0} (name : List ℕ) (rest : Fields B) (e : Data) (b : B) → rises (name ∷ rest.names) ≡ true → AreThere (name ∷ rest.names) (member name e (rest.members b))
field-there name rest e b r = (
  ap (λ (o : Option Data). is_some o) (found_first name rest.names e (rest.members b) r),
  still_there (rest.members b) (member name e (rest.members b)) rest.names (rest.there b (rest_rises name rest.names r))
      (front_unseen name e (rest.members b) rest.names (before_rest name rest.names r)),
)

-- a member with this key in front of others
abbrev pub field : {A B : Type 0} → List ℕ → Shape A → Fields B → Fields (A × B)
field name shape rest = record {
  names = name ∷ rest.names;
  reads = λ d. part name shape.reads d >>= λ a. rest.reads d >>= λ b. Ok (a, b);
  members = λ p. member name (shape.data_of p.0) (rest.members p.1);
  IsWithin = λ p. shape.IsWithin p.0 × rest.IsWithin p.1;
  kept = field-kept name shape rest;
  there = λ p r. field-there name rest (shape.data_of p.0) p.1 r;
  count = λ p. ap suc (rest.count p.1);
  in_front = λ k d p h. put_first k name d (shape.data_of p.0) (rest.members p.1) rest.names h;
}

-- ---- objects

-- what the members of an object with exactly these keys say
unfoldable pub reads_object : {B : Type 0} → Fields B → Data → Outcome B
reads_object fields d = if has_keys fields.names d then fields.reads d else fault 2

pub object-kept : {B : Type 0} (fields : Fields B) (d : Data) → IfOk (reads_object fields d) fields.IsWithin
unfolding reads_object
object-kept fields d = given_if (has_keys fields.names d) (fields.reads d) (fault 2) fields.IsWithin (λ is. fields.kept d) tt

pub object-null : {B : Type 0} (fields : Fields B) → reads_object fields null ≡ fault 2
unfolding reads_object has_keys
object-null fields = refl

-- an object with these members
abbrev pub object_shape : {B : Type 0} → Fields B → Shape B
object_shape fields = record {
  reads = reads_object fields;
  data_of = λ b. object (fields.members b);
  IsWithin = fields.IsWithin;
  kept = object-kept fields;
  is_present = true;
  present = λ _. object-null fields;
}

pub same-within : {A B : Type 0} (fields : Fields B) (made : B → A) (parts : A → B) → ((b : B) → parts (made b) ≡ b) → (b : B) → fields.IsWithin b → fields.IsWithin (parts (made b))
same-within fields made parts same b small = subst fields.IsWithin (sym (same b)) small

-- a record, by what its members say
abbrev pub record_shape : {A B : Type 0} → Fields B → (made : B → A) (parts : A → B) → ((b : B) → parts (made b) ≡ b) → Shape A
record_shape fields made parts same = made_shape (object_shape fields) made parts (λ a. fields.IsWithin (parts a)) (same-within fields made parts same)

-- ---- objects that are told apart by their keys

-- what is made of an object's members
abbrev pub reads_made : {A B : Type 0} → Fields B → (B → A) → Data → Outcome A
reads_made fields made d = reads_object fields d >>= λ b. Ok (made b)

-- what an object with the keys of these fields says, and else what others say
abbrev pub told : {A B : Type 0} → Fields B → (B → A) → (Data → Outcome A) → Data → Outcome A
told fields made others d = if has_keys fields.names d then (reads_object fields d >>= λ b. Ok (made b)) else others d

pub told-kept : {A B : Type 0} (fields : Fields B) (made : B → A) (others : Data → Outcome A) (IsWithin : A → Type 0) → ((b : B) → fields.IsWithin b → IsWithin (made b)) → ((d : Data) → IfOk (others d) IsWithin)
    → (d : Data) → IfOk (told fields made others d) IsWithin
told-kept fields made others IsWithin kept rest d =
    given_if (has_keys fields.names d) (reads_object fields d >>= λ b. Ok (made b)) (others d) IsWithin (λ is. made-kept (object_shape fields) made IsWithin kept d) (rest d)
