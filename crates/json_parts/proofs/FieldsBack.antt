-- The members of an object that are written, read.
use Rattle.std.proofs.Common.{◌≡◌, ℕ, suc, List, [], ◌∷◌, length, Bor, true, Some, Ok, refl, sym, subst, ◌∙◌, eq-eqb, arith}
use Rattle.std.proofs.lemmas.List.{length-map}
use Rattle.serde_json.specs.Data.{Members, member, object}
use Rattle.serde_json.specs.Find.{get}
use Rattle.json_parts.specs.Fields.{Fields, field, rises, before_rest, found_first, front_unseen, still_agree, Agree, AreThere, AreReadBack, reads_object}
use Rattle.json_parts.specs.Json.{has_keys, has_all}
use Rattle.json_parts.specs.Names.{first_of, more_of, names_of}
use Rattle.json_parts.specs.Shape.{Shape, IsReadBack}
use Rattle.json_parts.proofs.Read.{tail_of, tail_is}

pub field-back : {A B : Type 0} (name : List ℕ) (shape : Shape A) (rest : Fields B) (a : A) (b : B) → rises (name ∷ rest.names) ≡ true → IsReadBack shape a → AreReadBack rest b
    → AreReadBack (field name shape rest) (a, b)
field-back name shape rest a b r here behind d agree =
    let first : get name d ≡ Some (shape.data_of a) = agree.0 ∙ found_first name rest.names (shape.data_of a) (rest.members b) r in
    let seen : Agree rest.names d (rest.members b) =
    still_agree d (rest.members b) (member name (shape.data_of a) (rest.members b)) rest.names agree.1 (front_unseen name (shape.data_of a) (rest.members b) rest.names (before_rest name rest.names r)) in
    rw (first, here, behind d seen) refl

all_there : (names : List (List ℕ)) (ms : Members) → AreThere names ms → has_all names (object ms) ≡ true
all_there [] ms h = refl
all_there (k ∷ ks) ms h = rw h.0 (all_there ks ms h.1)

object-reads : {B : Type 0} (fields : Fields B) (b : B) → rises fields.names ≡ true → has_keys fields.names (object (fields.members b)) ≡ true
unfolding has_keys
object-reads fields b r = rw (fields.count b, eq-eqb (length fields.names) (length fields.names) refl) (all_there fields.names (fields.members b) (fields.there b r))

object-agrees : (names : List (List ℕ)) (ms : Members) → Agree names (object ms) ms
object-agrees [] ms = tt
object-agrees (k ∷ ks) ms = (refl, object-agrees ks ms)

pub object-back : {B : Type 0} (fields : Fields B) (b : B) → rises fields.names ≡ true → AreReadBack fields b → reads_object fields (object (fields.members b)) ≡ Ok b
unfolding reads_object
object-back fields b r back = rw (object-reads fields b r, back (object (fields.members b)) (object-agrees fields.names (fields.members b))) refl

-- a member that is put in front of others
pub put-back : {A B : Type 0} (count : ℕ) (names : List (Bor (List ℕ))) (shape : Shape A) (rest : List (List ℕ) → Fields B) (a : A) (b : B)
    → ((names : List (List ℕ)) → length names ≡ count → (rest names).names ≡ names) → length names ≡ suc count → rises (names_of names) ≡ true
    → IsReadBack shape a → AreReadBack (rest (names_of (tail_of names))) b
    → AreReadBack (field (first_of [] (names_of names)) shape (rest (more_of (names_of names)))) (a, b)
put-back count [] shape rest a b law some r here behind = absurd (omega (arith, some))
put-back count (name ∷ names) shape rest a b law some r here behind =
    let there : AreReadBack (rest (names_of names)) b = subst (λ (ns : List (Bor (List ℕ))). AreReadBack (rest (names_of ns)) b) (tail_is name names) behind in
    let are : (rest (names_of names)).names ≡ names_of names = law (names_of names) (omega (arith, some, length-map names (λ (name : Bor (List ℕ)). name.now))) in
    field-back name.now shape (rest (names_of names)) a b (subst (λ (ns : List (List ℕ)). rises (name.now ∷ ns) ≡ true) (sym are) r) here there
