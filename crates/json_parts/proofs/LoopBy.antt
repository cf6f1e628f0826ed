-- Reading the members of a list one after the other, where what is read stands in a relation to what the text says.
use Rattle.std.proofs.Common.{◌≡◌, ℕ, ◌+◌, ◌<◌, ◌≤◌, List, [], ◌∷◌, ◌++◌, length, drop, map, get_or, Ok, Some, Bool, true, false, refl, sym, ap, ◌∙◌}
use Rattle.claims.specs.declared.place.Step.TheVariants.{Index}
use Rattle.serde_json.specs.Data.{Data}
use Rattle.json_values.specs.View.{json_data}
use Rattle.json_values.specs.declared.value.Json.{Json}
use Rattle.json_parts.specs.declared.error.CertError.{CertError}
use Rattle.json_parts.specs.Outcome.{Outcome, Fails, IsUnder}
use Rattle.json_parts.specs.Json.{each}
use Rattle.json_parts.specs.Related.{AreAll, AreSaid, IsSaidOption, Link}
use Rattle.json_parts.proofs.Loop.{with_front, goes_on, ends, is_done}

-- this was found so far, and this is what the text says of it
pub record SoFar {A X : Type 0} (R : A → X → Type 0) (reader : Data → Outcome A) (values : List Json) (i : ℕ) (found : List X) (total : Outcome (List A)) : Type 0 where
  pub front : List A
  pub left : with_front front (each reader i (map json_data (drop i values))) ≡ total
  pub holds : AreAll R front found

AreAll-push : {A X : Type 0} (R : A → X → Type 0) (front : List A) (found : List X) (a : A) (x : X) → AreAll R front found → R a x → AreAll R (front ++ a ∷ []) (found ++ x ∷ [])
AreAll-push R [] [] a x all here = (here, tt)
AreAll-push R [] (y ∷ found) a x all here = absurd all
AreAll-push R (b ∷ front) [] a x all here = absurd all
AreAll-push R (b ∷ front) (y ∷ found) a x all here = (all.0, AreAll-push R front found a x all.1 here)

pub goes_on_by : {A X : Type 0} (R : A → X → Type 0) (reader : Data → Outcome A) (values : List Json) (i : ℕ) (found : List X) (total : Outcome (List A)) (value : Json) (x : X)
    → i < length values → value ≡ get_or values i value → ((a : A) × (reader (json_data value) ≡ Ok a) × R a x)
    → SoFar R reader values i found total → SoFar R reader values (i + 1) (found ++ x ∷ []) total
goes_on_by R reader values i found total value x lt is read so_far = record {
  front = so_far.front ++ read.0 ∷ [];
  left = goes_on reader so_far.front values i i value read.0 total lt is read.1 so_far.left;
  holds = AreAll-push R so_far.front found read.0 x so_far.holds read.2;
}

pub ends_by : {A X : Type 0} (R : A → X → Type 0) (reader : Data → Outcome A) (values : List Json) (i : ℕ) (found : List X) (total : Outcome (List A)) (value : Json) (e e' : CertError)
    → i < length values → value ≡ get_or values i value → Fails e (reader (json_data value)) → IsUnder (Index i) e e'
    → SoFar R reader values i found total → Fails e' total
ends_by R reader values i found total value e e' lt is read seen so_far = ends reader so_far.front values i i value e e' total lt is read seen so_far.left

pub is_done_by : {A X : Type 0} (R : A → X → Type 0) (reader : Data → Outcome A) (values : List Json) (i : ℕ) (found : List X) (total : Outcome (List A))
    → length values ≤ i → SoFar R reader values i found total → (front : List A) × (total ≡ Ok front) × AreAll R front found
is_done_by R reader values i found total le so_far = (so_far.front, is_done reader so_far.front values i i total le so_far.left, so_far.holds)

-- where each says just what was said, all do
all_said : {A X : Type 0} (link : Link A X) → link.is_plain ≡ true → (all : List A) (found : List X) → AreAll link.Is all found → all ≡ map link.said found
all_said link plain [] [] are = refl
all_said link plain [] (x ∷ found) are = absurd are
all_said link plain (a ∷ all) [] are = absurd are
all_said {A = A} link plain (a ∷ all) (x ∷ found) are = rw (link.plain plain a x are.0) (ap (λ (l : List A). link.said x ∷ l) (all_said link plain all found are.1))

pub are_said : {A X : Type 0} (link : Link A X) (all : List A) (found : List X) → AreAll link.Is all found → AreSaid link.is_plain link.all_said link.Is all found
are_said link all found are = by_kind link.is_plain refl where
  by_kind : (plain : Bool) → link.is_plain ≡ plain → AreSaid plain link.all_said link.Is all found
  by_kind true is = all_said link is all found are ∙ sym (link.each_said found)
  by_kind false is = are

pub is_said : {A X : Type 0} (link : Link A X) (a : A) (x : X) → link.Is a x → IsSaidOption link.is_plain link.said link.Is (Some a) (Some x)
is_said {A = A} link a x one = by_kind link.is_plain refl where
  by_kind : (plain : Bool) → link.is_plain ≡ plain → IsSaidOption plain link.said link.Is (Some a) (Some x)
  by_kind true is = ap (λ (a : A). Some a) (link.plain is a x one)
  by_kind false is = one
