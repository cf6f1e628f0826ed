-- The shape of a part of a JSON value: what reading gives and what is written, and the limits of what is read.
use Rattle.std.specs.Prelude.{◌≡◌, ℕ, ◌≤◌, List, map, length, Option, Bool, true, false, Ok, IfOk, IfSome, if◌then◌else◌}
use Rattle.claims.specs.declared.place.Step.TheVariants.{Key}
use Rattle.std.proofs.Common.{refl}
use Rattle.std.specs.List.{AllByRecursion}
use Rattle.serde_json.specs.Data.{Data, null}
use Rattle.json_parts.specs.Outcome.{Outcome, ◌>>=◌, fault, under}
use Rattle.json_parts.specs.Json.{reads_natural, reads_exactly, reads_all, reads_few, reads_or_null}
use Rattle.json_parts.specs.Written.{natural, list, or_null}
use Rattle.json_parts.specs.Given.{given_then, given_if, given_natural, given_exactly, given_all, given_few, given_or_null, natural-null, exactly-null, list-null, few-null}
use Rattle.json_parts.specs.Truths.{never}

pub record Shape (A : Type 0) : Type 1 where
  pub reads : Data → Outcome A
  pub data_of : A → Data
  -- the limits of what is said
  pub IsWithin : A → Type 0
  -- what is read is within them
  pub kept : (d : Data) → IfOk (reads d) IsWithin
  -- whether it is never null
  pub is_present : Bool
  pub present : is_present ≡ true → reads null ≡ fault 2

-- what is said is read back as it is written
abbrev pub IsReadBack : {A : Type 0} → Shape A → A → Type 0
IsReadBack shape a = shape.reads (shape.data_of a) ≡ Ok a

-- a whole number from a least one to a greatest one
abbrev pub natural_shape : ℕ → ℕ → Shape ℕ
natural_shape least most = record {
  reads = reads_natural least most;
  data_of = natural;
  IsWithin = λ n. (least ≤ n) × (n ≤ most);
  kept = given_natural least most;
  is_present = true;
  present = λ _. natural-null least most;
}

-- this whole number alone
abbrev pub exact_shape : ℕ → Shape (Unit {0})
exact_shape n = record {
  reads = reads_exactly n;
  data_of = λ _. natural n;
  IsWithin = λ _. Unit {0};
  kept = given_exactly n;
  is_present = true;
  present = λ _. exactly-null n;
}

-- a list
abbrev pub list_shape : {A : Type 0} → Shape A → Shape (List A)
list_shape shape = record {
  reads = reads_all shape.reads;
  data_of = λ xs. list (map shape.data_of xs);
  IsWithin = AllByRecursion shape.IsWithin;
  kept = given_all shape.reads shape.IsWithin shape.kept;
  is_present = true;
  present = λ _. list-null shape.reads;
}

-- a list of at most so many
abbrev pub few_shape : {A : Type 0} → ℕ → Shape A → Shape (List A)
few_shape most shape = record {
  reads = reads_few most shape.reads;
  data_of = λ xs. list (map shape.data_of xs);
  IsWithin = λ xs. AllByRecursion shape.IsWithin xs × (length xs ≤ most);
  kept = given_few shape.reads shape.IsWithin shape.kept most;
  is_present = true;
  present = λ _. few-null most shape.reads;
}

-- null, or a value that is none
abbrev pub or_null_shape : {A : Type 0} → Shape A → Shape (Option A)
or_null_shape shape = record {
  reads = reads_or_null shape.reads;
  data_of = or_null shape.data_of;
  IsWithin = λ a. IfSome a shape.IsWithin;
  kept = given_or_null shape.reads shape.IsWithin shape.kept;
  is_present = false;
  present = never;
}

-- ---- what is made of what another shape says

pub made-kept : {A B : Type 0} (shape : Shape B) (made : B → A) (IsWithin : A → Type 0) → ((b : B) → shape.IsWithin b → IsWithin (made b)) → (d : Data) → IfOk (shape.reads d >>= λ b. Ok (made b)) IsWithin
made-kept shape made IsWithin kept d = given_then (shape.reads d) (λ b. Ok (made b)) shape.IsWithin IsWithin (shape.kept d) kept

pub made-null : {A B : Type 0} (shape : Shape B) (made : B → A) → shape.reads null ≡ fault 2 → (shape.reads null >>= λ b. Ok (made b)) ≡ fault 2
made-null shape made none = rw none refl

-- a record by what its members say
abbrev pub made_shape : {A B : Type 0} (shape : Shape B) → (made : B → A) (parts : A → B) (IsWithin : A → Type 0) → ((b : B) → shape.IsWithin b → IsWithin (made b)) → Shape A
made_shape shape made parts IsWithin kept = record {
  reads = λ d. shape.reads d >>= λ b. Ok (made b);
  data_of = λ a. shape.data_of (parts a);
  IsWithin = IsWithin;
  kept = made-kept shape made IsWithin kept;
  is_present = shape.is_present;
  present = λ there. made-null shape made (shape.present there);
}

-- ---- what is tested of the whole

pub tested-kept : {A : Type 0} (shape : Shape A) (test : A → Bool) (IsWithin : A → Type 0) → ((a : A) → shape.IsWithin a → test a ≡ true → IsWithin a) → (d : Data)
    → IfOk (shape.reads d >>= λ a. if test a then Ok a else fault 3) IsWithin
tested-kept shape test IsWithin kept d =
    given_then (shape.reads d) (λ a. if test a then Ok a else fault 3) shape.IsWithin IsWithin (shape.kept d)
    (λ a here. given_if (test a) (Ok a) (fault 3) IsWithin (λ is. kept a here is) tt)

pub tested-null : {A : Type 0} (shape : Shape A) (test : A → Bool) → shape.reads null ≡ fault 2 → (shape.reads null >>= λ a. if test a then Ok a else fault 3) ≡ fault 2
tested-null shape test none = rw none refl

-- what passes a test, which the whole fails with fault 3
abbrev pub tested_shape : {A : Type 0} (shape : Shape A) → (test : A → Bool) (IsWithin : A → Type 0) → ((a : A) → shape.IsWithin a → test a ≡ true → IsWithin a) → Shape A
tested_shape shape test IsWithin kept = record {
  reads = λ d. shape.reads d >>= λ a. if test a then Ok a else fault 3;
  data_of = shape.data_of;
  IsWithin = IsWithin;
  kept = tested-kept shape test IsWithin kept;
  is_present = shape.is_present;
  present = λ there. tested-null shape test (shape.present there);
}

pub tested_at-kept : {A : Type 0} (name : List ℕ) (shape : Shape A) (test : A → Bool) (d : Data)
    → IfOk (shape.reads d >>= λ a. if test a then Ok a else under (Key name) (fault 3)) (λ a. shape.IsWithin a × (test a ≡ true))
tested_at-kept {A = A} name shape test d =
    given_then (shape.reads d) (λ a. if test a then Ok a else under (Key name) (fault 3)) shape.IsWithin (λ (a : A). shape.IsWithin a × (test a ≡ true)) (shape.kept d)
    (λ a here. given_if (test a) (Ok a) (under (Key name) (fault 3)) (λ (a : A). shape.IsWithin a × (test a ≡ true)) (λ is. (here, is)) tt)

pub tested_at-null : {A : Type 0} (name : List ℕ) (shape : Shape A) (test : A → Bool) → shape.reads null ≡ fault 2 → (shape.reads null >>= λ a. if test a then Ok a else under (Key name) (fault 3)) ≡ fault 2
tested_at-null name shape test none = rw none refl

-- what passes a test of the whole, which fails with fault 3 at the member with this name
abbrev pub tested_at_shape : {A : Type 0} → List ℕ → Shape A → (A → Bool) → Shape A
tested_at_shape name shape test = record {
  reads = λ d. shape.reads d >>= λ a. if test a then Ok a else under (Key name) (fault 3);
  data_of = shape.data_of;
  IsWithin = λ a. shape.IsWithin a × (test a ≡ true);
  kept = tested_at-kept name shape test;
  is_present = shape.is_present;
  present = λ there. tested_at-null name shape test (shape.present there);
}
