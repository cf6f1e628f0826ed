-- A value that may be null, and members one after the other, read.
use Rattle.std.proofs.Common.{◌≡◌, ℕ, suc, List, [], ◌∷◌, length, ◌-◌, take, drop, get_or, subst, Bor, false, Some, Ok, refl, arith}
use Rattle.std.specs.Prelude.{is_some}
use Rattle.std.proofs.lemmas.List.{take_all}
use Rattle.serde_json.specs.Data.{Data}
use Rattle.serde_json.specs.Find.{as_null}
use Rattle.json_parts.specs.Outcome.{Outcome, ◌>>=◌}
use Rattle.json_parts.specs.Json.{part, reads_or_null}
use Rattle.json_parts.specs.Names.{first_of, more_of, names_of}

pub some-read : {A : Type 0} (reader : Data → Outcome A) (d : Data) (a : A) → false ≡ is_some (as_null d) → reader d ≡ Ok a → reads_or_null reader d ≡ Ok (Some a)
unfolding reads_or_null
some-read reader d a there read = rw (← there, read) refl

-- a slice from its second member on
abbrev pub tail_of : {A : Type 0} → List A → List A
tail_of xs = take (length xs - 1) (drop 1 xs)

pub tail_is : {A : Type 0} (x : A) (xs : List A) → tail_of (x ∷ xs) ≡ xs
tail_is x xs = take_all (length (x ∷ xs) - 1) xs (omega arith)

pub more-read : {A B : Type 0} (count : ℕ) (names : List (Bor (List ℕ))) (other : Bor (List ℕ)) (reader : Data → Outcome A) (rest : List (List ℕ) → Outcome B) (d : Data) (a : A) (b : B)
    → length names ≡ suc count → part (get_or names 0 other).now reader d ≡ Ok a → rest (names_of (tail_of names)) ≡ Ok b
    → ◌>>=◌ {B = A × B} (part (first_of [] (names_of names)) reader d) (λ a. ◌>>=◌ {B = A × B} (rest (more_of (names_of names))) (λ b. Ok (a, b))) ≡ Ok (a, b)
more-read count [] other reader rest d a b some here behind = absurd (omega (arith, some))
more-read count (name ∷ names) other reader rest d a b some here behind =
    let there : rest (names_of names) ≡ Ok b = subst (λ (ns : List (Bor (List ℕ))). rest (names_of ns) ≡ Ok b) (tail_is name names) behind in
    rw (here, there) refl
