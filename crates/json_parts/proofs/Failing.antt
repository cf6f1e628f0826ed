-- Members of objects, and what follows where reading them fails.
use Rattle.std.proofs.Common.{◌≡◌, ℕ, List, [], None, Some, Ok, Err, sym, ap, subst, ◌∙◌}
use Rattle.std.specs.Prelude.{Result, IsErr, IsErrAnd}
use Rattle.claims.specs.declared.place.Step.{Step}
use Rattle.claims.specs.declared.place.Step.TheVariants.{Key}
use Rattle.serde_json.specs.Data.{Data}
use Rattle.serde_json.specs.Find.{get}
use Rattle.json_parts.specs.declared.error.CertFault.{CertFault}
use Rattle.json_parts.specs.declared.error.CertError.{CertError}
use Rattle.json_parts.specs.declared.error.CertError.TheVariants.{Fault, Memory}
use Rattle.json_parts.specs.Outcome.{Outcome, ◌>>=◌, fault, under, Fails, Gives, GivesBy, IsFault, IsUnder}
use Rattle.json_parts.specs.Json.{part, read_member}

pub part_there : {A : Type 0} (name : List ℕ) (reader : Data → Outcome A) (d v : Data) → Some v ≡ get name d → part name reader d ≡ under (Key name) (reader v)
part_there name reader d v is = ap (read_member (Key name) reader) (sym is)

pub part_absent : {A : Type 0} (name : List ℕ) (reader : Data → Outcome A) (d : Data) → None ≡ get name d → part name reader d ≡ fault 2
part_absent name reader d is = ap (read_member (Key name) reader) (sym is)

pub fails_fault : {A : Type 0} (number : ℕ) (e : CertError) (read : Outcome A) → IsFault number e → read ≡ fault number → Fails e read
fails_fault number Memory read is same = tt
fails_fault number (Fault f) read is same =
    same ∙ ap Err (sym (made f is.0 is.1)) where
      made : (g : CertFault) → g.number ≡ number → g.place ≡ [] → g ≡ record { number = number; place = [] }
      made g n p = ap (λ (k : ℕ). record { number = k; place = g.place }) n ∙ ap (λ (l : List Step). record { number = number; place = l }) p

pub fails_under : {A : Type 0} (step : Step) (e e' : CertError) (read : Outcome A) → IsUnder step e e' → Fails e read → Fails e' (under step read)
fails_under step e Memory read seen fails = tt
fails_under step Memory (Fault g) read seen fails = absurd seen
fails_under step (Fault f) (Fault g) read seen fails = ap (under step) fails ∙ ap Err (sym seen)

-- a failure goes on through the steps behind it
pub fails_then : {A B : Type 0} (e : CertError) (read : Outcome A) (f : A → Outcome B) → Fails e read → Fails e (read >>= f)
fails_then Memory read f fails = tt
fails_then (Fault g) read f fails = ap (λ r. r >>= f) fails

-- an error that is handed on
pub hands_on : {A X : Type 0} (json_data : X → A) (r : Result X CertError) (e : CertError) (read : Outcome A) → IsErr r × IsErrAnd r (λ e'. e' ≡ e) → Fails e read → Gives json_data r read
hands_on json_data (Ok x) e read handed fails = absurd handed.1
hands_on json_data (Err e') e read handed fails = subst (λ (f : CertError). Fails f read) (sym handed.1) fails

pub hands_on_by : {A X : Type 0} (Holds : A → X → Type 0) (r : Result X CertError) (e : CertError) (read : Outcome A) → IsErr r × IsErrAnd r (λ e'. e' ≡ e) → Fails e read → GivesBy Holds r read
hands_on_by Holds (Ok x) e read handed fails = absurd handed.1
hands_on_by Holds (Err e') e read handed fails = subst (λ (f : CertError). Fails f read) (sym handed.1) fails

-- nothing is made where the members fail
pub made_fails : {A B X : Type 0} (Holds : A → X → Type 0) (r : Result X CertError) (e : CertError) (read : Outcome B) (made : B → A) → IsErr r × IsErrAnd r (λ e'. e' ≡ e) → Fails e read → GivesBy Holds r (read >>= λ b. Ok (made b))
made_fails Holds r e read made handed fails = hands_on_by Holds r e (read >>= λ b. Ok (made b)) handed (fails_then e read (λ b. Ok (made b)) fails)
