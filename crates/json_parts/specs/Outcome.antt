-- What reading gives: a value, or the first fault, its place as steps from the value that is read.
use Rattle.std.specs.Prelude.{◌≡◌, ⊤, ℕ, [], ◌∷◌, Result, Ok, Err}
use Rattle.claims.specs.declared.place.Step.{Step}
use Rattle.json_parts.specs.declared.error.CertFault.{CertFault}
use Rattle.json_parts.specs.declared.error.CertError.{CertError}
use Rattle.json_parts.specs.declared.error.CertError.TheVariants.{Fault, Memory}

abbrev pub Outcome : Type 0 → Type 0
Outcome A = Result A CertFault

infixl 10 ◌>>=◌
abbrev pub ◌>>=◌ : {A B : Type 0} → Outcome A → (A → Outcome B) → Outcome B
(Ok a) >>= f = f a
(Err e) >>= f = Err e

-- a fault of this number at the value that is read
abbrev pub fault : {A : Type 0} → ℕ → Outcome A
fault number = Err (record { number = number; place = [] })

-- a fault, seen from the value that has the faulty part behind this step
abbrev pub behind : Step → CertFault → CertFault
behind step f = record { number = f.number; place = step ∷ f.place }

-- what reading a part gives, seen from the value that has the part behind this step
abbrev pub under : {A : Type 0} → Step → Outcome A → Outcome A
under step (Ok a) = Ok a
under step (Err f) = Err (behind step f)

-- ---- what a function that reads ensures: what reading gives, unless memory fails

-- the error is the fault that reading gives
abbrev pub Fails : {A : Type 0} → CertError → Outcome A → Type 0
Fails Memory read = ⊤
Fails (Fault f) read = read ≡ Err f

-- what the function returned, seen by a view, is what reading gives
abbrev pub Gives : {A X : Type 0} → (X → A) → Result X CertError → Outcome A → Type 0
Gives view (Ok x) read = read ≡ Ok (view x)
Gives view (Err e) read = Fails e read

-- the same, where what was returned stands in a relation to what reading gives
abbrev pub GivesBy : {A X : Type 0} → (A → X → Type 0) → Result X CertError → Outcome A → Type 0
GivesBy {A = A} Holds (Ok x) read = (a : A) × (read ≡ Ok a) × Holds a x
GivesBy Holds (Err e) read = Fails e read

-- the error is the fault of this number at the value that is read
abbrev pub IsFault : ℕ → CertError → Type 0
IsFault number (Fault f) = (f.number ≡ number) × (f.place ≡ [])
IsFault number Memory = ⊥

-- the second error is the first one, seen from the value that has the faulty part behind this step
abbrev pub IsUnder : Step → CertError → CertError → Type 0
IsUnder step error Memory = ⊤
IsUnder step (Fault f) (Fault g) = g ≡ behind step f
IsUnder step Memory (Fault g) = ⊥
