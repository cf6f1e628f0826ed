-- Which certificate a text has, or which fault.
use Rattle.std.specs.Prelude.{◌≡◌, ⊤, ◌⊎◌, ℕ, List, [], Result, Ok, Err}
use Rattle.serde_json.specs.Data.{Data}
use Rattle.json_parts.specs.Texts.{HasValue}
use Rattle.json_parts.specs.declared.error.CertFault.{CertFault}
use Rattle.json_parts.specs.declared.error.CertError.{CertError}
use Rattle.json_parts.specs.declared.error.CertError.TheVariants.{Fault, Memory}
use Rattle.iolb_cert.specs.Read.{WrittenCertificate}
use Rattle.iolb_cert.specs.Certificates.{reads_certificate}

-- the text of this certificate
pub record IsTextOf (bytes : List ℕ) (written : WrittenCertificate) : Type 0 where
  pub value : Data
  pub has : HasValue bytes value
  pub says : reads_certificate value ≡ Ok written

-- fault 1, at the whole: there is no value
pub record IsNoJson (bytes : List ℕ) (fault : CertFault) : Type 0 where
  pub number : fault.number ≡ 1
  pub place : fault.place ≡ []
  pub cause : (value : Data) → HasValue bytes value → ⊥

-- the first fault of the value
pub record IsFirstFault (bytes : List ℕ) (fault : CertFault) : Type 0 where
  pub value : Data
  pub has : HasValue bytes value
  pub says : reads_certificate value ≡ Err fault

abbrev pub IsTextFault : List ℕ → CertFault → Type 0
IsTextFault bytes fault = IsNoJson bytes fault ⊎ IsFirstFault bytes fault

-- What was read, by a relation to what the text says; or the fault that the text has; or want of memory.
abbrev pub ReadsText : {X : Type 0} → (WrittenCertificate → X → Type 0) → List ℕ → Result X CertError → Type 0
ReadsText Holds bytes (Ok x) = (written : WrittenCertificate) × IsTextOf bytes written × Holds written x
ReadsText Holds bytes (Err (Fault f)) = IsTextFault bytes f
ReadsText Holds bytes (Err Memory) = ⊤
