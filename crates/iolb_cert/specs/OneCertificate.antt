-- A text has one certificate, or one fault.
use Rattle.std.specs.Prelude.{◌≡◌, ℕ, List}
use Rattle.iolb_check.specs.Claims.{CertificateClaim}
use Rattle.json_parts.specs.declared.error.CertFault.{CertFault}
use Rattle.iolb_cert.specs.Texts.{IsTextOf, IsTextFault}
use Rattle.iolb_cert.specs.Read.{WrittenCertificate, IsCertificate}

-- the text has this certificate
pub record HasCertificate (bytes : List ℕ) (certificate : CertificateClaim) : Type 0 where
  pub written : WrittenCertificate
  pub says : IsTextOf bytes written
  pub is : IsCertificate written certificate

-- Two certificates of one text are equal.
abbrev pub TextsHaveOneCertificate : Type 0
TextsHaveOneCertificate = (bytes : List ℕ) (a b : CertificateClaim) → HasCertificate bytes a → HasCertificate bytes b → a ≡ b

-- No text has both a certificate and a fault, and two faults of one text are equal.
pub record TextsHaveOneAnswer : Type 0 where
  pub either : (bytes : List ℕ) (certificate : CertificateClaim) (fault : CertFault) → HasCertificate bytes certificate → IsTextFault bytes fault → ⊥
  pub one_fault : (bytes : List ℕ) (fault other : CertFault) → IsTextFault bytes fault → IsTextFault bytes other → fault ≡ other
