-- What is written is read back.
use Rattle.std.specs.Prelude.{◌≡◌, ⊤, ℕ, List, Result, Ok, Err}
use Rattle.iolb_check.specs.Claims.{CertificateClaim, claim_of_certificate}
use Rattle.iolb_check.specs.Limits.{CertificateParts}
use Rattle.json_parts.specs.declared.error.CertError.{CertError}
use Rattle.json_parts.specs.declared.error.CertError.TheVariants.{Fault, Memory}
use Rattle.iolb_cert.specs.OneCertificate.{HasCertificate}
use Rattle.iolb_cert.specs.Texts.{ReadsText}
use Rattle.iolb_cert.specs.Read.{IsCertificate}

-- this certificate was read, unless memory failed
abbrev pub IsReadBack : CertificateClaim → Result CertificateParts CertError → Type 0
IsReadBack certificate (Ok parts) = claim_of_certificate parts ≡ certificate
IsReadBack certificate (Err (Fault fault)) = ⊥
IsReadBack certificate (Err Memory) = ⊤

-- A text of a certificate is read as that certificate, and no fault is found in it.
abbrev pub CertificatesAreReadBack : Type 0
CertificatesAreReadBack = (certificate : CertificateClaim) (text : List ℕ) (answer : Result CertificateParts CertError) → HasCertificate text certificate
    → ReadsText (λ written parts. IsCertificate written (claim_of_certificate parts)) text answer → IsReadBack certificate answer
