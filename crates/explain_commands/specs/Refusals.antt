-- What the page rests on that says of a certificate that it meets all conditions.
use Rattle.std.specs.Prelude.{ℕ, List}
use Rattle.iolb_model.specs.Program.{AffineProgram}
use Rattle.c_grammar.specs.Program.{Means}
use Rattle.iolb_cert.specs.OneCertificate.{HasCertificate}
use Rattle.iolb_check.specs.Claims.{CertificateClaim}
use Rattle.iolb_check.specs.Conditions.{MeetsConditions}
use Rattle.iolb_check.specs.declared.bound.Value.{Value}

-- One text means a program, the other is that of a certificate, and the certificate meets all conditions for the program, which give
-- these values of its terms.
pub record MeetsAll (source text : List ℕ) : Type 0 where
  pub program : AffineProgram
  pub means : Means source program
  pub certificate : CertificateClaim
  pub has : HasCertificate text certificate
  pub values : List (List Value)
  pub meets : MeetsConditions program certificate values
