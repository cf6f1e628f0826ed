-- Texts of certificates are read back.
use Rattle.std.proofs.Common.{Ok, Err}
use Rattle.iolb_check.specs.Claims.{claim_of_certificate}
use Rattle.json_parts.specs.declared.error.CertError.TheVariants.{Fault, Memory}
use Rattle.iolb_cert.proofs.OneCertificate.{one_answer, one_certificate}
use Rattle.iolb_cert.specs.ReadBackLaw.{CertificatesAreReadBack}

pub read_back : CertificatesAreReadBack
read_back certificate text (Ok parts) has reads =
    one_certificate text (claim_of_certificate parts) certificate (record { written = reads.0; says = reads.1; is = reads.2 }) has
read_back certificate text (Err (Fault fault)) has reads = one_answer.either text certificate fault has reads
read_back certificate text (Err Memory) has reads = tt
