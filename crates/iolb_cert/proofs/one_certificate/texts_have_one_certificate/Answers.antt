use Rattle.iolb_cert.proofs.OneCertificate.{one_certificate}
use Rattle.iolb_cert.proofs.one_certificate.texts_have_one_certificate.Goals as goal

pub returns : goal.returns
returns c = one_certificate
