use Rattle.iolb_cert.proofs.OneCertificate.{one_answer}
use Rattle.iolb_cert.proofs.one_certificate.texts_have_one_answer.Goals as goal

pub returns : goal.returns
returns c = one_answer
