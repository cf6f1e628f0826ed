use Rattle.iolb_cert.proofs.ReadBack.{read_back}
use Rattle.iolb_cert.proofs.read_back.certificates_are_read_back.Goals as goal

pub returns : goal.returns
returns c = read_back
