use Rattle.certificate_parts.proofs.ReadParts.{form-read}
use Rattle.certificate_parts.proofs.forms.OfFormPart.write.Goals as goal

pub returns-clause-read : goal.returns-clause-read
returns-clause-read c = form-read c.args.part.now c.constant-constant.ensures.legal c.requires
