use Rattle.std.proofs.lemmas.Result.{IfOk-at_ok}
use Rattle.serde_json.specs.View.{view}
use Rattle.certificate_parts.proofs.Plain.{IsPlain}
use Rattle.iolb_check.specs.Limits.{CertificateParts}
use Rattle.iolb_cert.specs.Certificates.{certificate_shape, certificate_data}
use Rattle.iolb_cert.specs.Texts.{IsTextOf}
use Rattle.iolb_cert.specs.Written.{written_of}
use Rattle.json_parts.specs.Shape.{IsReadBack}
use Rattle.iolb_cert.proofs.Plain.{plain}
use Rattle.iolb_cert.proofs.Texts.{text-is, text-of}
use Rattle.std.proofs.Common.{arith}
use Rattle.iolb_cert.proofs.text.certificate_text.Goals as goal

-- what is read back is within the limits, and so it is plain
is-plain : (parts : CertificateParts) → IsReadBack certificate_shape (written_of parts) → IsPlain 33 (certificate_data (written_of parts))
is-plain parts read = plain parts (IfOk-at_ok certificate_shape.IsWithin read (certificate_shape.kept (certificate_data (written_of parts))))

pub returns-clause-text : goal.returns-clause-text
returns-clause-text c =
    let parts = c.args.certificate.now in
    text-is (view c.in_ok-value.value) (certificate_data (written_of parts)) c.in_ok-text.text.items c.in_ok-all.all.items c.in_ok-value.ensures.value
    (is-plain parts c.in_ok-value.ensures.read).exact c.in_ok-text.ensures.text c.in_ok-all.ensures

pub returns-clause-reads : goal.returns-clause-reads
returns-clause-reads c =
    let parts = c.args.certificate.now in
    let says : IsTextOf c.in_ok-all.all.items (written_of parts) = text-of (view c.in_ok-value.value) (certificate_data (written_of parts)) c.in_ok-text.text.items c.in_ok-all.all.items (written_of parts) c.in_ok-value.ensures.value
    (omega (arith, (is-plain parts c.in_ok-value.ensures.read).deep)) c.in_ok-value.ensures.read c.in_ok-text.ensures.utf8 c.in_ok-text.ensures.compact c.in_ok-text.ensures.order c.in_ok-text.ensures.reads_back c.in_ok-all.ensures in
    record { written = written_of parts; says = says; is = c.in_ok-value.ensures.is }
