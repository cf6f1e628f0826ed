-- The text of a certificate.
use Rattle.std.specs.Prelude.{ℕ, List, ◌++◌, codes}
use Rattle.serde_json.specs.Written.{compact_text}
use Rattle.iolb_check.specs.Limits.{CertificateParts}
use Rattle.iolb_cert.specs.Certificates.{certificate_data}
use Rattle.iolb_cert.specs.Written.{written_of}

-- JSON without spaces, the keys of each object in byte order, and a newline at the end: byte for byte, what a certificate is
-- written as
abbrev pub certificate_text : CertificateParts → List ℕ
certificate_text parts = compact_text (certificate_data (written_of parts)) ++ codes "\n"
