-- The texts of certificates.
use Rattle.std.specs.Prelude.{List, codes, refl}
use Rattle.dep_quast.specs.Tree.{SelectionTree}
use Rattle.serde_json.specs.Data.{Data}
use Rattle.json_parts.specs.Fields.{Fields, no_fields, field, record_shape}
use Rattle.json_parts.specs.Outcome.{Outcome}
use Rattle.json_parts.specs.Shape.{Shape, few_shape, exact_shape}
use Rattle.iolb_cert.specs.Read.{WrittenBranch, WrittenCertificate}
use Rattle.certificate_parts.specs.Trees.{all_trees_shape}
use Rattle.iolb_cert.specs.Terms.{branch_shape}
use Rattle.iolb_model.specs.declared.limits.TheConstants.{BRANCHES as MOST}

abbrev pub CertificateMembers : Type 0
CertificateMembers = List WrittenBranch × (List (List SelectionTree) × (Unit {0} × Unit {0}))

abbrev pub certificate_fields : Fields CertificateMembers
certificate_fields = field (codes "branches") (few_shape MOST branch_shape) (field (codes "quasts") all_trees_shape (field (codes "version") (exact_shape 1) no_fields))

abbrev pub certificate_made : CertificateMembers → WrittenCertificate
certificate_made b = record { branches = b.0; trees = b.1.0 }

-- A certificate: at most 8 branches, the source trees of all reads, and the version.
unfoldable pub certificate_shape : Shape WrittenCertificate
certificate_shape = record_shape certificate_fields certificate_made (λ certificate. (certificate.branches, (certificate.trees, (tt, tt)))) (λ b. refl)

abbrev pub reads_certificate : Data → Outcome WrittenCertificate
reads_certificate = certificate_shape.reads

abbrev pub certificate_data : WrittenCertificate → Data
certificate_data = certificate_shape.data_of
