use Rattle.std.proofs.Common.{map}
use Rattle.reuse_paths.specs.Families.{family_of}
use Rattle.certificate_fit.specs.Limits.{IsSmallFamily}
use Rattle.json_parts.proofs.Related.{each-of}
use Rattle.certificate_parts.proofs.ReadRecords.{families_read}
use Rattle.certificate_parts.proofs.families.OfFamiliesPart.write.Goals as goal

pub write_list-requires : goal.write_list-requires
write_list-requires c = rw c.as_slice.ensures.value (each-of family_of IsSmallFamily c.args.part.now.items c.requires.all)

pub returns-clause-read : goal.returns-clause-read
returns-clause-read c = families_read (map family_of c.args.part.now.items) c.requires (rw (← c.as_slice.ensures.value) c.in_ok-value.ensures.read)
