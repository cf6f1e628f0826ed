use Rattle.certificate_parts.specs.Credits.{written_credit}
use Rattle.certificate_parts.proofs.ReadRecords.{credit_read}
use Rattle.certificate_parts.proofs.credits.OfCreditPart.write.Goals as goal

pub returns-clause-read : goal.returns-clause-read
returns-clause-read c =
    credit_read (written_credit c.args.part.now)
    (rw (
      ← c.put_part-all.ensures.value,
      ← c.shown.ensures,
      ← c.put_list-rest-2.ensures.values,
      ← c.put_part-rest.ensures.value,
      ← c.sums.ensures,
      ← c.put_list-rest.ensures.values,
      ← c.put_part-rest.ensures.rest,
      ← c.put_list-rest-2.ensures.rest,
      ← c.put_part-all.ensures.rest,
    ) c.in_ok-value.ensures.read)
