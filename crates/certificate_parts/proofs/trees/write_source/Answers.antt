use Rattle.certificate_parts.proofs.trees.write_source.Goals as goal

pub returns-clause-read : goal.returns-clause-read
returns-clause-read c =
    rw (
      ← c.put_part-all.ensures.value,
      ← c.put_part-rest-6.ensures.value,
      ← c.put_part-rest-5.ensures.value,
      ← c.put_part-rest-4.ensures.value,
      ← c.put_part-rest-3.ensures.value,
      ← c.put_part-rest-2.ensures.value,
      ← c.put_part-rest.ensures.value,
      ← c.put_part-rest-2.ensures.rest,
      ← c.put_part-rest-3.ensures.rest,
      ← c.put_part-rest-4.ensures.rest,
      ← c.put_part-rest-5.ensures.rest,
      ← c.put_part-rest-6.ensures.rest,
      ← c.put_part-all.ensures.rest,
    ) c.in_ok-value.ensures.read
