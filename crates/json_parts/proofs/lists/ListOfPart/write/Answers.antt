use Rattle.json_parts.proofs.Back.{all_read}
use Rattle.json_parts.proofs.lists.ListOfPart.write.Goals as goal

pub returns-clause-read : goal.returns-clause-read
returns-clause-read g c = rw (← c.as_slice.ensures.value) (all_read g.S.Part.shape.reads g.S.Part.shape.data_of (g.S.Part.link.all_said c.as_slice.result.now) c.in_ok-value.ensures.read)
