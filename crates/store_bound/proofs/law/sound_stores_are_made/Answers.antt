use Rattle.store_bound.proofs.StoredWords.{sound-made}
use Rattle.store_bound.proofs.law.sound_stores_are_made.Goals as goal

pub returns : goal.returns
returns c = sound-made c.terms_have_the_value.ensures
