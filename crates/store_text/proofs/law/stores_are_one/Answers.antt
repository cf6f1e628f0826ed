use Rattle.store_text.proofs.OneReading.{texts_one}
use Rattle.store_text.proofs.law.stores_are_one.Goals as goal

pub returns : goal.returns
returns c = texts_one
