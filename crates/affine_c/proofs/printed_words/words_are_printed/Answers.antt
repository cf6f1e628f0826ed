use Rattle.affine_program.specs.Parts.{meaning}
use Rattle.affine_c.proofs.WordsAre.{words_are}
use Rattle.affine_c.proofs.Readable.{has_roles}
use Rattle.affine_c.proofs.printed_words.words_are_printed.Goals as goal

pub returns : goal.returns
returns c = λ parts is. words_are (meaning parts) (has_roles parts is)
