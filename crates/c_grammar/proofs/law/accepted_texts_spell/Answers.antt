use Rattle.c_tokens.specs.Text.{tokens_of}
use Rattle.c_grammar.proofs.SoundText.{accepted}
use Rattle.c_grammar.proofs.Lexical.{text_lexical}
use Rattle.c_grammar.proofs.law.accepted_texts_spell.Goals as goal

pub returns : goal.returns
returns c = λ bytes r e. accepted bytes r (tokens_of bytes) (text_lexical bytes) e
