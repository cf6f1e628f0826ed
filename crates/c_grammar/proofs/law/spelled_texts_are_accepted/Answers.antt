use Rattle.c_tokens.specs.Text.{tokens_of}
use Rattle.c_grammar.proofs.RunText.{spelled}
use Rattle.c_grammar.proofs.Lexical.{text_lexical}
use Rattle.c_grammar.proofs.law.spelled_texts_are_accepted.Goals as goal

pub returns : goal.returns
returns c = λ bytes tree r e f. spelled bytes tree r (tokens_of bytes) (text_lexical bytes) e f
