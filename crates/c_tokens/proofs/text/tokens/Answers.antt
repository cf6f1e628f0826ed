use Rattle.std.proofs.Common.{◌∙◌, ap, ◌++◌}
use Rattle.c_tokens.specs.Lines.{lines_from}
use Rattle.c_tokens.specs.Text.{head_tokens}
use Rattle.c_tokens.proofs.Scanned.{tokens_of-found}
use Rattle.c_tokens.proofs.text.tokens.Goals as goal

pub returns-clause-tokens : goal.returns-clause-tokens
returns-clause-tokens c =
    tokens_of-found c.args.bytes.now c.in-Some.opening c.in-Some-find_line.closing c.find_line.result c.find_line-2.result c.push_directives.new.tokens.items c.push_tokens.new.tokens.items c.in-Some.is c.find_line.ensures.found c.in-Some-find_line.is c.find_line-2.ensures.found (c.in_ok-push_directives.ensures ∙ ap (λ ts. ts ++ head_tokens (lines_from c.args.bytes.now 0)) c.new-tokens.ensures.items) c.in_ok-push_tokens.ensures
