use Rattle.std.proofs.Common.{sym, ◌∙◌, ap, arith, length, length-drop, append-nil, append_assoc, ◌+◌, ◌<◌, ◌++◌}
use Rattle.c_tokens.specs.Lines.{lines_from}
use Rattle.c_tokens.specs.Text.{head_tokens}
use Rattle.c_tokens.proofs.Split.{head_tokens-here, head_tokens-last, head_tokens-next}
use Rattle.c_tokens.proofs.directives.push_directives.Goals as goal

-- the opening line ends the directives
pub returns-then-reads_as : goal.returns-then-reads_as
returns-then-reads_as c =
    sym (ap (λ ts. c.loop-line.tokens.items ++ ts) (head_tokens-here c.args.bytes.now c.behind.result.now c.first_line-line.result.now c.loop-line.start c.behind.ensures c.first_line-line.ensures.line c.loop-line.invariant.within c.first_line-line.ensures.within (sym c.reads_as.ensures ∙ c.if-reads_as.true)) ∙ append-nil c.loop-line.tokens.items)
    ∙ c.loop-line.invariant.same

-- the last line's tokens are added
pub returns-then-end-bytes : goal.returns-then-end-bytes
returns-then-end-bytes c =
    c.in_ok-push_line.ensures
    ∙ sym (ap (λ ts. c.loop-line.tokens.items ++ ts) (head_tokens-last c.args.bytes.now c.behind.result.now c.first_line-line.result.now c.loop-line.start c.behind.ensures c.first_line-line.ensures.line c.loop-line.invariant.within (omega arith) (sym c.reads_as.ensures ∙ c.if-reads_as.false)))
    ∙ c.loop-line.invariant.same

-- a line's tokens are added
pub loop-line-preserved : goal.loop-line-preserved
loop-line-preserved c =
    let left : c.loop-line.start + length c.first_line-line.result.now < length c.args.bytes.now = omega (arith, c.if-end-bytes.false, c.first_line-line.ensures.within, ap length c.behind.ensures ∙ length-drop c.loop-line.start c.args.bytes.now) in
    let next = head_tokens-next c.args.bytes.now c.behind.result.now c.first_line-line.result.now c.loop-line.start c.behind.ensures c.first_line-line.ensures.line c.loop-line.invariant.within left (sym c.reads_as.ensures ∙ c.if-reads_as.false) in
    record {
      within = omega arith;
      same = ap (λ ts. ts ++ head_tokens (lines_from c.args.bytes.now (c.loop-line.start + length c.first_line-line.result.now + 1))) c.in_ok-push_line.ensures
          ∙ append_assoc c.loop-line.tokens.items _ _
          ∙ ap (λ ts. c.loop-line.tokens.items ++ ts) (sym next)
          ∙ c.loop-line.invariant.same;
    }
