use Rattle.std.proofs.Common.{sym, ◌∙◌, ap, arith, length, length-drop, ◌+◌, ◌<◌}
use Rattle.c_tokens.proofs.Split.{reading-here, reading-none, reading-next}
use Rattle.c_tokens.proofs.lines.find_line.Goals as goal

pub returns-then-reads_as-clause-found : goal.returns-then-reads_as-clause-found
returns-then-reads_as-clause-found c =
    reading-here c.args.words.now c.args.bytes.now c.behind.result.now c.first_line-line.result.now c.loop-from.start c.args.from c.behind.ensures c.first_line-line.ensures.line c.loop-from.invariant.within c.first_line-line.ensures.within (sym c.reads_as.ensures ∙ c.if-reads_as.true) c.loop-from.invariant.same

pub returns-then-end-bytes-clause-found : goal.returns-then-end-bytes-clause-found
returns-then-end-bytes-clause-found c =
    reading-none c.args.words.now c.args.bytes.now c.behind.result.now c.first_line-line.result.now c.loop-from.start c.args.from c.behind.ensures c.first_line-line.ensures.line c.loop-from.invariant.within (omega arith) (sym c.reads_as.ensures ∙ c.if-reads_as.false) c.loop-from.invariant.same

pub loop-from-preserved : goal.loop-from-preserved
loop-from-preserved c =
    let left : c.loop-from.start + length c.first_line-line.result.now < length c.args.bytes.now = omega (arith, c.if-end-bytes.false, c.first_line-line.ensures.within, ap length c.behind.ensures ∙ length-drop c.loop-from.start c.args.bytes.now) in
    record {
      behind = omega arith;
      within = omega arith;
      same = reading-next c.args.words.now c.args.bytes.now c.behind.result.now c.first_line-line.result.now c.loop-from.start c.args.from c.behind.ensures c.first_line-line.ensures.line c.loop-from.invariant.within left (sym c.reads_as.ensures ∙ c.if-reads_as.false) c.loop-from.invariant.same;
    }
