use Rattle.std.proofs.Common.{◌≡◌, sym, ap, arith, ℕ, length, take, get_or, ◌<◌}
use Rattle.plain_pages.proofs.Lines.{position_or_len-newline}
use Rattle.plain_pages.proofs.excerpt.first_line.Goals as goal
use Rattle.plain_pages.proofs.excerpt.first_line.Goals.{then-loop-end-test+else-text-end-ne10, else-loop-end-test}

pub returns : goal.returns
returns c =
    let newline : c.loop-end.end < length c.args.text.now → get_or c.args.text.now c.loop-end.end 0 ≡ 10 =
    elim c.loop-end-test.branch [
      | then-loop-end-test+else-text-end-ne10 w ↦ λ some. w.if-text-end-ne10.false
      | else-loop-end-test w ↦ λ some. absurd (omega arith)
    ] in
    sym (ap (λ (n : ℕ). take n c.args.text.now) (position_or_len-newline c.args.text.now c.loop-end.end c.loop-end.invariant.0 c.loop-end.invariant.1 newline))
