use Rattle.std.proofs.Common.{◌≡◌, sym, subst, arith, ℕ, List, length, take, drop, ◌-◌, get_or, ◌<◌}
use Rattle.std.proofs.lemmas.Grind.{common_steps}
use Rattle.plain_pages.proofs.Lines.{after_last-newline}
use Rattle.plain_pages.proofs.excerpt.last_line.Goals as goal
use Rattle.plain_pages.proofs.excerpt.last_line.Goals.{then-loop-start-test+else-text-start-ne10, else-loop-start-test}

pub returns : goal.returns
returns c =
    let newline : 0 < c.loop-start.start → get_or c.args.text.now (c.loop-start.start - 1) 0 ≡ 10 =
    elim c.loop-start-test.branch [
      | then-loop-start-test+else-text-start-ne10 w ↦ λ some. w.if-text-start-ne10.false
      | else-loop-start-test w ↦ λ some. absurd (omega arith)
    ] in
    subst (λ (line : List ℕ). take (length c.args.text.now - c.loop-start.start) (drop c.loop-start.start c.args.text.now) ≡ line)
    (sym (after_last-newline c.args.text.now c.loop-start.start c.loop-start.invariant.0 c.loop-start.invariant.1 newline))
    (grind (arith, common_steps))
