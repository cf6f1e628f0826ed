use Rattle.std.proofs.Common.{◌∙◌, ap, ◌++◌, ◌∷◌, [], ℕ, List}
use Rattle.tile_sched.proofs.AsWritten.{counted_more}
use Rattle.tile_sched.proofs.ordered.counted.Goals as goal

pub loop-i-preserved : goal.loop-i-preserved
loop-i-preserved c = c.in_ok-push.ensures.items ∙ ap (λ (l : List ℕ). l ++ c.loop-i.i ∷ []) c.loop-i.invariant ∙ counted_more c.loop-i.i
