use Rattle.std.proofs.Common.{◌∙◌, ap, ℕ, List}
use Rattle.std.specs.Prelude.{Option}
use Rattle.pebble_replay.specs.Queue.{waits_with}
use Rattle.pebble_replay.proofs.Waiting.{waits-push}
use Rattle.pebble_replay.proofs.lazy_queue.reach.Goals as goal

pub loop-marks-preserved : goal.loop-marks-preserved
loop-marks-preserved c = λ q.
    ap (λ (marks : List (Option ℕ)). waits_with marks q) c.in_ok-push.ensures.items ∙ waits-push c.loop-marks.marks.items q.0 q.1 ∙ c.loop-marks.invariant q
