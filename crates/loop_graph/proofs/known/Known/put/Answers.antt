use Rattle.std.proofs.Common.{sym, ◌∙◌, ap, ℕ, cond, Option, Some}
use Rattle.std.specs.Prelude.{ℤ}
use Rattle.std.specs.HashMap.{get}
use Rattle.arrayvec.specs.ArrayVec.{ArrayVec}
use Rattle.loop_graph.specs.Cells.{is_cell}
use Rattle.loop_graph.specs.Known.{newest_or}
use Rattle.loop_graph.specs.declared.known.Known.{Known}
use Rattle.loop_graph.proofs.Newest.{put-over}
use Rattle.loop_graph.proofs.known.Known.put.Goals as goal
use Rattle.loop_graph.proofs.known.Known.put.Goals.{then-not-is_newest+in_ok-retire, else-not-is_newest}

pub returns-clause-puts : goal.returns-clause-puts
returns-clause-puts c = λ other.
    elim c.if-not-is_newest.branch [
      | then-not-is_newest+in_ok-retire w ↦
          ap (cond (is_cell c.args.cell other) (Some c.args.vertex)) (ap (λ (known : Known). get is_cell known.others other) w.self-is
          ∙ sym (ap (λ (newest : Option ((ℕ × ArrayVec ℤ) × ℕ)). newest_or newest (get is_cell w.retire.new.self.others other) other) w.in_ok-retire.ensures.none) ∙ w.in_ok-retire.ensures.same other)
      | else-not-is_newest w ↦
          ap (λ (known : Known). cond (is_cell c.args.cell other) (Some c.args.vertex) (get is_cell known.others other)) w.self-is
          ∙ put-over c.args.self.now.newest c.args.cell other c.args.vertex (get is_cell c.args.self.now.others other) (sym c.is_newest.ensures ∙ w.if-not-is_newest.false)
    ]
