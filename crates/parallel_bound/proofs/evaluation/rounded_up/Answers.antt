use Rattle.std.proofs.Common.{◌∙◌, ap, ℕ, ◌+◌, ◌-◌, ◌/◌, arith}
use Rattle.parallel_bound.proofs.Values.{ceiling-some}
use Rattle.parallel_bound.proofs.evaluation.rounded_up.Goals as goal

pub returns : goal.returns
returns c =
    ap (λ (parts : ℕ). (c.args.number - 1) / parts + 1) c.from.ensures ∙ ceiling-some c.args.number c.args.parts c.requires (omega (arith, c.if-number-eq0.false))
