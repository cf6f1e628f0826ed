use Rattle.std.proofs.Common.{◌≡◌, ◌+◌, ℕ, map, take}
use Rattle.affine_form.specs.Rows.{variable}
use Rattle.projective_bounds.proofs.labels.loops_label.Given as goal

abbrev pub invariant-loop-level : goal.invariant-loop-level
invariant-loop-level l = l.label.items ≡ map (λ (level : ℕ). variable l.vars (l.params + level)) (take l.level-index l.loops)
