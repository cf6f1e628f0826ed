use Rattle.std.proofs.Common.{◌≡◌, refl, sym, ◌∙◌, ap, ℕ, ◌+◌, ◌≤◌, drop, sum_by, rules, arith}
use Rattle.std.specs.Prelude.{Bool, cond}
use Rattle.joint_partition.specs.declared.term.JointFamily.{JointFamily as Family}
use Rattle.k_partition.proofs.Weights.{weight_in, weight-where, weights-next, weights-within}
use Rattle.joint_partition.proofs.cover_shown.weight_at.Goals as goal
use Rattle.joint_partition.proofs.cover_shown.weight_at.Goals.{then-has, else-has}

pub overflow_add-sum : goal.overflow_add-sum
overflow_add-sum c =
    let family : Family = c.family-item.result in
    let whole : ℕ = sum_by (weight_in (λ (f : Family). f.set) (λ (f : Family). f.weight) c.args.coordinate) c.args.families.now in
    let here : weight_in (λ (f : Family). f.set) (λ (f : Family). f.weight) c.args.coordinate family ≡ family.weight = sym (weight-where (λ (f : Family). f.set) (λ (f : Family). f.weight) c.args.coordinate family c.has.result c.has.ensures) ∙ ap (λ (b : Bool). cond b family.weight 0) c.if-has.true in
    let next : c.loop-family.sum + weight_in (λ (f : Family). f.set) (λ (f : Family). f.weight) c.args.coordinate family + sum_by (weight_in (λ (f : Family). f.set) (λ (f : Family). f.weight) c.args.coordinate) (drop (c.loop-family.family-index + 1) c.args.families.now) ≡ whole =
    weights-next (λ (f : Family). f.set) (λ (f : Family). f.weight) c.args.coordinate c.args.families.now c.loop-family.family-index family c.loop-family.sum (c.loop-family.sum + weight_in (λ (f : Family). f.set) (λ (f : Family). f.weight) c.args.coordinate family) whole
    c.loop-family-test.true c.family-item.is refl c.loop-family.invariant in
    let few : c.loop-family.sum + family.weight ≤ 24 = omega (arith, here, next, weights-within (λ (f : Family). f.set) (λ (f : Family). f.weight) c.args.coordinate c.args.families.now, c.requires) in
    search rules

pub loop-family-preserved : goal.loop-family-preserved
loop-family-preserved c =
    let family : Family = c.family-item.result in
    let whole : ℕ = sum_by (weight_in (λ (f : Family). f.set) (λ (f : Family). f.weight) c.args.coordinate) c.args.families.now in
    let next : c.if-has.sum ≡ c.loop-family.sum + weight_in (λ (f : Family). f.set) (λ (f : Family). f.weight) c.args.coordinate family = elim c.if-has.branch [
      | then-has w ↦ w.sum-is ∙ ap (λ (n : ℕ). c.loop-family.sum + n) (sym (ap (λ (b : Bool). cond b family.weight 0) w.if-has.true) ∙ weight-where (λ (f : Family). f.set) (λ (f : Family). f.weight) c.args.coordinate family c.has.result c.has.ensures)
      | else-has w ↦ omega (arith, w.sum-is, sym (ap (λ (b : Bool). cond b family.weight 0) w.if-has.false) ∙ weight-where (λ (f : Family). f.set) (λ (f : Family). f.weight) c.args.coordinate family c.has.result c.has.ensures)
    ] in
    weights-next (λ (f : Family). f.set) (λ (f : Family). f.weight) c.args.coordinate c.args.families.now c.loop-family.family-index family c.loop-family.sum c.if-has.sum whole c.loop-family-test.true c.family-item.is next c.loop-family.invariant
