use Rattle.std.proofs.Common.{◌≡◌, ◌+◌, ℕ, length, map, take}
use Rattle.affine_form.specs.Rows.{variable}
use Rattle.projective_bounds.specs.Families.{place_among}
use Rattle.projective_bounds.proofs.labels.cell_label.Given as goal

abbrev pub invariant-loop-level : goal.invariant-loop-level
invariant-loop-level l =
    l.label.items ≡ map (λ (level : ℕ). variable (l.params + length l.subs) (l.params + place_among l.subs (l.params + level))) (take l.level-index l.loops)
