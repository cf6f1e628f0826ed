use Rattle.std.proofs.Common.{◌≡◌, ◌+◌, ◌<◌, ℕ}
use Rattle.affine_form.specs.Rows.{variable}
use Rattle.projective.proofs.references.is_loop.Given as goal

abbrev pub invariant-loop-place : goal.invariant-loop-place
invariant-loop-place l = (place : ℕ) → place < l.place → l.form ≡ variable (l.params + l.depth) (l.params + place) → ⊥
