use Rattle.std.proofs.Common.{◌≡◌, ◌+◌}
use Rattle.std.specs.List.{filter, range_with_len}
use Rattle.affine_program.specs.Parts.{access_of}
use Rattle.projective.specs.Projective.{stands_in}
use Rattle.projective.proofs.standing.loops_in.Given as goal

abbrev pub invariant-loop-place : goal.invariant-loop-place
invariant-loop-place l = l.loops.items ≡ filter (λ place. stands_in (l.params + place) (access_of l.reference)) (range_with_len 0 l.place)
