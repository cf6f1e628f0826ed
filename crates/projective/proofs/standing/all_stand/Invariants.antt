use Rattle.std.proofs.Common.{◌≡◌, ◌+◌, ◌<◌, ℕ, true, map}
use Rattle.iolb_model.specs.Program.{Access}
use Rattle.affine_program.specs.Parts.{access_of}
use Rattle.projective.specs.Projective.{HoldsOfOne, stands_in}
use Rattle.projective.proofs.standing.all_stand.Given as goal

abbrev pub invariant-loop-place : goal.invariant-loop-place
invariant-loop-place l = (place : ℕ) → place < l.place → HoldsOfOne (λ (access : Access). stands_in (l.params + place) access ≡ true) (map access_of l.others)
