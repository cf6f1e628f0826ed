use Rattle.std.proofs.Common.{◌≡◌, map}
use Rattle.affine_program.specs.Parts.{access_of}
use Rattle.projective.specs.Projective.{sets_of}
use Rattle.projective.proofs.recognising.sets_of.Given as goal

abbrev pub invariant-loop-array : goal.invariant-loop-array
invariant-loop-array l = l.sets.items ≡ sets_of l.params l.array l.depth (map access_of l.reads)
