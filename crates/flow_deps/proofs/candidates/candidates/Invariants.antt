use Rattle.std.proofs.Common.{◌≡◌, ◌++◌, ◌∷◌}
use Rattle.std.specs.Prelude.{flat_map}
use Rattle.std.specs.List.{range_with_len}
use Rattle.affine_program.specs.Parts.{meaning}
use Rattle.dep_quast.specs.Views.{read_of}
use Rattle.flow_deps.specs.declared.candidate.Candidate.TheVariants.{NoWrite}
use Rattle.flow_deps.specs.Candidates.{same_turn, turn_of}
use Rattle.flow_deps.proofs.candidates.candidates.Given as goal

abbrev pub invariant-loop-level : goal.invariant-loop-level
invariant-loop-level l = l.all.items ≡ NoWrite ∷ flat_map (same_turn (read_of l.reader)) l.found.items
    ++ flat_map (λ loop. flat_map (turn_of (meaning l.program) (read_of l.reader) loop) l.found.items) (range_with_len 0 l.level)
