use Rattle.std.proofs.Common.{◌≡◌, ◌<◌, ℕ}
use Rattle.affine_program.specs.Parts.{meaning}
use Rattle.dep_quast.specs.Views.{read_of}
use Rattle.flow_deps.specs.Candidates.{loop_variable}
use Rattle.find_terms.proofs.named.loop_named.Given as goal

abbrev pub invariant-loop-level : goal.invariant-loop-level
invariant-loop-level l = (loop : ℕ) → loop < l.level → ¬ (l.form ≡ loop_variable (meaning l.program) (read_of l.fn.reader) loop)
