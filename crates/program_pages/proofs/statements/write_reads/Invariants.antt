use Rattle.std.proofs.Common.{length, map, drop}
use Rattle.std.specs.List.{AllByRecursion}
use Rattle.iolb_model.specs.Program.{AccessFits}
use Rattle.affine_program.specs.Parts.{access_of, meaning}
use Rattle.program_pages.proofs.statements.write_reads.Given as goal

abbrev pub invariant-loop-read : goal.invariant-loop-read
invariant-loop-read l = AllByRecursion (AccessFits (meaning l.program) (length l.names)) (map access_of (drop l.read-counter l.reads))
