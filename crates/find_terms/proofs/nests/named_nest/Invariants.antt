use Rattle.std.proofs.Common.{◌≡◌, drop}
use Rattle.affine_program.specs.Domain.{bounds_at}
use Rattle.affine_program.specs.Parts.{meaning}
use Rattle.dep_quast.specs.Views.{read_of}
use Rattle.find_terms.specs.Found.{FarFits, so_far}
use Rattle.find_terms.specs.Openings.{named_nest, nest_along}
use Rattle.find_terms.proofs.nests.named_nest.Given as goal

abbrev pub invariant-loop-level : goal.invariant-loop-level
invariant-loop-level l = record {
  along : nest_along (meaning l.program) l.reader.statement l.loops l.level (drop l.level (bounds_at (meaning l.program) l.reader.statement)) (so_far l.far)
      ≡ named_nest (meaning l.program) (read_of l.reader) l.loops;
  fits : FarFits (meaning l.program) l.level (so_far l.far);
}
