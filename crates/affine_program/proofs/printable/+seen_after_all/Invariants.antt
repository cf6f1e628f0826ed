use Rattle.std.proofs.Common.{length}
use Rattle.affine_program.proofs.printable.+seen_after_all.Given as goal

abbrev pub decreases-seen_after_all : goal.decreases-seen_after_all
decreases-seen_after_all l = length l.statements.now
