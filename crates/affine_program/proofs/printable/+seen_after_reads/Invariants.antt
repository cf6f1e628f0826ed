use Rattle.std.proofs.Common.{length}
use Rattle.affine_program.proofs.printable.+seen_after_reads.Given as goal

abbrev pub decreases-seen_after_reads : goal.decreases-seen_after_reads
decreases-seen_after_reads l = length l.reads.now
