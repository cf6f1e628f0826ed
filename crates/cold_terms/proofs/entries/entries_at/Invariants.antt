use Rattle.std.proofs.Common.{map, take}
use Rattle.reuse_paths.specs.LeafClaims.{claim_of}
use Rattle.cold_terms.specs.Entries.{AreClosed}
use Rattle.cold_terms.proofs.entries.entries_at.Given as goal

abbrev pub invariant-loop-leaf : goal.invariant-loop-leaf
invariant-loop-leaf l = AreClosed l.wanted l.vars l.rows (take l.leaf-index l.leaves) (map claim_of l.all.items)
