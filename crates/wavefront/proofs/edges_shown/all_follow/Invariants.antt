use Rattle.std.proofs.Common.{drop}
use Rattle.std.specs.Prelude.{◌↔◌}
use Rattle.wavefront.specs.FrontClaims.{AllFollow}
use Rattle.wavefront.proofs.edges_shown.all_follow.Given as goal

abbrev pub invariant-loop-i : goal.invariant-loop-i
invariant-loop-i l = AllFollow l.system (drop l.i l.goals) (drop l.i l.shown) ↔ AllFollow l.system l.goals l.shown
