use Rattle.std.proofs.Common.{arith}
use Rattle.pebble_replay.proofs.UseLists.{next-use}
use Rattle.pebble_replay.proofs.uses.Uses.next.Goals as goal

pub returns : goal.returns
returns c =
    next-use c.self.inside.all.items c.self.inside.firsts.items c.args.self.now c.args.u c.index-first.result.now c.self.invariant c.self.view_is c.requires c.index-first.ensures
    c.index.result.now (omega (arith, c.if-first-eq0.false)) c.index.ensures
