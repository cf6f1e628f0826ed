use Rattle.std.proofs.Common.{◌<◌, length, rules}
use Rattle.tile_sched.proofs.Members.{columns_first}
use Rattle.tile_sched.proofs.reading.first_count.Goals as goal

pub returns-in-Some : goal.returns-in-Some
returns-in-Some c =
    let some : 0 < length c.args.values.now = search rules in
    columns_first c.args.values.now c.index-values-0.result c.in-Some.members.now some c.index-values-0.is c.in-Some.ensures
