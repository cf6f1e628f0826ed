-- What is collected is what goes in one after another.
use Rattle.std.proofs.Common.{◌≡◌, length, string_cmp, arith}
use Rattle.std.proofs.lemmas.Iterator.Adapters.{YieldsList-from_vec, fact_from_collect}
use Rattle.std.proofs.lemmas.Result.{IfOk-weaker}
use Rattle.std.specs.BTreeMap.{IsFromIterResult}
use Rattle.json_values.proofs.Collected.{collected}
use Rattle.json_values.proofs.sorting.map_of_members.Goals as goal

pub returns : goal.returns
returns c =
    let long : c.into_iter.result.rest.len ≡ length c.args.members.items = grind arith in
    let made = fact_from_collect (IsFromIterResult string_cmp) c.collect.result c.collect.ensures.ran (YieldsList-from_vec c.args.members.items c.into_iter.ensures.rest long) in
    IfOk-weaker c.collect.result (IsFromIterResult string_cmp c.args.members.items) _ (λ map h. collected c.args.members.items map.entries h.1 h.0) made
