use Rattle.std.proofs.Common.{◌≡◌, ap, subst, ℕ, ◌<◌, List, length, map, arith}
use Rattle.std.specs.Prelude.{slice_index_or}
use Rattle.std.proofs.lemmas.List.{length-map}
use Rattle.joint_partition.specs.declared.term.Way.{Way}
use Rattle.joint_partition.specs.Term.{no_way}
use Rattle.joint_partition.specs.View.{way_of}
use Rattle.joint_partition.proofs.Indexed.{indexed}
use Rattle.joint_partition.proofs.way_walks.way_at.Goals as goal

pub bounds-ways-i : goal.bounds-ways-i
bounds-ways-i c = omega (arith, c.requires, c.from-i.ensures, length-map c.args.family.now.ways.items way_of, ap (λ (ways : List Way). length ways) c.as_slice-ways.ensures.value)

pub returns : goal.returns
returns c =
    let items : List Way = c.args.family.now.ways.items in
    let below : c.from-i.result < length c.as_slice-ways.result.now = omega (arith, c.requires, c.from-i.ensures, length-map items way_of, ap (λ (ways : List Way). length ways) c.as_slice-ways.ensures.value) in
    subst (λ (i : ℕ). way_of c.index-ways-i.result ≡ slice_index_or (map way_of items) i no_way) c.from-i.ensures
    (indexed way_of c.as_slice-ways.result.now items c.from-i.result c.index-ways-i.result no_way c.as_slice-ways.ensures.value below c.index-ways-i.is)
