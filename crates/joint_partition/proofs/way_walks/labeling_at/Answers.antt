use Rattle.std.proofs.Common.{◌≡◌, ap, subst, ℕ, ◌<◌, List, length, map, arith}
use Rattle.std.specs.Prelude.{slice_index_or}
use Rattle.std.proofs.lemmas.List.{length-map}
use Rattle.joint_partition.specs.declared.term.Labeling.{Labeling}
use Rattle.joint_partition.specs.Term.{no_labels}
use Rattle.joint_partition.specs.View.{labeling_of}
use Rattle.joint_partition.proofs.Indexed.{indexed}
use Rattle.joint_partition.proofs.way_walks.labeling_at.Goals as goal

pub bounds-labels-i : goal.bounds-labels-i
bounds-labels-i c = omega (arith, c.requires, c.from-i.ensures, length-map c.args.family.now.labels.items labeling_of, ap (λ (labels : List Labeling). length labels) c.as_slice-labels.ensures.value)

pub returns : goal.returns
returns c =
    let items : List Labeling = c.args.family.now.labels.items in
    let below : c.from-i.result < length c.as_slice-labels.result.now = omega (arith, c.requires, c.from-i.ensures, length-map items labeling_of, ap (λ (labels : List Labeling). length labels) c.as_slice-labels.ensures.value) in
    subst (λ (i : ℕ). labeling_of c.index-labels-i.result ≡ slice_index_or (map labeling_of items) i no_labels) c.from-i.ensures
    (indexed labeling_of c.as_slice-labels.result.now items c.from-i.result c.index-labels-i.result no_labels c.as_slice-labels.ensures.value below c.index-labels-i.is)
