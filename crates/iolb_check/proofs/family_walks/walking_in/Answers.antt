use Rattle.std.proofs.Common.{◌≡◌, ◌∙◌, ap, map, refl}
use Rattle.joint_partition.specs.Term.{credited_nests}
use Rattle.joint_partition.specs.View.{joint_of}
use Rattle.reuse_paths.specs.Families.{credit_of}
use Rattle.iolb_check.proofs.FitPartitions.{credits-held}
use Rattle.iolb_check.proofs.family_walks.walking_in.Goals as goal

pub returns : goal.returns
returns c =
    let term = c.args.walks.now.term.now in
    let nests : map credit_of c.as_slice-credits.result.now ≡ credited_nests (joint_of term) = ap (map credit_of) c.as_slice-credits.ensures.value ∙ credits-held term.credits.items in
    rw (nests, c.requires.none, c.requires.reader) refl
