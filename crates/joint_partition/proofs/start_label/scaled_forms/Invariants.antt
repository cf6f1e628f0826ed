use Rattle.std.proofs.Common.{◌≡◌, ℕ, map, take, pos}
use Rattle.std.specs.Prelude.{slice_index_or}
use Rattle.affine_form.specs.Combination.{scale_form}
use Rattle.joint_partition.specs.Term.{no_form}
use Rattle.joint_partition.proofs.start_label.scaled_forms.Given as goal

abbrev pub invariant-loop-number : goal.invariant-loop-number
invariant-loop-number l = l.all.items ≡ map (λ (i : ℕ). scale_form (pos l.scale) (slice_index_or l.forms i no_form)) (take l.number-index l.numbers)
