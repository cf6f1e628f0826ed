use Rattle.std.proofs.Common.{◌≡◌, ℕ, ◌++◌, drop, map}
use Rattle.joint_partition.specs.Term.{no_form}
use Rattle.iolb_check.proofs.family_walks.blank_label.Given as goal

abbrev pub invariant-loop-member : goal.invariant-loop-member
invariant-loop-member l = l.label.items ++ map (λ (i : ℕ). no_form) (drop l._member-index l.set) ≡ map (λ (i : ℕ). no_form) l.set
