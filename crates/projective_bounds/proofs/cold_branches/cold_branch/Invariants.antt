use Rattle.std.proofs.Common.{◌≡◌, map}
use Rattle.iolb_check.specs.declared.term.Term.TheVariants as terms
use Rattle.projective_bounds.proofs.cold_branches.cold_branch.Given as goal

abbrev pub invariant-loop-cold : goal.invariant-loop-cold
invariant-loop-cold l = l.terms.items ≡ map terms.Cold l.yielded
