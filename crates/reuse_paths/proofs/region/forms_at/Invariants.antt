use Rattle.std.proofs.Common.{◌≡◌, ◌++◌, drop, map}
use Rattle.dep_quast.specs.OpenLeaves.{form_at}
use Rattle.reuse_paths.proofs.region.forms_at.Given as goal

abbrev pub invariant-loop-form : goal.invariant-loop-form
invariant-loop-form l = l.all.items ++ map (form_at l.vars l.point) (drop l.form-index l.forms) ≡ map (form_at l.vars l.point) l.forms
