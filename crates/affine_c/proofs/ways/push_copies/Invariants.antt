use Rattle.std.proofs.Common.{◌≡◌, ◌++◌, drop}
use Rattle.affine_c.proofs.ways.push_copies.Given as goal

abbrev pub invariant-loop-form : goal.invariant-loop-form
invariant-loop-form l = l.forms.items ++ drop l.form-index l.more ≡ l.initial.forms.items ++ l.more
