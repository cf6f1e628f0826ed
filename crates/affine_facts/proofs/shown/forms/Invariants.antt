use Rattle.affine_form.specs.System.{AllOver}
use Rattle.affine_facts.proofs.shown.forms.Given as goal

abbrev pub invariant-loop-row : goal.invariant-loop-row
invariant-loop-row l = AllOver l.vars l.all.items
