use Rattle.std.proofs.Common.{◌≡◌, ◌++◌, drop}
use Rattle.std.specs.Prelude.{flat_map}
use Rattle.affine_c.specs.Text.{subscript_text}
use Rattle.affine_c.proofs.references.push_subscripts.Given as goal

abbrev pub invariant-loop-form : goal.invariant-loop-form
invariant-loop-form l = l.text.items ++ flat_map (subscript_text l.names) (drop l.form-index l.forms) ≡ l.initial.text.items ++ flat_map (subscript_text l.names) l.forms
