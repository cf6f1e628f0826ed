use Rattle.std.proofs.Common.{◌≡◌, [], ◌∷◌, ◌++◌, drop}
use Rattle.std.specs.Prelude.{zip}
use Rattle.iolb_model.specs.Printed.{form_text}
use Rattle.affine_form.specs.SumText.{followed_by}
use Rattle.affine_form.proofs.form.Form.text.Given as goal

abbrev pub invariant-loop-i : goal.invariant-loop-i
invariant-loop-i l =
    followed_by l.sum (zip (drop l.i l.self-inside.coef.items) (drop l.i l.names) ++ ((l.self-inside.constant, []) ∷ []))
    ≡ form_text l.names l.fn.self
