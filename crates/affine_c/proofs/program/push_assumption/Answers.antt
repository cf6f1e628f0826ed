use Rattle.std.proofs.Common.{◌∙◌, ◌++◌, append_assoc}
use Rattle.iolb_model.specs.Printed.{form_text}
use Rattle.std.specs.Prelude.{codes}
use Rattle.affine_c.proofs.program.push_assumption.Goals as goal

pub returns : goal.returns
returns c =
    c.in_ok-push_between.ensures
    ∙ append_assoc (c.args.text.now.items ++ codes "#pragma iolb assume ") (form_text c.args.names.now c.args.row.now) (codes " >= 0\n")
    ∙ append_assoc c.args.text.now.items (codes "#pragma iolb assume ") (form_text c.args.names.now c.args.row.now ++ codes " >= 0\n")
