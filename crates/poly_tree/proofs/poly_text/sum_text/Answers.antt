use Rattle.std.proofs.Common.{◌∙◌, ap, map}
use Rattle.iolb_model.specs.Printed.{terms_text}
use Rattle.affine_form.specs.SumText.{SumText, followed_by}
use Rattle.poly_tree.specs.Printed.{named_term}
use Rattle.poly_tree.proofs.PrintedLemmas.{all-nonzero}
use Rattle.poly_tree.proofs.poly_text.sum_text.Goals as goal

pub loop-term-init : goal.loop-term-init
loop-term-init c = ap (λ (s : SumText). followed_by s (map (named_term c.args.names.now) c.args.terms.now)) c.new-sum.ensures
    ∙ ap terms_text (all-nonzero c.args.names.now c.args.terms.now c.requires)
