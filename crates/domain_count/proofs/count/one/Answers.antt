use Rattle.std.proofs.Common.{◌∙◌, ap, subst, ℤ, List, pos}
use Rattle.iolb_model.specs.Form.{AffineForm}
use Rattle.poly_tree.specs.Poly.{IsForm}
use Rattle.domain_count.proofs.Ones.{one-is}
use Rattle.domain_count.proofs.count.one.Goals as goal

abbrev form-of : List ℤ → AffineForm
form-of l = record { coefficients = l; constant = pos 1 }

pub returns : goal.returns
returns c =
    one-is c.in_ok-poly.poly
    (subst (λ (f : AffineForm). IsForm f c.in_ok-poly.poly) (c.new-form.ensures ∙ ap form-of c.new.ensures.items) c.in_ok-poly.ensures)
    c.den-den.ensures.legal
