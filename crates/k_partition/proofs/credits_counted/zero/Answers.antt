use Rattle.std.proofs.Common.{◌∙◌, ap, subst, ℤ, List, pos}
use Rattle.iolb_model.specs.Form.{AffineForm}
use Rattle.poly_tree.specs.Poly.{IsForm}
use Rattle.k_partition.proofs.CreditSums.{none-is}
use Rattle.k_partition.proofs.credits_counted.zero.Goals as goal

abbrev form-of : List ℤ → AffineForm
form-of l = record { coefficients = l; constant = pos 0 }

pub returns : goal.returns
returns c =
    none-is c.in_ok-poly.poly
    (subst (λ (f : AffineForm). IsForm f c.in_ok-poly.poly) (c.new-form.ensures ∙ ap form-of c.new.ensures.items) c.in_ok-poly.ensures)
    c.den-den.ensures.legal
