-- Small forms, and bounds of a nest, that fit are as is asked of them, and within the limits.
use Rattle.std.proofs.Common.{sym, subst, ℕ, suc, ◌+◌, List, [], ◌∷◌}
use Rattle.std.specs.List.{AllByRecursion}
use Rattle.std.proofs.Math.Nat.{add-suc}
use Rattle.iolb_model.specs.Form.{AffineForm}
use Rattle.claims.specs.Claims.{AllHold, numbered}
use Rattle.claims.specs.declared.place.Step.{Step}
use Rattle.affine_form.specs.Rows.{BoundsFit, IsSmallOver}
use Rattle.certificate_fit.specs.Limits.{AreSmallBounds}
use Rattle.certificate_fit.specs.PartFit.{bounds_at, form_at}

pub forms-hold : (vars : ℕ) (place : List Step) (index : ℕ) (forms : List AffineForm) → AllByRecursion (IsSmallOver vars) forms → AllHold (numbered (form_at vars place) index forms)
forms-hold vars place index [] small = tt
forms-hold vars place index (form ∷ forms) small = (small.0.over, forms-hold vars place (suc index) forms small.1)

pub bounds-hold : (vars index : ℕ) (place : List Step) (nest : List (AffineForm × AffineForm)) → BoundsFit (vars + index) nest → AllHold (numbered (bounds_at vars place) index nest)
bounds-hold vars index place [] fit = tt
bounds-hold vars index place (bounds ∷ nest) fit =
    (fit.0.0.over, (fit.0.1.over, bounds-hold vars (suc index) place nest (subst (λ (n : ℕ). BoundsFit n nest) (sym (add-suc vars index)) fit.1)))

pub bounds-small : (vars : ℕ) (nest : List (AffineForm × AffineForm)) → BoundsFit vars nest → AreSmallBounds nest
bounds-small vars [] fit = tt
bounds-small vars (bounds ∷ nest) fit = ((fit.0.0.small, fit.0.1.small), bounds-small (suc vars) nest fit.1)
