use Rattle.std.proofs.Common.{sym, ap, subst, List, length, Vec, Global, arith}
use Rattle.std.specs.List.{AllByRecursion}
use Rattle.std.proofs.lemmas.List.{length-map}
use Rattle.affine_form.specs.System.{AffineSystem}
use Rattle.iolb_check.specs.declared.bound.Value.{Value}
use Rattle.iolb_check.specs.Bounds.{BoundParts, IsTermValue}
use Rattle.iolb_check.proofs.Lists.{all-map}
use Rattle.iolb_check.proofs.bound.Bound.terms.Goals as goal

pub returns-clause-legal : goal.returns-clause-legal
returns-clause-legal c =
    let inside : List (Vec Value Global) = c.self.inside.branches.items in
    let same = ap (λ (parts : BoundParts). length parts.branches) c.self.view_is in
    let assumed = ap (λ (parts : BoundParts). parts.assumed) c.self.view_is in
    subst (λ (l : List Value). AllByRecursion (IsTermValue c.args.self.now.assumed) l) (sym c.as_slice.ensures.value)
    (subst (λ (a : AffineSystem). AllByRecursion (IsTermValue a) c.index.result.now.items) assumed
    (all-map (λ (terms : Vec Value Global). terms.items) (λ l. AllByRecursion (IsTermValue c.self.inside.assumed) l) c.args.branch inside c.index.result.now
    (omega (arith, c.requires, same, length-map inside (λ (terms : Vec Value Global). terms.items))) c.index.ensures c.self.invariant))
