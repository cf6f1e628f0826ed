use Rattle.std.proofs.Common.{◌≡◌, ◌∙◌, false, subst, sym, rules, arith, FitsSigned}
use Rattle.std.proofs.Math.IntN.{ℤ, pos, negsuc}
use Rattle.std.specs.Cmp.{signed_Decides}
use Rattle.std.specs.Int.Signed.{◌≤ℤ◌, lt_z}
use Rattle.std.proofs.lemmas.Int.{ints, to_z-of_z}
use Rattle.std.proofs.lemmas.Slice.Eq.{slice_eq-Decides}
use Rattle.projective.proofs.loops.is_below.Goals as goal
use mir.Syntax.{w128}

-- what isn't above -1 is below 0
below : (x : ℤ) → lt_z (negsuc 0) x ≡ false → x ≤ℤ negsuc 0
below (pos n) e = absurd cc
below (negsuc n) e = omega (arith, ints)

pub returns : goal.returns
returns c =
    let lists = slice_eq-Decides signed_Decides c.coef.result.now c.args.coef.now c.eq.result c.eq.ensures in
    let x = c.constant.result in
    let fits : FitsSigned w128 x = search rules in
    let small : x ≤ℤ negsuc 0 = below x (subst (λ (z : ℤ). lt_z (negsuc 0) z ≡ false) (to_z-of_z w128 x fits) c.if-constant-gtminus1.false) in (
      λ t. (sym c.coef.ensures.coefficients ∙ lists.0 t, subst (λ (z : ℤ). z ≤ℤ negsuc 0) c.constant.ensures.constant small),
      λ e. lists.1 (c.coef.ensures.coefficients ∙ e.0),
    )
