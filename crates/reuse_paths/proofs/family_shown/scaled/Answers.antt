use Rattle.std.proofs.Common.{◌≡◌, ◌<◌, ◌^◌, ◌*◌, ◌∙◌, ap, sym, subst, arith, rules, ℕ, ℤ, pos, ◌*ℤ◌, FitsSigned}
use Rattle.std.specs.Prelude.{unsigned_abs}
use mir.Syntax.{w32, w128}
use Rattle.std.proofs.lemmas.Int.{to_z-of_z, unsigned_abs-mul, fits_signed_from_abs}
use Rattle.reuse_paths.proofs.family_shown.scaled.Goals as goal

-- a product of this size is in range
product-fits : (x y number : ℤ) (scale : ℕ) → x ≡ pos scale → y ≡ number → scale * unsigned_abs number < 2 ^ 127 → (x *ℤ y ≡ pos scale *ℤ number) × FitsSigned w128 (x *ℤ y)
product-fits x y number scale a b small =
    let product : x *ℤ y ≡ pos scale *ℤ number = ap (λ (u : ℤ). u *ℤ y) a ∙ ap (λ (u : ℤ). pos scale *ℤ u) b in
    let size : unsigned_abs (x *ℤ y) < 2 ^ 127 = subst (λ (u : ℤ). unsigned_abs u < 2 ^ 127) (sym product) (subst (λ (n : ℕ). n < 2 ^ 127) (sym (unsigned_abs-mul (pos scale) number)) small) in
    (product, fits_signed_from_abs w128 (x *ℤ y) (omega (arith, size)))

pub overflow_mul-result : goal.overflow_mul-result
overflow_mul-result c =
    let fits_x : FitsSigned w128 c.from.result = search rules in
    let fits_y : FitsSigned w128 c.from-2.result = search rules in
    let fits = product-fits c.from.result c.from-2.result c.args.number c.args.scale c.from.ensures (c.from-2.ensures ∙ to_z-of_z w32 c.args.number c.ranges.number) c.requires in
    rw (to_z-of_z w128 c.from.result fits_x, to_z-of_z w128 c.from-2.result fits_y) fits.1

pub returns : goal.returns
returns c =
    let fits_x : FitsSigned w128 c.from.result = search rules in
    let fits_y : FitsSigned w128 c.from-2.result = search rules in
    let fits = product-fits c.from.result c.from-2.result c.args.number c.args.scale c.from.ensures (c.from-2.ensures ∙ to_z-of_z w32 c.args.number c.ranges.number) c.requires in
    rw (to_z-of_z w128 c.from.result fits_x, to_z-of_z w128 c.from-2.result fits_y, to_z-of_z w128 (c.from.result *ℤ c.from-2.result) fits.1) fits.0
