use Rattle.std.proofs.Common.{◌≡◌, ◌<◌, ◌*ℤ◌, ◌^◌, ℕ, ℤ, ap, ◌∙◌, subst, arith, inr, pos, max, refl, FitsSigned, rules}
use mir.Syntax.{w128}
use Rattle.std.proofs.lemmas.Int.{to_z-of_z}
use Rattle.std.specs.Prelude.{unsigned_abs}
use Rattle.poly_tree.specs.Expansion.{Expansion, at, weight, IsPut}
use Rattle.poly_tree.specs.Poly.{put_size, Quotient, IsReduced}
use Rattle.poly_tree.specs.Tree.{expansion}
use Rattle.poly_tree.proofs.LinearLemmas.{reduced-value}
use Rattle.poly_tree.proofs.PutLemmas.{put-room}
use Rattle.poly_tree.proofs.poly.put_in.Goals as goal
use Rattle.iolb_model.specs.declared.limits.TheConstants.{MEASURE}

pub put-requires : goal.put-requires
put-requires c =
    let a = c.args.poly.now in
    let heavy = max 1 (weight (expansion c.args.inner.now)) in
    let m = put_size a c.args.var heavy in
    let small : m < MEASURE = omega (arith, c.put_size_of.ensures, c.if-put_size_of-ge-MEASURE.false) in
    let room = put-room c.args.var heavy (weight a.tree) a.denominator MEASURE (2 ^ 16) a.tree (omega arith) c.tree.ensures.legal.positive c.tree.ensures.legal.canonical refl small in
    rw c.tree.ensures.tree (omega (arith, room))

put_it : (a : Quotient) (v : ℕ) (f t : Expansion) (u : Expansion) → u ≡ a.tree → IsPut v f u t → IsPut v f a.tree t
put_it a v f t u e h = subst (λ (w : Expansion). IsPut v f w t) e h

pub returns-then-not-degrees_fit-clause-wide : goal.returns-then-not-degrees_fit-clause-wide
returns-then-not-degrees_fit-clause-wide c = λ e.
    let t = expansion c.in_ok-tree.tree in
    let h = put_it c.args.poly.now c.args.var (expansion c.args.inner.now) t (expansion c.tree.result.now) c.tree.ensures.tree c.in_ok-tree.ensures in
    inr (t, (h.canonical (2 ^ 16) c.tree.ensures.legal.canonical c.requires.canonical, h.same, λ p. let yes = c.degrees_fit.ensures.1 p in let no = c.if-not-degrees_fit.true in cc))

pub returns-clause-value : goal.returns-clause-value
returns-clause-value c =
    let a = c.args.poly.now in
    let t = expansion c.in_ok-tree.tree in
    let r = c.in_ok-reduced.field-0 in
    let h = put_it a c.args.var (expansion c.args.inner.now) t (expansion c.tree.result.now) c.tree.ensures.tree c.in_ok-tree.ensures in
    let fits : FitsSigned w128 c.den.result = search rules in
    let n : IsReduced t a.denominator r = subst (λ (m : ℕ). IsReduced t m r) (ap unsigned_abs (to_z-of_z w128 c.den.result fits ∙ c.den.ensures.denominator)) c.in_ok-reduced.ensures.reduced in
    λ point. reduced-value t a.denominator r n (at point) ∙ ap (λ (z : ℤ). z *ℤ pos r.denominator) (h.same (at point))
