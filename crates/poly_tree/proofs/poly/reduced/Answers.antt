use Rattle.std.proofs.Common.{◌≡◌, ◌*ℤ◌, rules, FitsSigned}
use Rattle.std.specs.Prelude.{unsigned_abs}
use mir.Syntax.{w128}
use Rattle.std.proofs.lemmas.Int.{to_z-of_z}
use Rattle.poly_tree.specs.Expansion.{IsContent, scaled}
use Rattle.poly_tree.specs.Tree.{expansion}
use Rattle.poly_tree.proofs.Reduced.{legal-reduced, is-reduced}
use Rattle.poly_tree.proofs.poly.reduced.Goals as goal

pub invariant_of-result : goal.invariant_of-result
invariant_of-result c =
    let f = c.common_factor-factor.result in
    let q = c.quotient.result in
    let fits_f : FitsSigned w128 f = search rules in
    let fits_q : FitsSigned w128 q = search rules in
    let is : (f *ℤ q) ≡ c.args.den = simp (to_z-of_z w128 f fits_f, to_z-of_z w128 c.args.den c.ranges.den) at c.quotient.ensures in
    let e : scaled f (expansion c.in_ok-quotients.quotients) ≡ expansion c.args.tree.now = simp (to_z-of_z w128 f fits_f) at c.in_ok-quotients.ensures in
    let content : IsContent (expansion c.args.tree.now) (unsigned_abs c.args.den) (unsigned_abs f) = simp (to_z-of_z w128 c.args.den c.ranges.den) at c.common_factor-factor.ensures.content in
    rw (to_z-of_z w128 q fits_q)
    (legal-reduced (expansion c.args.tree.now) (expansion c.in_ok-quotients.quotients) f q c.args.den c.common_factor-factor.ensures.some c.requires.positive content e is c.requires.canonical c.requires.degrees)

pub returns-clause-reduced : goal.returns-clause-reduced
returns-clause-reduced c =
    let f = c.common_factor-factor.result in
    let q = c.quotient.result in
    let fits_f : FitsSigned w128 f = search rules in
    let fits_q : FitsSigned w128 q = search rules in
    let is : (f *ℤ q) ≡ c.args.den = simp (to_z-of_z w128 f fits_f, to_z-of_z w128 c.args.den c.ranges.den) at c.quotient.ensures in
    let e : scaled f (expansion c.in_ok-quotients.quotients) ≡ expansion c.args.tree.now = simp (to_z-of_z w128 f fits_f) at c.in_ok-quotients.ensures in
    rw (to_z-of_z w128 q fits_q)
    (is-reduced (expansion c.args.tree.now) (expansion c.in_ok-quotients.quotients) f q c.args.den c.common_factor-factor.ensures.some e is)

pub quotient-requires-clause-divides : goal.quotient-requires-clause-divides
quotient-requires-clause-divides c =
    let f = c.common_factor-factor.result in
    let fits_f : FitsSigned w128 f = search rules in
    let content : IsContent (expansion c.args.tree.now) (unsigned_abs c.args.den) (unsigned_abs f) = simp (to_z-of_z w128 c.args.den c.ranges.den) at c.common_factor-factor.ensures.content in
    rw (to_z-of_z w128 f fits_f, to_z-of_z w128 c.args.den c.ranges.den) content.divides_start

pub returns-clause-legal : goal.returns-clause-legal
returns-clause-legal c = (invariant_of-result c).0
