use Rattle.std.proofs.Common.{◌≡◌, rules, FitsSigned, get_or, ◌∷◌, []}
use mir.Syntax.{w128}
use Rattle.std.proofs.lemmas.Int.{to_z-of_z}
use Rattle.int_sets.specs.Halves.{weights_of}
use Rattle.int_sets.proofs.Sums.{two-half, one-taken}
use Rattle.int_sets.proofs.half.two_rows.Goals as goal

pub returns-clause-half : goal.returns-clause-half
returns-clause-half c =
    let fits : FitsSigned w128 c.sum.result = search rules in
    let fits_constant : FitsSigned w128 c.sum-2.result = search rules in
    let fits_first : FitsSigned w128 c.args.first.now.value = search rules in
    let fits_second : FitsSigned w128 c.args.second.now.value = search rules in
    let fits_first_constant : FitsSigned w128 c.args.first.now.constant = search rules in
    let fits_second_constant : FitsSigned w128 c.args.second.now.constant = search rules in
    let first : weights_of c.args.first.now ≡ get_or c.args.first.now.rows 0 (0, 0) ∷ [] = one-taken c.args.first.now (search rules) c.requires.one in
    let second : weights_of c.args.second.now ≡ get_or c.args.second.now.rows 0 (0, 0) ∷ [] = one-taken c.args.second.now (search rules) c.requires.other in
    rw (to_z-of_z w128 c.sum.result fits, to_z-of_z w128 c.sum-2.result fits_constant)
    (two-half c.args.system.now.rows c.args.first.now c.args.second.now c.sum.result c.sum-2.result c.requires.first c.requires.second c.requires.one c.requires.other
    (get_or c.args.first.now.rows 0 (0, 0)) (get_or c.args.second.now.rows 0 (0, 0)) first second
    (simp (to_z-of_z w128 c.args.first.now.value fits_first, to_z-of_z w128 c.args.second.now.value fits_second) at c.sum.ensures)
    (simp (to_z-of_z w128 c.args.first.now.constant fits_first_constant, to_z-of_z w128 c.args.second.now.constant fits_second_constant) at c.sum-2.ensures))
