use Rattle.std.proofs.Common.{◌≡◌, refl, sym, ◌∙◌, subst, ℕ, ◌+◌, ◌<◌, Bool, List, length, drop, arith}
use Rattle.iolb_model.specs.Form.{AffineForm}
use Rattle.iolb_model.specs.Program.{Direction}
use Rattle.affine_form.specs.Rows.{direction_of}
use Rattle.affine_program.specs.Domain.{bounds_at}
use Rattle.affine_program.specs.Parts.{meaning}
use Rattle.find_terms.specs.Found.{FarFits, FindsNest, IsSmallNest, so_far}
use Rattle.find_terms.specs.Openings.{NestSoFar, into_loop, is_named}
use Rattle.find_terms.proofs.NestLaws.{along-next, along-small}
use Rattle.find_terms.proofs.nests.named_nest.Goals as goal

pub returns-in_default : goal.returns-in_default
returns-in_default c =
    let program = meaning c.args.program.now in
    let loops : List ℕ = c.args.loops.now in
    let path : List (AffineForm × AffineForm) = bounds_at program c.args.reader.statement in
    let level : ℕ = c.loop-level.level in
    let far : NestSoFar = so_far c.loop-level.far in
    let named : Bool = c.contains-named.result in
    let direction : Direction = direction_of c.runs_down-down.result in
    let next : NestSoFar = into_loop program named direction far c.bounds_at-bounds.result.now in
    let below : level < length path = omega (arith, c.loop-level-test.true, c.depth-level-end.ensures.depth) in
    let test : named ≡ is_named loops level = c.contains-named.ensures.value in
    let none = subst (FindsNest program (length c.loop-level.far.values.items + 1) next) c.in_default.is c.in_ok-next.ensures in
    let along = along-next program c.args.reader.statement loops path level c.bounds_at-bounds.result.now far named direction next below c.bounds_at-bounds.ensures.bounds test c.runs_down-down.ensures refl in
    λ small. none (along-small program c.args.reader.statement loops (level + 1) (drop (level + 1) path) next (subst IsSmallNest (sym c.loop-level.invariant.along ∙ along) small))

pub loop-level-preserved : goal.loop-level-preserved
loop-level-preserved c =
    let program = meaning c.args.program.now in
    let loops : List ℕ = c.args.loops.now in
    let path : List (AffineForm × AffineForm) = bounds_at program c.args.reader.statement in
    let level : ℕ = c.loop-level.level in
    let far : NestSoFar = so_far c.loop-level.far in
    let named : Bool = c.contains-named.result in
    let direction : Direction = direction_of c.runs_down-down.result in
    let next : NestSoFar = into_loop program named direction far c.bounds_at-bounds.result.now in
    let below : level < length path = omega (arith, c.loop-level-test.true, c.depth-level-end.ensures.depth) in
    let test : named ≡ is_named loops level = c.contains-named.ensures.value in
    let some = subst (FindsNest program (length c.loop-level.far.values.items + 1) next) c.in-Some.is c.in_ok-next.ensures in
    let along = along-next program c.args.reader.statement loops path level c.bounds_at-bounds.result.now far named direction (so_far c.in-Some.next) below c.bounds_at-bounds.ensures.bounds test c.runs_down-down.ensures some.0 in
    record {
      along = sym along ∙ c.loop-level.invariant.along;
      fits = subst (λ (n : ℕ). FarFits program (n + 1) (so_far c.in-Some.next)) c.loop-level.invariant.fits.many some.1;
    }
