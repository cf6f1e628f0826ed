use Rattle.std.proofs.Common.{◌≡◌, ◌∙◌, ◌++◌, ◌∷◌, [], ◌<◌, ap, sym, subst, refl, ℕ, ◌+◌, List, length, drop, arith}
use Rattle.std.specs.List.{AllByRecursion}
use Rattle.std.proofs.lemmas.List.{length-append, drop_all}
use Rattle.base_laws.proofs.Lists.{All-push}
use Rattle.iolb_model.specs.Form.{AffineForm}
use Rattle.affine_form.specs.Rows.{IsSmallOver}
use Rattle.affine_program.specs.Domain.{bounds_at}
use Rattle.affine_program.specs.Parts.{meaning}
use Rattle.dep_quast.specs.Context.{variables_at}
use Rattle.dep_quast.specs.Views.{read_of}
use Rattle.flow_deps.specs.Candidates.{loop_value, values_along, point_from}
use Rattle.flow_deps.proofs.PointLaws.{along-next, along-last, not-both}
use Rattle.flow_deps.proofs.points.point_from.Goals as goal

pub returns-then-not-is_small_form : goal.returns-then-not-is_small_form
returns-then-not-is_small_form c =
    let program = meaning c.args.program.now in
    let reader = read_of c.args.reader in
    let loops : List (AffineForm × AffineForm) = bounds_at program c.args.writer in
    let level : ℕ = c.loop-level.level in
    let values : List AffineForm = c.loop-level.values.items in
    let value = c.in_ok-value.value in
    let is_value = c.in_ok-value.ensures.value ∙ ap (λ (vs : List AffineForm). loop_value program reader c.args.writer c.last_bound-bound.result.now vs) c.as_slice.ensures.value in
    let below : level < length loops = omega (arith, c.loop-level-test.true, c.depth-level-end.ensures.depth) in
    let next = along-next program reader c.args.writer loops level c.last_bound-bound.result.now values (values ++ value ∷ []) value below c.loop-level.invariant.count c.last_bound-bound.ensures.bound is_value refl in
    λ all. not-both c.is_small_form.result c.if-not-is_small_form.true
    (c.is_small_form.ensures.1 (along-last program reader c.args.writer (IsSmallOver (variables_at program reader)) (drop (level + 1) loops) values value
    (subst (AllByRecursion (IsSmallOver (variables_at program reader))) (sym c.loop-level.invariant.along ∙ next) all)).small)

pub loop-level-preserved : goal.loop-level-preserved
loop-level-preserved c =
    let program = meaning c.args.program.now in
    let reader = read_of c.args.reader in
    let loops : List (AffineForm × AffineForm) = bounds_at program c.args.writer in
    let level : ℕ = c.loop-level.level in
    let values : List AffineForm = c.loop-level.values.items in
    let value = c.in_ok-value.value in
    let is_value = c.in_ok-value.ensures.value ∙ ap (λ (vs : List AffineForm). loop_value program reader c.args.writer c.last_bound-bound.result.now vs) c.as_slice.ensures.value in
    let below : level < length loops = omega (arith, c.loop-level-test.true, c.depth-level-end.ensures.depth) in
    let next = along-next program reader c.args.writer loops level c.last_bound-bound.result.now values c.push.new.self.items value below c.loop-level.invariant.count c.last_bound-bound.ensures.bound is_value c.in_ok-push.ensures.items in
    let small : IsSmallOver (variables_at program reader) value = record { over = c.in_ok-value.ensures.over; small = c.is_small_form.ensures.0 c.if-not-is_small_form.false } in
    record {
      along = sym next ∙ c.loop-level.invariant.along;
      count = omega (arith, ap length c.in_ok-push.ensures.items, length-append values (value ∷ []), c.loop-level.invariant.count);
      over = subst (AllByRecursion (IsSmallOver (variables_at program reader))) (sym c.in_ok-push.ensures.items) (All-push (IsSmallOver (variables_at program reader)) values value c.loop-level.invariant.over small);
    }

pub returns : goal.returns
returns c =
    let program = meaning c.args.program.now in
    let reader = read_of c.args.reader in
    let loops : List (AffineForm × AffineForm) = bounds_at program c.args.writer in
    let values : List AffineForm = c.loop-level.values.items in
    let ended_at : c.loop-level.level ≡ length loops =
    omega (arith, c.loop-level-test.false, c.depth-level-end.ensures.depth, c.len-level.ensures, c.requires.few, c.loop-level.auto.level-end) in
    let ended = drop_all c.loop-level.level loops (omega (arith, c.loop-level-test.false, c.depth-level-end.ensures.depth)) in
    let is : values ≡ point_from program reader c.args.writer c.args.given.items =
    ap (λ (rest : List (AffineForm × AffineForm)). values_along program reader c.args.writer rest values) (sym ended) ∙ c.loop-level.invariant.along in (
      is,
      c.loop-level.invariant.count ∙ ended_at,
      c.loop-level.invariant.over,
    )
