use Rattle.std.proofs.Common.{◌∙◌, ◌+◌, ◌++◌, ◌∷◌, [], ap, sym, drop, List, append_assoc}
use Rattle.std.proofs.lemmas.List.{drop_all, append-nil}
use Rattle.iolb_model.specs.Form.{AffineForm}
use Rattle.affine_program.specs.declared.statement.Statement.{Statement}
use Rattle.affine_program.specs.Parts.{meaning}
use Rattle.projective.specs.Turns.{turn_value, turn_values}
use Rattle.projective.proofs.CodeLaws.{values-next}
use Rattle.projective.proofs.Fits.{upper-within, loops-read}
use Rattle.projective.proofs.turns.turn_before.Goals as goal

pub turn_value-requires-clause-within : goal.turn_value-requires-clause-within
turn_value-requires-clause-within c =
    upper-within c.args.program.now c.statements.ensures.kept c.requires.some c.statements.result.now c.index-statements-0.result c.deref-bounds-items.result.now c.loop-place.place c.bounds-item.result
    c.statements.ensures.statements c.index-statements-0.is (c.deref-bounds-items.ensures.value ∙ ap (λ (s : Statement). s.bounds.items) (sym c.index-statements-0.is)) c.loop-place-test.true c.bounds-item.is

pub loop-place-init : goal.loop-place-init
loop-place-init c =
    let program = meaning c.args.program.now in
    let bounds : List (AffineForm × AffineForm) = c.deref-bounds-items.result.now in
    ap (λ (forms : List AffineForm). forms ++ turn_values program c.args.level 0 bounds) c.new-point.ensures.items
    ∙ ap (turn_values program c.args.level 0) (sym (loops-read c.args.program.now c.statements.ensures.kept c.requires.some c.statements.result.now c.index-statements-0.result bounds c.statements.ensures.statements
    c.index-statements-0.is (c.deref-bounds-items.ensures.value ∙ ap (λ (s : Statement). s.bounds.items) (sym c.index-statements-0.is))))

pub loop-place-preserved : goal.loop-place-preserved
loop-place-preserved c =
    let program = meaning c.args.program.now in
    let bounds : List (AffineForm × AffineForm) = c.deref-bounds-items.result.now in
    let rest : List AffineForm = turn_values program c.args.level (c.loop-place.place + 1) (drop (c.loop-place.place + 1) bounds) in
    ap (λ (forms : List AffineForm). forms ++ rest) (c.in_ok-push.ensures.items ∙ ap (λ (f : AffineForm). c.loop-place.point.items ++ f ∷ []) c.in_ok-turn_value.ensures)
    ∙ append_assoc c.loop-place.point.items (turn_value program c.args.level c.loop-place.place c.bounds-item.result.1 ∷ []) rest
    ∙ ap (λ (forms : List AffineForm). c.loop-place.point.items ++ forms) (sym (values-next program c.args.level c.loop-place.place bounds c.bounds-item.result c.loop-place-test.true c.bounds-item.is))
    ∙ c.loop-place.invariant

pub returns : goal.returns
returns c =
    let program = meaning c.args.program.now in
    let bounds : List (AffineForm × AffineForm) = c.deref-bounds-items.result.now in
    let ended = drop_all c.loop-place.place bounds c.loop-place-test.false in
    sym (append-nil c.loop-place.point.items)
    ∙ ap (λ (xs : List (AffineForm × AffineForm)). c.loop-place.point.items ++ turn_values program c.args.level c.loop-place.place xs) (sym ended) ∙ c.loop-place.invariant
