use Rattle.std.proofs.Common.{◌∙◌, ap, sym, ◌++◌, ◌∷◌, [], ◌+◌, List, length, map, arith}
use Rattle.std.specs.List.{range_with_len}
use Rattle.std.proofs.lemmas.List.FromFn.{map-range_with_len_more}
use Rattle.iolb_model.specs.Form.{AffineForm}
use Rattle.projective_bounds.specs.Outline.{value_among}
use Rattle.projective_bounds.proofs.values.values.Goals as goal

pub loop-level-preserved : goal.loop-level-preserved
loop-level-preserved c =
    c.in_ok-push.ensures.items ∙ ap (λ (forms : List AffineForm). forms ++ c.in_ok-value_among.field-0 ∷ []) c.loop-level.invariant
    ∙ ap (λ (f : AffineForm). map (value_among (c.args.params + length c.args.loops.now) c.args.params c.args.loops.now) (range_with_len 0 c.loop-level.level) ++ f ∷ []) c.in_ok-value_among.ensures
    ∙ sym (map-range_with_len_more (value_among (c.args.params + length c.args.loops.now) c.args.params c.args.loops.now) 0 c.loop-level.level c.loop-level.level (omega arith))
