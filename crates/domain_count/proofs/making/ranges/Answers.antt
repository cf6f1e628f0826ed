use Rattle.std.proofs.Common.{◌≡◌, subst, length, take, ◌+◌, arith, ◌∷◌, []}
use Rattle.std.specs.Prelude.{Option, IfNone, IfSome}
use Rattle.std.proofs.lemmas.List.{get_or_read, length-append}
use Rattle.iolb_model.specs.Form.{AffineForm}
use Rattle.affine_form.specs.Multipliers.{FarkasMultipliers}
use Rattle.affine_program.specs.Parts.{meaning}
use Rattle.int_sets.specs.ShortList.{HasShortList}
use Rattle.domain_count.specs.Count.{ShowsRange, bounds_at, multipliers_at, range_goal, rows_before}
use Rattle.domain_count.proofs.BoundsFit.{BoundsFit-read}
use Rattle.domain_count.specs.Ranges.{IsFirstNotShown}
use Rattle.domain_count.proofs.Front.{BoundsFit-take}
use Rattle.domain_count.proofs.RangeLemmas.{shown-more}
use Rattle.domain_count.proofs.making.ranges.Goals as goal

pub range-requires-clause-fit : goal.range-requires-clause-fit
range-requires-clause-fit c = BoundsFit-take (length c.args.program.now.params) c.loop-k.k c.args.bounds.now c.requires.fit

pub range-requires-clause-lower : goal.range-requires-clause-lower
range-requires-clause-lower c =
    (BoundsFit-read (length c.args.program.now.params) c.loop-k.k c.args.bounds.now c.index-bounds-k.result c.requires.fit c.loop-k-test.true c.index-bounds-k.is).0

pub range-requires-clause-upper : goal.range-requires-clause-upper
range-requires-clause-upper c =
    (BoundsFit-read (length c.args.program.now.params) c.loop-k.k c.args.bounds.now c.index-bounds-k.result c.requires.fit c.loop-k-test.true c.index-bounds-k.is).1

pub returns-in_default-clause-not_proved : goal.returns-in_default-clause-not_proved
returns-in_default-clause-not_proved c = λ k e.
    let same : c.loop-k.k ≡ k = cc in
    let here : c.index-bounds-k.result ≡ bounds_at c.args.bounds.now c.loop-k.k = get_or_read c.args.bounds.now c.loop-k.k c.index-bounds-k.result c.loop-k-test.true c.index-bounds-k.is _ in
    let none : ¬ HasShortList (rows_before (meaning c.args.program.now) (take c.loop-k.k c.args.bounds.now))
    (range_goal (length c.args.program.now.params + length (take c.loop-k.k c.args.bounds.now)) c.index-bounds-k.result)
    = subst (λ (found : Option FarkasMultipliers). IfNone found (¬ HasShortList (rows_before (meaning c.args.program.now) (take c.loop-k.k c.args.bounds.now))
    (range_goal (length c.args.program.now.params + length (take c.loop-k.k c.args.bounds.now)) c.index-bounds-k.result))) c.in_default.is c.in_ok-multipliers.ensures.none in
    let first : IsFirstNotShown (meaning c.args.program.now) c.args.bounds.now c.loop-k.k = record {
      there = c.loop-k-test.true;
      before = λ j less. (multipliers_at c.loop-k.shown.items j, c.loop-k.invariant.shown j less);
      no_list = subst (λ (b : AffineForm × AffineForm). ¬ HasShortList (rows_before (meaning c.args.program.now) (take c.loop-k.k c.args.bounds.now))
          (range_goal (length c.args.program.now.params + length (take c.loop-k.k c.args.bounds.now)) b)) here none;
    } in
    subst (IsFirstNotShown (meaning c.args.program.now) c.args.bounds.now) same first

pub loop-k-preserved : goal.loop-k-preserved
loop-k-preserved c =
    let here : c.index-bounds-k.result ≡ bounds_at c.args.bounds.now c.loop-k.k = get_or_read c.args.bounds.now c.loop-k.k c.index-bounds-k.result c.loop-k-test.true c.index-bounds-k.is _ in
    let shows : ShowsRange (meaning c.args.program.now) (take c.loop-k.k c.args.bounds.now) c.index-bounds-k.result c.in-Some.multipliers
    = subst (λ (found : Option FarkasMultipliers). IfSome found (ShowsRange (meaning c.args.program.now) (take c.loop-k.k c.args.bounds.now) c.index-bounds-k.result)) c.in-Some.is c.in_ok-multipliers.ensures.some in
    rw c.in_ok-put_last.ensures (record {
      many = omega (arith, length-append c.loop-k.shown.items (c.in-Some.multipliers ∷ []), c.loop-k.invariant.many);
      shown = shown-more (meaning c.args.program.now) c.args.bounds.now c.loop-k.shown.items c.in-Some.multipliers c.loop-k.k c.loop-k.invariant.many c.loop-k.invariant.shown
          (subst (λ (b : AffineForm × AffineForm). ShowsRange (meaning c.args.program.now) (take c.loop-k.k c.args.bounds.now) b c.in-Some.multipliers) here shows);
    })
