use Rattle.std.proofs.Common.{rules, length}
use Rattle.affine_program.specs.Parts.{meaning}
use Rattle.domain_count.proofs.BoundsFit.{BoundsFit-read}
use Rattle.domain_count.proofs.RangesShown.{range-further, range-refused, ranges-ended}
use Rattle.domain_count.proofs.ranges.ranges_shown.Goals as goal

pub is_shown-requires-clause-lower : goal.is_shown-requires-clause-lower
is_shown-requires-clause-lower c =
    (BoundsFit-read (length c.args.program.now.params) c.loop-k.k c.args.bounds.now c.index-bounds-k.result c.requires.fit c.loop-k-test.true c.index-bounds-k.is).0

pub is_shown-requires-clause-upper : goal.is_shown-requires-clause-upper
is_shown-requires-clause-upper c =
    (BoundsFit-read (length c.args.program.now.params) c.loop-k.k c.args.bounds.now c.index-bounds-k.result c.requires.fit c.loop-k-test.true c.index-bounds-k.is).1

pub returns-then-not-branch : goal.returns-then-not-branch
returns-then-not-branch c =
    range-refused (meaning c.args.program.now) c.args.bounds.now c.args.shown.now c.args.place.now c.loop-k.k c.index-bounds-k.result c.index-shown-k.result
    c.loop-k-test.true c.index-bounds-k.is c.index-shown-k.is c.requires.one_each c.loop-k.invariant c.refusal.result c.in_ok-place.place
    c.in_ok-place.ensures (λ shows. let yes = c.in_ok-is_shown.ensures.1 shows in let no = c.if-not-branch.true in absurd (search rules)) c.refusal.ensures

pub loop-k-preserved : goal.loop-k-preserved
loop-k-preserved c =
    range-further (meaning c.args.program.now) c.args.bounds.now c.args.shown.now c.args.place.now c.loop-k.k c.index-bounds-k.result c.index-shown-k.result
    c.loop-k-test.true c.index-bounds-k.is c.index-shown-k.is c.requires.one_each c.loop-k.invariant (c.in_ok-is_shown.ensures.0 c.if-not-branch.false)

pub returns : goal.returns
returns c =
    ranges-ended (meaning c.args.program.now) c.args.bounds.now c.args.shown.now c.args.place.now c.loop-k.k c.loop-k-test.false c.loop-k.invariant
