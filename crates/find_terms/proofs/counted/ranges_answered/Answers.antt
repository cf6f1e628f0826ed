use Rattle.std.proofs.Common.{refl, ℕ, ◌+◌, List, [], ◌∷◌, length, take}
use Rattle.affine_program.specs.Parts.{meaning}
use Rattle.flow_deps.specs.Answers.{Answers, HasNoShort, Question, following}
use Rattle.flow_deps.proofs.AnswerLaws.{found-none, found-some}
use Rattle.domain_count.specs.Count.{range_goal, rows_before}
use Rattle.domain_count.proofs.BoundsFit.{BoundsFit-read}
use Rattle.domain_count.proofs.Front.{BoundsFit-take}
use Rattle.find_terms.proofs.CountLaws.{range-not, ranges-more}
use Rattle.find_terms.proofs.counted.ranges_answered.Goals as goal

pub range_answered-requires-clause-fit : goal.range_answered-requires-clause-fit
range_answered-requires-clause-fit c = BoundsFit-take (length c.args.program.now.params) c.loop-k.k c.args.bounds.now c.requires.fit

pub range_answered-requires-clause-lower : goal.range_answered-requires-clause-lower
range_answered-requires-clause-lower c =
    (BoundsFit-read (length c.args.program.now.params) c.loop-k.k c.args.bounds.now c.index-bounds-k.result c.requires.fit c.loop-k-test.true c.index-bounds-k.is).0

pub range_answered-requires-clause-upper : goal.range_answered-requires-clause-upper
range_answered-requires-clause-upper c =
    (BoundsFit-read (length c.args.program.now.params) c.loop-k.k c.args.bounds.now c.index-bounds-k.result c.requires.fit c.loop-k-test.true c.index-bounds-k.is).1

pub returns-in_default : goal.returns-in_default
returns-in_default c =
    let program = meaning c.args.program.now in
    let k : ℕ = c.loop-k.k in
    let before : List _ = take k c.args.bounds.now in
    let questions : List Question = following (rows_before program before) (range_goal (length c.args.program.now.params + length before) c.index-bounds-k.result ∷ []) in
    let none = found-none c.in_ok-shown.field-0 (HasNoShort questions) (λ shown. Answers c.args.wanted questions shown.items) c.in_default.is c.in_ok-shown.ensures.answers in
    (k, c.loop-k-test.true, range-not c.args.wanted program c.args.bounds.now k before c.index-bounds-k.result c.loop-k-test.true refl c.index-bounds-k.is c.in_ok-shown.ensures.few none)

pub loop-k-preserved : goal.loop-k-preserved
loop-k-preserved c =
    let program = meaning c.args.program.now in
    let k : ℕ = c.loop-k.k in
    let before : List _ = take k c.args.bounds.now in
    let questions : List Question = following (rows_before program before) (range_goal (length c.args.program.now.params + length before) c.index-bounds-k.result ∷ []) in
    let some = found-some c.in_ok-shown.field-0 c.in-Some.shown (HasNoShort questions) (λ shown. Answers c.args.wanted questions shown.items) c.in-Some.is c.in_ok-shown.ensures.answers in
    ranges-more c.args.wanted program c.args.bounds.now k before c.index-bounds-k.result c.loop-k-test.true refl c.index-bounds-k.is c.loop-k.all.items c.in-Some.shown.items _
    c.loop-k.invariant some c.in_ok-all.ensures
