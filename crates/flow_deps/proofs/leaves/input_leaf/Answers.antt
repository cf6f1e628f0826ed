use Rattle.std.proofs.Common.{◌∙◌, ap, subst, ◌≤◌, List, length, map, arith}
use Rattle.iolb_model.specs.Form.{AffineForm}
use Rattle.iolb_model.specs.declared.limits.TheConstants.{ROWS}
use Rattle.affine_program.specs.Parts.{meaning}
use Rattle.dep_quast.specs.Context.{context, earlier_writes}
use Rattle.dep_quast.specs.Views.{read_of}
use Rattle.flow_deps.specs.Answers.{Answers, HasNoShort, pointless}
use Rattle.flow_deps.proofs.AnswerLaws.{found-none, found-some}
use Rattle.flow_deps.proofs.ShownLeaves.{input-shown, many-rows-input, earlier-not}
use Rattle.flow_deps.proofs.leaves.input_leaf.Goals as goal

pub returns-then-len-gt-ROWS : goal.returns-then-len-gt-ROWS
returns-then-len-gt-ROWS c =
    let program = meaning c.args.program.now in
    let reader = read_of c.args.reader in
    λ nested. many-rows-input program reader c.args.tests.now nested
    (λ (few : length (context program reader c.args.tests.now) ≤ ROWS). omega (arith, few, ap length c.in_ok-rows.ensures.rows, c.if-len-gt-ROWS.true, c.len.ensures))

pub returns-in_default : goal.returns-in_default
returns-in_default c =
    let program = meaning c.args.program.now in
    let reader = read_of c.args.reader in
    let none : HasNoShort (map pointless (earlier_writes program reader (context program reader c.args.tests.now))) =
    subst (λ (rows : List AffineForm). HasNoShort (map pointless (earlier_writes program reader rows))) (c.as_slice.ensures.value ∙ c.in_ok-rows.ensures.rows)
    (found-none c.in_ok-earlier.field-0 (HasNoShort (map pointless (earlier_writes program reader c.as_slice.result.now))) (λ all. Answers c.args.wanted (map pointless (earlier_writes program reader c.as_slice.result.now)) all.items)
    c.in_default.is c.in_ok-earlier.ensures) in
    λ nested. earlier-not program reader c.args.tests.now nested none

pub returns : goal.returns
returns c =
    let program = meaning c.args.program.now in
    let reader = read_of c.args.reader in
    let few : length (context program reader c.args.tests.now) ≤ ROWS = omega (arith, ap length c.in_ok-rows.ensures.rows, c.if-len-gt-ROWS.false, c.len.ensures) in
    let earlier : Answers c.args.wanted (map pointless (earlier_writes program reader (context program reader c.args.tests.now))) c.in-Some.earlier.items =
    subst (λ (rows : List AffineForm). Answers c.args.wanted (map pointless (earlier_writes program reader rows)) c.in-Some.earlier.items) (c.as_slice.ensures.value ∙ c.in_ok-rows.ensures.rows)
    (found-some c.in_ok-earlier.field-0 c.in-Some.earlier (HasNoShort (map pointless (earlier_writes program reader c.as_slice.result.now)))
    (λ all. Answers c.args.wanted (map pointless (earlier_writes program reader c.as_slice.result.now)) all.items) c.in-Some.is c.in_ok-earlier.ensures) in
    λ nested. input-shown c.args.wanted program reader c.args.tests.now nested c.in-Some.earlier.items few earlier
