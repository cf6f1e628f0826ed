use Rattle.std.proofs.Common.{◌∙◌, subst, ℕ, List, map, ◌+◌, arith}
use Rattle.std.specs.Prelude.{flat_map}
use Rattle.std.specs.List.{range_with_len}
use Rattle.base_laws.proofs.Ranges.{flat-range-more}
use Rattle.iolb_model.specs.Form.{AffineForm}
use Rattle.affine_form.specs.System.{AffineSystem}
use Rattle.affine_program.specs.Parts.{meaning}
use Rattle.dep_quast.specs.Context.{before_reader, after_source}
use Rattle.dep_quast.specs.Levels.{levels, level_count}
use Rattle.dep_quast.specs.Views.{read_of, claim_of}
use Rattle.flow_deps.specs.Answers.{Answers, HasNoShort, pointless}
use Rattle.flow_deps.proofs.AnswerLaws.{found-none, found-some, systems-more, none-after}
use Rattle.flow_deps.proofs.no_writes.levels_between_answered.Goals as goal

pub returns-in_default : goal.returns-in_default
returns-in_default c =
    let program = meaning c.args.program.now in
    let reader = read_of c.args.reader in
    let h : List AffineForm → List AffineSystem = λ rows. map (before_reader program reader c.args.writer rows) (levels program c.args.writer reader.statement) in
    let g : ℕ → List AffineSystem = λ after. h (after_source program reader c.args.writer c.args.rows.now (claim_of c.args.claimed.now) after) in
    let after : ℕ = c.loop-after.after in
    none-after g (level_count program c.args.claimed.now.statement c.args.writer) after (omega (arith, c.loop-after-test.true, c.level_count-after-end.ensures.count))
    (subst (λ (rows : List AffineForm). HasNoShort (map pointless (h rows))) (c.as_slice.ensures.value ∙ c.in_ok-later.ensures.rows)
    (found-none c.in_ok-more.field-0 (HasNoShort (map pointless (h c.as_slice.result.now))) (λ all. Answers c.args.wanted (map pointless (h c.as_slice.result.now)) all.items) c.in_default.is c.in_ok-more.ensures))

pub loop-after-preserved : goal.loop-after-preserved
loop-after-preserved c =
    let program = meaning c.args.program.now in
    let reader = read_of c.args.reader in
    let h : List AffineForm → List AffineSystem = λ rows. map (before_reader program reader c.args.writer rows) (levels program c.args.writer reader.statement) in
    let g : ℕ → List AffineSystem = λ after. h (after_source program reader c.args.writer c.args.rows.now (claim_of c.args.claimed.now) after) in
    let after : ℕ = c.loop-after.after in
    let some : Answers c.args.wanted (map pointless (g after)) c.in-Some.more.items =
    subst (λ (rows : List AffineForm). Answers c.args.wanted (map pointless (h rows)) c.in-Some.more.items) (c.as_slice.ensures.value ∙ c.in_ok-later.ensures.rows)
    (found-some c.in_ok-more.field-0 c.in-Some.more (HasNoShort (map pointless (h c.as_slice.result.now))) (λ all. Answers c.args.wanted (map pointless (h c.as_slice.result.now)) all.items) c.in-Some.is c.in_ok-more.ensures) in
    systems-more c.args.wanted (flat_map g (range_with_len 0 after)) (g after) (flat_map g (range_with_len 0 (after + 1))) c.loop-after.all.items c.in-Some.more.items c.in_ok-all.all.items c.loop-after.invariant some
    (flat-range-more g after) c.in_ok-all.ensures
