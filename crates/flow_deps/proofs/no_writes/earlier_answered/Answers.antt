use Rattle.std.proofs.Common.{◌≡◌, ◌∙◌, ap, subst, ℕ, List, map, take, get_or, ◌+◌, refl}
use Rattle.std.specs.Prelude.{flat_map}
use Rattle.iolb_model.specs.Form.{AffineForm}
use Rattle.iolb_model.specs.Program.{Access}
use Rattle.affine_form.specs.System.{AffineSystem}
use Rattle.affine_program.specs.Parts.{meaning}
use Rattle.dep_quast.specs.Context.{before_reader, earlier_write, reference_of}
use Rattle.dep_quast.specs.Levels.{levels, writers}
use Rattle.dep_quast.specs.Views.{read_of}
use Rattle.flow_deps.specs.Answers.{Answers, HasNoShort, pointless}
use Rattle.flow_deps.proofs.AnswerLaws.{found-none, found-some, systems-more, none-among, flat-take-more}
use Rattle.flow_deps.proofs.no_writes.earlier_answered.Goals as goal

pub returns-in_default : goal.returns-in_default
returns-in_default c =
    let program = meaning c.args.program.now in
    let reader = read_of c.args.reader in
    let xs : List ℕ = c.as_slice-writer-items.result.now in
    let x : ℕ = get_or xs c.loop-writer.writer-index 0 in
    let h : ℕ → List AffineForm → List AffineSystem = λ writer rows. map (before_reader program reader writer rows) (levels program writer reader.statement) in
    let g : ℕ → List AffineSystem = λ writer. map (earlier_write program reader c.args.rows.now writer) (levels program writer reader.statement) in
    let all_of : xs ≡ writers program (reference_of program reader).array =
    c.as_slice-writer-items.ensures.value ∙ c.in_ok-found.ensures.writers ∙ ap (λ (a : Access). writers program a.array) c.reference.ensures in
    subst (λ (ws : List ℕ). HasNoShort (map pointless (flat_map g ws))) all_of
    (none-among g xs c.loop-writer.writer-index x c.loop-writer-test.true refl
    (subst (λ (rows : List AffineForm). HasNoShort (map pointless (h x rows))) (c.as_slice.ensures.value ∙ c.in_ok-written.ensures.rows)
    (found-none c.in_ok-more.field-0 (HasNoShort (map pointless (h x c.as_slice.result.now))) (λ all. Answers c.args.wanted (map pointless (h x c.as_slice.result.now)) all.items) c.in_default.is c.in_ok-more.ensures)))

pub loop-writer-preserved : goal.loop-writer-preserved
loop-writer-preserved c =
    let program = meaning c.args.program.now in
    let reader = read_of c.args.reader in
    let xs : List ℕ = c.as_slice-writer-items.result.now in
    let x : ℕ = get_or xs c.loop-writer.writer-index 0 in
    let h : ℕ → List AffineForm → List AffineSystem = λ writer rows. map (before_reader program reader writer rows) (levels program writer reader.statement) in
    let g : ℕ → List AffineSystem = λ writer. map (earlier_write program reader c.args.rows.now writer) (levels program writer reader.statement) in
    let some : Answers c.args.wanted (map pointless (g x)) c.in-Some.more.items =
    subst (λ (rows : List AffineForm). Answers c.args.wanted (map pointless (h x rows)) c.in-Some.more.items) (c.as_slice.ensures.value ∙ c.in_ok-written.ensures.rows)
    (found-some c.in_ok-more.field-0 c.in-Some.more (HasNoShort (map pointless (h x c.as_slice.result.now))) (λ all. Answers c.args.wanted (map pointless (h x c.as_slice.result.now)) all.items) c.in-Some.is c.in_ok-more.ensures) in
    systems-more c.args.wanted (flat_map g (take c.loop-writer.writer-index xs)) (g x) (flat_map g (take (c.loop-writer.writer-index + 1) xs)) c.loop-writer.all.items c.in-Some.more.items c.in_ok-all.all.items
    c.loop-writer.invariant some (flat-take-more g xs c.loop-writer.writer-index x c.loop-writer-test.true refl) c.in_ok-all.ensures
