use Rattle.std.proofs.Common.{◌≡◌, ◌∙◌, ◌++◌, ◌∷◌, [], ap, sym, subst, ℕ, suc, ◌-◌, ◌≤◌, List, length, arith}
use Rattle.std.specs.List.{AllByRecursion}
use Rattle.std.proofs.lemmas.List.{append-nil, length-map}
use Rattle.iolb_model.specs.Form.{AffineForm}
use Rattle.iolb_model.specs.declared.limits.TheConstants.{TREE_TESTS}
use Rattle.affine_form.specs.Rows.{IsSmallOver}
use Rattle.affine_program.specs.Parts.{meaning, statement_of}
use Rattle.dep_quast.specs.Context.{variables_at, no_row}
use Rattle.dep_quast.specs.Tree.{test, tree_of}
use Rattle.dep_quast.specs.Views.{read_of}
use Rattle.dep_quast.specs.declared.quast.Quast.{Quast}
use Rattle.flow_deps.specs.Shown.{Stands}
use Rattle.flow_deps.specs.Shown.{IsLeafUnder}
use Rattle.flow_deps.proofs.AnswerLaws.{some-has}
use Rattle.flow_deps.proofs.StandingLaws.{context-few, blank-stands, test-stands}
use Rattle.flow_deps.proofs.GrownLaws.{none-there}
use Rattle.flow_deps.proofs.growth.+growth.Goals as goal

pub grown-returns-in-Some-clause-stands : goal.grown-returns-in-Some-clause-stands
grown-returns-in-Some-clause-stands t c =
    (some-has c.in_ok-leaf.field-0 c.in-Some.leaf (λ leaf. IsLeafUnder (meaning c.args.program.now) (read_of c.args.reader) c.args.tests.now (tree_of leaf)) c.in-Some.is c.in_ok-leaf.ensures).stands c.args.nested

pub grown-returns-clause-stands : goal.grown-returns-clause-stands
grown-returns-clause-stands t c =
    let few : length c.args.tests.now ≤ TREE_TESTS = omega (arith, c.requires.room) in
    blank-stands (meaning c.args.program.now) (read_of c.args.reader) c.args.tests.now c.args.nested (context-few c.args.program.now c.params-params.ensures.kept (read_of c.args.reader) c.args.tests.now
    (omega (arith, c.requires.read.statement, length-map c.args.program.now.statements statement_of)) few)

pub split-returns-in_default-clause-stands : goal.split-returns-in_default-clause-stands
split-returns-in_default-clause-stands t c =
    let program = meaning c.args.program.now in
    let reader = read_of c.args.reader in
    let same = ap (λ (gs : List AffineForm). c.args.tests.now ++ gs) (none-there c.args.guards.now c.in_default.ensures.cases) ∙ append-nil c.args.tests.now in
    subst (λ (tests : List AffineForm). Stands program reader tests c.args.nested (tree_of c.args.leaf)) same (c.requires.leaf.stands c.args.nested)

pub split-returns-clause-stands : goal.split-returns-clause-stands
split-returns-clause-stands t c =
    let program = meaning c.args.program.now in
    let reader = read_of c.args.reader in
    let tests : List AffineForm = c.args.tests.now in
    let form : AffineForm = c.in-Some.form.now in
    let left : ℕ = c.args.nested - 1 in
    let guards = subst (AllByRecursion (IsSmallOver (variables_at program reader))) c.in-Some.ensures.cases.0 c.requires.guards in
    let above : Stands program reader (tests ++ form ∷ []) left (tree_of c.in_ok-yes.yes) =
    subst (λ (ts : List AffineForm). Stands program reader ts left (tree_of c.in_ok-yes.yes)) (c.as_slice-2.ensures.value ∙ c.in_ok-above.ensures) c.in_ok-yes.ensures.stands in
    let below : Stands program reader (tests ++ no_row (variables_at program reader) form ∷ []) left (tree_of c.in_ok-no.no) =
    subst (λ (ts : List AffineForm). Stands program reader ts left (tree_of c.in_ok-no.no)) (c.as_slice.ensures.value ∙ c.in_ok-below.ensures.tests) c.in_ok-no.ensures.stands in
    let stands = test-stands program reader tests left form (tree_of c.in_ok-yes.yes) (tree_of c.in_ok-no.no) guards.0 above below in
    let nested : suc left ≡ c.args.nested = omega (arith, c.requires.few_guards, ap length c.in-Some.ensures.cases.0) in
    subst (λ (n : ℕ). Stands program reader tests n (test c.in_ok-try_clone.field-0 (tree_of c.in_ok-new.field-0.value) (tree_of c.in_ok-new-2.field-0.value))) nested
    (subst (λ (f : AffineForm). Stands program reader tests (suc left) (test f (tree_of c.in_ok-new.field-0.value) (tree_of c.in_ok-new-2.field-0.value))) (sym c.in_ok-try_clone.ensures)
    (subst (λ (q : Quast). Stands program reader tests (suc left) (test form (tree_of q) (tree_of c.in_ok-new-2.field-0.value))) (sym c.in_ok-new.ensures.ok)
    (subst (λ (q : Quast). Stands program reader tests (suc left) (test form (tree_of c.in_ok-yes.yes) (tree_of q))) (sym c.in_ok-new-2.ensures.ok) stands)))
