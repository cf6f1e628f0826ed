use Rattle.std.proofs.Common.{subst}
use Rattle.affine_program.specs.Parts.{meaning}
use Rattle.flow_deps.specs.declared.wanted.Wanted.TheVariants.{Short}
use Rattle.flow_deps.proofs.AnswerLaws.{found-none, found-some}
use Rattle.claims.proofs.Found.{IfOk-then}
use Rattle.dep_quast.specs.Context.{ReadOf}
use Rattle.dep_quast.specs.Tree.{SelectionTree, tree_of}
use Rattle.dep_quast.specs.Views.{read_of}
use Rattle.flow_deps.specs.Plain.{IsPlain}
use Rattle.find_terms.specs.Found.{FindsOutline, FindsTerm}
use Rattle.cold_terms.specs.Outline.{outline_of}
use Rattle.find_terms.specs.Shown.{FindsCold}
use Rattle.find_terms.proofs.TermLaws.{outline-tests, term-found}
use Rattle.find_terms.proofs.openings.opening_term.Goals as goal

pub returns-in_default : goal.returns-in_default
returns-in_default c =
    let none = subst (FindsOutline (meaning c.args.program.now) (read_of c.args.reader)) c.in_default.is c.in_ok-outline.ensures in
    λ plain. none plain.0 plain.1.outline plain.1.shown.small.bounds plain.1.shown.small.point

pub returns-in_default-2 : goal.returns-in_default-2
returns-in_default-2 c =
    let program = meaning c.args.program.now in
    let reader : ReadOf = read_of c.args.reader in
    let none = found-none c.in_ok-quast.field-0 ((tree : SelectionTree) → ¬ IsPlain program reader tree) (λ quast. IsPlain program reader (tree_of quast)) c.in_default-2.is c.in_ok-quast.ensures in
    λ plain. none plain.1.tree plain.1.plain

pub filled-requires-clause-fits : goal.filled-requires-clause-fits
filled-requires-clause-fits c = (subst (FindsOutline (meaning c.args.program.now) (read_of c.args.reader)) c.in-Some.is c.in_ok-outline.ensures).0

pub filled-requires-clause-tests : goal.filled-requires-clause-tests
filled-requires-clause-tests c =
    let program = meaning c.args.program.now in
    let reader : ReadOf = read_of c.args.reader in
    let some = subst (FindsOutline program reader) c.in-Some.is c.in_ok-outline.ensures in
    let plain = found-some c.in_ok-quast.field-0 c.in-Some-2.quast ((tree : SelectionTree) → ¬ IsPlain program reader tree) (λ quast. IsPlain program reader (tree_of quast)) c.in-Some-2.is c.in_ok-quast.ensures in
    outline-tests program reader (tree_of c.in-Some-2.quast) (outline_of c.in-Some.outline) some.1.0 plain some.1.1 some.1.2

pub returns : goal.returns
returns c =
    let program = meaning c.args.program.now in
    let reader : ReadOf = read_of c.args.reader in
    let some = subst (FindsOutline program reader) c.in-Some.is c.in_ok-outline.ensures in
    let plain = found-some c.in_ok-quast.field-0 c.in-Some-2.quast ((tree : SelectionTree) → ¬ IsPlain program reader tree) (λ quast. IsPlain program reader (tree_of quast)) c.in-Some-2.is c.in_ok-quast.ensures in
    IfOk-then c.filled.result (FindsCold Short program (tree_of c.in-Some-2.quast) (outline_of c.in-Some.outline)) (FindsTerm program reader) c.filled.ensures
    (term-found program reader (tree_of c.in-Some-2.quast) (outline_of c.in-Some.outline) some.1.0 plain some.1.1 some.1.2 c.requires)
