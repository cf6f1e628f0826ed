use Rattle.std.proofs.Common.{◌≤◌, map, arith}
use Rattle.affine_program.specs.Parts.{meaning}
use Rattle.claims.proofs.Found.{IfOk-then}
use Rattle.dep_quast.specs.Context.{ReadOf}
use Rattle.dep_quast.specs.Tree.{SelectionTree, leaf_count, tree_of}
use Rattle.flow_deps.specs.Candidates.{candidate_shape, candidates}
use Rattle.flow_deps.specs.Plain.{IsPlain}
use Rattle.flow_deps.proofs.AnswerLaws.{found-none, found-some}
use Rattle.flow_deps.proofs.FirstShown.{first-stands, plain-few}
use Rattle.flow_deps.proofs.source_trees.quast.Goals as goal

pub returns-in-Some-clause-stands : goal.returns-in-Some-clause-stands
returns-in-Some-clause-stands c =
    let program = meaning c.args.program.now in
    let reader : ReadOf = record { statement = c.args.statement; read = c.args.read } in
    let shown = found-some c.in_ok-tree.field-0 c.in-Some.tree ((tree : SelectionTree) → ¬ IsPlain program reader tree) (λ quast. IsPlain program reader (tree_of quast)) c.in-Some.is c.in_ok-tree.ensures in
    first-stands program reader (map (candidate_shape program reader) (candidates program reader)) (tree_of c.in-Some.tree) shown

pub returns-in-Some-clause-few : goal.returns-in-Some-clause-few
returns-in-Some-clause-few c =
    let program = meaning c.args.program.now in
    let reader : ReadOf = record { statement = c.args.statement; read = c.args.read } in
    let shown = found-some c.in_ok-tree.field-0 c.in-Some.tree ((tree : SelectionTree) → ¬ IsPlain program reader tree) (λ quast. IsPlain program reader (tree_of quast)) c.in-Some.is c.in_ok-tree.ensures in
    let few = plain-few program reader (tree_of c.in-Some.tree) shown in
    omega (arith, few)

pub returns-clause-plain : goal.returns-clause-plain
returns-clause-plain c =
    let program = meaning c.args.program.now in
    let reader : ReadOf = record { statement = c.args.statement; read = c.args.read } in
    let none = found-none c.in_ok-tree.field-0 ((tree : SelectionTree) → ¬ IsPlain program reader tree) (λ quast. IsPlain program reader (tree_of quast)) c.in_default.is c.in_ok-tree.ensures in
    IfOk-then c.grown.result (λ quast. leaf_count (tree_of quast) ≤ c.from.result) (λ quast. (tree : SelectionTree) → IsPlain program reader tree → IsPlain program reader (tree_of quast)) c.grown.ensures.few
    (λ quast h tree plain. absurd (none tree plain))
