use Rattle.std.proofs.Common.{◌∙◌, ◌≤◌, ap, sym, subst, ℕ, [], arith}
use Rattle.iolb_model.specs.Program.{Access}
use Rattle.affine_program.specs.Parts.{meaning}
use Rattle.flow_deps.specs.declared.wanted.Wanted.TheVariants.{Short}
use Rattle.claims.proofs.Found.{IfOk-then}
use Rattle.dep_quast.specs.Tree.{tree_of}
use Rattle.projective.specs.SourceTrees.{read_number, turns_shape, IsSourceTree}
use Rattle.projective.proofs.CodeLaws.{unwritten-tree, written-tree}
use Rattle.flow_deps.specs.Shapes.{no_write}
use Rattle.flow_deps.specs.Shown.{IsShown}
use Rattle.projective.proofs.trees.source_tree.Goals as goal

pub returns-then-reference-written : goal.returns-then-reference-written
returns-then-reference-written c =
    let program = meaning c.args.program.now in
    let reads = ap (λ (a : Access). a.array) c.reference.ensures in
    let writes = ap (λ (a : Access). a.array) c.written.ensures in
    IfOk-then c.unwritten_leaf.result (λ quast. (nested : ℕ) → IsShown Short program (read_number c.args.read) [] nested no_write (tree_of quast)) (λ quast. IsSourceTree program c.args.read (tree_of quast))
    c.unwritten_leaf.ensures (λ quast h. unwritten-tree program c.args.read (tree_of quast) (λ e. c.if-reference-written.true (reads ∙ e ∙ sym writes)) h)

pub returns : goal.returns
returns c =
    let program = meaning c.args.program.now in
    let reads = ap (λ (a : Access). a.array) c.reference.ensures in
    let writes = ap (λ (a : Access). a.array) c.written.ensures in
    let all = c.depth.ensures.depth in
    IfOk-then c.turns.result (λ quast. (nested : ℕ) → c.depth.result ≤ nested → IsShown Short program (read_number c.args.read) [] nested (turns_shape program c.depth.result) (tree_of quast))
    (λ quast. IsSourceTree program c.args.read (tree_of quast)) c.turns.ensures
    (λ quast h. written-tree program c.args.read (tree_of quast) (sym reads ∙ c.if-reference-written.false ∙ writes) (subst (λ (k : ℕ). k ≤ 6) all (omega (arith, c.depth.ensures.few)))
    (subst (λ (k : ℕ). (nested : ℕ) → k ≤ nested → IsShown Short program (read_number c.args.read) [] nested (turns_shape program k) (tree_of quast)) all h))
