use Rattle.std.proofs.Common.{◌≡◌, ◌∙◌, ap, subst, map, List}
use Rattle.std.specs.Prelude.{MatchOption}
use Rattle.affine_program.specs.Parts.{meaning}
use Rattle.claims.proofs.Found.{IfOk-then}
use Rattle.dep_quast.specs.Context.{ReadOf}
use Rattle.dep_quast.specs.Tree.{SelectionTree, tree_of}
use Rattle.flow_deps.specs.Shapes.{Shape}
use Rattle.flow_deps.specs.Candidates.{candidate_shape, candidates}
use Rattle.flow_deps.specs.Plain.{IsFirstShown, IsPlain}
use Rattle.flow_deps.proofs.plain_trees.plain.Goals as goal

pub returns : goal.returns
returns c =
    let program = meaning c.args.program.now in
    let reader : ReadOf = record { statement = c.args.statement; read = c.args.read } in
    let same : map (candidate_shape program reader) c.as_slice.result.now ≡ map (candidate_shape program reader) (candidates program reader) =
    ap (map (candidate_shape program reader)) (c.as_slice.ensures.value ∙ c.in_ok-all.ensures.candidates) in
    let shapes : List Shape = map (candidate_shape program reader) c.as_slice.result.now in
    IfOk-then c.first_planted.result
    (λ found. MatchOption found ((tree : SelectionTree) → ¬ IsFirstShown program reader shapes tree) (λ quast. IsFirstShown program reader shapes (tree_of quast)))
    (λ found. MatchOption found ((tree : SelectionTree) → ¬ IsPlain program reader tree) (λ quast. IsPlain program reader (tree_of quast))) c.first_planted.ensures
    (λ found h. subst (λ (ss : List Shape). MatchOption found ((tree : SelectionTree) → ¬ IsFirstShown program reader ss tree) (λ quast. IsFirstShown program reader ss (tree_of quast))) same h)
