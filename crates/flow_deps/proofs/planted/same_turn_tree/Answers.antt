use Rattle.std.proofs.Common.{◌≡◌, ◌∙◌, subst, ℕ, List, [], length, arith}
use Rattle.iolb_model.specs.Form.{AffineForm}
use Rattle.iolb_model.specs.Order.{common_loops}
use Rattle.iolb_model.specs.declared.limits.TheConstants.{TREE_TESTS}
use Rattle.std.proofs.lemmas.List.{length-map}
use Rattle.affine_program.specs.Parts.{meaning, statement_of}
use Rattle.claims.proofs.Found.{IfOk-then}
use Rattle.dep_quast.specs.Views.{read_of}
use Rattle.dep_quast.proofs.Fits.{common-few}
use Rattle.flow_deps.specs.declared.candidate.Candidate.TheVariants.{SameTurn}
use Rattle.flow_deps.specs.declared.wanted.Wanted.TheVariants.{Short}
use Rattle.flow_deps.specs.Shapes.{Shape, last_write}
use Rattle.flow_deps.specs.Candidates.{first_values, point_from, candidate_shape}
use Rattle.flow_deps.specs.Shown.{FindsTree}
use Rattle.flow_deps.proofs.PointLaws.{point-none, point-some}
use Rattle.flow_deps.proofs.ShownLeaves.{source-not}
use Rattle.flow_deps.proofs.planted.same_turn_tree.Goals as goal

pub returns-in_default : goal.returns-in_default
returns-in_default c =
    let program = meaning c.args.program.now in
    let reader = read_of c.args.reader in
    let level : ℕ = length (common_loops program c.args.writer reader.statement) in
    let given : List AffineForm = first_values program reader level in
    let none = point-none program reader c.args.writer given c.in_ok-point.field-0 c.in_default.is c.in_ok-point.ensures in
    source-not program reader [] c.params-params.ensures.kept.well_formed c.requires.read TREE_TESTS c.args.writer level (point_from program reader c.args.writer given) (λ aimed. none aimed.there.forms)

pub overflow_cast-level : goal.overflow_cast-level
overflow_cast-level c =
    let few = common-few c.args.program.now c.params-params.ensures.kept c.args.writer c.args.reader.statement
    (omega (arith, c.requires.fits.0.0, length-map c.args.program.now.statements statement_of)) in
    omega (arith, few, c.common-level.ensures)

pub returns : goal.returns
returns c =
    let program = meaning c.args.program.now in
    let reader = read_of c.args.reader in
    let given : List AffineForm = first_values program reader (length (common_loops program c.args.writer reader.statement)) in
    let is_point = point-some program reader c.args.writer given c.in_ok-point.field-0 c.in-Some.point c.in-Some.is c.in_ok-point.ensures in
    let claimed = c.unshown-claimed.result in
    let levels = c.unshown-claimed.ensures.1 ∙ c.common-level.ensures in
    let points = c.unshown-claimed.ensures.2 ∙ c.as_slice.ensures.value ∙ is_point in
    let same : last_write claimed.statement claimed.level claimed.point.now ≡ candidate_shape program reader (SameTurn c.args.writer) = λ i. last_write (c.unshown-claimed.ensures.0 i) (levels i) (points i) in
    IfOk-then c.source_leaf.result (λ found. (nested : ℕ) → FindsTree Short program reader [] nested (last_write claimed.statement claimed.level claimed.point.now) found)
    (λ found. FindsTree Short program reader [] TREE_TESTS (candidate_shape program reader (SameTurn c.args.writer)) found) c.source_leaf.ensures
    (λ found h. subst (λ (shape : Shape). FindsTree Short program reader [] TREE_TESTS shape found) same (h TREE_TESTS))
