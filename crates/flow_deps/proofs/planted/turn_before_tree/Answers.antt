use Rattle.std.proofs.Common.{◌≡◌, ◌∙◌, ◌++◌, ◌∷◌, [], ap, sym, subst, ℕ, List, arith}
use Rattle.iolb_model.specs.Form.{AffineForm}
use Rattle.iolb_model.specs.declared.limits.TheConstants.{TREE_TESTS, NUMBER_SIZE}
use Rattle.affine_form.specs.Form.{IsSmallForm}
use Rattle.affine_program.specs.Parts.{meaning}
use Rattle.claims.proofs.Found.{IfOk-then}
use Rattle.dep_quast.specs.Views.{read_of}
use Rattle.dep_quast.proofs.Fits.{common-second}
use Rattle.flow_deps.specs.declared.candidate.Candidate.TheVariants.{TurnBefore}
use Rattle.flow_deps.specs.declared.wanted.Wanted.TheVariants.{Short}
use Rattle.flow_deps.specs.Shapes.{Shape, last_write, no_write, split}
use Rattle.flow_deps.specs.Candidates.{first_values, turn_before, later_turn, point_from, candidate_shape, FindsPoint}
use Rattle.flow_deps.specs.Shown.{FindsTree}
use Rattle.flow_deps.proofs.PointLaws.{point-none, point-some, not-both}
use Rattle.flow_deps.proofs.ShownLeaves.{source-not}
use Rattle.flow_deps.proofs.ShownTrees.{split-sides}
use Rattle.flow_deps.proofs.planted.turn_before_tree.Goals as goal

pub later_turn-requires-clause-there : goal.later_turn-requires-clause-there
later_turn-requires-clause-there c =
    let is = c.params-params.ensures.kept in
    omega (arith, c.from.ensures, c.requires.fits.1, common-second (meaning c.args.program.now) c.args.writer c.args.reader.statement is.well_formed c.requires.read.statement)

pub returns-then-not-is_small_form : goal.returns-then-not-is_small_form
returns-then-not-is_small_form c =
    let program = meaning c.args.program.now in
    let reader = read_of c.args.reader in
    let form : c.in_ok-form.form ≡ later_turn program reader c.args.level = c.in_ok-form.ensures.form ∙ ap (later_turn program reader) c.from.ensures in
    let point : List AffineForm = point_from program reader c.args.writer (first_values program reader c.args.level ++ turn_before program reader c.args.level ∷ []) in
    λ tree h. let sides = split-sides program reader [] 15 (later_turn program reader c.args.level) (last_write c.args.writer c.args.level point) no_write tree h in
    not-both c.is_small_form.result c.if-not-is_small_form.true (c.is_small_form.ensures.1 (subst (IsSmallForm NUMBER_SIZE) (sym form) sides.small.small))

pub returns-in_default : goal.returns-in_default
returns-in_default c =
    let program = meaning c.args.program.now in
    let reader = read_of c.args.reader in
    let given : List AffineForm = first_values program reader c.args.level ++ turn_before program reader c.args.level ∷ [] in
    let point : List AffineForm = point_from program reader c.args.writer given in
    let finds = subst (λ (level : ℕ). FindsPoint program reader c.args.writer (first_values program reader level ++ turn_before program reader level ∷ []) c.in_ok-point.field-0) c.from-2.ensures c.in_ok-point.ensures in
    let none = point-none program reader c.args.writer given c.in_ok-point.field-0 c.in_default.is finds in
    λ tree h. let sides = split-sides program reader [] 15 (later_turn program reader c.args.level) (last_write c.args.writer c.args.level point) no_write tree h in
    source-not program reader (later_turn program reader c.args.level ∷ []) c.params-params.ensures.kept.well_formed c.requires.read 15 c.args.writer c.args.level point (λ aimed. none aimed.there.forms)
    sides.above sides.yes

pub returns : goal.returns
returns c =
    let program = meaning c.args.program.now in
    let reader = read_of c.args.reader in
    let given : List AffineForm = first_values program reader c.args.level ++ turn_before program reader c.args.level ∷ [] in
    let form : c.in_ok-form.form ≡ later_turn program reader c.args.level = c.in_ok-form.ensures.form ∙ ap (later_turn program reader) c.from.ensures in
    let finds = subst (λ (level : ℕ). FindsPoint program reader c.args.writer (first_values program reader level ++ turn_before program reader level ∷ []) c.in_ok-point.field-0) c.from-2.ensures c.in_ok-point.ensures in
    let is_point = point-some program reader c.args.writer given c.in_ok-point.field-0 c.in-Some.point c.in-Some.is finds in
    let claimed = c.unshown-claimed.result in
    let points = c.unshown-claimed.ensures.2 ∙ c.as_slice.ensures.value ∙ is_point in
    let found_shape : Shape = split c.in_ok-form.form (last_write claimed.statement claimed.level claimed.point.now) no_write in
    let same : found_shape ≡ candidate_shape program reader (TurnBefore c.args.level c.args.writer) =
    λ i. split (form i) (last_write (c.unshown-claimed.ensures.0 i) (c.unshown-claimed.ensures.1 i) (points i)) no_write in
    IfOk-then c.split_tree.result (λ found. FindsTree Short program reader [] TREE_TESTS found_shape found)
    (λ found. FindsTree Short program reader [] TREE_TESTS (candidate_shape program reader (TurnBefore c.args.level c.args.writer)) found) c.split_tree.ensures
    (λ found h. subst (λ (shape : Shape). FindsTree Short program reader [] TREE_TESTS shape found) same h)
