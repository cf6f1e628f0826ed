use Rattle.std.proofs.Common.{◌≡◌, ◌∙◌, ◌++◌, ◌∷◌, [], ap, subst, List, length, arith}
use Rattle.std.proofs.lemmas.List.{length-append}
use Rattle.iolb_model.specs.Form.{AffineForm}
use Rattle.affine_program.specs.Parts.{meaning}
use Rattle.claims.proofs.Found.{IfOk-then}
use Rattle.dep_quast.specs.Views.{read_of}
use Rattle.dep_quast.proofs.Fits.{all-there, common-first, common-second}
use Rattle.flow_deps.specs.Candidates.{first_values, turn_before, FindsPoint}
use Rattle.flow_deps.proofs.planted.turn_before_point.Goals as goal

pub first_values-requires-clause-few : goal.first_values-requires-clause-few
first_values-requires-clause-few c =
    let is = c.params-params.ensures.kept in
    omega (arith, c.requires.inside, common-second (meaning c.args.program.now) c.args.writer c.args.reader.statement is.well_formed c.requires.read.statement)

pub turn_before-requires-clause-there : goal.turn_before-requires-clause-there
turn_before-requires-clause-there c =
    let is = c.params-params.ensures.kept in
    omega (arith, c.requires.inside, common-second (meaning c.args.program.now) c.args.writer c.args.reader.statement is.well_formed c.requires.read.statement)

pub point_from-requires-clause-few : goal.point_from-requires-clause-few
point_from-requires-clause-few c =
    let is = c.params-params.ensures.kept in
    omega (
      arith,
      ap length c.in_ok-push.ensures.items,
      length-append c.in_ok-given.given.items (c.in_ok-turn_before.field-0 ∷ []),
      c.in_ok-given.ensures.many,
      c.requires.inside,
      common-first (meaning c.args.program.now) c.args.writer c.args.reader.statement is.well_formed (all-there c.args.program.now is c.args.writer c.requires.writer),
    )

pub returns : goal.returns
returns c =
    let program = meaning c.args.program.now in
    let reader = read_of c.args.reader in
    let given : c.push.new.self.items ≡ first_values program reader c.args.level ++ turn_before program reader c.args.level ∷ [] =
    c.in_ok-push.ensures.items ∙ ap (λ (xs : List AffineForm). xs ++ c.in_ok-turn_before.field-0 ∷ []) c.in_ok-given.ensures.values
    ∙ ap (λ (x : AffineForm). first_values program reader c.args.level ++ x ∷ []) c.in_ok-turn_before.ensures.value in
    IfOk-then c.point_from.result (λ found. FindsPoint program reader c.args.writer c.push.new.self.items found)
    (λ found. FindsPoint program reader c.args.writer (first_values program reader c.args.level ++ turn_before program reader c.args.level ∷ []) found) c.point_from.ensures
    (λ found h. subst (λ (values : List AffineForm). FindsPoint program reader c.args.writer values found) given h)
