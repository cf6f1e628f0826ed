use Rattle.std.proofs.Common.{sym, refl, subst, List, length, map}
use Rattle.iolb_model.specs.Form.{AffineForm}
use Rattle.affine_program.specs.Parts.{meaning}
use Rattle.flow_deps.specs.declared.wanted.Wanted.TheVariants.{Short}
use Rattle.flow_deps.specs.Answers.{Answers, HasNoShort, Question, following}
use Rattle.flow_deps.proofs.AnswerLaws.{found-none, found-some}
use Rattle.cold_terms.specs.Entries.{FindsEntries}
use Rattle.cold_terms.specs.Outline.{ColdOutline, bare, outline_of}
use Rattle.dep_quast.specs.Tree.{SelectionTree, tree_of}
use Rattle.projective.specs.Products.{IsProductCount}
use Rattle.projective.specs.Projective.{AllRun}
use Rattle.wavefront.specs.declared.cold.Cold.{Cold}
use Rattle.wavefront.specs.ColdPieces.{leaves_of}
use Rattle.wavefront.specs.Term.{ColdTerm, inside_goals, nest_system, nest_variables}
use Rattle.projective_bounds.proofs.HeldColds.{cold-holds, cold-is, inside-found, leaves-found, made-fits, made-runs, made-tests}
use Rattle.projective_bounds.proofs.terms.read_cold.Goals as goal

pub inside_answered-requires : goal.inside_answered-requires
inside_answered-requires c = made-fits c.args.program.now c.params-params.ensures.kept c.requires.projective c.args.read c.requires.read (outline_of c.in_ok-outline.outline) c.in_ok-outline.ensures

pub unreachable-requires : goal.unreachable-requires
unreachable-requires c =
    let program = meaning c.args.program.now in
    let outline : ColdOutline = outline_of c.in_ok-outline.outline in
    let questions : List Question = following (nest_system program (bare outline)) (inside_goals program (bare outline)) in
    inside-found c.args.program.now c.params-params.ensures.kept c.requires.projective c.args.read c.requires.read outline c.in_ok-outline.ensures
    (found-none c.in_ok-inside.field-0 (HasNoShort questions) (λ shown. Answers Short questions shown.items) c.in_default.is c.in_ok-inside.ensures.answers)

pub leaves_closed-requires-clause-fits : goal.leaves_closed-requires-clause-fits
leaves_closed-requires-clause-fits c = made-fits c.args.program.now c.params-params.ensures.kept c.requires.projective c.args.read c.requires.read (outline_of c.in_ok-outline.outline) c.in_ok-outline.ensures

pub leaves_closed-requires-clause-tests : goal.leaves_closed-requires-clause-tests
leaves_closed-requires-clause-tests c =
    made-tests c.args.program.now c.params-params.ensures.kept c.requires.projective c.args.read c.requires.read (outline_of c.in_ok-outline.outline) c.in_ok-outline.ensures (tree_of c.args.quast.now) c.requires.tree

pub unreachable-requires-in_default-2 : goal.unreachable-requires-in_default-2
unreachable-requires-in_default-2 c =
    let program = meaning c.args.program.now in
    let tree : SelectionTree = tree_of c.args.quast.now in
    let term : ColdTerm = bare (outline_of c.in_ok-outline.outline) in
    leaves-found c.args.program.now c.params-params.ensures.kept c.requires.projective c.args.read c.requires.read (outline_of c.in_ok-outline.outline) c.in_ok-outline.ensures tree c.requires.tree
    (subst (FindsEntries Short (nest_variables program term) (nest_system program term).rows (leaves_of program tree term)) c.in_default-2.is c.in_ok-leaves.ensures)

pub product_sums-requires-clause-run : goal.product_sums-requires-clause-run
product_sums-requires-clause-run c =
    subst (λ (bounds : List (AffineForm × AffineForm)). AllRun (meaning c.args.program.now) (length c.args.program.now.params) bounds) (sym c.bounds.ensures)
    (made-runs c.args.program.now c.params-params.ensures.kept c.requires.projective c.args.read c.requires.read (outline_of c.in_ok-outline.outline) c.in_ok-outline.ensures)

pub returns-clause-is : goal.returns-clause-is
returns-clause-is c =
    let program = meaning c.args.program.now in
    let tree : SelectionTree = tree_of c.args.quast.now in
    let outline : ColdOutline = outline_of c.in_ok-outline.outline in
    let term : ColdTerm = bare outline in
    let questions : List Question = following (nest_system program term) (inside_goals program term) in
    let cold : Cold = record {
      statement = c.in_ok-outline.outline.statement;
      read = c.in_ok-outline.outline.read;
      nest = c.in_ok-outline.outline.nest;
      sums = c.in_ok-sums.sums;
      point = c.in_ok-outline.outline.point;
      inside = c.in-Some.inside;
      inverse = c.in_ok-outline.outline.inverse;
      leaves = c.in-Some-2.leaves;
    } in
    cold-is c.args.program.now c.params-params.ensures.kept c.requires.projective c.args.read c.requires.read outline c.in_ok-outline.ensures tree c.requires.tree cold refl
    (found-some c.in_ok-inside.field-0 c.in-Some.inside (HasNoShort questions) (λ shown. Answers Short questions shown.items) c.in-Some.is c.in_ok-inside.ensures.answers)
    (subst (FindsEntries Short (nest_variables program term) (nest_system program term).rows (leaves_of program tree term)) c.in-Some-2.is c.in_ok-leaves.ensures)
    (subst (λ (bounds : List (AffineForm × AffineForm)). IsProductCount program bounds c.in_ok-sums.sums) c.bounds.ensures c.in_ok-sums.ensures)

pub returns-clause-held : goal.returns-clause-held
returns-clause-held c =
    let program = meaning c.args.program.now in
    let tree : SelectionTree = tree_of c.args.quast.now in
    let outline : ColdOutline = outline_of c.in_ok-outline.outline in
    let term : ColdTerm = bare outline in
    let questions : List Question = following (nest_system program term) (inside_goals program term) in
    let cold : Cold = record {
      statement = c.in_ok-outline.outline.statement;
      read = c.in_ok-outline.outline.read;
      nest = c.in_ok-outline.outline.nest;
      sums = c.in_ok-sums.sums;
      point = c.in_ok-outline.outline.point;
      inside = c.in-Some.inside;
      inverse = c.in_ok-outline.outline.inverse;
      leaves = c.in-Some-2.leaves;
    } in
    cold-holds c.args.program.now c.params-params.ensures.kept c.requires.projective c.args.read c.requires.read outline c.in_ok-outline.ensures tree c.requires.tree cold refl
    (found-some c.in_ok-inside.field-0 c.in-Some.inside (HasNoShort questions) (λ shown. Answers Short questions shown.items) c.in-Some.is c.in_ok-inside.ensures.answers)
    (subst (FindsEntries Short (nest_variables program term) (nest_system program term).rows (leaves_of program tree term)) c.in-Some-2.is c.in_ok-leaves.ensures)
    (subst (λ (bounds : List (AffineForm × AffineForm)). IsProductCount program bounds c.in_ok-sums.sums) c.bounds.ensures c.in_ok-sums.ensures)
