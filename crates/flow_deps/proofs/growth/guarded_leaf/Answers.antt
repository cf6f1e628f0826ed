use Rattle.std.proofs.Common.{◌≤◌, ◌∙◌, ◌++◌, ap, subst, refl, List, length}
use Rattle.std.specs.List.{AllByRecursion}
use Rattle.iolb_model.specs.Form.{AffineForm}
use Rattle.affine_form.specs.Rows.{IsSmallOver}
use Rattle.affine_program.specs.Parts.{meaning}
use Rattle.dep_quast.specs.Context.{variables_at}
use Rattle.dep_quast.specs.Tree.{tree_of}
use Rattle.dep_quast.specs.Views.{read_of}
use Rattle.flow_deps.specs.declared.wanted.Wanted.TheVariants.{Any}
use Rattle.flow_deps.specs.Shapes.{last_write}
use Rattle.flow_deps.specs.Shown.{IsLeafUnder}
use Rattle.flow_deps.proofs.AnswerLaws.{some-has}
use Rattle.flow_deps.proofs.ShownTrees.{leaf-stands}
use Rattle.flow_deps.proofs.growth.guarded_leaf.Goals as goal

pub returns : goal.returns
returns c =
    let program = meaning c.args.program.now in
    let reader = read_of c.args.reader in
    let claimed = c.unshown-claimed.result in
    let under : List AffineForm = c.as_slice-4.result.now in
    let guards = some-has c.in_ok-guards.field-0 c.in-Some-2.guards (λ guards. (length guards.items ≤ c.args.room) × AllByRecursion (IsSmallOver (variables_at program reader)) guards.items) c.in-Some-2.is c.in_ok-guards.ensures in
    let leaf = some-has c.in_ok-leaf.field-0 c.in-Some-3.leaf (λ quast. IsLeafUnder program reader under (tree_of quast)) c.in-Some-3.is
    (leaf-stands Any program reader under (last_write claimed.statement claimed.level claimed.point.now) c.in_ok-leaf.field-0 refl c.in_ok-leaf.ensures) in
    let same = c.as_slice-4.ensures.value ∙ c.in_ok-under.ensures.all ∙ ap (λ (gs : List AffineForm). c.args.tests.now ++ gs) c.as_slice-2.ensures.value in
    record {
      few = guards.0;
      small = guards.1;
      leaf_stands = subst (λ (tests : List AffineForm). IsLeafUnder program reader tests (tree_of c.in-Some-3.leaf)) same leaf;
    }
