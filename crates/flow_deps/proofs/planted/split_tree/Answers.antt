use Rattle.std.proofs.Common.{◌∙◌, sym, subst, ◌∷◌, [], List}
use Rattle.iolb_model.specs.Form.{AffineForm}
use Rattle.affine_program.specs.Parts.{meaning}
use Rattle.dep_quast.specs.Context.{variables_at, no_row}
use Rattle.dep_quast.specs.Tree.{test, tree_of}
use Rattle.dep_quast.specs.Views.{read_of}
use Rattle.dep_quast.specs.declared.quast.Quast.{Quast}
use Rattle.flow_deps.specs.declared.wanted.Wanted.TheVariants.{Short}
use Rattle.flow_deps.specs.Shapes.{Shape, last_write, no_write, split}
use Rattle.flow_deps.specs.Shown.{IsShown, IsNotShown}
use Rattle.flow_deps.proofs.ShownTrees.{split-shown, split-sides, finds-none, finds-some}
use Rattle.flow_deps.proofs.planted.split_tree.Goals as goal

pub returns-in_default : goal.returns-in_default
returns-in_default c =
    let program = meaning c.args.program.now in
    let reader = read_of c.args.reader in
    let aim = c.args.claimed.now in
    let shape : Shape = last_write aim.statement aim.level aim.point.now in
    let none : IsNotShown program reader (c.args.form ∷ []) 15 shape =
    subst (λ (tests : List AffineForm). IsNotShown program reader tests 15 shape) (c.as_slice.ensures.value ∙ c.in_ok-above.ensures)
    (finds-none Short program reader c.as_slice.result.now 15 shape c.in_ok-yes.field-0 c.in_default.is (c.in_ok-yes.ensures 15)) in
    λ tree h. let sides = split-sides program reader [] 15 c.args.form shape no_write tree h in none sides.above sides.yes

pub returns-in_default-2 : goal.returns-in_default-2
returns-in_default-2 c =
    let program = meaning c.args.program.now in
    let reader = read_of c.args.reader in
    let aim = c.args.claimed.now in
    let shape : Shape = last_write aim.statement aim.level aim.point.now in
    let none : IsNotShown program reader (no_row (variables_at program reader) c.args.form ∷ []) 15 no_write =
    subst (λ (tests : List AffineForm). IsNotShown program reader tests 15 no_write) (c.as_slice-2.ensures.value ∙ c.in_ok-below.ensures.tests)
    (finds-none Short program reader c.as_slice-2.result.now 15 no_write c.in_ok-no.field-0 c.in_default-2.is (c.in_ok-no.ensures 15)) in
    λ tree h. let sides = split-sides program reader [] 15 c.args.form shape no_write tree h in none sides.below sides.no

pub returns : goal.returns
returns c =
    let program = meaning c.args.program.now in
    let reader = read_of c.args.reader in
    let aim = c.args.claimed.now in
    let shape : Shape = last_write aim.statement aim.level aim.point.now in
    let yes : IsShown Short program reader (c.args.form ∷ []) 15 shape (tree_of c.in-Some.yes) =
    subst (λ (tests : List AffineForm). IsShown Short program reader tests 15 shape (tree_of c.in-Some.yes)) (c.as_slice.ensures.value ∙ c.in_ok-above.ensures)
    (finds-some Short program reader c.as_slice.result.now 15 shape c.in_ok-yes.field-0 c.in-Some.yes c.in-Some.is (c.in_ok-yes.ensures 15)) in
    let below : IsShown Short program reader (no_row (variables_at program reader) c.args.form ∷ []) 15 no_write (tree_of c.in-Some-2.no) =
    subst (λ (tests : List AffineForm). IsShown Short program reader tests 15 no_write (tree_of c.in-Some-2.no)) (c.as_slice-2.ensures.value ∙ c.in_ok-below.ensures.tests)
    (finds-some Short program reader c.as_slice-2.result.now 15 no_write c.in_ok-no.field-0 c.in-Some-2.no c.in-Some-2.is (c.in_ok-no.ensures 15)) in
    let shown = split-shown program reader [] 15 c.args.form shape no_write Short (tree_of c.in-Some.yes) (tree_of c.in-Some-2.no) c.requires.form yes below in
    subst (λ (q : Quast). IsShown Short program reader [] 16 (split c.args.form shape no_write) (test c.args.form (tree_of q) (tree_of c.in_ok-no-2.no.value))) (sym c.in_ok-yes-2.ensures.ok)
    (subst (λ (q : Quast). IsShown Short program reader [] 16 (split c.args.form shape no_write) (test c.args.form (tree_of c.in-Some.yes) (tree_of q))) (sym c.in_ok-no-2.ensures.ok) shown)
