use Rattle.std.proofs.Common.{◌≡◌, ◌∙◌, sym, ap, subst, ℕ, List, [], ◌++◌, length, zero-add}
use Rattle.std.specs.List.{AllByRecursion}
use Rattle.iolb_model.specs.Form.{AffineForm}
use Rattle.affine_form.specs.Rows.{IsSmallOver}
use Rattle.dep_quast.specs.Context.{ReadOf, variables_at}
use Rattle.dep_quast.specs.Tree.{SelectionTree, tree_of}
use Rattle.dep_quast.specs.Truth.{TreeFits}
use Rattle.dep_quast.specs.OpenLeaves.{OpenLeaf, open_leaves, TestsFit}
use Rattle.dep_quast.specs.Quasts.{tree_or_blank, tree_for}
use Rattle.reuse_paths.specs.WalkSettings.{WalkSetting, reading_point, region_variables}
use Rattle.dep_quast.specs.Trees.{read_of}
use Rattle.reuse_paths.specs.WalkViews.{walk_of, OpenLeafFits}
use Rattle.dep_quast.proofs.OpenLeaves.{tests-fit}
use Rattle.reuse_paths.proofs.OpenLeaves.{open-fits}
use Rattle.dep_quast.proofs.TreeLemmas.{rows-fit-at}
use Rattle.reuse_paths.proofs.walk_shown.leaves_of.Goals as goal

pub push_open_leaves-requires-clause-fit : goal.push_open_leaves-requires-clause-fit
push_open_leaves-requires-clause-fit c =
    let walk : WalkSetting = walk_of c.args.walking.now in
    let reader : ReadOf = read_of c.args.reader.statement c.args.reader.read in
    let fits : TreeFits walk.program reader (tree_of c.in-Some.quast.now) =
    subst (λ (n : ℕ). TreeFits walk.program (read_of n c.args.reader.read) (tree_of c.in-Some.quast.now)) (zero-add c.args.reader.statement)
    (rows-fit-at walk.program 0 c.args.reader.statement c.args.reader.read walk.trees (tree_of c.in-Some.quast.now) c.requires.fits.trees c.in-Some.ensures) in
    let many : length c.as_slice.result.now ≡ variables_at walk.program reader = ap (λ (l : List AffineForm). length l) c.as_slice.ensures.value ∙ c.in_ok-point.ensures.many in
    subst (λ (n : ℕ). TestsFit n (tree_of c.in-Some.quast.now)) (sym many) (tests-fit walk.program reader [] (tree_of c.in-Some.quast.now) fits)

pub returns-clause-fit : goal.returns-clause-fit
returns-clause-fit c =
    let walk : WalkSetting = walk_of c.args.walking.now in
    let reader : ReadOf = read_of c.args.reader.statement c.args.reader.read in
    let tree : SelectionTree = tree_for walk.trees reader in
    let point : List AffineForm = reading_point walk c.args.reader.statement in
    let fits : TreeFits walk.program reader tree =
    subst (λ (n : ℕ). TreeFits walk.program (read_of n c.args.reader.read) tree) (zero-add c.args.reader.statement) (rows-fit-at walk.program 0 c.args.reader.statement c.args.reader.read walk.trees tree c.requires.fits.trees c.requires.there) in
    let over : AllByRecursion (IsSmallOver (region_variables walk c.args.reader.statement)) point =
    subst (AllByRecursion (IsSmallOver (region_variables walk c.args.reader.statement))) c.in_ok-point.ensures.point c.in_ok-point.ensures.over in
    let many : length point ≡ variables_at walk.program reader = ap (λ (l : List AffineForm). length l) (sym c.in_ok-point.ensures.point) ∙ c.in_ok-point.ensures.many in
    let is : c.push_open_leaves.new.leaves.items ≡ open_leaves (region_variables walk c.args.reader.statement) point [] tree =
    c.in_ok-push_open_leaves.ensures
    ∙ ap (λ (l : List OpenLeaf). l ++ open_leaves c.region_variables-vars.result c.as_slice.result.now [] (tree_of c.in-Some.quast.now)) c.new-leaves.ensures.items
    ∙ ap (λ (n : ℕ). open_leaves n c.as_slice.result.now [] (tree_of c.in-Some.quast.now)) c.region_variables-vars.ensures.variables
    ∙ ap (λ (p : List AffineForm). open_leaves (region_variables walk c.args.reader.statement) p [] (tree_of c.in-Some.quast.now)) (c.as_slice.ensures.value ∙ c.in_ok-point.ensures.point)
    ∙ ap (open_leaves (region_variables walk c.args.reader.statement) point []) (sym (ap tree_or_blank c.in-Some.ensures)) in
    subst (AllByRecursion (OpenLeafFits walk c.args.reader.statement)) (sym is) (open-fits walk reader over [] [] tree fits many tt)
