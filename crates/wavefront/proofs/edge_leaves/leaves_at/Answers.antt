use Rattle.std.proofs.Common.{sym, ◌∙◌, ap, subst, ℕ, ◌≤◌, List, [], ◌++◌, length}
use Rattle.iolb_model.specs.Form.{AffineForm}
use Rattle.affine_program.specs.Parts.{meaning}
use Rattle.dep_quast.specs.Tree.{tree_of}
use Rattle.dep_quast.specs.OpenLeaves.{OpenLeaf, open_leaves, TestsFit}
use Rattle.dep_quast.proofs.OpenLeaves.{reader-few, tests-fit}
use Rattle.wavefront.specs.FrontClaims.{front_variables}
use Rattle.wavefront.specs.FrontTerm.{user_read}
use Rattle.wavefront.specs.View.{front_of}
use Rattle.wavefront.proofs.edge_leaves.leaves_at.Goals as goal

pub push_open_leaves-requires-clause-few_forms : goal.push_open_leaves-requires-clause-few_forms
push_open_leaves-requires-clause-few_forms c =
    subst (λ (n : ℕ). n ≤ 24) (sym (ap length c.as_slice.ensures.value ∙ c.in_ok-point.ensures.many)) (reader-few c.args.program.now (user_read (front_of c.args.term.now)) c.variables-vars.ensures.kept c.requires.parts.read)

pub push_open_leaves-requires-clause-fit : goal.push_open_leaves-requires-clause-fit
push_open_leaves-requires-clause-fit c =
    subst (λ (n : ℕ). TestsFit n (tree_of c.args.quast.now)) (sym (ap length c.as_slice.ensures.value ∙ c.in_ok-point.ensures.many))
    (tests-fit (meaning c.args.program.now) (user_read (front_of c.args.term.now)) [] (tree_of c.args.quast.now) c.requires.fits.tree_fits)

pub returns : goal.returns
returns c =
    c.in_ok-push_open_leaves.ensures
    ∙ ap (λ (l : List OpenLeaf). l ++ open_leaves c.variables-vars.result c.as_slice.result.now [] (tree_of c.args.quast.now)) c.new-leaves.ensures.items
    ∙ ap (λ (n : ℕ). open_leaves n c.as_slice.result.now [] (tree_of c.args.quast.now)) c.variables-vars.ensures.variables
    ∙ ap (λ (p : List AffineForm). open_leaves (front_variables (meaning c.args.program.now) (front_of c.args.term.now)) p [] (tree_of c.args.quast.now)) (c.as_slice.ensures.value ∙ c.in_ok-point.ensures.point)
