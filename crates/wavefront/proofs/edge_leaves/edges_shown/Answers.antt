use Rattle.std.proofs.Common.{sym, ◌∙◌, ap, subst, ℕ, ◌≤◌, List, length, map}
use Rattle.std.specs.List.{AllByRecursion}
use Rattle.iolb_model.specs.Form.{AffineForm}
use Rattle.affine_form.specs.Rows.{IsSmallOver}
use Rattle.affine_program.specs.Parts.{meaning}
use Rattle.dep_quast.specs.Context.{variables_at}
use Rattle.dep_quast.specs.Tree.{tree_of}
use Rattle.reuse_paths.specs.declared.leaf.Leaf.{Leaf}
use Rattle.reuse_paths.specs.LeafClaims.{claim_of}
use Rattle.dep_quast.specs.OpenLeaves.{OpenLeaf}
use Rattle.dep_quast.proofs.OpenLeaves.{reader-few}
use Rattle.wavefront.specs.EdgeViews.{AreFit}
use Rattle.wavefront.specs.FrontClaims.{edge_leaves, front_variables, user_point}
use Rattle.wavefront.specs.FrontTerm.{WavefrontTerm, user_read}
use Rattle.wavefront.specs.View.{front_of}
use Rattle.wavefront.proofs.EdgeFits.{edges-fit}
use Rattle.wavefront.proofs.edge_leaves.edges_shown.Goals as goal

pub all_shown-requires-clause-few_forms : goal.all_shown-requires-clause-few_forms
all_shown-requires-clause-few_forms c =
    subst (λ (n : ℕ). n ≤ 24) (sym (ap length c.as_slice.ensures.value ∙ c.in_ok-point.ensures.many)) (reader-few c.args.program.now (user_read (front_of c.args.term.now)) c.variables-vars.ensures.kept c.requires.parts.read)

pub all_shown-requires-clause-fit : goal.all_shown-requires-clause-fit
all_shown-requires-clause-fit c =
    let program = meaning c.args.program.now in
    let term : WavefrontTerm = front_of c.args.term.now in
    let point : List AffineForm = user_point program term in
    let fits : AreFit (front_variables program term) (variables_at program (user_read term)) term.source (edge_leaves program (tree_of c.args.quast.now) term) term.edge =
    edges-fit program (tree_of c.args.quast.now) term (subst (AllByRecursion (IsSmallOver (front_variables program term))) c.in_ok-point.ensures.point c.in_ok-point.ensures.over)
    (ap length (sym c.in_ok-point.ensures.point) ∙ c.in_ok-point.ensures.many) c.requires.parts c.requires.fits in
    subst (λ (n : ℕ). AreFit n (length c.as_slice.result.now) term.source c.as_slice-2.result.now (map claim_of c.as_slice-3.result.now)) (sym c.variables-vars.ensures.variables)
    (subst (λ (n : ℕ). AreFit (front_variables program term) n term.source c.as_slice-2.result.now (map claim_of c.as_slice-3.result.now)) (sym (ap length c.as_slice.ensures.value ∙ c.in_ok-point.ensures.many))
    (subst (λ (ls : List OpenLeaf). AreFit (front_variables program term) (variables_at program (user_read term)) term.source ls (map claim_of c.as_slice-3.result.now))
    (sym (c.as_slice-2.ensures.value ∙ c.in_ok-leaves.ensures))
    (subst (λ (es : List Leaf). AreFit (front_variables program term) (variables_at program (user_read term)) term.source (edge_leaves program (tree_of c.args.quast.now) term) (map claim_of es))
    (sym c.as_slice-3.ensures.value) fits)))
