use Rattle.std.proofs.Common.{◌≡◌, sym, ◌∙◌, ap, subst, ℕ, ◌≤◌, List, [], ◌++◌, length}
use Rattle.std.specs.List.{AllByRecursion}
use Rattle.iolb_model.specs.Form.{AffineForm}
use Rattle.affine_form.specs.System.{AllOver}
use Rattle.affine_form.specs.Rows.{IsSmallOver}
use Rattle.affine_program.specs.Parts.{meaning}
use Rattle.dep_quast.specs.Tree.{tree_of}
use Rattle.wavefront.specs.Term.{instance_point, nest_variables}
use Rattle.dep_quast.specs.OpenLeaves.{OpenLeaf, open_leaves, TestsFit}
use Rattle.wavefront.specs.View.{term_of}
use Rattle.dep_quast.proofs.OpenLeaves.{reader-few, open-over}
use Rattle.wavefront.proofs.cold_shown.leaves_of.Goals as goal

pub push_open_leaves-requires-clause-few_forms : goal.push_open_leaves-requires-clause-few_forms
push_open_leaves-requires-clause-few_forms c =
    subst (λ (n : ℕ). n ≤ 24) (sym (ap length c.as_slice.ensures.value ∙ c.in_ok-point.ensures.many)) (reader-few c.args.program.now (term_of c.args.term.now).reader c.variables-vars.ensures.kept c.requires.parts.read)

pub returns-clause-leaves : goal.returns-clause-leaves
returns-clause-leaves c =
    c.in_ok-push_open_leaves.ensures
    ∙ ap (λ (l : List OpenLeaf). l ++ open_leaves c.variables-vars.result c.as_slice.result.now [] (tree_of c.args.quast.now)) c.new-leaves.ensures.items
    ∙ ap (λ (n : ℕ). open_leaves n c.as_slice.result.now [] (tree_of c.args.quast.now)) c.variables-vars.ensures.variables
    ∙ ap (λ (p : List AffineForm). open_leaves (nest_variables (meaning c.args.program.now) (term_of c.args.term.now)) p [] (tree_of c.args.quast.now)) (c.as_slice.ensures.value ∙ c.in_ok-point.ensures.point)

pub returns-clause-over : goal.returns-clause-over
returns-clause-over c =
    let vars : ℕ = nest_variables (meaning c.args.program.now) (term_of c.args.term.now) in
    let point : List AffineForm = instance_point (meaning c.args.program.now) (term_of c.args.term.now) in
    let many : length point ≡ _ = ap length (sym c.in_ok-point.ensures.point) ∙ c.in_ok-point.ensures.many in
    subst (AllByRecursion (λ (l : OpenLeaf). AllOver vars l.tests)) (sym (returns-clause-leaves c))
    (open-over vars point (subst (AllByRecursion (IsSmallOver vars)) c.in_ok-point.ensures.point c.in_ok-point.ensures.over) [] (tree_of c.args.quast.now)
    (subst (λ (n : ℕ). TestsFit n (tree_of c.args.quast.now)) (sym many) c.requires.tests) tt)
