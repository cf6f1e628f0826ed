use Rattle.std.proofs.Common.{◌≡◌, sym, ◌∙◌, ap, subst, ℕ, ◌≤◌, List, [], ◌++◌, length}
use Rattle.std.specs.Prelude.{IfOk}
use Rattle.std.specs.List.{AllByRecursion}
use Rattle.iolb_model.specs.Form.{AffineForm}
use Rattle.affine_form.specs.Rows.{IsSmallOver}
use Rattle.affine_form.specs.System.{AffineSystem, AllOver}
use Rattle.affine_program.specs.Parts.{meaning}
use Rattle.dep_quast.specs.Tree.{SelectionTree, tree_of}
use Rattle.domain_count.specs.Count.{rows_before}
use Rattle.dep_quast.specs.OpenLeaves.{OpenLeaf, TestsFit, open_leaves}
use Rattle.dep_quast.proofs.OpenLeaves.{reader-few, open-over}
use Rattle.wavefront.specs.ColdPieces.{leaves_of}
use Rattle.wavefront.specs.Term.{ColdTerm, nest_system, nest_variables}
use Rattle.cold_terms.specs.Entries.{FindsEntries}
use Rattle.cold_terms.specs.Outline.{bare, outline_of}
use Rattle.cold_terms.proofs.outlined.leaves_closed.Goals as goal

pub push_open_leaves-requires-clause-few_forms : goal.push_open_leaves-requires-clause-few_forms
push_open_leaves-requires-clause-few_forms c =
    subst (λ (n : ℕ). n ≤ 24) (sym (ap length c.as_slice.ensures.value ∙ c.in_ok-point.ensures.many))
    (reader-few c.args.program.now (outline_of c.args.outline.now).reader c.variables-vars.ensures.kept c.requires.fits.read)

pub entries_at-requires-clause-leaves_over : goal.entries_at-requires-clause-leaves_over
entries_at-requires-clause-leaves_over c =
    let program = meaning c.args.program.now in
    let vars : ℕ = c.variables-vars.result in
    let point : List AffineForm = c.as_slice.result.now in
    let tree : SelectionTree = tree_of c.args.quast.now in
    let leaves : c.as_slice-2.result.now ≡ open_leaves vars point [] tree =
    c.as_slice-2.ensures.value ∙ c.in_ok-push_open_leaves.ensures ∙ ap (λ (l : List OpenLeaf). l ++ open_leaves vars point [] tree) c.new-leaves.ensures.items in
    let over : AllByRecursion (IsSmallOver vars) point =
    subst (λ (n : ℕ). AllByRecursion (IsSmallOver n) point) (sym c.variables-vars.ensures.variables)
    (subst (AllByRecursion (IsSmallOver (nest_variables program (bare (outline_of c.args.outline.now))))) (sym c.as_slice.ensures.value) c.in_ok-point.ensures.over) in
    let many = ap length c.as_slice.ensures.value ∙ c.in_ok-point.ensures.many in
    subst (AllByRecursion (λ (l : OpenLeaf). AllOver vars l.tests)) (sym leaves)
    (open-over vars point over [] tree (subst (λ (n : ℕ). TestsFit n tree) (sym many) c.requires.tests) tt)

pub returns : goal.returns
returns c =
    let program = meaning c.args.program.now in
    let term : ColdTerm = bare (outline_of c.args.outline.now) in
    let tree : SelectionTree = tree_of c.args.quast.now in
    let leaves : c.as_slice-2.result.now ≡ leaves_of program tree term =
    c.as_slice-2.ensures.value ∙ c.in_ok-push_open_leaves.ensures
    ∙ ap (λ (l : List OpenLeaf). l ++ open_leaves c.variables-vars.result c.as_slice.result.now [] tree) c.new-leaves.ensures.items
    ∙ ap (λ (n : ℕ). open_leaves n c.as_slice.result.now [] tree) c.variables-vars.ensures.variables
    ∙ ap (λ (p : List AffineForm). open_leaves (nest_variables program term) p [] tree) (c.as_slice.ensures.value ∙ c.in_ok-point.ensures.point) in
    let rows : c.rows.result.now ≡ (nest_system program term).rows =
    c.rows.ensures.rows ∙ ap (λ (s : AffineSystem). s.rows) (c.in_ok-system.ensures ∙ ap (rows_before program) c.bounds.ensures) in
    subst (λ (n : ℕ). IfOk c.entries_at.result (λ found. FindsEntries c.args.wanted n (nest_system program term).rows (leaves_of program tree term) found)) c.variables-vars.ensures.variables
    (subst (λ (rs : List AffineForm). IfOk c.entries_at.result (λ found. FindsEntries c.args.wanted c.variables-vars.result rs (leaves_of program tree term) found)) rows
    (subst (λ (ls : List OpenLeaf). IfOk c.entries_at.result (λ found. FindsEntries c.args.wanted c.variables-vars.result c.rows.result.now ls found)) leaves c.entries_at.ensures))
