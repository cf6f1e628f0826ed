use Rattle.std.proofs.Common.{sym, ◌∙◌, ap, subst, ℕ, List, length, arith}
use Rattle.std.specs.Prelude.{◌↔◌, IsTrue}
use Rattle.std.proofs.lemmas.List.{length-map}
use Rattle.iolb_model.specs.Form.{AffineForm}
use Rattle.affine_form.specs.Substitution.{substitution}
use Rattle.affine_program.specs.Parts.{meaning}
use Rattle.dep_quast.specs.Context.{reference_of}
use Rattle.dep_quast.proofs.Fits.{params-few}
use Rattle.wavefront.specs.Inverse.{AreUndone}
use Rattle.wavefront.specs.Term.{cell_forms, instance_point}
use Rattle.cold_terms.specs.Outline.{ColdOutline, bare, outline_of}
use Rattle.cold_terms.proofs.outlined.cells_undone.Goals as goal

pub is_undone-requires-clause-few : goal.is_undone-requires-clause-few
is_undone-requires-clause-few c =
    omega (arith, ap length c.params-params.ensures.params, params-few c.args.program.now c.params-params.ensures.kept, ap length c.bounds-size.ensures, c.requires.few)

pub is_undone-requires-clause-rows : goal.is_undone-requires-clause-rows
is_undone-requires-clause-rows c = c.requires.rows ∙ sym (ap length c.bounds-size.ensures)

pub is_undone-requires-clause-columns : goal.is_undone-requires-clause-columns
is_undone-requires-clause-columns c some =
    let outline : ColdOutline = outline_of c.args.outline.now in
    c.requires.columns some
    ∙ sym (ap length (c.as_slice.ensures.value ∙ c.in_ok-cell.ensures)
    ∙ length-map (reference_of (meaning c.args.program.now) outline.reader).subscripts (λ (form : AffineForm). substitution form (instance_point (meaning c.args.program.now) (bare outline))))

pub returns : goal.returns
returns c =
    let outline : ColdOutline = outline_of c.args.outline.now in
    subst (λ (n : ℕ). IsTrue c.is_undone.result ↔ AreUndone outline.matrix outline.scale n (length outline.nest) (cell_forms (meaning c.args.program.now) (bare outline))) (ap length c.params-params.ensures.params)
    (subst (λ (n : ℕ). IsTrue c.is_undone.result ↔ AreUndone outline.matrix outline.scale (length c.params-params.result.now) n (cell_forms (meaning c.args.program.now) (bare outline))) (ap length c.bounds-size.ensures)
    (subst (λ (fs : List AffineForm). IsTrue c.is_undone.result ↔ AreUndone outline.matrix outline.scale (length c.params-params.result.now) (length c.bounds-size.result.now) fs) (c.as_slice.ensures.value ∙ c.in_ok-cell.ensures) c.is_undone.ensures))
