use Rattle.std.proofs.Common.{rules, ◌≡◌, sym, ◌∙◌, ap, subst, ℕ, List, map}
use Rattle.std.specs.List.{AllByRecursion}
use Rattle.iolb_model.specs.Form.{AffineForm}
use Rattle.affine_form.specs.Form.{IsSmallForm}
use Rattle.affine_form.specs.Rows.{widened}
use Rattle.affine_form.specs.System.{AffineSystem, AllOver}
use Rattle.affine_program.specs.Parts.{meaning}
use Rattle.domain_count.specs.Count.{rows_before}
use Rattle.footprint_pieces.specs.Pieces.{PieceFits}
use Rattle.wavefront.specs.Term.{ColdTerm, cell_forms, nest_variables, nest_system}
use Rattle.wavefront.specs.View.{term_of}
use Rattle.wavefront.proofs.PiecesCover.{leaf-fits}
use Rattle.wavefront.proofs.pieces.leaf_piece.Goals as goal
use Rattle.iolb_model.specs.declared.limits.TheConstants.{PUT_SIZE}

pub returns-clause-fits : goal.returns-clause-fits
returns-clause-fits c =
    let program = meaning c.args.program.now in
    let term : ColdTerm = term_of c.args.term.now in
    let vars : ℕ = nest_variables program term in
    let cell : List AffineForm = map (widened vars) (cell_forms program term) in
    let system : c.in_ok-nest.nest ≡ nest_system program term = c.in_ok-nest.ensures ∙ ap (rows_before program) c.bounds.ensures in
    let nest : AllOver vars (nest_system program term).rows = subst (λ (s : AffineSystem). AllOver s.vars s.rows) system c.rows.ensures.over in
    let over : AllOver vars cell = subst (AllOver vars) c.in_ok-cell_point.ensures.point c.in_ok-cell_point.ensures.over in
    let small : AllByRecursion (IsSmallForm PUT_SIZE) cell = subst (AllByRecursion (IsSmallForm PUT_SIZE)) c.in_ok-cell_point.ensures.point c.in_ok-cell_point.ensures.small in
    subst (PieceFits program) (sym (search rules)) (leaf-fits program term c.args.leaf.now.tests c.requires.fits nest c.requires.over over small)
