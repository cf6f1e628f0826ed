use Rattle.std.proofs.Common.{rules, ◌≡◌, sym, ◌∙◌, ap, subst, ℕ, List, map}
use Rattle.std.specs.List.{AllByRecursion}
use Rattle.iolb_model.specs.Form.{AffineForm}
use Rattle.affine_form.specs.Form.{IsSmallForm}
use Rattle.affine_form.specs.Rows.{widened}
use Rattle.affine_form.specs.System.{AffineSystem, AllOver}
use Rattle.affine_program.specs.Parts.{meaning}
use Rattle.domain_count.specs.Count.{rows_before}
use Rattle.footprint_pieces.specs.Pieces.{PieceFits}
use Rattle.wavefront.specs.FrontClaims.{front_variables, front_system, word_forms}
use Rattle.wavefront.specs.FrontTerm.{WavefrontTerm}
use Rattle.wavefront.specs.View.{front_of}
use Rattle.wavefront.proofs.FrontCover.{front-fits}
use Rattle.wavefront.proofs.front_piece.front_piece.Goals as goal
use Rattle.iolb_model.specs.declared.limits.TheConstants.{PUT_SIZE}

pub returns-clause-fits : goal.returns-clause-fits
returns-clause-fits c =
    let program = meaning c.args.program.now in
    let term : WavefrontTerm = front_of c.args.term.now in
    let vars : ℕ = front_variables program term in
    let word : List AffineForm = map (widened vars) (word_forms program term) in
    let system : c.in_ok-nest.nest ≡ front_system program term = c.in_ok-nest.ensures ∙ ap (rows_before program) c.bounds.ensures in
    let nest : AllOver vars (front_system program term).rows = subst (λ (s : AffineSystem). AllOver s.vars s.rows) system c.rows-rows.ensures.over in
    let over : AllOver vars word = subst (AllOver vars) c.in_ok-word_point.ensures.point c.in_ok-word_point.ensures.over in
    let small : AllByRecursion (IsSmallForm PUT_SIZE) word = subst (AllByRecursion (IsSmallForm PUT_SIZE)) c.in_ok-word_point.ensures.point c.in_ok-word_point.ensures.small in
    subst (PieceFits program) (sym (search rules)) (front-fits program term c.requires nest over small)
