use Rattle.std.proofs.Common.{◌≡◌, ◌∙◌, sym, ap, subst, ◌+◌, length}
use Rattle.std.specs.List.{AllByRecursion}
use Rattle.iolb_model.specs.Program.{Access}
use Rattle.affine_form.specs.Rows.{IsSmallOver}
use Rattle.affine_program.specs.Domain.{depth_of}
use Rattle.dep_quast.specs.Context.{reference_of}
use Rattle.dep_quast.specs.Views.{read_of}
use Rattle.dep_quast.proofs.Fits.{read-over}
use Rattle.reuse_paths.specs.WalkViews.{walk_of}
use Rattle.reuse_paths.proofs.leaf_pieces.push_word.Goals as goal

pub push_piece-requires-in-Input-clause-over : goal.push_piece-requires-in-Input-clause-over
push_piece-requires-in-Input-clause-over c =
    let program = (walk_of c.args.walking.now).program in
    let is : c.as_slice-in-Input.result.now ≡ (reference_of program (read_of c.args.reader)).subscripts =
    c.as_slice-in-Input.ensures.value ∙ ap (λ (a : Access). a.subscripts) c.reference-cell.ensures in
    subst (AllByRecursion (IsSmallOver (length program.parameters + depth_of program c.args.reader.statement))) (sym is)
    (read-over c.args.walking.now.program.now c.params-params.ensures.kept (read_of c.args.reader) c.requires.read_fits)
