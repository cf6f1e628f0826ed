use Rattle.std.proofs.Common.{◌∙◌, List, ap, sym, subst, ℕ, length, arith}
use Rattle.std.proofs.lemmas.List.{length-map}
use Rattle.iolb_model.specs.Form.{AffineForm}
use Rattle.affine_form.specs.System.{AllOver}
use Rattle.affine_program.specs.Parts.{meaning, statement_of}
use Rattle.dep_quast.specs.Context.{variables_at, writes_between}
use Rattle.dep_quast.specs.Views.{read_of, claim_of}
use Rattle.dep_quast.proofs.leaves.source_shown.Goals as goal

pub context_rows-requires-clause-there : goal.context_rows-requires-clause-there
context_rows-requires-clause-there c = omega (arith, length-map c.args.program.now.statements statement_of, c.requires.read.statement)

pub variables-requires : goal.variables-requires
variables-requires c = omega (arith, length-map c.args.program.now.statements statement_of, c.requires.read.statement)

pub system_of-requires-clause-few : goal.system_of-requires-clause-few
system_of-requires-clause-few c = omega (arith, c.variables.ensures.few)

pub system_of-requires-clause-few_rows : goal.system_of-requires-clause-few_rows
system_of-requires-clause-few_rows c = omega (arith, c.as_slice.ensures.len, c.len.ensures, c.if-len-gt-ROWS.false)

pub system_of-requires-clause-over : goal.system_of-requires-clause-over
system_of-requires-clause-over c =
    subst (λ (n : ℕ). AllOver n c.as_slice.result.now) (sym c.variables.ensures.variables)
    (subst (AllOver (variables_at (meaning c.args.program.now) (read_of c.args.reader))) (sym c.as_slice.ensures.value) c.in_ok-rows.ensures.over)

pub point_shown-requires-clause-there : goal.point_shown-requires-clause-there
point_shown-requires-clause-there c = omega (arith, length-map c.args.program.now.statements statement_of, c.requires.fits.there.statement)

pub point_shown-requires-clause-level : goal.point_shown-requires-clause-level
point_shown-requires-clause-level c = c.requires.fits.there.level

pub point_shown-requires-clause-point : goal.point_shown-requires-clause-point
point_shown-requires-clause-point c = c.requires.fits.there.point

pub point_shown-requires-clause-forms : goal.point_shown-requires-clause-forms
point_shown-requires-clause-forms c = c.requires.fits.there.forms

pub point_shown-requires-clause-domain : goal.point_shown-requires-clause-domain
point_shown-requires-clause-domain c = c.requires.fits.lists.inside

pub point_shown-requires-clause-cell : goal.point_shown-requires-clause-cell
point_shown-requires-clause-cell c = c.requires.fits.lists.cell

pub point_shown-requires-clause-before : goal.point_shown-requires-clause-before
point_shown-requires-clause-before c = c.requires.fits.lists.before

pub between_shown-requires-clause-source : goal.between_shown-requires-clause-source
between_shown-requires-clause-source c = omega (arith, length-map c.args.program.now.statements statement_of, c.requires.fits.there.statement)

pub between_shown-requires-clause-point : goal.between_shown-requires-clause-point
between_shown-requires-clause-point c = c.requires.fits.there.point

pub between_shown-requires-clause-forms : goal.between_shown-requires-clause-forms
between_shown-requires-clause-forms c = c.requires.fits.there.forms

pub between_shown-requires-clause-rows_over : goal.between_shown-requires-clause-rows_over
between_shown-requires-clause-rows_over c =
    subst (AllOver (variables_at (meaning c.args.program.now) (read_of c.args.reader))) (sym c.as_slice-2.ensures.value) c.in_ok-rows.ensures.over

pub between_shown-requires-clause-each : goal.between_shown-requires-clause-each
between_shown-requires-clause-each c =
    c.requires.fits.lists.between
    ∙ ap (λ (rows : List AffineForm). length (writes_between (meaning c.args.program.now) (read_of c.args.reader) rows (claim_of c.args.claimed.now)))
    (sym (c.as_slice-2.ensures.value ∙ c.in_ok-rows.ensures.rows))
