use Rattle.std.proofs.Common.{◌≡◌, List, sym, refl, subst, drop}
use Rattle.iolb_model.specs.Form.{AffineForm}
use Rattle.affine_form.specs.System.{AllOver}
use Rattle.affine_form.specs.Rows.{equality_rows, put_in}
use Rattle.affine_form.proofs.RowLemmas.{equality_rows-over, put_in-within}
use Rattle.affine_form.proofs.Steps.{at_end}
use Rattle.affine_form.proofs.rows.cell_rows.Goals as goal

pub returns-clause-over : goal.returns-clause-over
returns-clause-over c =
    let whole : List AffineForm = equality_rows c.args.vars (put_in c.args.at.now c.args.written.now) (put_in c.args.reader.now c.args.read.now) in
    let is : c.loop-i.rows.items ≡ whole =
    at_end (λ (zs : List AffineForm). equality_rows c.args.vars (put_in c.args.at.now zs) (put_in c.args.reader.now (drop c.loop-i.i c.args.read.now))) c.args.written.now c.loop-i.i c.loop-i.rows.items whole
    c.loop-i-test.false refl c.loop-i.invariant in
    subst (AllOver c.args.vars) (sym is)
    (equality_rows-over c.args.vars (put_in c.args.at.now c.args.written.now) (put_in c.args.reader.now c.args.read.now)
    (put_in-within c.args.vars c.args.at.now c.args.written.now c.requires.at_over c.requires.written_over)
    (put_in-within c.args.vars c.args.reader.now c.args.read.now c.requires.reader_over c.requires.read_over))
