use Rattle.std.proofs.Common.{length, ap, ◌∙◌}
use Rattle.std.proofs.lemmas.Result.{IfOk-at_ok}
use Rattle.serde_json.specs.Written.{compact_text, has_float}
use Rattle.iolb_cert.specs.Terms.{branch_shape}
use Rattle.iolb_cert.specs.Written.{written_branch}
use Rattle.iolb_cert.proofs.Plain.{plain-branch}
use Rattle.iolb_cert.proofs.text.branch_bytes.Goals as goal

pub returns : goal.returns
returns c =
    let written = written_branch c.args.branch.now in
    let plain = plain-branch written (IfOk-at_ok branch_shape.IsWithin c.in_ok-value.ensures.read (branch_shape.kept (branch_shape.data_of written))) in
    let is = c.in_ok-value.ensures.value in
    ap length (c.as_slice.ensures.value ∙ c.in_ok-text.ensures.text (ap has_float is ∙ plain.exact) ∙ ap compact_text is)
