use Rattle.std.proofs.Common.{arith, ap, sym, ◌∙◌, Some, None}
use Rattle.iolb_host.proofs.Lookups.{content_of-files_of}
use Rattle.iolb_host.proofs.held.copy_of.Goals as goal

pub returns-in_err-from_slice-in-Some-clause-memory :
    goal.returns-in_err-from_slice-in-Some-clause-memory
returns-in_err-from_slice-in-Some-clause-memory c =
    rw (content_of-files_of c.args.files.now c.args.name.now (Some c.in-Some.bytes.now) c.in-Some.ensures.value)
    (λ _. omega arith)

pub returns-in-None-clause-answers : goal.returns-in-None-clause-answers
returns-in-None-clause-answers c =
    content_of-files_of c.args.files.now c.args.name.now None c.in-None.ensures.value

pub returns-then-len-most-clause-answers : goal.returns-then-len-most-clause-answers
returns-then-len-most-clause-answers c =
    rw (content_of-files_of c.args.files.now c.args.name.now (Some c.in-Some.bytes.now) c.in-Some.ensures.value)
    (omega arith)

pub returns-in_ok-from_slice-in-Some-clause-answers :
    goal.returns-in_ok-from_slice-in-Some-clause-answers
returns-in_ok-from_slice-in-Some-clause-answers c =
    let items = c.in_ok-from_slice-in-Some.ensures.items ∙ c.deref.ensures.value in (
      content_of-files_of c.args.files.now c.args.name.now (Some c.in-Some.bytes.now) c.in-Some.ensures.value
          ∙ ap Some (sym items),
      rw items (omega arith),
    )
