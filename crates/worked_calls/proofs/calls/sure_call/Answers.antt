use Rattle.worked_calls.proofs.calls.sure_call.Goals as goal

pub returns-clause-read : goal.returns-clause-read
returns-clause-read c =
    (c.sure_calls_have_no_fault.ensures.calm _ _ c.run.result c.run.ensures.outcome
    (c.sure_calls_have_no_fault.ensures.sure c.args.files.now c.run.new.files c.args.out.now c.run.new.out c.args.err.now c.run.new.err)).0

pub returns-clause-write : goal.returns-clause-write
returns-clause-write c =
    (c.sure_calls_have_no_fault.ensures.calm _ _ c.run.result c.run.ensures.outcome
    (c.sure_calls_have_no_fault.ensures.sure c.args.files.now c.run.new.files c.args.out.now c.run.new.out c.args.err.now c.run.new.err)).1
