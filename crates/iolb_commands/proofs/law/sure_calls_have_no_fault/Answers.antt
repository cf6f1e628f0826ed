use Rattle.iolb_commands.proofs.Calm.{no_fault, sure_calm}
use Rattle.iolb_commands.proofs.law.sure_calls_have_no_fault.Goals as goal

pub returns-clause-calm : goal.returns-clause-calm
returns-clause-calm c = no_fault

pub returns-clause-sure : goal.returns-clause-sure
returns-clause-sure c = sure_calm c.sure_files_never_fail.ensures
