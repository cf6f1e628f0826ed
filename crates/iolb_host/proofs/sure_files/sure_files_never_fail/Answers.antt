use Rattle.iolb_host.proofs.Absences.{none_failed}
use Rattle.iolb_host.proofs.sure_files.sure_files_never_fail.Goals as goal

pub returns : goal.returns
returns c = λ store. none_failed store.faults
