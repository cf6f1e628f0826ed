use Rattle.reuse_paths.proofs.FewContexts.{contexts-few}
use Rattle.reuse_paths.proofs.law.contexts_are_few.Goals as goal

pub returns : goal.returns
returns c = contexts-few
