use Rattle.std.proofs.Common.{◌≡◌}
use Rattle.explain_commands.proofs.requests.read_schedules.Given as goal

-- what the files tell stays
abbrev pub invariant-loop-number : goal.invariant-loop-number
invariant-loop-number g l = g.F.Files.told l.files ≡ g.F.Files.told l.fn.files
