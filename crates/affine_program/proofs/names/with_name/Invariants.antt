use Rattle.std.proofs.Common.{◌≡◌, ◌++◌, drop}
use Rattle.affine_program.proofs.names.with_name.Given as goal

abbrev pub invariant-loop-name : goal.invariant-loop-name
invariant-loop-name l = l.all.items ++ drop l.name-index l.names ≡ l.names
