use Rattle.std.proofs.Common.{◌≡◌, ◌++◌, drop, map}
use Rattle.iolb_check.specs.Bounds.{terms_of}
use Rattle.iolb_commands.specs.Values.{branch_value_lines}
use Rattle.iolb_commands.proofs.answer.branch_lines.Given as goal

abbrev pub invariant-loop-branch : goal.invariant-loop-branch
invariant-loop-branch l =
    l.text.items ++ branch_value_lines l.branch (drop l.branch (map terms_of l.bound.branches)) l.sizes l.s ≡ branch_value_lines 0 (map terms_of l.bound.branches) l.sizes l.s
