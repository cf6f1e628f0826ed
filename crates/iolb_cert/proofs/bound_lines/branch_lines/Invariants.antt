use Rattle.std.proofs.Common.{◌≡◌, ◌++◌, drop}
use Rattle.iolb_model.specs.Printed.{branches_text}
use Rattle.iolb_check.specs.Bounds.{bound_of}
use Rattle.iolb_cert.proofs.bound_lines.branch_lines.Given as goal

abbrev pub invariant-loop-i : goal.invariant-loop-i
invariant-loop-i l = l.text.items ++ branches_text l.names l.i (drop l.i (bound_of l.bound).branches) ≡ branches_text l.names 0 (bound_of l.bound).branches
