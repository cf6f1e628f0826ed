use Rattle.std.proofs.Common.{drop, length}
use Rattle.std.specs.Prelude.{Result}
use Rattle.claims.specs.Claims.{Decides}
use Rattle.claims.specs.declared.refused.Refused.{Refused}
use Rattle.affine_program.specs.Domain.{depth_of}
use Rattle.affine_program.specs.Parts.{meaning}
use Rattle.reuse_paths.specs.FamilyClaims.{label_rows}
use Rattle.reuse_paths.proofs.family_shown.label_shown.Given as goal

abbrev pub invariant-loop-i : goal.invariant-loop-i
invariant-loop-i l =
    (answer : Result (Unit {0}) Refused) → Decides (label_rows l.matrix l.family.scale (length l.program.params) (depth_of (meaning l.program) l.statement) l.list l.i (drop l.i l.family.set) (drop l.i l.family.start_label.items)) answer
    → Decides (label_rows l.matrix l.family.scale (length l.program.params) (depth_of (meaning l.program) l.statement) l.list 0 l.family.set l.family.start_label.items) answer
