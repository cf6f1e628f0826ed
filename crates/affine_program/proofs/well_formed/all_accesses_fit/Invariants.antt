use Rattle.std.proofs.Common.{take, map}
use Rattle.std.specs.List.{AllByRecursion}
use Rattle.iolb_model.specs.Program.{AccessFits}
use Rattle.affine_program.specs.Draft.{parts_of}
use Rattle.affine_program.specs.Parts.{meaning, access_of}
use Rattle.affine_program.proofs.well_formed.all_accesses_fit.Given as goal

abbrev pub invariant-loop-reference : goal.invariant-loop-reference
invariant-loop-reference l = AllByRecursion (AccessFits (meaning (parts_of l.draft)) l.variables) (map access_of (take l.reference-index l.references))
