use Rattle.std.proofs.Common.{◌++◌, List, drop, map}
use Rattle.std.specs.List.{AllByRecursion, AllZip}
use Rattle.affine_program.specs.Parts.{meaning}
use Rattle.claims.specs.Claims.{AllHold, IsRefusal, numbered}
use Rattle.claims.specs.declared.refused.Refused.{Refused}
use Rattle.last_writers.specs.Fitting.{FitsOutput}
use Rattle.last_writers.specs.Outputs.{IsSoundOutput}
use Rattle.poly_tree.specs.Poly.{Quotient}
use Rattle.store_bound.specs.Conditions.{AreCountsOf, output_claims_at}
use Rattle.store_bound.specs.Sound.{IsOutputCount}
use Rattle.store_bound.proofs.output_checks.check_outputs.Given as goal
use Rattle.store_terms.specs.Claims.{claim_of_output}

abbrev pub invariant-loop-index : goal.invariant-loop-index
invariant-loop-index l = record {
  fits : AllByRecursion (FitsOutput l.program) (drop l.index l.outputs);
  accepted : AllHold (numbered (output_claims_at (meaning l.program)) l.index (map claim_of_output (drop l.index l.outputs))) → AllHold (numbered (output_claims_at (meaning l.program)) 0 (map claim_of_output l.outputs));
  counted : (rest : List Quotient) → AllZip (IsOutputCount l.program) (drop l.index l.outputs) rest → AllZip (IsOutputCount l.program) l.outputs (l.counts.items ++ rest);
  values : (rest : List Quotient) → AreCountsOf (meaning l.program) (map claim_of_output (drop l.index l.outputs)) rest → AreCountsOf (meaning l.program) (map claim_of_output l.outputs) (l.counts.items ++ rest);
  sound : AllByRecursion (IsSoundOutput (meaning l.program)) (map claim_of_output (drop l.index l.outputs)) → AllByRecursion (IsSoundOutput (meaning l.program)) (map claim_of_output l.outputs);
  refused : (r : Refused) → IsRefusal (numbered (output_claims_at (meaning l.program)) l.index (map claim_of_output (drop l.index l.outputs))) r → IsRefusal (numbered (output_claims_at (meaning l.program)) 0 (map claim_of_output l.outputs)) r;
}
