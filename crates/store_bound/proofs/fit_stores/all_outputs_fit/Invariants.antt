use Rattle.std.proofs.Common.{drop, map}
use Rattle.std.specs.Prelude.{Result}
use Rattle.std.specs.List.{AllByRecursion}
use Rattle.affine_program.specs.Parts.{meaning}
use Rattle.claims.specs.Claims.{numbered, Decides}
use Rattle.claims.specs.declared.refused.Refused.{Refused}
use Rattle.last_writers.specs.Fitting.{FitsOutput}
use Rattle.store_bound.specs.StoresFit.{output_fit_at}
use Rattle.store_bound.proofs.fit_stores.all_outputs_fit.Given as goal
use Rattle.store_terms.specs.Claims.{claim_of_output}
use Rattle.store_terms.specs.Limits.{IsSmallOutput}

abbrev pub invariant-loop-index : goal.invariant-loop-index
invariant-loop-index l = record {
  small : AllByRecursion IsSmallOutput (drop l.index l.outputs);
  decided : (answer : Result (Unit {0}) Refused) → Decides (numbered (output_fit_at (meaning l.program)) l.index (map claim_of_output (drop l.index l.outputs))) answer → Decides (numbered (output_fit_at (meaning l.program)) 0 (map claim_of_output l.outputs)) answer;
  fits : AllByRecursion (FitsOutput l.program) (drop l.index l.outputs) → AllByRecursion (FitsOutput l.program) l.outputs;
}
