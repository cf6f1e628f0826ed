use Rattle.std.proofs.Common.{drop, map}
use Rattle.std.specs.Prelude.{Result}
use Rattle.affine_program.specs.Parts.{meaning}
use Rattle.claims.specs.Claims.{numbered, Decides}
use Rattle.claims.specs.declared.refused.Refused.{Refused}
use Rattle.iolb_check.specs.TermFit.{term_at, terms_fit}
use Rattle.iolb_check.proofs.fit_branches.all_terms_fit.Given as goal
use Rattle.dep_quast.specs.Quasts.{trees_of}
use Rattle.iolb_check.specs.Claims.{claim_of_term}

abbrev pub invariant-loop-index : goal.invariant-loop-index
invariant-loop-index l = (answer : Result (Unit {0}) Refused) → Decides (numbered (term_at (meaning l.program) (trees_of l.quasts) l.list) l.index (map claim_of_term (drop l.index l.terms))) answer → Decides (terms_fit (meaning l.program) (trees_of l.quasts) l.list (map claim_of_term l.terms)) answer
