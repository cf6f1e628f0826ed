use Rattle.std.proofs.Common.{◌++◌, List, drop, map}
use Rattle.std.specs.List.{AllByRecursion}
use Rattle.affine_program.specs.Parts.{meaning}
use Rattle.claims.specs.Claims.{AllHold, IsRefusal, numbered}
use Rattle.claims.specs.declared.refused.Refused.{Refused}
use Rattle.dep_quast.specs.Quasts.{trees_of}
use Rattle.iolb_check.specs.declared.bound.Value.{Value}
use Rattle.iolb_check.specs.Claims.{claim_of_term}
use Rattle.iolb_check.specs.Fit.{HasPieces, TermFits}
use Rattle.iolb_check.specs.Conditions.{AreValuesOf, term_claims_at, terms_claims}
use Rattle.iolb_check.specs.Holds.{TermsHold}
use Rattle.iolb_check.specs.Sound.{IsSound}
use Rattle.iolb_check.proofs.branches.check_terms.Given as goal

abbrev pub invariant-loop-index : goal.invariant-loop-index
invariant-loop-index l = record {
  fits : AllByRecursion (TermFits l.program (trees_of l.quasts)) (drop l.index l.terms);
  accepted : AllHold (numbered (term_claims_at (meaning l.program) (trees_of l.quasts) l.place) l.index (map claim_of_term (drop l.index l.terms))) → AllHold (terms_claims (meaning l.program) (trees_of l.quasts) l.place (map claim_of_term l.terms));
  values : (rest : List Value) → AreValuesOf (meaning l.program) (map claim_of_term (drop l.index l.terms)) rest → AreValuesOf (meaning l.program) (map claim_of_term l.terms) (l.values.items ++ rest);
  hold : (rest : List Value) → TermsHold l.program (trees_of l.quasts) (drop l.index l.terms) rest → TermsHold l.program (trees_of l.quasts) l.terms (l.values.items ++ rest);
  pieces : AllByRecursion (HasPieces l.program (trees_of l.quasts)) (drop l.index l.terms) → AllByRecursion (HasPieces l.program (trees_of l.quasts)) l.terms;
  sound : AllByRecursion (IsSound l.program) (drop l.index l.terms) → AllByRecursion (IsSound l.program) l.terms;
  refused : (r : Refused) → IsRefusal (numbered (term_claims_at (meaning l.program) (trees_of l.quasts) l.place) l.index (map claim_of_term (drop l.index l.terms))) r → IsRefusal (terms_claims (meaning l.program) (trees_of l.quasts) l.place (map claim_of_term l.terms)) r;
}
