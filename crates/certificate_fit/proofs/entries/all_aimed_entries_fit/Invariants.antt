use Rattle.std.proofs.Common.{[], ◌∷◌, ◌++◌, drop, map}
use Rattle.std.specs.Prelude.{Result}
use Rattle.claims.specs.declared.place.Step.TheVariants.{Key}
use Rattle.claims.specs.Claims.{numbered}
use Rattle.claims.specs.Claims.{Decides}
use Rattle.claims.specs.declared.refused.Refused.{Refused}
use Rattle.certificate_fit.specs.EntryFit.{aimed_at, aimed_entries_fit}
use Rattle.certificate_fit.specs.EntryViews.{aim_of}
use Rattle.certificate_fit.proofs.entries.all_aimed_entries_fit.Given as goal
use Rattle.reuse_paths.specs.LeafClaims.{claim_of}

abbrev pub invariant-loop-index : goal.invariant-loop-index
invariant-loop-index l = (answer : Result (Unit {0}) Refused) → Decides (numbered (aimed_at (aim_of l.aimed) l.called (l.place ++ Key l.key ∷ [])) l.index (map claim_of (drop l.index l.entries))) answer → Decides (aimed_entries_fit (aim_of l.aimed) l.called (l.place ++ Key l.key ∷ []) (map claim_of l.entries)) answer
