use Rattle.std.proofs.Common.{subst, sym}
use Rattle.std.specs.Prelude.{Option, Some, None, Result, Ok, Err, IfOk, IfNone}
use Rattle.int_sets.specs.Halves.{HoldUpTo}
use Rattle.int_sets.proofs.Joined.{no-short-list}
use Rattle.int_sets.proofs.short.short_list.Goals as goal

-- what follows where nothing is found
none-so : {V E : Type 0} (P Q : Type 0) → (P → Q) → (r : Result (Option V) E) → IfOk r (λ found. IfNone found P) → IfOk r (λ found. IfNone found Q)
none-so P Q f (Ok None) h = f h
none-so P Q f (Ok (Some v)) h = tt
none-so P Q f (Err e) h = tt

pub returns-clause-none : goal.returns-clause-none
returns-clause-none c =
    none-so _ _ (no-short-list c.args.system.now c.args.goal.now c.as_slice-3.result.now
    (subst (HoldUpTo 2 c.args.system.now.rows) (sym c.as_slice-3.ensures.value) c.in_ok-halves.ensures.all)) c.first_joined-2.result c.first_joined-2.ensures.none
