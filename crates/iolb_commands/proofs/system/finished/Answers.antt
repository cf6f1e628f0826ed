use Rattle.std.proofs.Common.{rules, refl, sym, subst, inl, ℕ}
use Rattle.iolb_host.specs.StdSink.{fault_count}
use Rattle.iolb_commands.specs.declared.status.Status.TheVariants.{Done, WriteFault}
use Rattle.iolb_commands.specs.Called.{Finishes}
use Rattle.iolb_commands.proofs.Outcomes.{finished_outcome}
use Rattle.iolb_commands.proofs.system.finished.Goals as goal

pub returns-then-ne-clause-outcome : goal.returns-then-ne-clause-outcome
returns-then-ne-clause-outcome g c = λ call left faults outcome.
    finished_outcome call left c.args.status c.args.status (fault_count c.args.out.now) outcome (inl (refl, sym faults))

pub returns-in-Ok-clause-ends : goal.returns-in-Ok-clause-ends
returns-in-Ok-clause-ends g c = search rules

pub returns-in-Ok-clause-outcome : goal.returns-in-Ok-clause-outcome
returns-in-Ok-clause-outcome g c = λ call left faults outcome.
    finished_outcome call left c.args.status Done (fault_count c.finish.new.self) outcome
    (subst (λ (n : ℕ). Finishes c.args.status n (fault_count c.finish.new.self) Done) (sym faults) (returns-in-Ok-clause-ends g c))

pub returns-in-Err-clause-ends : goal.returns-in-Err-clause-ends
returns-in-Err-clause-ends g c = search rules

pub returns-in-Err-clause-outcome : goal.returns-in-Err-clause-outcome
returns-in-Err-clause-outcome g c = λ call left faults outcome.
    finished_outcome call left c.args.status WriteFault (fault_count c.finish.new.self) outcome
    (subst (λ (n : ℕ). Finishes c.args.status n (fault_count c.finish.new.self) WriteFault) (sym faults) (returns-in-Err-clause-ends g c))
