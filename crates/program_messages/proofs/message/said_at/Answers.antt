use Rattle.std.proofs.lemmas.Bool.{false≢true}
use Rattle.program_messages.proofs.Saying.{said_by_default, said_by_fault, said_by_rule}
use Rattle.program_messages.proofs.message.said_at.Goals as goal

pub returns-in-Some : goal.returns-in-Some
returns-in-Some c =
    said_by_rule c.args.number c.in-Some.rule c.wrong.result.now c.instead.result.now c.in-Some.ensures c.wrong.ensures c.instead.ensures

pub returns-in-Some-fault_of : goal.returns-in-Some-fault_of
returns-in-Some-fault_of c =
    said_by_fault c.args.number c.from.result c.in-Some-fault_of.fault.wrong.now c.in-Some-fault_of.fault.instead.now
    c.from.ensures c.in-Some-fault_of.ensures.wrong c.in-Some-fault_of.ensures.instead

pub returns-in-None : goal.returns-in-None
returns-in-None c = said_by_default c.args.number c.from.result c.from.ensures (λ known. false≢true (c.in-None.ensures.there.1 known))
