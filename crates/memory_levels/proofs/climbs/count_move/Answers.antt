-- A move is counted at its boundary.
use Rattle.std.proofs.Common.{arith}
use Rattle.memory_levels.proofs.Crossings.{bring-elsewhere, brings-more, crossed-small, send-elsewhere, sends-more}
use Rattle.memory_levels.proofs.climbs.count_move.Goals as goal

pub overflow_add-crossed : goal.overflow_add-crossed
overflow_add-crossed c = omega (arith, (crossed-small c.args.crossed.now c.requires.room.0 c.in-Some.place (record { brings = 0; sends = 0 }) c.requires.room.2 c.in-Some.ensures.0 c.requires.room.1).0)

pub overflow_add-crossed-in-Some-boundary_place : goal.overflow_add-crossed-in-Some-boundary_place
overflow_add-crossed-in-Some-boundary_place c =
    omega (arith, (crossed-small c.args.crossed.now c.requires.room.0 c.in-Some-boundary_place.place (record { brings = 0; sends = 0 }) c.requires.room.2 c.in-Some-boundary_place.ensures.0 c.requires.room.1).1)

pub returns-in-Some-clause-counted : goal.returns-in-Some-clause-counted
returns-in-Some-clause-counted c = λ steps e.
    brings-more c.args.crossed.now steps c.args.step c.in-Bring.i c.in-Bring.field-1 c.in-Some.place (record { brings = 0; sends = 0 }) c.in-Bring.is c.in-Some.ensures.0 c.in-Some.ensures.1 e

pub returns-in_default-clause-counted : goal.returns-in_default-clause-counted
returns-in_default-clause-counted c = λ steps e.
    bring-elsewhere c.args.crossed.now steps c.args.step c.in-Bring.i c.in-Bring.field-1 c.in-Bring.is c.in_default.ensures e

pub returns-in-Some-boundary_place-clause-counted : goal.returns-in-Some-boundary_place-clause-counted
returns-in-Some-boundary_place-clause-counted c = λ steps e.
    sends-more c.args.crossed.now steps c.args.step c.in-Send.i c.in-Send.field-1 c.in-Some-boundary_place.place (record { brings = 0; sends = 0 }) c.in-Send.is c.in-Some-boundary_place.ensures.0 c.in-Some-boundary_place.ensures.1 e

pub returns-in_default-boundary_place-clause-counted : goal.returns-in_default-boundary_place-clause-counted
returns-in_default-boundary_place-clause-counted c = λ steps e.
    send-elsewhere c.args.crossed.now steps c.args.step c.in-Send.i c.in-Send.field-1 c.in-Send.is c.in_default-boundary_place.ensures e
