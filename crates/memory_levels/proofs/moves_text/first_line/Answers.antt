-- Behind a word stand its number or place and the end of the line.
use Rattle.std.proofs.Common.{codes, sym}
use Rattle.memory_levels.proofs.Reading.{numbered-line, placed-line}
use Rattle.memory_levels.proofs.moves_text.first_line.Goals as goal

pub returns-in-Some-after-2 : goal.returns-in-Some-after-2
returns-in-Some-after-2 c =
    (c.in_ok-v.ensures.0, numbered-line (codes "compute ") c.args.bytes.now c.in-Some-after-2.number.now c.in_ok-v.v c.in_ok-v.rest.now (sym c.in-Some-after-2.ensures) c.in_ok-v.ensures.1)

pub returns : goal.returns
returns c = (
  (c.in_ok-i-3.ensures.0, c.in_ok-i-3.ensures.1),
  placed-line (codes "drop ") c.args.bytes.now c.in_ok-place.place.now c.in_ok-i-3.i c.in_ok-i-3.v c.in_ok-i-3.rest.now (sym c.in_ok-place.ensures) c.in_ok-i-3.ensures.2,
)
