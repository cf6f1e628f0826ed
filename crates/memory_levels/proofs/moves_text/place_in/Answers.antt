-- A place is a digit, a space and a number.
use Rattle.std.proofs.Common.{◌∙◌, sym, length, arith}
use Rattle.std.proofs.lemmas.Slice.{between_to_end}
use Rattle.memory_levels.proofs.Reading.{digit-range, no-digit, place-digit, place-long, place-read, place-space, place-vertex}
use Rattle.memory_levels.proofs.moves_text.place_in.Goals as goal

pub returns-then-bytes-lt2 : goal.returns-then-bytes-lt2
returns-then-bytes-lt2 c = λ i v later is vs e. omega (arith, place-long c.args.bytes.now i v later is e, c.if-bytes-lt2.true)

pub returns-then-not-is_ascii_digit : goal.returns-then-not-is_ascii_digit
returns-then-not-is_ascii_digit c = λ i v later is vs e.
    let digit = place-digit c.args.bytes.now i v later is e in
    no-digit c.is_ascii_digit.result c.is_ascii_digit.ensures.cases c.if-not-is_ascii_digit.true (omega (arith, digit)) (omega (arith, digit, is))

pub returns-then-bytes-ne32 : goal.returns-then-bytes-ne32
returns-then-bytes-ne32 c = λ i v later is vs e. c.if-bytes-ne32.true (place-space c.args.bytes.now i v later is e)

pub returns-in_err-v : goal.returns-in_err-v
returns-in_err-v c =
    rw c.from_residual.ensures (λ i v later is vs e. c.in_err-v.ensures v later vs (between_to_end c.args.bytes.now 2 (length c.args.bytes.now) (omega arith) ∙ place-vertex c.args.bytes.now i v later is e))

pub returns : goal.returns
returns c =
    let range = digit-range c.is_ascii_digit.result c.is_ascii_digit.ensures.cases c.if-not-is_ascii_digit.false in
    let number = c.in_ok-v.ensures in (
      omega (arith, range),
      number.0,
      place-read c.args.bytes.now c.in_ok-v.v c.in_ok-v.rest.now (omega (arith, c.if-bytes-lt2.false)) range.0 range.1 c.if-bytes-ne32.false
          (sym (between_to_end c.args.bytes.now 2 (length c.args.bytes.now) (omega arith)) ∙ number.1),
    )
