-- Ten digits fit, and one more is one of them.
use Rattle.std.proofs.Common.{◌<◌, ◌^◌, arith}
use Rattle.memory_levels.proofs.Reading.{digit-more, digit-range, ten-digits}
use Rattle.memory_levels.proofs.moves_text.digits_in.Goals as goal

pub overflow_mul-value : goal.overflow_mul-value
overflow_mul-value c =
    let small : c.loop-place.value < 10 ^ 10 = ten-digits c.args.bytes.now c.loop-place.place c.loop-place.value c.loop-place-test.true c.requires c.loop-place.invariant.digits c.loop-place.invariant.value in
    omega (arith, small)

pub overflow_add-value : goal.overflow_add-value
overflow_add-value c =
    let small : c.loop-place.value < 10 ^ 10 = ten-digits c.args.bytes.now c.loop-place.place c.loop-place.value c.loop-place-test.true c.requires c.loop-place.invariant.digits c.loop-place.invariant.value in
    let range = digit-range c.is_ascii_digit.result c.is_ascii_digit.ensures.cases c.if-not-is_ascii_digit.false in
    omega (arith, small, range, c.from.ensures)

pub loop-place-preserved : goal.loop-place-preserved
loop-place-preserved c =
    let range = digit-range c.is_ascii_digit.result c.is_ascii_digit.ensures.cases c.if-not-is_ascii_digit.false in
    let more = digit-more c.args.bytes.now c.loop-place.place c.loop-place.value c.loop-place-test.true c.loop-place.invariant.digits c.loop-place.invariant.value range.0 range.1 in
    record { digits = more.0; value = rw c.from.ensures more.1 }
