-- Digits up to a newline are a number, where they have no leading 0 and their value is small enough.
use Rattle.std.proofs.Common.{◌≡◌, ◌⊎◌, ◌∙◌, sym, ap, inl, inr, ℕ, ◌+◌, ◌<◌, List, ◌∷◌, ◌++◌, length, take, decimal, arith}
use Rattle.std.proofs.lemmas.List.{get_or-take, length-take, length-take-le}
use Rattle.std.proofs.lemmas.Slice.{between_to_end}
use Rattle.memory_levels.proofs.Reading.{number-in-front, number-led, number-read, number-some}
use Rattle.memory_levels.proofs.moves_text.number_in.Goals as goal

pub returns-then-many-bytes : goal.returns-then-many-bytes
returns-then-many-bytes c = λ v later small e.
    let front = number-in-front c.args.bytes.now c.min.result c.digits_in-many.result.0 c.digits_in-many.result.1 c.min.ensures c.digits_in-many.ensures v later small e in
    omega (arith, front.0, c.if-many-bytes.true)

pub returns-then-bytes-many-ne10 : goal.returns-then-bytes-many-ne10
returns-then-bytes-many-ne10 c = λ v later small e.
    let front = number-in-front c.args.bytes.now c.min.result c.digits_in-many.result.0 c.digits_in-many.result.1 c.min.ensures c.digits_in-many.ensures v later small e in
    c.if-bytes-many-ne10.true front.1

pub returns-then-many-eq0 : goal.returns-then-many-eq0
returns-then-many-eq0 c = λ v later small e.
    let front = number-in-front c.args.bytes.now c.min.result c.digits_in-many.result.0 c.digits_in-many.result.1 c.min.ensures c.digits_in-many.ensures v later small e in
    let said : take c.digits_in-many.result.0 c.args.bytes.now ≡ decimal v = front.2 in
    omega (arith, number-some (take c.digits_in-many.result.0 c.args.bytes.now) v small said, length-take-le c.digits_in-many.result.0 c.args.bytes.now (omega (arith, front.0)), c.if-many-eq0.true)

pub returns-then-many-ne1 : goal.returns-then-many-ne1
returns-then-many-ne1 c = λ v later small e.
    let front = number-in-front c.args.bytes.now c.min.result c.digits_in-many.result.0 c.digits_in-many.result.1 c.min.ensures c.digits_in-many.ensures v later small e in
    let long : length (take c.digits_in-many.result.0 c.args.bytes.now) ≡ c.digits_in-many.result.0 = length-take-le c.digits_in-many.result.0 c.args.bytes.now (omega (arith, front.0)) in
    number-led (take c.digits_in-many.result.0 c.args.bytes.now) v small
    (get_or-take c.digits_in-many.result.0 c.args.bytes.now 0 0 (omega (arith, c.if-many-eq0.false)) ∙ c.if-bytes-eq48.true)
    (λ one. c.if-many-ne1.true (sym long ∙ one)) front.2

pub returns-then-value-from : goal.returns-then-value-from
returns-then-value-from c = λ v later small e.
    let front = number-in-front c.args.bytes.now c.min.result c.digits_in-many.result.0 c.digits_in-many.result.1 c.min.ensures c.digits_in-many.ensures v later small e in
    omega (arith, front.3, small, c.if-value-from.true, c.from.ensures)

pub returns : goal.returns
returns c =
    let small : c.digits_in-many.result.1 < 4294967296 = omega (arith, c.if-value-from.false, c.from.ensures) in
    let read = number-read c.args.bytes.now c.min.result c.digits_in-many.result.0 c.digits_in-many.result.1 c.min.ensures c.digits_in-many.ensures
    (omega (arith, length-take c.min.result c.args.bytes.now, c.if-many-bytes.false)) c.if-bytes-many-ne10.false
    (omega (arith, c.if-many-eq0.false)) (alone c.else-bytes-eq48.either) small in (
      small,
      read ∙ ap (λ (rest : List ℕ). decimal c.digits_in-many.result.1 ++ 10 ∷ rest) (sym (between_to_end c.args.bytes.now (c.digits_in-many.result.0 + 1) (length c.args.bytes.now) (omega arith))),
    )
  where
    alone : {first many : ℕ} → ((first ≡ 48) × (many ≡ 1)) ⊎ (first ≡ 48 → ⊥) → first ≡ 48 → many ≡ 1
    alone (inl one) h = one.1
    alone (inr other) h = absurd (other h)
