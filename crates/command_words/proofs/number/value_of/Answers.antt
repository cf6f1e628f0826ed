use Rattle.std.proofs.Common.{sym, ◌∙◌, ap, ℕ, ◌+◌, ◌-◌, ◌*◌, ◌^◌, min, get_or, List, drop, arith}
use Rattle.std.proofs.lemmas.List.{drop_more}
use Rattle.command_words.specs.Numbers.{with_digits}
use Rattle.command_words.proofs.Digits.{capped}
use Rattle.command_words.proofs.number.value_of.Goals as goal

pub loop-byte-preserved : goal.loop-byte-preserved
loop-byte-preserved c =
    let word : List ℕ = c.args.word.now in
    let i : ℕ = c.loop-byte.byte-index in
    let n : ℕ = c.loop-byte.number in
    let byte : ℕ = get_or word i 0 in
    let rest : List ℕ = drop (i + 1) word in record {
      low = omega (arith, c.with_digit-number.ensures);
      same = ap (λ (k : ℕ). min (with_digits k rest) (2 ^ 64)) c.with_digit-number.ensures ∙ capped (2 ^ 64) (n * 10 + (byte - 48)) rest
          ∙ ap (λ (l : List ℕ). min (with_digits n l) (2 ^ 64)) (sym (drop_more word i 0 c.loop-byte-test.true)) ∙ c.loop-byte.invariant.same;
    }
