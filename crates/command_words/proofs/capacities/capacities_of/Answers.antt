use Rattle.std.proofs.Common.{◌≡◌, ap, subst, ℕ, ◌≤◌, length, sum, List, arith}
use Rattle.std.specs.Prelude.{◌==◌, IfSome}
use Rattle.std.specs.Borrow.{Bor}
use Rattle.std.specs.List.{AllByRecursion}
use Rattle.std.proofs.lemmas.List.{length-map}
use Rattle.std.proofs.lemmas.List.Splits.{length-slice_split}
use Rattle.command_words.proofs.capacities.capacities_of.Goals as goal

pub returns-then-sum_of-clause-small : goal.returns-then-sum_of-clause-small
returns-then-sum_of-clause-small c =
    let numbers = c.in-Some.numbers in
    let as_many : length numbers.items ≡ length c.as_slice.result.now =
    subst (λ found. IfSome found (λ held. length held.items ≡ length c.as_slice.result.now)) c.in-Some.is c.in_ok-numbers.ensures.one_each in
    let parts = ap (λ (l : List (List ℕ)). length l) c.in_ok-words.ensures in (
      omega (arith, as_many, ap length c.as_slice.ensures.value, length-map c.in_ok-words.words.items (λ (piece : Bor (List ℕ)). piece.now), parts, length-slice_split (λ (byte : ℕ). byte == 44) c.args.word.now),
      omega (arith, c.if-len-le-LEVELS.true, c.len.ensures),
      subst (λ found. IfSome found (λ held. AllByRecursion (λ number. 1 ≤ number) held.items)) c.in-Some.is c.in_ok-numbers.ensures.each,
      omega (arith, c.if-sum_of.true, c.sum_of.ensures, ap sum c.as_slice-then-len-le-LEVELS.ensures.value),
    )
