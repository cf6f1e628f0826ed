-- Parts of lists: what holds of each of a list holds of each of its parts.
use Rattle.std.proofs.Common.{◌≡◌, ap, ◌∙◌, ◌+◌, arith}
use Rattle.std.specs.Prelude.{ℕ, zero, suc, List, ◌∷◌, ◌++◌}
use Rattle.std.specs.List.{range_with_len}

-- numbers in order, and those in order behind them
pub range_more : (first m n : ℕ) → range_with_len first m ++ range_with_len (first + m) n ≡ range_with_len first (m + n)
range_more first zero n =
    let none : first + 0 ≡ first = omega arith in
    let some : n ≡ 0 + n = omega arith in
    ap (λ (k : ℕ). range_with_len k n) none ∙ ap (range_with_len first) some
range_more first (suc m) n =
    let moved : first + suc m ≡ first + 1 + m = omega arith in
    let grown : suc (m + n) ≡ suc m + n = omega arith in
    ap (λ (k : ℕ). first ∷ (range_with_len (first + 1) m ++ range_with_len k n)) moved ∙ ap (λ (ns : List ℕ). first ∷ ns) (range_more (first + 1) m n) ∙ ap (range_with_len first) grown
