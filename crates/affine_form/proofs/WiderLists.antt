-- Numbers read as more numbers, with zeros behind them.
use Rattle.std.proofs.Common.{◌≡◌, sym, ◌∙◌, ap, ℕ, ◌-◌, max, List, ◌++◌, length, replicate, take, drop, arith}
use Rattle.std.proofs.Math.IntN.{ℤ, pos}
use Rattle.std.proofs.lemmas.List.{length-append, length-replicate, length-drop, take-append-drop, take_all}
use Rattle.std.proofs.Math.Seq.{take-append_seam, drop-append_seam}

-- they are as many as is said, or more
pub length-wide : (numbers wide : List ℤ) (vars : ℕ) → numbers ++ replicate (vars - length numbers) (pos 0) ≡ wide → length wide ≡ max vars (length numbers)
length-wide numbers wide vars e = omega (arith, ap length e, length-append numbers (replicate (vars - length numbers) (pos 0)), length-replicate (vars - length numbers) (pos 0))

-- the numbers stand in front
pub wide-front : (numbers wide : List ℤ) (vars : ℕ) → numbers ++ replicate (vars - length numbers) (pos 0) ≡ wide → take (length numbers) wide ≡ numbers
wide-front numbers wide vars e = ap (take (length numbers)) (sym e) ∙ take-append_seam numbers (replicate (vars - length numbers) (pos 0))

-- and zeros behind them
pub wide-behind : (numbers wide : List ℤ) (vars : ℕ) → numbers ++ replicate (vars - length numbers) (pos 0) ≡ wide
    → drop (length numbers) wide ≡ replicate (length (drop (length numbers) wide)) (pos 0)
wide-behind numbers wide vars e =
    let behind : drop (length numbers) wide ≡ replicate (vars - length numbers) (pos 0) = ap (drop (length numbers)) (sym e) ∙ drop-append_seam numbers (replicate (vars - length numbers) (pos 0)) in
    behind ∙ ap (λ (n : ℕ). replicate n (pos 0)) (sym (ap length behind ∙ length-replicate (vars - length numbers) (pos 0)))

-- numbers that are so are wider ones
pub wide-from : (numbers wide : List ℤ) (vars : ℕ) → length wide ≡ max vars (length numbers) → take (length numbers) wide ≡ numbers
    → drop (length numbers) wide ≡ replicate (length (drop (length numbers) wide)) (pos 0) → numbers ++ replicate (vars - length numbers) (pos 0) ≡ wide
wide-from numbers wide vars many front behind =
    ap (λ (n : ℕ). numbers ++ replicate n (pos 0)) (sym count) ∙ ap (λ (xs : List ℤ). xs ++ replicate (length (drop (length numbers) wide)) (pos 0)) (sym front)
    ∙ ap (λ (xs : List ℤ). take (length numbers) wide ++ xs) (sym behind) ∙ take-append-drop (length numbers) wide where
      count : length (drop (length numbers) wide) ≡ vars - length numbers
      count = omega (arith, length-drop (length numbers) wide)

-- the rest of a list, taken whole
pub whole-rest : (xs : List ℤ) (n : ℕ) → take (length xs - n) (drop n xs) ≡ drop n xs
whole-rest xs n = take_all (length xs - n) (drop n xs) (omega (arith, length-drop n xs))
