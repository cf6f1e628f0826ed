-- Bytes that are read or written in several steps.
use Rattle.std.proofs.Common.{◌≡◌, ℕ, ◌+◌, List, ◌++◌, length, take, drop, Option, Some, None, append_assoc, sym, ◌∙◌, ap, ◌-◌, arith}
use Rattle.std.specs.Io.KnownBytes.{Keeps, Appends, Consumes}
use Rattle.std.proofs.lemmas.List.{take-append-drop}
use Rattle.std.proofs.Math.Seq.{take-append_seam, take-append-add}
use Rattle.std.proofs.lemmas.Grind.{common_steps}

pub consumes_more : (old mid new : Option (List ℕ)) (front back : List ℕ) →
    Consumes old mid front → Consumes mid new back → Consumes old new (front ++ back)
consumes_more None mid new front back first second = tt
consumes_more (Some xs) None new front back first second = absurd first
consumes_more (Some xs) (Some ys) None front back first second = absurd second
consumes_more (Some xs) (Some ys) (Some zs) front back first second =
    first ∙ ap (λ rest. front ++ rest) second ∙ sym (append_assoc front back zs)

pub appends_more : (old mid new : Option (List ℕ)) (front back : List ℕ) →
    Appends old mid front → Appends mid new back → Appends old new (front ++ back)
appends_more None mid new front back first second = tt
appends_more (Some xs) None new front back first second = absurd first
appends_more (Some xs) (Some ys) None front back first second = absurd second
appends_more (Some xs) (Some ys) (Some zs) front back first second =
    second ∙ ap (λ known. known ++ back) first ∙ append_assoc xs front back

pub appends_and_keeps : (old mid new : Option (List ℕ)) (front : List ℕ) →
    Appends old mid front → Keeps mid new → Appends old new front
appends_and_keeps None mid new front first second = tt
appends_and_keeps (Some xs) None new front first second = absurd first
appends_and_keeps (Some xs) (Some ys) None front first second = absurd second
appends_and_keeps (Some xs) (Some ys) (Some zs) front first second = second ∙ first

-- what is written and the first bytes of the rest are the first bytes of the piece
pub appends_part : (old mid new : Option (List ℕ)) (piece front rest : List ℕ) (count : ℕ) → piece ≡ front ++ rest →
    Appends old mid front → Appends mid new (take count rest) → (n : ℕ) × Appends old new (take n piece)
appends_part old mid new piece front rest count whole first second = (
  length front + count,
  rw whole (rw (take-append-add front rest count) (appends_more old mid new front (take count rest) first second)),
)

-- the same, where nothing more was written
pub keeps_part : (old mid new : Option (List ℕ)) (piece front rest : List ℕ) → piece ≡ front ++ rest →
    Appends old mid front → Keeps mid new → (n : ℕ) × Appends old new (take n piece)
keeps_part old mid new piece front rest whole first second =
    (length front, rw whole (rw (take-append_seam front rest) (appends_and_keeps old mid new front first second)))

to_the_end : (rest : List ℕ) (count : ℕ) → take (length rest - count) (drop count rest) ≡ drop count rest
to_the_end rest count = grind (arith, common_steps)

-- the piece is what is written and the rest, after a step too
pub splits_further : (piece front rest : List ℕ) (count : ℕ) → piece ≡ front ++ rest →
    piece ≡ (front ++ take count rest) ++ take (length rest - count) (drop count rest)
splits_further piece front rest count whole =
    rw to_the_end
    (whole ∙ ap (λ back. front ++ back) (sym (take-append-drop count rest))
    ∙ sym (append_assoc front (take count rest) (drop count rest)))
