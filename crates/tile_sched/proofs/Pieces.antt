-- Bytes that are appended one after the other.
use Rattle.std.proofs.Common.{◌≡◌, refl, sym, ◌∙◌, ap, ℕ, ◌+◌, List, ◌++◌, length, take, drop, [], append_assoc, append-nil}
use Rattle.std.specs.Prelude.{Option, Some, None, Result, Ok, Err, OnOk, OnErr}
use Rattle.std.specs.Io.KnownBytes.{append_known}
use Rattle.std.proofs.Math.Seq.{take-append-add, take-append_seam, take-length}
use Rattle.std.proofs.lemmas.List.{take-append-drop}
use Rattle.iolb_host.specs.Sink.{AppendsPiece, AppendsPart}

known_append : (known : Option (List ℕ)) (front back : List ℕ) → append_known (append_known known front) back ≡ append_known known (front ++ back)
known_append None front back = refl
known_append (Some bytes) front back = ap Some (append_assoc bytes front back)

-- one piece after another
pub piece_on : (old mid new : Option (List ℕ)) (front back : List ℕ) → AppendsPiece old mid front → AppendsPiece mid new back → AppendsPiece old new (front ++ back)
piece_on old mid new front back first next = next ∙ ap (λ (known : Option (List ℕ)). append_known known back) first ∙ known_append old front back

-- the first bytes of a text that begins with a piece, where the first bytes of the piece were appended
pub part_of : (old new : Option (List ℕ)) (piece rest text : List ℕ) → text ≡ piece ++ rest → AppendsPart old new piece → AppendsPart old new text
part_of old new piece rest text e (count, part) =
    let begins : text ≡ take count piece ++ (drop count piece ++ rest) =
    e ∙ ap (λ (l : List ℕ). l ++ rest) (sym (take-append-drop count piece)) ∙ append_assoc (take count piece) (drop count piece) rest in (
      length (take count piece),
      part ∙ ap (append_known old) (sym (ap (take (length (take count piece))) begins ∙ take-append_seam (take count piece) (drop count piece ++ rest))),
    )

-- the same behind a piece that was appended
pub part_on : (old mid new : Option (List ℕ)) (front piece rest text : List ℕ) → text ≡ front ++ (piece ++ rest) → AppendsPiece old mid front → AppendsPart mid new piece → AppendsPart old new text
part_on old mid new front piece rest text e first last =
    let (count, part) = part_of mid new piece rest (piece ++ rest) refl last in (
      length front + count,
      piece_on old mid new front (take count (piece ++ rest)) first part
          ∙ ap (append_known old) (sym (take-append-add front (piece ++ rest) count))
          ∙ ap (λ (l : List ℕ). append_known old (take (length front + count) l)) (sym e),
    )

-- a piece is its first bytes, all of them
pub whole_part : (old new : Option (List ℕ)) (piece rest text : List ℕ) → text ≡ piece ++ rest → AppendsPiece old new piece → AppendsPart old new text
whole_part old new piece rest text e appended =
    part_of old new piece rest text e (length piece, appended ∙ ap (append_known old) (sym (take-length piece)))

-- of a result that isn't Ok
pub on_err : {T E : Type 0} (P : Type 0) (r : Result T E) → P → OnErr r P
on_err P (Ok x) p = tt
on_err P (Err e) p = p

pub on_err_so : {T E : Type 0} (P Q : Type 0) (r : Result T E) → (P → Q) → OnErr r P → OnErr r Q
on_err_so P Q (Ok x) f p = tt
on_err_so P Q (Err e) f p = f p

-- of one that is
pub on_ok_so : {T E : Type 0} (P Q : Type 0) (r : Result T E) → (P → Q) → OnOk r P → OnOk r Q
on_ok_so P Q (Ok x) f p = f p
on_ok_so P Q (Err e) f p = tt

-- the first bytes of the last piece
pub part_last : (old mid new : Option (List ℕ)) (front piece : List ℕ) → AppendsPiece old mid front → AppendsPart mid new piece → AppendsPart old new (front ++ piece)
part_last old mid new front piece first last =
    part_on old mid new front piece [] (front ++ piece) (ap (λ (l : List ℕ). front ++ l) (sym (append-nil piece))) first last
