-- The lines of a play, part by part.
use Rattle.std.proofs.Common.{◌≡◌, sym, ◌∙◌, ap, subst, ℕ, zero, suc, ◌+◌, ◌-◌, ◌<◌, ◌≤◌, List, [], ◌++◌, length, drop, get_or, append_assoc, append-nil, add-one, drop-cons, arith}
use Rattle.std.specs.Prelude.{Option}
use Rattle.std.proofs.lemmas.Grind.{flat_map-append}
use Rattle.std.proofs.lemmas.List.Concat.{flat_map-cons}
use Rattle.iolb_model.specs.declared.game.Move.{Move}
use Rattle.iolb_model.specs.Graph.{ComputationGraph}
use Rattle.iolb_host.specs.Sink.{AppendsPiece, AppendsPart}
use Rattle.pebble_replay.specs.Played.{played}
use Rattle.pebble_replay.specs.Player.{moves_at, moves_before}
use Rattle.pebble_replay.proofs.Counting.{before-more}
use Rattle.tile_sched.specs.Lines.{move_line, moves_text}
use Rattle.tile_sched.proofs.Pieces.{piece_on, part_on, whole_part}

text-append : (xs ys : List Move) → moves_text (xs ++ ys) ≡ moves_text xs ++ moves_text ys
text-append xs ys = flat_map-append move_line xs ys

-- the lines from a move on
pub next_line : (moves : List Move) (i : ℕ) (d : Move) → i < length moves → moves_text (drop i moves) ≡ move_line (get_or moves i d) ++ moves_text (drop (i + 1) moves)
next_line moves i d h =
    ap moves_text (drop-cons moves i d h) ∙ flat_map-cons move_line (get_or moves i d) (drop (suc i) moves)
    ∙ ap (λ (k : ℕ). move_line (get_or moves i d) ++ moves_text (drop k moves)) (sym (add-one i))

-- ---- the moves of a play

after : (graph : ComputationGraph) (s : ℕ) (order : List ℕ) (k place : ℕ) → place + k ≡ length order → (rest : List Move) × (played graph s order ≡ moves_before graph s order place ++ rest)
after graph s order zero place e =
    let end : length order ≡ place = omega (arith, e) in
    ([], ap (moves_before graph s order) end ∙ sym (append-nil (moves_before graph s order place)))
after graph s order (suc k) place e =
    let (rest, is) = after graph s order k (suc place) (omega (arith, e)) in (
      moves_at graph s order place ++ rest,
      is ∙ ap (λ (l : List Move). l ++ rest) (before-more graph s order place (omega (arith, e)))
          ∙ append_assoc (moves_before graph s order place) (moves_at graph s order place) rest,
    )

-- the moves from an instance on
from : (graph : ComputationGraph) (s : ℕ) (order : List ℕ) (place : ℕ) → place ≤ length order → (rest : List Move) × (played graph s order ≡ moves_before graph s order place ++ rest)
from graph s order place h = after graph s order (length order - place) place (omega (arith, h))

-- an instance more
pub steps_more : (graph : ComputationGraph) (s : ℕ) (order : List ℕ) (place : ℕ) (made : List Move) (old mid new : Option (List ℕ)) → place < length order → made ≡ moves_at graph s order place
    → AppendsPiece old mid (moves_text (moves_before graph s order place)) → AppendsPiece mid new (moves_text made)
    → AppendsPiece old new (moves_text (moves_before graph s order (suc place)))
steps_more graph s order place made old mid new h is before more =
    subst (λ (text : List ℕ). AppendsPiece old new text)
    (ap (λ (l : List Move). moves_text (moves_before graph s order place) ++ moves_text l) is
    ∙ sym (text-append (moves_before graph s order place) (moves_at graph s order place)) ∙ ap moves_text (sym (before-more graph s order place h)))
    (piece_on old mid new (moves_text (moves_before graph s order place)) (moves_text made) before more)

-- a part of the lines of an instance
pub steps_part : (graph : ComputationGraph) (s : ℕ) (order : List ℕ) (place : ℕ) (made : List Move) (old mid new : Option (List ℕ)) → place < length order → made ≡ moves_at graph s order place
    → AppendsPiece old mid (moves_text (moves_before graph s order place)) → AppendsPart mid new (moves_text made)
    → AppendsPart old new (moves_text (played graph s order))
steps_part graph s order place made old mid new h is before part =
    let (rest, all) = from graph s order (suc place) (omega (arith, h)) in
    part_on old mid new (moves_text (moves_before graph s order place)) (moves_text made) (moves_text rest) (moves_text (played graph s order))
    (ap moves_text (all ∙ ap (λ (l : List Move). l ++ rest) (before-more graph s order place h ∙ ap (λ (l : List Move). moves_before graph s order place ++ l) (sym is)))
    ∙ text-append (moves_before graph s order place ++ made) rest ∙ ap (λ (l : List ℕ). l ++ moves_text rest) (text-append (moves_before graph s order place) made)
    ∙ append_assoc (moves_text (moves_before graph s order place)) (moves_text made) (moves_text rest))
    before part

-- the lines of some instances are a part
pub steps_so_far : (graph : ComputationGraph) (s : ℕ) (order : List ℕ) (place : ℕ) (old new : Option (List ℕ)) → place ≤ length order
    → AppendsPiece old new (moves_text (moves_before graph s order place)) → AppendsPart old new (moves_text (played graph s order))
steps_so_far graph s order place old new h before =
    let (rest, all) = from graph s order place h in
    whole_part old new (moves_text (moves_before graph s order place)) (moves_text rest) (moves_text (played graph s order))
    (ap moves_text all ∙ text-append (moves_before graph s order place) rest) before
