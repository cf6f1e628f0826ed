-- Plays move by move.
use Rattle.std.proofs.Common.{◌≡◌, refl, sym, ◌∙◌, ap, subst, inl, inr, ℕ, zero, suc, ◌+◌, ◌<◌, List, [], ◌∷◌, ◌++◌, length, get_or, take, drop, Option, Some, arith}
use Rattle.std.specs.Prelude.{◌⊎◌}
use Rattle.std.proofs.lemmas.Bool.{cases_eq, cases_lt}
use Rattle.std.proofs.lemmas.List.{take_more, length-take-le}
use Rattle.std.proofs.lemmas.List.Sums.{fold-append}
use Rattle.iolb_model.specs.Graph.{ComputationGraph}
use Rattle.iolb_model.specs.Tower.{AreTowerAllowed, IsTowerAllowed, TowerBoard, final_tower_board, first_tower_board, tower_board_after, tower_left}
use Rattle.iolb_model.specs.declared.tower.TowerMove.{TowerMove}
use Rattle.memory_levels.specs.Climbs.{AreLegal, CompleteOrUnfinished, FirstIllegalIsOne, FirstUnfinishedIsOne, IsFirstIllegal, LegalOrIllegal}
use Rattle.memory_levels.specs.Towers.{IsTowerOf, tower_refusal}
use Rattle.memory_levels.specs.declared.illegal.TowerIllegal.{TowerIllegal}
use Rattle.memory_levels.proofs.Towers.{first-fits, moved-fits, refusal-forbidden}

-- ---- moves one after the other

pub allowed-more : (graph : ComputationGraph) (capacities : List ℕ) (board : TowerBoard) (xs : List TowerMove) (y : TowerMove) → AreTowerAllowed graph capacities board xs
    → IsTowerAllowed graph capacities (final_tower_board board xs) y → AreTowerAllowed graph capacities board (xs ++ y ∷ [])
allowed-more graph capacities board [] y h k = (k, tt)
allowed-more graph capacities board (x ∷ xs) y h k = (h.0, allowed-more graph capacities (tower_board_after board x) xs y h.1 k)

-- the board that one move more leaves
pub left-more : (board : TowerBoard) (xs : List TowerMove) (y : TowerMove) → final_tower_board board (xs ++ y ∷ []) ≡ tower_board_after (final_tower_board board xs) y
left-more board xs y = fold-append tower_board_after board xs (y ∷ [])

fits-all : (graph : ComputationGraph) (board : TowerBoard) (xs : List TowerMove) → IsTowerOf graph board → IsTowerOf graph (final_tower_board board xs)
fits-all graph board [] fits = fits
fits-all graph board (x ∷ xs) fits = fits-all graph (tower_board_after board x) xs (moved-fits graph board x fits)

-- of allowed moves each is allowed where it stands
allowed-at : (graph : ComputationGraph) (capacities : List ℕ) (board : TowerBoard) (xs : List TowerMove) (y : TowerMove) (zs : List TowerMove)
    → AreTowerAllowed graph capacities board (xs ++ y ∷ zs) → IsTowerAllowed graph capacities (final_tower_board board xs) y
allowed-at graph capacities board [] y zs h = h.0
allowed-at graph capacities board (x ∷ xs) y zs h = allowed-at graph capacities (tower_board_after board x) xs y zs h.1

pub legal_or_illegal : LegalOrIllegal
legal_or_illegal graph capacities steps number illegal legal first =
    refusal-forbidden graph capacities (tower_left graph capacities first.before) first.move illegal
    (fits-all graph (first_tower_board (length capacities) graph) first.before (first-fits graph (length capacities))) first.refused
    (allowed-at graph capacities (first_tower_board (length capacities) graph) first.before first.move first.later
    (subst (λ (l : List TowerMove). AreTowerAllowed graph capacities (first_tower_board (length capacities) graph) l) first.parts legal))

some-one : (one two : TowerIllegal) (found : Option TowerIllegal) → found ≡ Some one → found ≡ Some two → one ≡ two
some-one one two found e f = cc

firsts-same : (graph : ComputationGraph) (capacities : List ℕ) (board : TowerBoard) (xs : List TowerMove) (a : TowerMove) (as_ : List TowerMove) (ys : List TowerMove) (b : TowerMove) (bs : List TowerMove)
    (one two : TowerIllegal) → IsTowerOf graph board → xs ++ a ∷ as_ ≡ ys ++ b ∷ bs → AreTowerAllowed graph capacities board xs → AreTowerAllowed graph capacities board ys
    → tower_refusal graph capacities (final_tower_board board xs) a ≡ Some one → tower_refusal graph capacities (final_tower_board board ys) b ≡ Some two
    → (length xs ≡ length ys) × (one ≡ two)
firsts-same graph capacities board [] a as_ [] b bs one two fits e h k p q =
    let same : a ≡ b = cc in
    (refl, some-one one two (tower_refusal graph capacities board b) (ap (tower_refusal graph capacities board) (sym same) ∙ p) q)
firsts-same graph capacities board [] a as_ (y ∷ ys) b bs one two fits e h k p q =
    let same : a ≡ y = cc in
    absurd (refusal-forbidden graph capacities board y one fits (ap (tower_refusal graph capacities board) (sym same) ∙ p) k.0)
firsts-same graph capacities board (x ∷ xs) a as_ [] b bs one two fits e h k p q =
    let same : b ≡ x = cc in
    absurd (refusal-forbidden graph capacities board x two fits (ap (tower_refusal graph capacities board) (sym same) ∙ q) h.0)
firsts-same graph capacities board (x ∷ xs) a as_ (y ∷ ys) b bs one two fits e h k p q =
    let same : y ≡ x = cc in
    let tail : xs ++ a ∷ as_ ≡ ys ++ b ∷ bs = cc in
    let rest = firsts-same graph capacities (tower_board_after board x) xs a as_ ys b bs one two (moved-fits graph board x fits) tail h.1
    (subst (λ (z : TowerMove). AreTowerAllowed graph capacities (tower_board_after board z) ys) same k.1) p
    (ap (λ (z : TowerMove). tower_refusal graph capacities (final_tower_board (tower_board_after board z) ys) b) (sym same) ∙ q) in
    (omega (arith, rest.0), rest.1)

pub first_illegal_is_one : FirstIllegalIsOne
first_illegal_is_one graph capacities steps m n one two h k =
    let same = firsts-same graph capacities (first_tower_board (length capacities) graph) h.before h.move h.later k.before k.move k.later one two (first-fits graph (length capacities))
    (sym h.parts ∙ k.parts) h.legal k.legal h.refused k.refused in
    (omega (arith, h.number_is, k.number_is, same.0), same.1)

pub first_unfinished_is_one : FirstUnfinishedIsOne
first_unfinished_is_one graph capacities steps v w h k = by (cases_eq v w) where
  by : (v ≡ w) ⊎ (v ≡ w → ⊥) → v ≡ w
  by (inl e) = e
  by (inr apart) = elim (cases_lt v w) [ inl below ↦ absurd (h.unfinished (k.before v below)) | inr above ↦ absurd (k.unfinished (h.before w (omega (arith, apart, above)))) ]

pub complete_or_unfinished : CompleteOrUnfinished
complete_or_unfinished graph capacities steps v complete first =
    first.unfinished (complete.computed v first.there, complete.stored v first.there)

-- ---- the code's loop

next-taken : (moves : List TowerMove) (i : ℕ) (step d : TowerMove) → i < length moves → step ≡ get_or moves i d → take i moves ++ step ∷ [] ≡ take (i + 1) moves
next-taken moves i step d below e = ap (λ (m : TowerMove). take i moves ++ m ∷ []) e ∙ sym (take_more moves i d below)

pub next-legal : (graph : ComputationGraph) (capacities : List ℕ) (board : TowerBoard) (moves : List TowerMove) (i : ℕ) (step d : TowerMove) → board ≡ tower_left graph capacities (take i moves)
    → AreLegal graph capacities (take i moves) → i < length moves → step ≡ get_or moves i d → IsTowerAllowed graph capacities board step → AreLegal graph capacities (take (i + 1) moves)
next-legal graph capacities board moves i step d left legal below e allowed =
    subst (AreLegal graph capacities) (next-taken moves i step d below e)
    (allowed-more graph capacities (first_tower_board (length capacities) graph) (take i moves) step legal (subst (λ (b : TowerBoard). IsTowerAllowed graph capacities b step) left allowed))

pub next-left : (graph : ComputationGraph) (capacities : List ℕ) (board : TowerBoard) (moves : List TowerMove) (i : ℕ) (step d : TowerMove) → board ≡ tower_left graph capacities (take i moves)
    → i < length moves → step ≡ get_or moves i d → tower_board_after board step ≡ tower_left graph capacities (take (i + 1) moves)
next-left graph capacities board moves i step d left below e =
    ap (λ (b : TowerBoard). tower_board_after b step) left
    ∙ sym (left-more (first_tower_board (length capacities) graph) (take i moves) step)
    ∙ ap (tower_left graph capacities) (next-taken moves i step d below e)

split-there : (moves : List TowerMove) (i : ℕ) (d : TowerMove) → i < length moves → moves ≡ take i moves ++ get_or moves i d ∷ drop (i + 1) moves
split-there [] i d below = absurd (omega (arith, below))
split-there (m ∷ moves) zero d below = refl
split-there (m ∷ moves) (suc i) d below =
    ap (λ (l : List TowerMove). m ∷ l) (split-there moves i d (omega (arith, below))) ∙ ap (λ (n : ℕ). m ∷ take i moves ++ get_or moves i d ∷ drop n (m ∷ moves)) (next i) where
      next : (n : ℕ) → suc (n + 1) ≡ suc n + 1
      next n = omega arith

pub first-illegal : (graph : ComputationGraph) (capacities : List ℕ) (board : TowerBoard) (moves : List TowerMove) (i : ℕ) (step d : TowerMove) (illegal : TowerIllegal)
    → board ≡ tower_left graph capacities (take i moves) → AreLegal graph capacities (take i moves) → i < length moves → step ≡ get_or moves i d
    → tower_refusal graph capacities board step ≡ Some illegal → IsFirstIllegal graph capacities moves (i + 1) illegal
first-illegal graph capacities board moves i step d illegal left legal below e refused = record {
  before = take i moves;
  move = step;
  later = drop (i + 1) moves;
  parts = split-there moves i d below ∙ ap (λ (m : TowerMove). take i moves ++ m ∷ drop (i + 1) moves) (sym e);
  number_is = omega (arith, length-take-le i moves (omega (arith, below)));
  legal = legal;
  refused = ap (λ (b : TowerBoard). tower_refusal graph capacities b step) (sym left) ∙ refused;
}
