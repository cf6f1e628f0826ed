-- There are as many systems of pieces as pairs of their targets.
use Rattle.std.proofs.Common.{◌≡◌, refl, ap, suc, Bool, true, false, cond, List, [], ◌∷◌, length, map, arith}
use Rattle.std.specs.Prelude.{filter}
use Rattle.std.proofs.lemmas.List.{length-append, length-map}
use Rattle.iolb_model.specs.Program.{AffineProgram}
use Rattle.footprint_pieces.specs.declared.piece.Target.{Target}
use Rattle.footprint_pieces.specs.Pieces.{FootprintPiece}
use Rattle.footprint_pieces.specs.DisjointClaims.{same_target, shared_system, with_target, systems_with, shared_systems, systems_with_lists, pairwise_systems}
use Rattle.footprint_pieces.specs.TargetPairs.{same_targets, same_in_lists, pairwise_targets}

-- the targets of pieces
abbrev pub targets_of : List FootprintPiece → List Target
targets_of pieces = map (λ (piece : FootprintPiece). piece.target) pieces

with-many : (piece : FootprintPiece) (others : List FootprintPiece) → length (with_target piece others) ≡ length (filter (same_target piece.target) (targets_of others))
with-many piece [] = refl
with-many piece (other ∷ others) = by (with-many piece others) (same_target piece.target other.target) where
  by : length (with_target piece others) ≡ length (filter (same_target piece.target) (targets_of others)) → (b : Bool) → length (cond b (other ∷ with_target piece others) (with_target piece others))
      ≡ length (cond b (other.target ∷ filter (same_target piece.target) (targets_of others)) (filter (same_target piece.target) (targets_of others)))
  by more true = ap suc more
  by more false = more

shared-many : (program : AffineProgram) (first second : List FootprintPiece) → length (shared_systems program first second) ≡ length (same_targets (targets_of first) (targets_of second))
shared-many program [] second = refl
shared-many program (piece ∷ first) second = omega (
  arith,
  length-append (systems_with program second piece) (shared_systems program first second),
  length-map (with_target piece second) (shared_system program piece),
  with-many piece second,
  length-append (filter (same_target piece.target) (targets_of second)) (same_targets (targets_of first) (targets_of second)),
  shared-many program first second,
)

pub lists-many : (program : AffineProgram) (pieces : List FootprintPiece) (lists : List (List FootprintPiece))
    → length (systems_with_lists program pieces lists) ≡ length (same_in_lists (targets_of pieces) (map targets_of lists))
lists-many program pieces [] = refl
lists-many program pieces (list ∷ lists) = omega (
  arith,
  length-append (shared_systems program pieces list) (systems_with_lists program pieces lists),
  shared-many program pieces list,
  length-append (same_targets (targets_of pieces) (targets_of list)) (same_in_lists (targets_of pieces) (map targets_of lists)),
  lists-many program pieces lists,
)

pub pairs-many : (program : AffineProgram) (lists : List (List FootprintPiece)) → length (pairwise_systems program lists) ≡ length (pairwise_targets (map targets_of lists))
pairs-many program [] = refl
pairs-many program (pieces ∷ lists) = omega (
  arith,
  length-append (systems_with_lists program pieces lists) (pairwise_systems program lists),
  lists-many program pieces lists,
  length-append (same_in_lists (targets_of pieces) (map targets_of lists)) (pairwise_targets (map targets_of lists)),
  pairs-many program lists,
)
