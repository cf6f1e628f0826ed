-- The claims on pieces, part by part.
use Rattle.std.proofs.Common.{◌≡◌, sym, ◌∙◌, ap, subst, ℕ, ◌+◌, ◌<◌, ◌≤◌, Bool, true, false, cond, List, [], ◌∷◌, ◌++◌, length, map, get_or, drop, arith}
use Rattle.std.specs.Prelude.{Result, Vec}
use Rattle.std.specs.List.{AllByRecursion}
use Rattle.std.specs.Global.{Global}
use Rattle.std.proofs.lemmas.List.{length-append}
use Rattle.base_laws.proofs.Lists.{rest_at}
use Rattle.iolb_model.specs.Program.{AffineProgram}
use Rattle.claims.specs.Claims.{AllHold, Decides, IsRefusal}
use Rattle.claims.specs.declared.place.Step.{Step}
use Rattle.claims.specs.declared.place.Step.TheVariants.{Index}
use Rattle.claims.specs.declared.refused.Refused.{Refused}
use Rattle.affine_form.specs.Multipliers.{FarkasMultipliers}
use Rattle.affine_form.specs.System.{AffineSystem}
use Rattle.claims.proofs.Pointless.{claims_from, one-from, chunk-stop, chunk-go}
use Rattle.footprint_pieces.specs.declared.piece.Piece.{Piece}
use Rattle.footprint_pieces.specs.Pieces.{FootprintPiece, PieceFits, piece_of, pieces_of}
use Rattle.footprint_pieces.specs.DisjointClaims.{same_target, shared_system, with_target, systems_with, shared_systems, systems_with_lists, pairwise_systems, pair_claims}

-- ---- systems of which some come first

module _ (condition : ℕ) (place : List Step) (at next : ℕ) (whole here rest : List AffineSystem) (shown : List FarkasMultipliers) (split : whole ≡ here ++ rest) (enough : at + length whole ≤ length shown) where
  many : length whole ≡ length here + length rest
  many = ap length split ∙ length-append here rest

  -- there are multipliers for the first
  pub first-room : at + length here ≤ length shown
  first-room = omega (arith, many, enough)

  -- a claim on the first fails
  pub first-stop : (r : Refused) → IsRefusal (claims_from condition place at here shown) r → IsRefusal (claims_from condition place at whole shown) r
  first-stop r h = subst (λ (xs : List AffineSystem). IsRefusal (claims_from condition place at xs shown) r) (sym split) (chunk-stop condition place at here rest shown r first-room h)

  module _ (is_next : next ≡ at + length here) where
    -- there are multipliers for the others
    pub rest-room : next + length rest ≤ length shown
    rest-room = omega (arith, many, enough, is_next)

    -- they end where those of all end
    pub rest-end : next + length rest ≡ at + length whole
    rest-end = omega (arith, many, is_next)

    -- those on the first hold
    pub first-go : (later : Result (Unit {0}) Refused) → AllHold (claims_from condition place at here shown) → Decides (claims_from condition place next rest shown) later → Decides (claims_from condition place at whole shown) later
    first-go later h g =
        subst (λ (xs : List AffineSystem). Decides (claims_from condition place at xs shown) later) (sym split) (chunk-go condition place at next here rest shown later first-room is_next h g)

-- ---- a piece and those of a list

module _ (program : AffineProgram) (piece : FootprintPiece) (others : List Piece) (i : ℕ) (other : Piece) (below : i < length others) (is : other ≡ get_or others i other) where
  -- the systems from a piece on: its own where it has the target, and those from the next on
  split : (b : Bool) → same_target piece.target other.target ≡ b
      → systems_with program (map piece_of (drop i others)) piece
      ≡ map (shared_system program piece) (cond b (piece_of other ∷ with_target piece (map piece_of (drop (i + 1) others))) (with_target piece (map piece_of (drop (i + 1) others))))
  split b e =
      ap (λ (ps : List Piece). systems_with program (map piece_of ps) piece) (rest_at others i other below is)
      ∙ ap (λ (c : Bool). map (shared_system program piece) (cond c (piece_of other ∷ with_target piece (map piece_of (drop (i + 1) others))) (with_target piece (map piece_of (drop (i + 1) others))))) e

  pub split-other : same_target piece.target other.target ≡ false → systems_with program (map piece_of (drop i others)) piece ≡ systems_with program (map piece_of (drop (i + 1) others)) piece
  split-other e = split false e

  pub split-same : same_target piece.target other.target ≡ true
      → systems_with program (map piece_of (drop i others)) piece ≡ (shared_system program piece (piece_of other) ∷ []) ++ systems_with program (map piece_of (drop (i + 1) others)) piece
  split-same e = split true e

-- what decides the claims of a pair decides those on its system, where its multipliers stand in the list
pub pair-found : (program : AffineProgram) (piece other : FootprintPiece) (condition : ℕ) (place member : List Step) (at : ℕ) (shown : List FarkasMultipliers) (m : FarkasMultipliers) (found : Result (Unit {0}) Refused)
    → at < length shown → m ≡ get_or shown at m → member ≡ place ++ Index at ∷ [] → Decides (pair_claims program condition member piece other m) found
    → Decides (claims_from condition place at (shared_system program piece other ∷ []) shown) found
pair-found program piece other condition place member at shown m found below is there h =
    one-from condition place at (shared_system program piece other) shown m found below is
    (subst (λ (p : List Step). Decides (pair_claims program condition p piece other m) found) there h)

-- ---- the pieces of a list and those of another; pieces and those of later lists; several lists

pub split-pieces : (program : AffineProgram) (pieces : List Piece) (others : List FootprintPiece) (i : ℕ) (piece : Piece) → i < length pieces → piece ≡ get_or pieces i piece
    → shared_systems program (map piece_of (drop i pieces)) others ≡ systems_with program others (piece_of piece) ++ shared_systems program (map piece_of (drop (i + 1) pieces)) others
split-pieces program pieces others i piece below is = ap (λ (ps : List Piece). shared_systems program (map piece_of ps) others) (rest_at pieces i piece below is)

pub split-later : (program : AffineProgram) (pieces : List FootprintPiece) (lists : List (Vec Piece Global)) (i : ℕ) (others : Vec Piece Global) → i < length lists → others ≡ get_or lists i others
    → systems_with_lists program pieces (map pieces_of (drop i lists)) ≡ shared_systems program pieces (pieces_of others) ++ systems_with_lists program pieces (map pieces_of (drop (i + 1) lists))
split-later program pieces lists i others below is = ap (λ (ls : List (Vec Piece Global)). systems_with_lists program pieces (map pieces_of ls)) (rest_at lists i others below is)

pub split-lists : (program : AffineProgram) (lists : List (Vec Piece Global)) (i : ℕ) (pieces : Vec Piece Global) → i < length lists → pieces ≡ get_or lists i pieces
    → pairwise_systems program (map pieces_of (drop i lists))
    ≡ systems_with_lists program (pieces_of pieces) (map pieces_of (drop (i + 1) lists)) ++ pairwise_systems program (map pieces_of (drop (i + 1) lists))
split-lists program lists i pieces below is = ap (λ (ls : List (Vec Piece Global)). pairwise_systems program (map pieces_of ls)) (rest_at lists i pieces below is)

-- ---- what is left fits

pub pieces-fit : (program : AffineProgram) (pieces : List Piece) (i : ℕ) (piece : Piece) → i < length pieces → piece ≡ get_or pieces i piece
    → AllByRecursion (PieceFits program) (map piece_of (drop i pieces)) → PieceFits program (piece_of piece) × AllByRecursion (PieceFits program) (map piece_of (drop (i + 1) pieces))
pieces-fit program pieces i piece below is h = subst (λ (ps : List Piece). AllByRecursion (PieceFits program) (map piece_of ps)) (rest_at pieces i piece below is) h

pub lists-fit : (program : AffineProgram) (lists : List (Vec Piece Global)) (i : ℕ) (pieces : Vec Piece Global) → i < length lists → pieces ≡ get_or lists i pieces
    → AllByRecursion (AllByRecursion (PieceFits program)) (map pieces_of (drop i lists))
    → AllByRecursion (PieceFits program) (pieces_of pieces) × AllByRecursion (AllByRecursion (PieceFits program)) (map pieces_of (drop (i + 1) lists))
lists-fit program lists i pieces below is h = subst (λ (ls : List (Vec Piece Global)). AllByRecursion (AllByRecursion (PieceFits program)) (map pieces_of ls)) (rest_at lists i pieces below is) h
