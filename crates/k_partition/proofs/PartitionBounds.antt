-- The counts of a partition term and the numbers of its bound are the value of a term with its footprint.
use Rattle.std.proofs.Common.{◌≡◌, refl, sym, ◌∙◌, subst, inl, inr, ℕ, ◌+◌, ◌-◌, ◌*◌, ◌/◌, ◌<◌, ◌≤◌, true, List, [], ◌∷◌, ◌++◌, arith}
use Rattle.std.specs.Prelude.{◌⊎◌, flat_map}
use Rattle.std.specs.List.{AllByRecursion}
use Rattle.std.proofs.Math.IntN.{ℤ}
use Rattle.std.proofs.lemmas.Option.{slice_get_within}
use Rattle.iolb_model.specs.Program.{AffineProgram, IsWellFormed}
use Rattle.iolb_model.specs.Bound.{IsAdmitted, StretchNumbers, count_value, events_of, points_of, partition}
use Rattle.iolb_model.specs.Execution.{execution}
use Rattle.iolb_model.specs.Footprint.{AreVertices, Footprint, CostsItsValue}
use Rattle.iolb_model.specs.Game.{loads_of, stands_in, vertices}
use Rattle.iolb_model.specs.Graph.{computation_graph, input_cells}
use Rattle.execution_laws.proofs.Members.{Member}
use Rattle.pebble_game.proofs.Marks.{member-stands, standing-member}
use Rattle.dep_quast.specs.Tree.{SelectionTree}
use Rattle.poly_tree.specs.Poly.{IsLegal}
use Rattle.poly_tree.specs.Printed.{polynomial_of, TermsHaveTheValue}
use Rattle.domain_count.specs.Count.{CountsPoints}
use Rattle.domain_count.specs.Points.{count}
use Rattle.domain_count.proofs.Counted.{counted, counted-value}
use Rattle.footprint_pieces.specs.declared.piece.Target.{Target}
use Rattle.footprint_pieces.specs.declared.piece.Target.TheVariants.{Cell, Instance}
use Rattle.reuse_paths.specs.Families.{FamilyForms}
use Rattle.reuse_paths.specs.FamilyFootprint.{family_footprint}
use Rattle.reuse_paths.specs.FamilyPieces.{family_pieces}
use Rattle.footprint_pieces.specs.Pieces.{FootprintPiece, AreCovered, IsInPieces, IsVertexOf}
use Rattle.k_partition.specs.declared.term.PartitionBound.{PartitionBound}
use Rattle.k_partition.specs.Numbers.{HasNumbers, numbers_of}
use Rattle.k_partition.specs.PartitionPieces.{partition_pieces, CountsCredits}
use Rattle.k_partition.specs.ReusedWords.{IsSoundTerm, counted_points}
use Rattle.k_partition.specs.Term.{PartitionTerm}
use Rattle.k_partition.specs.TermLoads.{AreApartWhere, SoundTermsAreLoaded, credited_count, footprint_in, term_footprint}
use Rattle.k_partition.specs.TermRuns.{SplitsAmongRuns, TermSplits, stretch_numbers}
use Rattle.k_partition.proofs.TermNumbers.{greatest-of, same-numbers}

-- ---- covered footprints have vertices alone

module _ (program : AffineProgram) (values : List ℤ) where
  vertex-of : (target : Target) (numbers : List ℤ) (vertex : ℕ) → IsVertexOf program values target numbers vertex → vertex < vertices (computation_graph program values)
  vertex-of (Cell array) numbers vertex is =
      let place = slice_get_within (input_cells program values) is.0 _ is.2 in omega (arith, is.1, place)
  vertex-of (Instance statement) numbers vertex is =
      let place = slice_get_within (execution program values) vertex _ is in omega (arith, place)

  in-pieces : (pieces : List FootprintPiece) (vertex : ℕ) → IsInPieces program values pieces vertex → vertex < vertices (computation_graph program values)
  in-pieces [] vertex inside = absurd inside
  in-pieces (piece ∷ pieces) vertex (inl here) = vertex-of piece.target _ vertex here.there
  in-pieces (piece ∷ pieces) vertex (inr later) = in-pieces pieces vertex later

  all-members : (P : ℕ → Type 0) (set : List ℕ) → ((v : ℕ) → Member v set → P v) → AllByRecursion P set
  all-members P [] h = tt
  all-members P (v ∷ set) h = (h v (inl refl), all-members P set (λ w m. h w (inr m)))

  pub covered-vertices : (footprint : Footprint) (pieces : List FootprintPiece) → IsAdmitted program values → AreCovered program footprint pieces → AreVertices (computation_graph program values) (footprint values)
  covered-vertices footprint pieces admitted covered =
      all-members (λ (v : ℕ). v < vertices (computation_graph program values)) (footprint values)
      (λ v m. in-pieces pieces v (covered values v admitted (member-stands (footprint values) v m)))

-- ---- the footprint

module _ (program : AffineProgram) (term : PartitionTerm) (bound : PartitionBound) (value : TermsHaveTheValue) (has : HasNumbers term bound) (legal : IsLegal bound.count) (legal_credits : IsLegal bound.credits)
    (counts : CountsPoints program term.nest bound.count) (credited : CountsCredits program term bound.credits) where
  -- the polynomials have the values of the counts
  count-is : (values : List ℤ) → IsAdmitted program values → count_value (polynomial_of bound.count) values ≡ count term.nest values
  count-is values admitted = counted program term.nest bound.count values legal counts value admitted

  credits-are : (values : List ℤ) → IsAdmitted program values → count_value (polynomial_of bound.credits) values ≡ credited_count term values
  credits-are values admitted = counted-value bound.credits values (credited_count term values) legal_credits value (credited values admitted)

  pub partition-footprint-is : (trees : List (List SelectionTree)) → IsWellFormed program → IsSoundTerm program term → SoundTermsAreLoaded → AreApartWhere program term
      → AreCovered program (term_footprint program term) (partition_pieces program trees term)
      → CostsItsValue program (partition (polynomial_of bound.count) (polynomial_of bound.credits) (numbers_of bound)) (term_footprint program term)
  partition-footprint-is trees formed sound law apart covered = record {
    vertices = λ values admitted. covered-vertices program values (term_footprint program term) (partition_pieces program trees term) admitted covered;
    loaded = λ values s moves admitted some game.
        less (numbers_of bound) (count term.nest values) (count_value (polynomial_of bound.count) values) (credited_count term values) (count_value (polynomial_of bound.credits) values) s
        (loads_of (term_footprint program term values) moves) (same-numbers term bound has) (count-is values admitted) (credits-are values admitted)
        (law program term values s (points_of (stretch_numbers term) s) moves formed admitted sound (apart values admitted) (greatest-of term s sound.positive) game);
  } where
    less : (numbers : StretchNumbers) (n m c d s l : ℕ) → numbers ≡ stretch_numbers term → m ≡ n → d ≡ c
        → events_of (stretch_numbers term) s * ((n - 1) / points_of (stretch_numbers term) s) ≤ l + c → events_of numbers s * ((m - 1) / points_of numbers s) - d ≤ l
    less numbers n m c d s l f g h le =
        subst (λ (x : StretchNumbers). events_of x s * ((m - 1) / points_of x s) - d ≤ l) (sym f)
        (subst (λ (x : ℕ). events_of (stretch_numbers term) s * ((x - 1) / points_of (stretch_numbers term) s) - d ≤ l) (sym g)
        (within (events_of (stretch_numbers term) s * ((n - 1) / points_of (stretch_numbers term) s)) c d l h le)) where
          within : (p c d l : ℕ) → d ≡ c → p ≤ l + c → p - d ≤ l
          within p c d l e le = omega (arith, e, le)

  -- what is said of the term is said of the value of its bound
  pub partition-splits : TermSplits program term
      → SplitsAmongRuns program (count_value (polynomial_of bound.count)) (count_value (polynomial_of bound.credits)) (numbers_of bound) (counted_points program term) (term_footprint program term)
  partition-splits split = record {
    distinct = split.distinct;
    shares = record {
      instances = split.shares.instances;
      many = λ values admitted. split.shares.many values admitted ∙ sym (count-is values admitted);
      loaded = λ values s n red moves admitted run distinct few.
          let l : ℕ = loads_of (term_footprint program term values) moves in
          subst (λ (c : ℕ). events_of (numbers_of bound) s * ((n - 1) / points_of (numbers_of bound) s) ≤ l + c) (sym (credits-are values admitted))
          (subst (λ (x : StretchNumbers). events_of x s * ((n - 1) / points_of x s) ≤ l + credited_count term values) (sym (same-numbers term bound has))
          (split.shares.loaded values s n red moves admitted run distinct few));
    };
  }

-- ---- the pieces of all families cover

module _ (program : AffineProgram) (trees : List (List SelectionTree)) (term : PartitionTerm) where
  abbrev pieces_at : FamilyForms → List FootprintPiece
  pieces_at family = family_pieces program trees term.statement term.nest family

  in-left : (values : List ℤ) (some more : List FootprintPiece) (vertex : ℕ) → IsInPieces program values some vertex → IsInPieces program values (some ++ more) vertex
  in-left values [] more vertex inside = absurd inside
  in-left values (p ∷ some) more vertex (inl here) = inl here
  in-left values (p ∷ some) more vertex (inr later) = inr (in-left values some more vertex later)

  in-right : (values : List ℤ) (some more : List FootprintPiece) (vertex : ℕ) → IsInPieces program values more vertex → IsInPieces program values (some ++ more) vertex
  in-right values [] more vertex inside = inside
  in-right values (p ∷ some) more vertex inside = inr (in-right values some more vertex inside)

  member-either : (some more : List ℕ) (v : ℕ) → Member v (some ++ more) → Member v some ⊎ Member v more
  member-either [] more v m = inr m
  member-either (x ∷ some) more v (inl here) = inl (inl here)
  member-either (x ∷ some) more v (inr later) = by (member-either some more v later) where
    by : Member v some ⊎ Member v more → Member v (x ∷ some) ⊎ Member v more
    by (inl first) = inl (inr first)
    by (inr second) = inr second

  -- a vertex of a family's footprint, or of those behind it, is in the pieces of all
  first-or-later : (first second : List ℕ) (here later : List FootprintPiece) (values : List ℤ) (vertex : ℕ) → (stands_in first vertex ≡ true → IsInPieces program values here vertex)
      → (stands_in second vertex ≡ true → IsInPieces program values later vertex) → Member vertex first ⊎ Member vertex second → IsInPieces program values (here ++ later) vertex
  first-or-later first second here later values vertex in-here in-later (inl m) = in-left values here later vertex (in-here (member-stands first vertex m))
  first-or-later first second here later values vertex in-here in-later (inr m) = in-right values here later vertex (in-later (member-stands second vertex m))

  pub families-cover : (families : List FamilyForms)
      → AllByRecursion (λ (family : FamilyForms). AreCovered program (family_footprint program term.statement term.nest family) (pieces_at family)) families
      → (values : List ℤ) (vertex : ℕ) → IsAdmitted program values → stands_in (flat_map (footprint_in program term values) families) vertex ≡ true → IsInPieces program values (flat_map pieces_at families) vertex
  families-cover [] covers values vertex admitted stands = absurd cc
  families-cover (family ∷ families) covers values vertex admitted stands =
      let first : List ℕ = footprint_in program term values family in
      let second : List ℕ = flat_map (footprint_in program term values) families in
      first-or-later first second (pieces_at family) (flat_map pieces_at families) values vertex (λ h. covers.0 values vertex admitted h) (λ h. families-cover families covers.1 values vertex admitted h)
      (member-either first second vertex (standing-member (first ++ second) vertex stands))
