-- Where pieces of outputs and words are apart, so are the instances that are counted.
use Rattle.std.proofs.Common.{◌≡◌, inl, inr, ℕ, true, List, [], ◌∷◌, ◌++◌, map}
use Rattle.std.specs.Prelude.{ℤ, Option, Some, None, is_some, if◌then◌else◌}
use Rattle.std.specs.List.{AllByRecursion}
use Rattle.iolb_model.specs.Bound.{IsAdmitted}
use Rattle.iolb_model.specs.Footprint.{AreDisjoint, ArePairwiseDisjoint, Footprint}
use Rattle.iolb_model.specs.Game.{stands_in}
use Rattle.iolb_model.specs.Program.{AffineProgram, IsWellFormed}
use Rattle.affine_program.specs.Parts.{ProgramParts, meaning}
use Rattle.footprint_pieces.specs.Pieces.{AreApartPieces, ArePairwiseApart, FootprintPiece, IsInPieces}
use Rattle.iolb_check.specs.Claims.{claim_of_term}
use Rattle.iolb_check.specs.Sound.{IsSound, term_vertices}
use Rattle.iolb_check.specs.declared.term.Term.{Term}
use Rattle.iolb_check.specs.declared.term.Term.TheVariants as terms
use Rattle.last_writers.specs.Outputs.{IsSoundOutput, output_footprint, output_piece}
use Rattle.last_writers.proofs.OutputPieces.{output-covers}
use Rattle.reuse_paths.specs.Walks.{SpotForms}
use Rattle.wavefront.specs.Fronts.{IsSoundFront, front_footprint}
use Rattle.wavefront.specs.FrontPieces.{front_piece}
use Rattle.wavefront.specs.FrontTerm.{WavefrontTerm}
use Rattle.wavefront.specs.View.{front_of}
use Rattle.wavefront.proofs.FrontCover.{front-covers}
use Rattle.store_bound.specs.Counted.{computed_fronts}
use Rattle.store_bound.specs.Sound.{output_footprints, word_footprints}
use Rattle.store_bound.specs.StoresFit.{output_pieces, single_pieces}
use Rattle.store_terms.specs.Claims.{OutputClaim}

-- ---- the counted terms are sound, and apart where all terms are

module _ (program : ProgramParts) where
  -- what is said of each counted wavefront term, where it is said of those of one term
  front-then : (P : WavefrontTerm → Type 0) (front : WavefrontTerm) (rest : List WavefrontTerm) (source : Option SpotForms) → P front → AllByRecursion P rest
      → AllByRecursion P ((if is_some source then front ∷ [] else []) ++ rest)
  front-then P front rest None h g = g
  front-then P front rest (Some spot) h g = (h, g)

  pub fronts-sound : (ts : List Term) → AllByRecursion (IsSound program) ts → AllByRecursion (IsSoundFront (meaning program)) (computed_fronts (map claim_of_term ts))
  fronts-sound [] h = tt
  fronts-sound (terms.Cold cold ∷ ts) h = fronts-sound ts h.1
  fronts-sound (terms.Partition partition ∷ ts) h = fronts-sound ts h.1
  fronts-sound (terms.Joint joint ∷ ts) h = fronts-sound ts h.1
  fronts-sound (terms.Wavefront front ∷ ts) h =
      front-then (IsSoundFront (meaning program)) (front_of front) (computed_fronts (map claim_of_term ts)) (front_of front).source h.0 (fronts-sound ts h.1)

  module _ (values : List ℤ) where
    abbrev at : List Footprint → List (List ℕ)
    at footprints = map (λ (f : Footprint). f values) footprints

    abbrev words : List WavefrontTerm → List (List ℕ)
    words fronts = at (word_footprints (meaning program) fronts)

    fronts-disjoint : (set : List ℕ) (ts : List Term) → AllByRecursion (AreDisjoint set) (at (map (term_vertices program) ts)) → AllByRecursion (AreDisjoint set) (words (computed_fronts (map claim_of_term ts)))
    fronts-disjoint set [] h = tt
    fronts-disjoint set (terms.Cold cold ∷ ts) h = fronts-disjoint set ts h.1
    fronts-disjoint set (terms.Partition partition ∷ ts) h = fronts-disjoint set ts h.1
    fronts-disjoint set (terms.Joint joint ∷ ts) h = fronts-disjoint set ts h.1
    fronts-disjoint set (terms.Wavefront front ∷ ts) h = by (front_of front).source (fronts-disjoint set ts h.1) where
      by : (source : Option SpotForms) → AllByRecursion (AreDisjoint set) (words (computed_fronts (map claim_of_term ts)))
          → AllByRecursion (AreDisjoint set) (words ((if is_some source then front_of front ∷ [] else []) ++ computed_fronts (map claim_of_term ts)))
      by None g = g
      by (Some spot) g = (h.0, g)

    pub fronts-apart : (ts : List Term) → ArePairwiseDisjoint (at (map (term_vertices program) ts)) → ArePairwiseDisjoint (words (computed_fronts (map claim_of_term ts)))
    fronts-apart [] h = tt
    fronts-apart (terms.Cold cold ∷ ts) h = fronts-apart ts h.1
    fronts-apart (terms.Partition partition ∷ ts) h = fronts-apart ts h.1
    fronts-apart (terms.Joint joint ∷ ts) h = fronts-apart ts h.1
    fronts-apart (terms.Wavefront front ∷ ts) h = by (front_of front).source (fronts-apart ts h.1) where
      by : (source : Option SpotForms) → ArePairwiseDisjoint (words (computed_fronts (map claim_of_term ts)))
          → ArePairwiseDisjoint (words ((if is_some source then front_of front ∷ [] else []) ++ computed_fronts (map claim_of_term ts)))
      by None g = g
      by (Some spot) g = (fronts-disjoint (front_footprint (meaning program) (front_of front) values) ts h.0, g)

-- ---- outputs and words

module _ (program : AffineProgram) (formed : IsWellFormed program) (values : List ℤ) (admitted : IsAdmitted program values) where
  abbrev sets : List Footprint → List (List ℕ)
  sets footprints = map (λ (f : Footprint). f values) footprints

  -- a word of counted terms stands in their pieces
  word-covered : (front : WavefrontTerm) (v : ℕ) → IsSoundFront program front → stands_in (front_footprint program front values) v ≡ true → IsInPieces program values (front_piece program front ∷ []) v
  word-covered front v sound h = front-covers program front formed sound values v admitted h

  more-pieces : (piece : FootprintPiece) (pieces : List FootprintPiece) (v : ℕ) → IsInPieces program values (piece ∷ []) v → IsInPieces program values (piece ∷ pieces) v
  more-pieces piece pieces v (inl h) = inl h
  more-pieces piece pieces v (inr h) = absurd h

  module _ (o : OutputClaim) (sound : IsSoundOutput program o) where
    covered : (v : ℕ) → stands_in (output_footprint program o values) v ≡ true → IsInPieces program values (output_piece program o ∷ []) v
    covered v h = output-covers program o formed sound values v admitted h

    from-outputs : (others : List OutputClaim) → AllByRecursion (IsSoundOutput program) others → AllByRecursion (AreApartPieces program (output_piece program o ∷ [])) (single_pieces program others)
        → AllByRecursion (AreDisjoint (output_footprint program o values)) (sets (output_footprints program others))
    from-outputs [] sounds apart = tt
    from-outputs (other ∷ others) sounds apart = (
      λ v here there. apart.0 values v admitted (covered v here) (output-covers program other formed sounds.0 values v admitted there),
      from-outputs others sounds.1 apart.1,
    )

    from-words : (fronts : List WavefrontTerm) → AllByRecursion (IsSoundFront program) fronts
        → ((v : ℕ) → IsInPieces program values (output_piece program o ∷ []) v → IsInPieces program values (map (front_piece program) fronts) v → ⊥)
        → AllByRecursion (AreDisjoint (output_footprint program o values)) (sets (word_footprints program fronts))
    from-words [] sounds apart = tt
    from-words (front ∷ fronts) sounds apart = (
      λ v here there. apart v (covered v here) (more-pieces (front_piece program front) (map (front_piece program) fronts) v (word-covered front v sounds.0 there)),
      from-words fronts sounds.1 (λ v here there. apart v here (inr there)),
    )

  both : (set : List ℕ) (xs ys : List Footprint) → AllByRecursion (AreDisjoint set) (sets xs) → AllByRecursion (AreDisjoint set) (sets ys) → AllByRecursion (AreDisjoint set) (sets (xs ++ ys))
  both set [] ys h g = g
  both set (x ∷ xs) ys h g = (h.0, both set xs ys h.1 g)

  pub all-apart : (outputs : List OutputClaim) (fronts : List WavefrontTerm) → AllByRecursion (IsSoundOutput program) outputs → AllByRecursion (IsSoundFront program) fronts
      → ArePairwiseApart program (single_pieces program outputs)
      → ((v : ℕ) → IsInPieces program values (output_pieces program outputs) v → IsInPieces program values (map (front_piece program) fronts) v → ⊥)
      → ArePairwiseDisjoint (sets (word_footprints program fronts)) → ArePairwiseDisjoint (sets (output_footprints program outputs ++ word_footprints program fronts))
  all-apart [] fronts sounds words singles shared disjoint = disjoint
  all-apart (o ∷ outputs) fronts sounds words singles shared disjoint = (
    both (output_footprint program o values) (output_footprints program outputs) (word_footprints program fronts)
        (from-outputs o sounds.0 outputs sounds.1 singles.0)
        (from-words o sounds.0 fronts words (λ v here there. shared v (more-pieces (output_piece program o) (output_pieces program outputs) v here) there)),
    all-apart outputs fronts sounds.1 words singles.1 (λ v here there. shared v (inr here) there) disjoint,
  )
