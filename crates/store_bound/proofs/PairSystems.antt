-- There are as many systems of pieces of outputs and words as pairs of their statements.
use Rattle.std.proofs.Common.{◌≡◌, refl, ◌∙◌, ap, ℕ, ◌+◌, Bool, true, false, cond, List, [], ◌∷◌, ◌++◌, length, map, arith}
use Rattle.std.specs.Prelude.{◌==◌, if◌then◌else◌, is_some, Option, Some, None, filter, option_map}
use Rattle.std.specs.List.{cons_option}
use Rattle.std.proofs.lemmas.List.{length-append}
use Rattle.iolb_model.specs.Program.{AffineProgram}
use Rattle.footprint_pieces.specs.declared.piece.Target.{Target}
use Rattle.footprint_pieces.specs.declared.piece.Target.TheVariants.{Instance}
use Rattle.footprint_pieces.specs.DisjointClaims.{pairwise_systems, same_target, shared_system, shared_systems, systems_with, systems_with_lists, with_target}
use Rattle.footprint_pieces.specs.Pieces.{FootprintPiece}
use Rattle.iolb_check.specs.Claims.{TermClaim, cold, front, front_term, joint, partition}
use Rattle.reuse_paths.specs.Walks.{SpotForms}
use Rattle.wavefront.specs.FrontPieces.{front_piece, front_target}
use Rattle.last_writers.specs.Outputs.{output_piece}
use Rattle.store_bound.specs.Counted.{computed_fronts}
use Rattle.store_bound.specs.StoresFit.{output_pairs, output_pieces, single_pieces, systems_of, word_pairs, word_statements}
use Rattle.store_terms.specs.Claims.{OutputClaim}

abbrev pub statements : List OutputClaim → List ℕ
statements outputs = map (λ (o : OutputClaim). o.statement) outputs

module _ (program : AffineProgram) where
  -- of others those with an output's statement
  abbrev same_of : OutputClaim → List OutputClaim → List ℕ
  same_of o others = filter (λ (s : ℕ). o.statement == s) (statements others)

  -- of an output with each of others
  with-outputs : (o : OutputClaim) (others : List OutputClaim)
      → length (systems_with_lists program (output_piece program o ∷ []) (single_pieces program others)) ≡ length (filter (λ (s : ℕ). o.statement == s) (statements others))
  with-outputs o [] = refl
  with-outputs o (other ∷ others) =
      length-append (shared_systems program (output_piece program o ∷ []) (output_piece program other ∷ [])) (systems_with_lists program (output_piece program o ∷ []) (single_pieces program others))
      ∙ by (o.statement == other.statement) (with-outputs o others) where
        by : (b : Bool) → length (systems_with_lists program (output_piece program o ∷ []) (single_pieces program others)) ≡ length (same_of o others)
            → length (map (shared_system program (output_piece program o)) (cond b (output_piece program other ∷ []) []) ++ []) + length (systems_with_lists program (output_piece program o ∷ []) (single_pieces program others))
            ≡ length (cond b (other.statement ∷ same_of o others) (same_of o others))
        by true e = omega (arith, e)
        by false e = omega (arith, e)

  pub outputs-many : (outputs : List OutputClaim) → length (pairwise_systems program (single_pieces program outputs)) ≡ length (output_pairs (statements outputs))
  outputs-many [] = refl
  outputs-many (o ∷ outputs) =
      omega (
        arith,
        length-append (systems_with_lists program (output_piece program o ∷ []) (single_pieces program outputs)) (pairwise_systems program (single_pieces program outputs)),
        with-outputs o outputs,
        length-append (filter (λ (s : ℕ). o.statement == s) (statements outputs)) (output_pairs (statements outputs)),
        outputs-many outputs,
      )

  abbrev words : List TermClaim → List FootprintPiece
  words terms = map (front_piece program) (computed_fronts terms)

  -- of the words of terms those that an output's statement computed
  abbrev with_words : OutputClaim → List TermClaim → List FootprintPiece
  with_words o terms = with_target (output_piece program o) (words terms)

  abbrev words_with : OutputClaim → List TermClaim → List ℕ
  words_with o terms = filter (λ (s : ℕ). o.statement == s) (word_statements terms)

  -- of an output with the words of terms
  with-words : (o : OutputClaim) (terms : List TermClaim)
      → length (systems_with program (words terms) (output_piece program o)) ≡ length (filter (λ (s : ℕ). o.statement == s) (word_statements terms))
  with-words o [] = refl
  with-words o (cold claim sums ∷ terms) = with-words o terms
  with-words o (partition term ∷ terms) = with-words o terms
  with-words o (joint term ∷ terms) = with-words o terms
  with-words o (front claim sums outer_sums ∷ terms) = by claim.source refl (with-words o terms) where
    either : (b : Bool) (s : ℕ) → length (map (shared_system program (output_piece program o)) (with_words o terms)) ≡ length (words_with o terms)
        → length (map (shared_system program (output_piece program o)) (cond b (front_piece program (front_term claim sums outer_sums) ∷ (with_words o terms)) (with_words o terms))) ≡ length (cond b (s ∷ (words_with o terms)) (words_with o terms))
    either true s e = omega (arith, e)
    either false s e = e

    by : (source : Option SpotForms) → claim.source ≡ source → length (map (shared_system program (output_piece program o)) (with_words o terms)) ≡ length (words_with o terms)
        → length (systems_with program (map (front_piece program) ((if is_some source then (front_term claim sums outer_sums) ∷ [] else []) ++ computed_fronts terms)) (output_piece program o))
        ≡ length (filter (λ (s : ℕ). o.statement == s) (cons_option (option_map (λ (spot : SpotForms). spot.statement) source) (word_statements terms)))
    by None e ih = ih
    by (Some spot) e ih =
        ap (λ (target : Target). length (map (shared_system program (output_piece program o)) (cond (same_target (Instance o.statement) target) (front_piece program (front_term claim sums outer_sums) ∷ (with_words o terms)) (with_words o terms)))) (ap (front_target program (front_term claim sums outer_sums)) e)
        ∙ either (o.statement == spot.statement) spot.statement ih

  pub words-many : (outputs : List OutputClaim) (terms : List TermClaim)
      → length (shared_systems program (output_pieces program outputs) (words terms)) ≡ length (word_pairs (statements outputs) (word_statements terms))
  words-many [] terms = refl
  words-many (o ∷ outputs) terms =
      omega (
        arith,
        length-append (systems_with program (words terms) (output_piece program o)) (shared_systems program (output_pieces program outputs) (words terms)),
        with-words o terms,
        length-append (filter (λ (s : ℕ). o.statement == s) (word_statements terms)) (word_pairs (statements outputs) (word_statements terms)),
        words-many outputs terms,
      )

  pub systems-many : (outputs : List OutputClaim) (terms : List TermClaim)
      → length (systems_of program outputs (computed_fronts terms)) ≡ length (output_pairs (statements outputs)) + length (word_pairs (statements outputs) (word_statements terms))
  systems-many outputs terms =
      omega (
        arith,
        length-append (pairwise_systems program (single_pieces program outputs)) (shared_systems program (output_pieces program outputs) (words terms)),
        outputs-many outputs,
        words-many outputs terms,
      )
