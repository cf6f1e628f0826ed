-- Sound stores are made: what outputs and words cost adds up.
use Rattle.std.proofs.Common.{◌≡◌, refl, sym, ◌∙◌, ap, subst, ℕ, ◌+◌, ◌-◌, ◌*◌, ◌<◌, ◌≤◌, List, [], ◌∷◌, ◌++◌, length, map, sum_by, arith}
use Rattle.std.specs.Prelude.{ℤ, Option, Some, None, if◌then◌else◌, is_some, option_map, sum}
use Rattle.std.specs.List.{AllByRecursion, AllZip}
use Rattle.std.proofs.lemmas.List.Sums.{sum-map, sum_by-append, sum_by-cons}
use Rattle.std.proofs.lemmas.List.{map-append}
use Rattle.base_laws.proofs.Lists.{All-map, All-weaken}
use Rattle.iolb_model.specs.declared.game.Move.{Move}
use Rattle.iolb_model.specs.Bound.{BoundTerm, IsAdmitted, count_value, term_value, wavefront}
use Rattle.iolb_model.specs.Execution.{execution}
use Rattle.iolb_model.specs.Footprint.{ArePairwiseDisjoint, Footprint}
use Rattle.iolb_model.specs.Game.{IsCompletePebbling, is_store, stores}
use Rattle.iolb_model.specs.Graph.{ComputationGraph, computation_graph, input_cells, vertex_of}
use Rattle.iolb_model.specs.Source.{Source}
use Rattle.affine_program.specs.Parts.{ProgramParts, meaning}
use Rattle.domain_count.specs.Count.{CountsPoints}
use Rattle.domain_count.specs.Points.{count, points}
use Rattle.domain_count.proofs.Counted.{counted}
use Rattle.pebble_game.specs.Loaded.{loaded_among}
use Rattle.pebble_game.proofs.InputVertices.{slice_get-below}
use Rattle.poly_tree.specs.Poly.{IsLegal, Quotient}
use Rattle.poly_tree.specs.Printed.{TermsHaveTheValue, polynomial_of}
use Rattle.reuse_paths.specs.Arrival.{instance_of}
use Rattle.reuse_paths.specs.Places.{place_of}
use Rattle.reuse_paths.specs.Walks.{SpotForms}
use Rattle.wavefront.specs.FrontTerm.{WavefrontTerm, outer_nest}
use Rattle.wavefront.specs.Fronts.{IsSoundAt, IsSoundFront, IsThereAt, front_footprint, word_vertex}
use Rattle.wavefront.specs.View.{front_of}
use Rattle.wavefront.proofs.FrontLoads.{front-words-loaded}
use Rattle.iolb_check.specs.Bounds.{term_of, terms_of}
use Rattle.iolb_check.specs.Claims.{TermClaim, claim_of_certificate, claim_of_term}
use Rattle.iolb_check.specs.Conditions.{AreValuesOf}
use Rattle.iolb_check.proofs.LegalCounts.{count-legal}
use Rattle.iolb_check.specs.Sound.{IsCounted, IsSound}
use Rattle.iolb_check.specs.declared.bound.Value.{Value}
use Rattle.iolb_check.specs.declared.bound.Value.TheVariants as values
use Rattle.iolb_check.specs.declared.term.Term.{Term}
use Rattle.iolb_check.specs.declared.term.Term.TheVariants as terms
use Rattle.store_laws.specs.Stored.{stores_of}
use Rattle.store_laws.proofs.MovesTaken.{disjoint_add_up}
use Rattle.store_laws.proofs.StoredVertices.{loaded_stores}
use Rattle.last_writers.specs.Outputs.{IsSoundOutput, output_footprint}
use Rattle.last_writers.proofs.OutputSound.{outputs-stored}
use Rattle.store_bound.specs.Counted.{computed_fronts, computed_values, named_terms, named_values, terms_named}
use Rattle.store_bound.specs.Sound.{IsOutputCount, SoundStoresAreMade, output_footprints, word_footprints}
use Rattle.store_bound.specs.Values.{store_value}
use Rattle.store_bound.proofs.NamedTerms.{named-claims, named-counted, named-sound, named-valued}
use Rattle.store_terms.specs.Claims.{claim_of_output}
use Rattle.store_terms.specs.declared.output.Output.{Output}

module _ (program : ProgramParts) (value : TermsHaveTheValue) (sizes : List ℤ) (s : ℕ) (moves : List Move) (admitted : IsAdmitted (meaning program) sizes)
    (game : IsCompletePebbling (computation_graph (meaning program) sizes) s moves) where
  abbrev graph : ComputationGraph
  graph = computation_graph (meaning program) sizes

  abbrev sets : List Footprint → List (List ℕ)
  sets footprints = map (λ (f : Footprint). f sizes) footprints

  abbrev stored : List ℕ → ℕ
  stored set = stores_of set moves

  -- ---- outputs

  abbrev counted_by : Quotient → ℕ
  counted_by q = count_value (polynomial_of q) sizes

  outputs-low : (outputs : List Output) (counts : List Quotient) → AllByRecursion (IsSoundOutput (meaning program)) (map claim_of_output outputs) → AllZip (IsOutputCount program) outputs counts
      → sum_by counted_by counts ≤ sum_by stored (sets (output_footprints (meaning program) (map claim_of_output outputs)))
  outputs-low [] [] sounds are = omega arith
  outputs-low [] (q ∷ counts) sounds are = absurd are
  outputs-low (o ∷ outputs) [] sounds are = absurd are
  outputs-low (o ∷ outputs) (q ∷ counts) sounds are =
      omega (
        arith,
        sum_by-cons counted_by q counts,
        sum_by-cons stored (output_footprint (meaning program) (claim_of_output o) sizes) (sets (output_footprints (meaning program) (map claim_of_output outputs))),
        counted (meaning program) o.nest q sizes are.0.legal are.0.counts value admitted,
        outputs-stored (meaning program) (claim_of_output o) sizes s moves sounds.0 admitted game,
        outputs-low outputs counts sounds.1 are.1,
      )

  -- ---- words

  -- the words of a term whose words were computed are instances
  are-instances : (term : WavefrontTerm) (spot : SpotForms) → term.source ≡ Some spot → IsSoundFront (meaning program) term → AllByRecursion (λ (v : ℕ). v < graph.instances) (front_footprint (meaning program) term sizes)
  are-instances term spot is sound =
      All-map (λ (v : ℕ). v < graph.instances) (word_vertex (meaning program) term sizes) (points term.nest sizes)
      (All-weaken (IsSoundAt (meaning program) term sizes) (λ (u : List ℤ). word_vertex (meaning program) term sizes u < graph.instances) (points term.nest sizes)
      (λ u at. there u (subst (λ (source : Option SpotForms). IsThereAt (meaning program) term sizes u (place_of (meaning program) sizes (instance_of term.vertex sizes u)) source) is at.word)) (sound sizes admitted).each) where
        there : (u : List ℤ) → IsThereAt (meaning program) term sizes u (place_of (meaning program) sizes (instance_of term.vertex sizes u)) (Some spot)
            → word_vertex (meaning program) term sizes u < graph.instances
        there u h =
            subst (λ (z : Source). vertex_of (length (execution (meaning program) sizes)) (input_cells (meaning program) sizes) z < graph.instances) (sym h.1)
            (slice_get-below (execution (meaning program) sizes) (place_of (meaning program) sizes (instance_of spot sizes u)) (instance_of spot sizes u) h.0)

  front-low : (term : WavefrontTerm) (spot : SpotForms) (pairs outer : Quotient) → term.source ≡ Some spot → IsSoundFront (meaning program) term → IsLegal pairs → IsLegal outer
      → CountsPoints (meaning program) term.nest pairs → CountsPoints (meaning program) (outer_nest term) outer
      → term_value (wavefront (polynomial_of pairs) (polynomial_of outer)) sizes s ≤ stored (front_footprint (meaning program) term sizes)
  front-low term spot pairs outer is sound legal_pairs legal_outer counts_pairs counts_outer =
      let all : List ℕ = front_footprint (meaning program) term sizes in
      less (counted_by pairs) (counted_by outer) (count term.nest sizes) (count (outer_nest term) sizes) (length (loaded_among all moves)) (stored all)
      (counted (meaning program) term.nest pairs sizes legal_pairs counts_pairs value admitted) (counted (meaning program) (outer_nest term) outer sizes legal_outer counts_outer value admitted)
      (front-words-loaded (meaning program) term sizes s moves (sound sizes admitted) game)
      (loaded_stores graph s moves all game (sound sizes admitted).apart (are-instances term spot is sound)) where
        less : (p o m n l k : ℕ) → p ≡ m → o ≡ n → m ≤ l + s * n → l ≤ k → p - s * o ≤ k
        less p o m n l k e f h g = subst (λ (x : ℕ). x - s * o ≤ k) (sym e) (subst (λ (x : ℕ). m - s * x ≤ k) (sym f) (omega (arith, h, g)))

  abbrev valued_at : Value → ℕ
  valued_at v = term_value (term_of v) sizes s

  abbrev values_of : List Term → List Value → List Value
  values_of ts vs = computed_values (map claim_of_term ts) vs

  abbrev fronts_of : List Term → List WavefrontTerm
  fronts_of ts = computed_fronts (map claim_of_term ts)

  words-low : (ts : List Term) (vs : List Value) → AllByRecursion (IsSound program) ts → AllZip (IsCounted program) ts vs → AreValuesOf (meaning program) (map claim_of_term ts) vs
      → sum_by valued_at (computed_values (map claim_of_term ts) vs) ≤ sum_by stored (sets (word_footprints (meaning program) (computed_fronts (map claim_of_term ts))))
  words-low [] vs sounds counts are = omega arith
  words-low (t ∷ ts) [] sounds counts are = absurd counts
  words-low (terms.Cold cold ∷ ts) (v ∷ vs) sounds counts are = words-low ts vs sounds.1 counts.1 are.1
  words-low (terms.Partition partition ∷ ts) (v ∷ vs) sounds counts are = words-low ts vs sounds.1 counts.1 are.1
  words-low (terms.Joint joint ∷ ts) (v ∷ vs) sounds counts are = words-low ts vs sounds.1 counts.1 are.1
  words-low (terms.Wavefront front ∷ ts) (values.Cold q ∷ vs) sounds counts are = absurd counts.0
  words-low (terms.Wavefront front ∷ ts) (values.Partition q ∷ vs) sounds counts are = absurd counts.0
  words-low (terms.Wavefront front ∷ ts) (values.Joint q ∷ vs) sounds counts are = absurd counts.0
  words-low (terms.Wavefront front ∷ ts) (values.Wavefront pairs outer ∷ vs) sounds counts are = by (front_of front).source refl (words-low ts vs sounds.1 counts.1 are.1) where
    by : (source : Option SpotForms) → (front_of front).source ≡ source → sum_by valued_at (values_of ts vs) ≤ sum_by stored (sets (word_footprints (meaning program) (fronts_of ts)))
        → sum_by valued_at (if is_some (option_map (λ (spot : SpotForms). spot.statement) source) then values.Wavefront pairs outer ∷ (values_of ts vs) else (values_of ts vs))
        ≤ sum_by stored (sets (word_footprints (meaning program) ((if is_some source then front_of front ∷ [] else []) ++ (fronts_of ts))))
    by None e ih = ih
    by (Some spot) e ih =
        omega (
          arith,
          sum_by-cons valued_at (values.Wavefront pairs outer) (values_of ts vs),
          sum_by-cons stored (front_footprint (meaning program) (front_of front) sizes) (sets (word_footprints (meaning program) (fronts_of ts))),
          front-low (front_of front) spot pairs outer e sounds.0 (count-legal _ front.nest front.sums.sums pairs are.0.0.sums) (count-legal _ (outer_nest (front_of front)) front.outer_sums.items outer are.0.1) counts.0.0 counts.0.1,
          ih,
        )

  sets-append : (xs ys : List Footprint) → sets (xs ++ ys) ≡ sets xs ++ sets ys
  sets-append xs ys = map-append (λ (f : Footprint). f sizes) xs ys

  -- ---- both

  pub made : (outputs : List Output) (counts : List Quotient) (ts : List Term) (vs : List Value) → AllByRecursion (IsSoundOutput (meaning program)) (map claim_of_output outputs)
      → AllZip (IsOutputCount program) outputs counts → AllByRecursion (IsSound program) ts → AllZip (IsCounted program) ts vs → AreValuesOf (meaning program) (map claim_of_term ts) vs
      → ArePairwiseDisjoint (sets (output_footprints (meaning program) (map claim_of_output outputs) ++ word_footprints (meaning program) (computed_fronts (map claim_of_term ts))))
      → store_value counts (computed_values (map claim_of_term ts) vs) sizes s ≤ stores moves
  made outputs counts ts vs sounds are terms_sound terms_counts valued apart =
      let first : List Footprint = output_footprints (meaning program) (map claim_of_output outputs) in
      let second : List Footprint = word_footprints (meaning program) (computed_fronts (map claim_of_term ts)) in
      omega (
        arith,
        sum-map counted_by counts,
        values-map (computed_values (map claim_of_term ts) vs),
        outputs-low outputs counts sounds are,
        words-low ts vs terms_sound terms_counts valued,
        ap (sum_by stored) (sets-append first second) ∙ sum_by-append stored (sets first) (sets second),
        disjoint_add_up is_store moves (sets (first ++ second)) apart,
      ) where
        values-more : (v : Value) (vs : List Value) → sum (map (λ (t : BoundTerm). term_value t sizes s) (terms_of vs)) ≡ sum_by valued_at vs
            → sum (map (λ (t : BoundTerm). term_value t sizes s) (terms_of (v ∷ vs))) ≡ sum_by valued_at (v ∷ vs)
        values-more v vs e =
            omega (
              arith,
              sum-map (λ (t : BoundTerm). term_value t sizes s) (terms_of (v ∷ vs)),
              sum_by-cons (λ (t : BoundTerm). term_value t sizes s) (term_of v) (terms_of vs),
              sum-map (λ (t : BoundTerm). term_value t sizes s) (terms_of vs),
              sum_by-cons valued_at v vs,
              e,
            )

        values-map : (vs : List Value) → sum (map (λ (t : BoundTerm). term_value t sizes s) (terms_of vs)) ≡ sum_by valued_at vs
        values-map [] = refl
        values-map (v ∷ vs) = values-more v vs (values-map vs)

pub sound-made : TermsHaveTheValue → SoundStoresAreMade
sound-made value program certificate stored branches counts sizes s moves accepted sound admitted game =
    let ts : List Term = terms_named certificate stored.branch in
    let vs : List Value = named_values branches stored.branch in
    let same : map claim_of_term ts ≡ named_terms (claim_of_certificate certificate) stored.branch = named-claims certificate stored.branch in
    subst (λ (cs : List TermClaim). store_value counts (computed_values cs vs) sizes s ≤ stores moves) same
    (made program value sizes s moves admitted game stored.outputs counts ts vs sound.outputs sound.counted
    (named-sound program certificate stored.branch accepted.sound) (named-counted program certificate branches stored.branch accepted.counts)
    (named-valued (meaning program) certificate branches stored.branch accepted.meets.valued)
    (subst (λ (cs : List TermClaim). ArePairwiseDisjoint (map (λ (f : Footprint). f sizes) (output_footprints (meaning program) (map claim_of_output stored.outputs) ++ word_footprints (meaning program) (computed_fronts cs)))) (sym same)
    (sound.apart sizes admitted)))
