use Rattle.std.proofs.Common.{◌≡◌, sym, ◌∙◌, ap, subst, ℕ, ◌+◌, ◌≤◌, List, [], ◌∷◌, length, drop, map, arith}
use Rattle.std.specs.Prelude.{Err, Ok, Result, codes}
use Rattle.std.proofs.lemmas.List.{length-append}
use Rattle.std.proofs.lemmas.Simd.{map-map}
use Rattle.affine_form.specs.Multipliers.{FarkasMultipliers}
use Rattle.affine_form.specs.System.{AffineSystem}
use Rattle.affine_program.specs.Parts.{meaning}
use Rattle.claims.specs.Claims.{AllHold, Decides, IsRefusal}
use Rattle.claims.specs.Shown.{pointless_claims}
use Rattle.claims.specs.declared.place.Step.{Step}
use Rattle.claims.specs.declared.place.Step.TheVariants.{Key}
use Rattle.claims.specs.declared.refused.Refused.{Refused}
use Rattle.claims.proofs.Found.{handed-on}
use Rattle.claims.proofs.Pointless.{chunk-go, chunk-stop}
use Rattle.footprint_pieces.specs.DisjointClaims.{pairwise_systems, shared_systems}
use Rattle.iolb_check.specs.Claims.{claim_of_term}
use Rattle.iolb_model.specs.Program.{AffineProgram}
use Rattle.store_bound.specs.Counted.{computed_fronts}
use Rattle.store_bound.specs.StoresFit.{output_pairs, output_pieces, single_pieces, statements_of, systems_of}
use Rattle.store_bound.proofs.PairSystems.{outputs-many}
use Rattle.store_bound.proofs.pairs.check_apart.Goals as goal
use Rattle.store_terms.specs.Claims.{OutputClaim, claim_of_output}
use Rattle.store_terms.specs.declared.output.Output.{Output}
use Rattle.wavefront.specs.FrontPieces.{front_piece}
use Rattle.wavefront.specs.FrontTerm.{WavefrontTerm}

-- how many pairs of outputs there are
first-many : (program : AffineProgram) (outputs : List Output) → length (output_pairs (statements_of outputs)) ≡ length (pairwise_systems program (single_pieces program (map claim_of_output outputs)))
first-many program outputs =
    sym (outputs-many program (map claim_of_output outputs) ∙ ap (λ (xs : List ℕ). length (output_pairs xs)) (map-map (λ (o : OutputClaim). o.statement) claim_of_output outputs))

-- the first systems, and those behind them
module _ (program : AffineProgram) (outputs : List Output) (fronts : List WavefrontTerm) where
  abbrev firsts : List AffineSystem
  firsts = pairwise_systems program (single_pieces program (map claim_of_output outputs))

  abbrev seconds : List AffineSystem
  seconds = shared_systems program (output_pieces program (map claim_of_output outputs)) (map (front_piece program) fronts)

  all-many : length (systems_of program (map claim_of_output outputs) fronts) ≡ length firsts + length seconds
  all-many = length-append firsts seconds

pub returns-in_err-outputs_apart-clause-hold : goal.returns-in_err-outputs_apart-clause-hold
returns-in_err-outputs_apart-clause-hold c =
    let program = meaning c.args.program.now in
    let outputs : List Output = c.args.outputs.now in
    let fronts : List WavefrontTerm = computed_fronts (map claim_of_term c.args.terms.now) in
    let place : List Step = Key (codes "apart") ∷ [] in
    let r = c.in_err-outputs_apart.field-0.0 in
    handed-on (pointless_claims 23 place 0 (systems_of program (map claim_of_output outputs) fronts) c.args.shown.now) r c.from_residual-in_err-outputs_apart.result c.from_residual-in_err-outputs_apart.ensures
    (chunk-stop 23 place 0 (firsts program outputs fronts) (seconds program outputs fronts) c.args.shown.now r (omega (arith, c.requires.enough, all-many program outputs fronts))
    (subst (λ (p : List Step). IsRefusal (pointless_claims 23 p 0 (firsts program outputs fronts) c.args.shown.now) r) c.in_ok-list.ensures c.in_err-outputs_apart.ensures.hold))

pub split_at-requires : goal.split_at-requires
split_at-requires c =
    let program = meaning c.args.program.now in
    let fronts : List WavefrontTerm = computed_fronts (map claim_of_term c.args.terms.now) in
    omega (arith, c.output_pairs-first.ensures.pairs, first-many program c.args.outputs.now, c.requires.enough, all-many program c.args.outputs.now fronts)

pub words_apart-requires-clause-enough : goal.words_apart-requires-clause-enough
words_apart-requires-clause-enough c =
    let program = meaning c.args.program.now in
    let fronts : List WavefrontTerm = computed_fronts (map claim_of_term c.args.terms.now) in
    omega (arith, c.output_pairs-first.ensures.pairs, first-many program c.args.outputs.now, c.requires.enough, all-many program c.args.outputs.now fronts, c.split_at.ensures.back_len)

-- the second systems are tested with what stands behind the first's multipliers
module _ (program : AffineProgram) (outputs : List Output) (fronts : List WavefrontTerm) (shown back : List FarkasMultipliers) (first : ℕ) where
  both-parts : (list : List Step) (found : Result (Unit {0}) Refused) → list ≡ Key (codes "apart") ∷ [] → length (systems_of program (map claim_of_output outputs) fronts) ≤ length shown
      → first ≡ length (output_pairs (statements_of outputs)) → back ≡ drop first shown → AllHold (pointless_claims 23 list 0 (firsts program outputs fronts) shown)
      → Decides (pointless_claims 23 list first (seconds program outputs fronts) back) found
      → Decides (pointless_claims 23 (Key (codes "apart") ∷ []) 0 (systems_of program (map claim_of_output outputs) fronts) shown) found
  both-parts list found at enough many behind held decided =
      let place : List Step = Key (codes "apart") ∷ [] in
      chunk-go 23 place 0 first (firsts program outputs fronts) (seconds program outputs fronts) shown found (omega (arith, enough, all-many program outputs fronts)) here
      (subst (λ (p : List Step). AllHold (pointless_claims 23 p 0 (firsts program outputs fronts) shown)) at held)
      (subst (λ (p : List Step). Decides (pointless_claims 23 p first (seconds program outputs fronts) (drop first shown)) found) at
      (subst (λ (ms : List FarkasMultipliers). Decides (pointless_claims 23 list first (seconds program outputs fronts) ms) found) behind decided)) where
        here : first ≡ 0 + length (firsts program outputs fronts)
        here = omega (arith, many, first-many program outputs)

pub returns-in_err-words_apart-clause-hold : goal.returns-in_err-words_apart-clause-hold
returns-in_err-words_apart-clause-hold c =
    let program = meaning c.args.program.now in
    let outputs : List Output = c.args.outputs.now in
    let fronts : List WavefrontTerm = computed_fronts (map claim_of_term c.args.terms.now) in
    let r = c.in_err-words_apart.field-0.0 in
    handed-on (pointless_claims 23 (Key (codes "apart") ∷ []) 0 (systems_of program (map claim_of_output outputs) fronts) c.args.shown.now) r c.from_residual-in_err-words_apart.result c.from_residual-in_err-words_apart.ensures
    (both-parts program outputs fronts c.args.shown.now c.split_at.result.1.now c.output_pairs-first.result c.in_ok-list.list (Err r) c.in_ok-list.ensures c.requires.enough c.output_pairs-first.ensures.pairs c.split_at.ensures.back
    c.in_ok-outputs_apart.ensures.hold c.in_err-words_apart.ensures.hold)

pub returns-clause-hold : goal.returns-clause-hold
returns-clause-hold c =
    let program = meaning c.args.program.now in
    let fronts : List WavefrontTerm = computed_fronts (map claim_of_term c.args.terms.now) in
    both-parts program c.args.outputs.now fronts c.args.shown.now c.split_at.result.1.now c.output_pairs-first.result c.in_ok-list.list (Ok tt) c.in_ok-list.ensures c.requires.enough c.output_pairs-first.ensures.pairs c.split_at.ensures.back
    c.in_ok-outputs_apart.ensures.hold c.in_ok-words_apart.ensures.hold
