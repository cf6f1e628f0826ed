-- From what is tested of stores, part by part, to all conditions, and to what they say.
use Rattle.std.proofs.Common.{◌≡◌, sym, ◌∙◌, ap, subst, ◌≤◌, List, [], ◌∷◌, ◌++◌, length, map, arith}
use Rattle.std.specs.Prelude.{codes}
use Rattle.std.specs.List.{AllByRecursion, AllZip}
use Rattle.affine_form.specs.Multipliers.{FarkasMultipliers}
use Rattle.affine_program.specs.Parts.{ProgramParts, meaning}
use Rattle.claims.specs.Claims.{AllHold, Claim, IsRefusal, numbered}
use Rattle.claims.specs.Shown.{pointless_claims}
use Rattle.claims.specs.declared.place.Step.TheVariants.{Key}
use Rattle.claims.specs.declared.refused.Refused.{Refused}
use Rattle.claims.proofs.Found.{refused-first, refused-later}
use Rattle.claims.proofs.Laws.{AllHold-append}
use Rattle.footprint_pieces.specs.Pieces.{AreApartPieces, ArePairwiseApart}
use Rattle.iolb_check.specs.Claims.{CertificateClaim, TermClaim, claim_of_certificate, claim_of_term}
use Rattle.iolb_check.specs.Limits.{CertificateParts}
use Rattle.iolb_check.specs.Sound.{IsSoundBranch}
use Rattle.iolb_check.specs.declared.term.Term.{Term}
use Rattle.iolb_model.specs.Footprint.{ArePairwiseDisjoint, Footprint}
use Rattle.iolb_model.specs.Program.{AffineProgram, IsWellFormed}
use Rattle.last_writers.specs.Outputs.{IsSoundOutput}
use Rattle.poly_tree.specs.Poly.{Quotient}
use Rattle.store_bound.specs.Conditions.{AreCountsOf, MeetStores, apart_claims, output_claims_at, stores_conditions}
use Rattle.store_bound.specs.Counted.{computed_fronts, named_terms, terms_named}
use Rattle.store_bound.specs.Sound.{AreSoundStores, IsOutputCount, output_footprints, word_footprints}
use Rattle.store_bound.specs.StoresFit.{apart_systems, output_pieces, single_pieces, stores_fit, systems_of}
use Rattle.store_bound.proofs.ApartFootprints.{all-apart, fronts-apart, fronts-sound}
use Rattle.store_bound.proofs.NamedTerms.{named-apart, named-claims, named-sound}
use Rattle.store_terms.specs.Claims.{OutputClaim, claim_of_output, claim_of_stores}
use Rattle.store_terms.specs.Limits.{StoresParts}
use Rattle.store_terms.specs.declared.output.Output.{Output}
use Rattle.wavefront.specs.FrontPieces.{front_piece}

module _ (program : ProgramParts) (certificate : CertificateParts) (stores : StoresParts) where
  abbrev P : AffineProgram
  P = meaning program

  abbrev C : CertificateClaim
  C = claim_of_certificate certificate

  abbrev claims_of : List Output → List OutputClaim
  claims_of outputs = map claim_of_output outputs

  abbrev fit : List Claim
  fit = stores_fit P C (claim_of_stores stores)

  abbrev outputs_at : List Output → List Claim
  outputs_at outputs = numbered (output_claims_at P) 0 (claims_of outputs)

  abbrev apart_at : List Output → List TermClaim → List FarkasMultipliers → List Claim
  apart_at outputs terms shown = pointless_claims 23 (Key (codes "apart") ∷ []) 0 (systems_of P (claims_of outputs) (computed_fronts terms)) shown

  module _ (outputs : List Output) (ts : List Term) (shown : List FarkasMultipliers) (e : outputs ≡ stores.outputs) (f : ts ≡ terms_named certificate stores.branch) (g : shown ≡ stores.apart) where
    terms-same : map claim_of_term ts ≡ named_terms C stores.branch
    terms-same = ap (map claim_of_term) f ∙ named-claims certificate stores.branch

    -- what stands in the code stands in what is claimed
    pub claims-same : apart_at outputs (map claim_of_term ts) shown ≡ apart_claims P C (claim_of_stores stores)
    claims-same =
        ap (λ (os : List Output). apart_at os (map claim_of_term ts) shown) e
        ∙ ap (λ (cs : List TermClaim). apart_at stores.outputs cs shown) terms-same
        ∙ ap (λ (ms : List FarkasMultipliers). apart_at stores.outputs (named_terms C stores.branch) ms) g

    pub all-hold : AllHold fit → AllHold (outputs_at outputs) → AllHold (apart_at outputs (map claim_of_term ts) shown) → AllHold (stores_conditions P C (claim_of_stores stores))
    all-hold h k l =
        AllHold-append (fit ++ outputs_at stores.outputs) (apart_claims P C (claim_of_stores stores))
        (AllHold-append fit (outputs_at stores.outputs) h (subst (λ (os : List Output). AllHold (outputs_at os)) e k))
        (subst AllHold claims-same l)

    pub refused-apart : (r : Refused) → AllHold fit → AllHold (outputs_at outputs) → IsRefusal (apart_at outputs (map claim_of_term ts) shown) r → IsRefusal (stores_conditions P C (claim_of_stores stores)) r
    refused-apart r h k l =
        refused-later (fit ++ outputs_at stores.outputs) (apart_claims P C (claim_of_stores stores)) r
        (AllHold-append fit (outputs_at stores.outputs) h (subst (λ (os : List Output). AllHold (outputs_at os)) e k))
        (subst (λ (cs : List Claim). IsRefusal cs r) claims-same l)

  pub refused-fit : (r : Refused) → IsRefusal fit r → IsRefusal (stores_conditions P C (claim_of_stores stores)) r
  refused-fit r h = refused-first (fit ++ outputs_at stores.outputs) (apart_claims P C (claim_of_stores stores)) r (refused-first fit (outputs_at stores.outputs) r h)

  pub refused-outputs : (outputs : List Output) → outputs ≡ stores.outputs → (r : Refused) → AllHold fit → IsRefusal (outputs_at outputs) r → IsRefusal (stores_conditions P C (claim_of_stores stores)) r
  refused-outputs outputs e r h k =
      refused-first (fit ++ outputs_at stores.outputs) (apart_claims P C (claim_of_stores stores)) r
      (refused-later fit (outputs_at stores.outputs) r h (subst (λ (os : List Output). IsRefusal (outputs_at os) r) e k))

  pub sound-stores : (counts : List Quotient) → IsWellFormed P → AllByRecursion (IsSoundBranch program) certificate.branches → AllByRecursion (IsSoundOutput P) (claims_of stores.outputs)
      → AllZip (IsOutputCount program) stores.outputs counts → ArePairwiseApart P (single_pieces P (claims_of stores.outputs))
      → AreApartPieces P (output_pieces P (claims_of stores.outputs)) (map (front_piece P) (computed_fronts (map claim_of_term (terms_named certificate stores.branch))))
      → AreSoundStores program certificate stores counts
  sound-stores counts formed branches outputs counted singles shared = record {
    outputs = outputs;
    counted = counted;
    apart = λ values admitted.
        subst (λ (cs : List TermClaim). ArePairwiseDisjoint (map (λ (f : Footprint). f values) (output_footprints P (claims_of stores.outputs) ++ word_footprints P (computed_fronts cs)))) (named-claims certificate stores.branch)
        (all-apart P formed values admitted (claims_of stores.outputs) (computed_fronts (map claim_of_term (terms_named certificate stores.branch))) outputs
        (fronts-sound program (terms_named certificate stores.branch) (named-sound program certificate stores.branch branches)) singles
        (λ v here there. shared values v admitted here there)
        (fronts-apart program values (terms_named certificate stores.branch) (named-apart program certificate stores.branch branches values admitted)));
  }

  module _ (outputs : List Output) (ts : List Term) (shown : List FarkasMultipliers) (e : outputs ≡ stores.outputs) (f : ts ≡ terms_named certificate stores.branch) (g : shown ≡ stores.apart) where
    pub enough : AllHold fit → length (systems_of P (claims_of outputs) (computed_fronts (map claim_of_term ts))) ≤ length shown
    enough h =
        subst (λ (ms : List FarkasMultipliers). length (systems_of P (claims_of outputs) (computed_fronts (map claim_of_term ts))) ≤ length ms) (sym g)
        (subst (λ (cs : List TermClaim). length (systems_of P (claims_of outputs) (computed_fronts cs)) ≤ length stores.apart) (sym (terms-same outputs ts shown e f g))
        (subst (λ (os : List Output). length (systems_of P (claims_of os) (computed_fronts (named_terms C stores.branch))) ≤ length stores.apart) (sym e) here)) where
          here : length (apart_systems P C (claim_of_stores stores)) ≤ length stores.apart
          here = omega (arith, h.0)

    pub all-sound : (counts : List Quotient) → IsWellFormed P → AllByRecursion (IsSoundBranch program) certificate.branches → AllByRecursion (IsSoundOutput P) (claims_of outputs)
        → AllZip (IsOutputCount program) outputs counts → ArePairwiseApart P (single_pieces P (claims_of outputs))
        → AreApartPieces P (output_pieces P (claims_of outputs)) (map (front_piece P) (computed_fronts (map claim_of_term ts)))
        → AreSoundStores program certificate stores counts
    all-sound counts formed branches sound counted singles shared =
        sound-stores counts formed branches (subst (λ (os : List Output). AllByRecursion (IsSoundOutput P) (claims_of os)) e sound)
        (subst (λ (os : List Output). AllZip (IsOutputCount program) os counts) e counted)
        (subst (λ (os : List Output). ArePairwiseApart P (single_pieces P (claims_of os))) e singles)
        (subst (λ (os : List Output). AreApartPieces P (output_pieces P (claims_of os)) (map (front_piece P) (computed_fronts (map claim_of_term (terms_named certificate stores.branch))))) e
        (subst (λ (us : List Term). AreApartPieces P (output_pieces P (claims_of outputs)) (map (front_piece P) (computed_fronts (map claim_of_term us)))) f shared))

    pub all-met : (counts : List Quotient) → AllHold fit → AllHold (outputs_at outputs) → AllHold (apart_at outputs (map claim_of_term ts) shown) → AreCountsOf P (claims_of outputs) counts
        → MeetStores P C (claim_of_stores stores) counts
    all-met counts h k l counted = record {
      accepted = all-hold outputs ts shown e f g h k l;
      counted = subst (λ (os : List Output). AreCountsOf P (claims_of os) counts) e counted;
    }
