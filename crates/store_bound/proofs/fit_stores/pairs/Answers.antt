use Rattle.std.proofs.Common.{◌≡◌, sym, ◌∙◌, ap, subst, ℕ, ◌≤◌, List, length, map, arith}
use Rattle.std.proofs.lemmas.Simd.{map-map}
use Rattle.iolb_check.specs.Claims.{TermClaim, claim_of_certificate, claim_of_term}
use Rattle.iolb_check.specs.declared.term.Term.{Term}
use Rattle.iolb_model.specs.declared.limits.TheConstants.{TERMS}
use Rattle.store_bound.specs.Counted.{named_terms}
use Rattle.store_bound.specs.StoresFit.{output_pairs, statements_of, word_pairs, word_statements}
use Rattle.store_bound.proofs.NamedTerms.{named-claims, named-few}
use Rattle.store_bound.proofs.PairSystems.{statements, systems-many}
use Rattle.store_bound.proofs.fit_stores.pairs.Goals as goal
use Rattle.store_terms.specs.Claims.{OutputClaim, claim_of_output}
use Rattle.store_terms.specs.declared.output.Output.{Output}

pub word_pairs-requires-clause-terms : goal.word_pairs-requires-clause-terms
word_pairs-requires-clause-terms c =
    subst (λ (ts : List Term). length ts ≤ TERMS) (sym c.named_terms-terms.ensures) (named-few c.args.certificate.now c.branch-stores.result c.branches-branches.ensures.limits)

pub returns : goal.returns
returns c =
    λ program.
    let claims : List OutputClaim = map claim_of_output c.args.stores.now.outputs in
    let terms : List TermClaim = map claim_of_term c.named_terms-terms.result.now in
    let named : List TermClaim = named_terms (claim_of_certificate c.args.certificate.now) c.args.stores.now.branch in
    let outputs : List Output = c.outputs-outputs.result.now in
    let first : statements claims ≡ statements_of outputs =
    map-map (λ (o : OutputClaim). o.statement) claim_of_output c.args.stores.now.outputs ∙ ap statements_of (sym c.outputs-outputs.ensures.outputs) in
    let second : named ≡ terms =
    ap (named_terms (claim_of_certificate c.args.certificate.now)) (sym c.branch-stores.ensures.branch) ∙ sym (named-claims c.args.certificate.now c.branch-stores.result) ∙ ap (map claim_of_term) (sym c.named_terms-terms.ensures) in
    omega (
      arith,
      c.output_pairs.ensures.pairs,
      c.word_pairs.ensures.pairs,
      systems-many program claims named,
      ap (λ (xs : List ℕ). length (output_pairs xs)) first,
      ap (λ (xs : List ℕ). length (word_pairs xs (word_statements named))) first ∙ ap (λ (ts : List TermClaim). length (word_pairs (statements_of outputs) (word_statements ts))) second,
    )
