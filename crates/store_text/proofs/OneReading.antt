-- A text has one value as stores, or one fault.
use Rattle.std.proofs.Common.{◌≡◌, ℕ, List, Ok, Err, inl, inr, sym, subst, ◌∙◌, ap}
use Rattle.std.specs.Prelude.{Option}
use Rattle.affine_form.specs.Multipliers.{FarkasMultipliers}
use Rattle.claims.specs.declared.place.Step.{Step}
use Rattle.json_parts.proofs.Texts.{same-value}
use Rattle.json_parts.specs.Outcome.{Outcome}
use Rattle.json_parts.specs.Texts.{HasValue}
use Rattle.json_parts.specs.declared.error.CertFault.{CertFault}
use Rattle.serde_json.specs.Data.{Data}
use Rattle.certificate_parts.specs.Polynomials.{IsPolynomial}
use Rattle.store_terms.specs.Claims.{OutputClaim, StoresClaim}
use Rattle.store_text.specs.OneReading.{TextsHaveOneStores}
use Rattle.store_text.specs.Outputs.{WrittenOutput}
use Rattle.store_text.specs.Read.{IsOutput, IsStores, output_with}
use Rattle.store_text.specs.Stores.{WrittenStores, reads_stores}
use Rattle.store_text.specs.Texts.{HasStores, IsTextFault}
use Rattle.certificate_parts.proofs.OnePolynomial.{one-polynomial}
use Rattle.json_parts.proofs.Related.{all-one}

-- ---- what is written is one

one-output : (written : WrittenOutput) (a b : OutputClaim) → IsOutput written a → IsOutput written b → a ≡ b
one-output written a b h g =
    h.claims ∙ ap (output_with written) (all-one IsPolynomial one-polynomial written.sums a.count.sums b.count.sums h.sums g.sums) ∙ sym g.claims

one-written : (written : WrittenStores) (a b : StoresClaim) → IsStores written a → IsStores written b → a ≡ b
one-written written a b h g =
    ap (λ (outputs : List OutputClaim). stores outputs a.branch a.apart) (all-one IsOutput one-output written.outputs a.outputs b.outputs h.outputs g.outputs)
    ∙ ap (λ (branch : Option ℕ). stores b.outputs branch a.apart) (h.branch ∙ sym g.branch) ∙ ap (stores b.outputs b.branch) (h.apart ∙ sym g.apart) where
      stores : List OutputClaim → Option ℕ → List FarkasMultipliers → StoresClaim
      stores outputs branch apart = record { outputs = outputs; branch = branch; apart = apart }

-- ---- the law

same-outcome : (bytes : List ℕ) (d e : Data) → HasValue bytes d → HasValue bytes e → reads_stores d ≡ reads_stores e
same-outcome bytes d e p q = ap reads_stores (same-value bytes d e p q)

stores-one : (bytes : List ℕ) (one other : StoresClaim) → HasStores bytes one → HasStores bytes other → one ≡ other
stores-one bytes one other h g =
    one-written h.written one other h.is (subst (λ (w : WrittenStores). IsStores w other)
    (same (reads_stores g.value) (reads_stores h.value) g.says h.says (same-outcome bytes g.value h.value g.has h.has)) g.is) where
      same : (r s : Outcome WrittenStores) → r ≡ Ok g.written → s ≡ Ok h.written → r ≡ s → g.written ≡ h.written
      same r s x y is = cc

fault-one : (bytes : List ℕ) (fault other : CertFault) → IsTextFault bytes fault → IsTextFault bytes other → fault ≡ other
fault-one bytes fault other (inl none) (inl also) =
    ap (λ (n : ℕ). at n fault.place) (none.number ∙ sym also.number) ∙ ap (at other.number) (none.place ∙ sym also.place) where
      at : ℕ → List Step → CertFault
      at number place = record { number = number; place = place }
fault-one bytes fault other (inl none) (inr first) = absurd (none.cause first.value first.has)
fault-one bytes fault other (inr first) (inl none) = absurd (none.cause first.value first.has)
fault-one bytes fault other (inr p) (inr q) =
    one (reads_stores p.value) (reads_stores q.value) p.says q.says (same-outcome bytes p.value q.value p.has q.has) where
      one : (r s : Outcome WrittenStores) → r ≡ Err fault → s ≡ Err other → r ≡ s → fault ≡ other
      one r s x y is = cc

never-both : (bytes : List ℕ) (stores : StoresClaim) (fault : CertFault) → HasStores bytes stores → IsTextFault bytes fault → ⊥
never-both bytes stores fault h (inl none) = none.cause h.value h.has
never-both bytes stores fault h (inr first) =
    differ (reads_stores h.value) (reads_stores first.value) h.says first.says (same-outcome bytes h.value first.value h.has first.has) where
      differ : (r s : Outcome WrittenStores) → r ≡ Ok h.written → s ≡ Err fault → r ≡ s → ⊥
      differ r s x y is = absurd cc

pub texts_one : TextsHaveOneStores
texts_one = record { one_stores = stores-one; one_fault = fault-one; either = never-both }
