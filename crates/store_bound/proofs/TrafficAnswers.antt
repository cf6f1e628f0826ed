-- From what an evaluation answers of a bound and of stores to what is answered of a program, a certificate and stores.
use Rattle.std.proofs.Common.{◌≡◌, sym, ◌∙◌, ap, subst, ℕ, ◌+◌, ◌≤◌, List, length, map, arith}
use Rattle.std.specs.Prelude.{Err, Ok, Option, ℤ}
use Rattle.std.specs.List.{AllByRecursion}
use Rattle.affine_form.specs.System.{AffineSystem}
use Rattle.affine_program.specs.Parts.{ProgramParts, meaning}
use Rattle.iolb_check.specs.Bounds.{BoundParts, IsCounting, bound_of}
use Rattle.iolb_check.specs.Claims.{TermClaim, claim_of_certificate, claim_of_term}
use Rattle.iolb_check.specs.Limits.{CertificateParts}
use Rattle.iolb_check.specs.declared.term.Term.{Term}
use Rattle.iolb_check.specs.declared.value_fault.ValueFault.{ValueFault}
use Rattle.iolb_check.specs.declared.value_fault.ValueFault.TheVariants as faults
use Rattle.iolb_model.specs.Bound.{AreMet, IsAdmitted, bound_value}
use Rattle.iolb_model.specs.Game.{loads, stores}
use Rattle.iolb_model.specs.Headline.{BoundHolds}
use Rattle.poly_tree.specs.Poly.{Quotient}
use Rattle.store_bound.specs.Counted.{computed_values, named_terms, named_values, terms_named}
use Rattle.store_bound.specs.Faults.{AnswersTraffic, HasCounts, HasValues, IsWideAtSizes, MakesTraffic, loads_at, stores_at}
use Rattle.store_bound.specs.Sound.{AreSoundStores, IsAccepted, SoundStoresAreMade}
use Rattle.store_bound.specs.Values.{EvaluatesBoth, HaveWordValues, IsWideTraffic, store_value}
use Rattle.store_bound.specs.declared.fault.Traffic.{Traffic}
use Rattle.store_bound.specs.declared.fault.TrafficFault.TheVariants.{Wide}
use Rattle.store_bound.proofs.Counting.{all-counting, word-values}
use Rattle.store_bound.proofs.NamedTerms.{named-claims, named-valued}
use Rattle.store_terms.specs.Limits.{StoresParts}

module _ (program : ProgramParts) (certificate : CertificateParts) (beside : StoresParts) (sizes : List ℤ) (s : ℕ) (bound : BoundParts) (found counts : List Quotient) (terms : List Term) (branch : Option ℕ)
    (assumed : bound.assumed ≡ program.assumed) (meets : HasValues program certificate bound.branches) (same : counts ≡ found) (named : branch ≡ beside.branch) (ts : terms ≡ terms_named certificate branch) where
  abbrev loads-here : ℕ
  loads-here = bound_value (bound_of bound) sizes s

  abbrev stores-here : ℕ
  stores-here = store_value counts (computed_values (map claim_of_term terms) (named_values bound.branches branch)) sizes s

  abbrev wide-here : Type 0
  wide-here = IsWideTraffic sizes s bound.branches counts (loads-here + stores-here)

  loads-same : loads-here ≡ loads_at program bound.branches sizes s
  loads-same = ap (λ (a : AffineSystem). let parts : BoundParts = record { assumed = a; branches = bound.branches } in bound_value (bound_of parts) sizes s) assumed

  stores-same : stores-here ≡ stores_at certificate beside bound.branches found sizes s
  stores-same =
      ap (λ (qs : List Quotient). store_value qs (computed_values (map claim_of_term terms) (named_values bound.branches branch)) sizes s) same
      ∙ ap (λ (us : List Term). store_value found (computed_values (map claim_of_term us) (named_values bound.branches branch)) sizes s) ts
      ∙ ap (λ (cs : List TermClaim). store_value found (computed_values cs (named_values bound.branches branch)) sizes s) (named-claims certificate branch)
      ∙ ap (λ (b : Option ℕ). store_value found (computed_values (named_terms (claim_of_certificate certificate) b) (named_values bound.branches b)) sizes s) named

  both-same : loads-here + stores-here ≡ loads_at program bound.branches sizes s + stores_at certificate beside bound.branches found sizes s
  both-same = ap (λ (n : ℕ). n + stores-here) loads-same ∙ ap (λ (n : ℕ). loads_at program bound.branches sizes s + n) stores-same

  wide-at-sizes : wide-here → IsWideAtSizes program certificate beside sizes s bound.branches found
  wide-at-sizes h =
      subst (λ (n : ℕ). IsWideTraffic sizes s bound.branches found n) both-same
      (subst (λ (qs : List Quotient). IsWideTraffic sizes s bound.branches qs (loads-here + stores-here)) same h)

  wide-back : IsWideAtSizes program certificate beside sizes s bound.branches found → wide-here
  wide-back h =
      subst (λ (qs : List Quotient). IsWideTraffic sizes s bound.branches qs (loads-here + stores-here)) (sym same)
      (subst (λ (n : ℕ). IsWideTraffic sizes s bound.branches found n) (sym both-same) h)

  met-here : AreMet bound.assumed.rows sizes → AreMet program.assumed.rows sizes
  met-here h = subst (λ (a : AffineSystem). AreMet a.rows sizes) assumed h

  pub counting : AreSoundStores program certificate beside found → AllByRecursion (IsCounting bound.assumed) counts
  counting h =
      subst (λ (a : AffineSystem). AllByRecursion (IsCounting a) counts) (sym assumed)
      (subst (λ (qs : List Quotient). AllByRecursion (IsCounting program.assumed) qs) (sym same) (all-counting program beside.outputs found h.counted))

  pub valued : HaveWordValues (map claim_of_term terms) (named_values bound.branches branch)
  valued =
      subst (λ (us : List Term). HaveWordValues (map claim_of_term us) (named_values bound.branches branch)) (sym ts)
      (word-values (meaning program) (map claim_of_term (terms_named certificate branch)) (named_values bound.branches branch)
      (named-valued (meaning program) certificate bound.branches branch meets.valued))

  pub answered : (traffic : Traffic) → HasCounts program certificate beside found → EvaluatesBoth bound.assumed.rows sizes loads-here stores-here wide-here (Ok traffic)
      → AnswersTraffic program certificate beside sizes s (Ok traffic)
  answered traffic stored h = (bound.branches, found, (meets, stored, met-here h.0, λ w. h.1 (wide-back w), h.2 ∙ loads-same, h.3 ∙ stores-same))

  pub answered-wide : (fault : ValueFault) → fault ≡ faults.Wide → HasCounts program certificate beside found → EvaluatesBoth bound.assumed.rows sizes loads-here stores-here wide-here (Err fault)
      → AnswersTraffic program certificate beside sizes s (Err Wide)
  answered-wide fault is stored g =
      let h : EvaluatesBoth bound.assumed.rows sizes loads-here stores-here wide-here (Err faults.Wide) =
      subst (λ (f : ValueFault). EvaluatesBoth bound.assumed.rows sizes loads-here stores-here wide-here (Err f)) is g in
      (bound.branches, found, (meets, stored, met-here h.0, wide-at-sizes h.1))

  pub made : (traffic : Traffic) → EvaluatesBoth bound.assumed.rows sizes loads-here stores-here wide-here (Ok traffic) → BoundHolds (meaning program) (bound_of bound) → SoundStoresAreMade
      → IsAccepted program certificate bound.branches → AreSoundStores program certificate beside found → length sizes ≡ length program.params → 1 ≤ s
      → MakesTraffic (meaning program) sizes s traffic.loads traffic.stores
  made traffic h holds law accepted sound each some moves game =
      let admitted : IsAdmitted (meaning program) sizes = record { each = each; met = met-here h.0 } in
      let loaded : traffic.loads ≤ loads moves = subst (λ (n : ℕ). n ≤ loads moves) (sym h.2) (holds sizes s moves admitted some game) in
      let stored : traffic.stores ≤ stores moves =
      subst (λ (n : ℕ). n ≤ stores moves) (sym (h.3 ∙ stores-same)) (law program certificate beside bound.branches found sizes s moves accepted sound admitted game) in
      record { loaded = loaded; stored = stored; together = omega (arith, loaded, stored) }
