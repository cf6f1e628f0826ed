-- The wavefront terms whose words are counted among the stores: those of the branch that is named whose words were computed.
use Rattle.std.specs.Prelude.{ℕ, Bool, if◌then◌else◌, is_some, List, [], ◌∷◌, flat_map, map, Option, Some, None, option_map, slice_index_or}
use Rattle.iolb_check.specs.Claims.{BranchClaim, CertificateClaim, TermClaim, cold, front, front_term, joint, partition}
use Rattle.iolb_check.specs.declared.bound.Value.{Value}
use Rattle.iolb_check.specs.Limits.{CertificateParts}
use Rattle.iolb_check.specs.declared.term.Branch.{Branch}
use Rattle.iolb_check.specs.declared.term.Term.{Term}
use Rattle.reuse_paths.specs.Walks.{SpotForms}
use Rattle.wavefront.specs.FrontTerm.{WavefrontTerm}

-- the statement whose instances computed a term's words, where it is a wavefront term whose words were computed
abbrev pub word_statement : TermClaim → Option ℕ
word_statement (cold claim sums) = None
word_statement (partition term) = None
word_statement (front claim sums outer_sums) = option_map (λ (spot : SpotForms). spot.statement) claim.source
word_statement (joint term) = None

-- whether a term is one of these
abbrev pub is_computed : TermClaim → Bool
is_computed term = is_some (word_statement term)

-- the wavefront term, if it is one of these
abbrev pub computed_front : TermClaim → List WavefrontTerm
computed_front (cold claim sums) = []
computed_front (partition term) = []
computed_front (front claim sums outer_sums) = if is_some claim.source then front_term claim sums outer_sums ∷ [] else []
computed_front (joint term) = []

abbrev pub computed_fronts : List TermClaim → List WavefrontTerm
computed_fronts terms = flat_map computed_front terms

-- the terms of the branch that is named: none where none is, and none of a branch that isn't there
abbrev pub named_terms : CertificateClaim → Option ℕ → List TermClaim
named_terms certificate None = []
named_terms certificate (Some branch) = slice_index_or (map (λ (claim : BranchClaim). claim.terms) certificate.branches) branch []

-- those that the code holds
abbrev pub terms_named : CertificateParts → Option ℕ → List Term
terms_named certificate None = []
terms_named certificate (Some branch) = slice_index_or (map (λ (it : Branch). it.terms.items) certificate.branches) branch []

abbrev pub counted_fronts : CertificateClaim → Option ℕ → List WavefrontTerm
counted_fronts certificate branch = computed_fronts (named_terms certificate branch)

-- ---- their values

-- of terms with a value each, the values of these
abbrev pub computed_values : List TermClaim → List Value → List Value
computed_values [] values = []
computed_values (term ∷ terms) [] = []
computed_values (term ∷ terms) (value ∷ values) = if is_computed term then value ∷ computed_values terms values else computed_values terms values

abbrev pub named_values : List (List Value) → Option ℕ → List Value
named_values branches None = []
named_values branches (Some branch) = slice_index_or branches branch []

abbrev pub counted_values : CertificateClaim → Option ℕ → List (List Value) → List Value
counted_values certificate branch values = computed_values (named_terms certificate branch) (named_values values branch)
