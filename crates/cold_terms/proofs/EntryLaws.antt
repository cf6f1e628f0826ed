-- Entries that close leaves, and what is claimed at leaves.
use Rattle.std.proofs.Common.{◌≡◌, refl, sym, ◌∙◌, ap, subst, ℕ, zero, suc, ◌+◌, ◌<◌, Bool, true, false, List, [], ◌∷◌, ◌++◌, length, map, take, get_or, arith}
use Rattle.std.specs.List.{AllByRecursion}
use Rattle.std.proofs.lemmas.List.{map-append, take_more}
use Rattle.iolb_model.specs.Form.{AffineForm}
use Rattle.affine_form.specs.Multipliers.{FarkasMultipliers}
use Rattle.affine_form.specs.System.{AffineSystem}
use Rattle.flow_deps.specs.declared.wanted.Wanted.{Wanted}
use Rattle.flow_deps.specs.declared.wanted.Wanted.TheVariants.{Short}
use Rattle.flow_deps.specs.Answers.{HasShortAnswer, IsAnswered, IsAsShort, pointless}
use Rattle.flow_deps.proofs.AnswerLaws.{answer-names}
use Rattle.claims.specs.Claims.{AllHold}
use Rattle.claims.specs.declared.place.Step.{Step}
use Rattle.claims.specs.Shown.{IsFew}
use Rattle.certificate_fit.specs.Limits.{IsSmallEntry}
use Rattle.reuse_paths.specs.declared.leaf.Leaf.{Leaf}
use Rattle.reuse_paths.specs.LeafClaims.{LeafClaim, no_point, stops, is_credited, goes_on, arrives, claim_of}
use Rattle.dep_quast.specs.OpenLeaves.{OpenLeaf, is_input}
use Rattle.wavefront.specs.Leaves.{leaves_claims}
use Rattle.cold_terms.specs.Entries.{AreClosed, AreEntries, Closes, IsEntryAsShort, system_at}

-- ---- one leaf

-- a stop closes an input
pub stop-closes : (wanted : Wanted) (system : AffineSystem) (input : Bool) → IsFew (length system.rows) → input ≡ true → Closes wanted system input (stops [])
stop-closes wanted system input few is = record { few = few; closed = is; is_entry = (is, refl); as_short = tt }

-- multipliers which show that no point comes close another leaf
pub empty-closes : (wanted : Wanted) (system : AffineSystem) (input : Bool) (m : FarkasMultipliers) → input ≡ false → IsAnswered (pointless system) m → IsAsShort wanted m
    → Closes wanted system input (no_point m)
empty-closes wanted system input m not answer short = record { few = answer.0; closed = answer.1; is_entry = not; as_short = short }

-- an entry which closes another leaf with short lists is an answer
pub closed-answer : (system : AffineSystem) (input : Bool) (entry : LeafClaim) → input ≡ false → Closes Short system input entry → HasShortAnswer (pointless system)
closed-answer system input (no_point m) not h = (h.few, (m, h.as_short, h.closed.1))
closed-answer system input (stops label) not h = absurd (both input not h.closed) where
  both : (b : Bool) → b ≡ false → b ≡ true → ⊥
  both true e t = cc
  both false e t = cc
closed-answer system input (is_credited credit rows label) not h = absurd h.closed
closed-answer system input (goes_on rows label) not h = absurd h.closed
closed-answer system input (arrives equal) not h = absurd h.closed

-- ---- all leaves

pub closed-at : (wanted : Wanted) (vars : ℕ) (rows : List AffineForm) (leaves : List OpenLeaf) (entries : List LeafClaim) (k : ℕ) (l : OpenLeaf) → AreClosed wanted vars rows leaves entries
    → k < length leaves → l ≡ get_or leaves k l → (e : LeafClaim) × Closes wanted (system_at vars rows l) (is_input l.origin) e
closed-at wanted vars rows [] entries k l h below is = absurd (omega arith)
closed-at wanted vars rows (x ∷ leaves) [] k l h below is = absurd h
closed-at wanted vars rows (x ∷ leaves) (e ∷ entries) zero l h below is =
    (e, subst (λ (y : OpenLeaf). Closes wanted (system_at vars rows y) (is_input y.origin) e) (sym is) h.0)
closed-at wanted vars rows (x ∷ leaves) (e ∷ entries) (suc k) l h below is = closed-at wanted vars rows leaves entries k l h.1 (omega arith) is

closed-push : (wanted : Wanted) (vars : ℕ) (rows : List AffineForm) (leaves : List OpenLeaf) (entries : List LeafClaim) (l : OpenLeaf) (e : LeafClaim)
    → AreClosed wanted vars rows leaves entries → Closes wanted (system_at vars rows l) (is_input l.origin) e → AreClosed wanted vars rows (leaves ++ l ∷ []) (entries ++ e ∷ [])
closed-push wanted vars rows [] [] l e h one = (one, tt)
closed-push wanted vars rows [] (x ∷ entries) l e h one = absurd h
closed-push wanted vars rows (x ∷ leaves) [] l e h one = absurd h
closed-push wanted vars rows (x ∷ leaves) (y ∷ entries) l e h one = (h.0, closed-push wanted vars rows leaves entries l e h.1 one)

pub closed-more : (wanted : Wanted) (vars : ℕ) (rows : List AffineForm) (leaves : List OpenLeaf) (all more : List Leaf) (i : ℕ) (l : OpenLeaf) (e : Leaf) → i < length leaves → l ≡ get_or leaves i l
    → AreClosed wanted vars rows (take i leaves) (map claim_of all) → Closes wanted (system_at vars rows l) (is_input l.origin) (claim_of e) → more ≡ all ++ e ∷ []
    → AreClosed wanted vars rows (take (i + 1) leaves) (map claim_of more)
closed-more wanted vars rows leaves all more i l e below is h one pushed =
    let next : take (i + 1) leaves ≡ take i leaves ++ l ∷ [] = take_more leaves i l below ∙ ap (λ (x : OpenLeaf). take i leaves ++ x ∷ []) (sym is) in
    subst (λ (es : List LeafClaim). AreClosed wanted vars rows (take (i + 1) leaves) es) (sym (ap (map claim_of) pushed ∙ map-append claim_of all (e ∷ [])))
    (subst (λ (ls : List OpenLeaf). AreClosed wanted vars rows ls (map claim_of all ++ claim_of e ∷ [])) (sym next)
    (closed-push wanted vars rows (take i leaves) (map claim_of all) l (claim_of e) h one))

-- what they say

pub closed-many : (wanted : Wanted) (vars : ℕ) (rows : List AffineForm) (leaves : List OpenLeaf) (entries : List LeafClaim) → AreClosed wanted vars rows leaves entries → length entries ≡ length leaves
closed-many wanted vars rows [] [] h = refl
closed-many wanted vars rows [] (e ∷ entries) h = absurd h
closed-many wanted vars rows (l ∷ leaves) [] h = absurd h
closed-many wanted vars rows (l ∷ leaves) (e ∷ entries) h = ap suc (closed-many wanted vars rows leaves entries h.1)

pub closed-hold : (wanted : Wanted) (vars : ℕ) (rows : List AffineForm) (leaves : List OpenLeaf) (entries : List LeafClaim) (place : List Step) (index : ℕ)
    → AreClosed wanted vars rows leaves entries → AllHold (leaves_claims vars rows place index leaves entries)
closed-hold wanted vars rows [] entries place index h = tt
closed-hold wanted vars rows (l ∷ leaves) [] place index h = tt
closed-hold wanted vars rows (l ∷ leaves) (e ∷ entries) place index h = (h.0.few, (h.0.closed, closed-hold wanted vars rows leaves entries place (suc index) h.1))

pub closed-entries : (wanted : Wanted) (vars : ℕ) (rows : List AffineForm) (leaves : List OpenLeaf) (entries : List LeafClaim) → AreClosed wanted vars rows leaves entries → AreEntries leaves entries
closed-entries wanted vars rows [] [] h = tt
closed-entries wanted vars rows [] (e ∷ entries) h = absurd h
closed-entries wanted vars rows (l ∷ leaves) [] h = absurd h
closed-entries wanted vars rows (l ∷ leaves) (e ∷ entries) h = (h.0.is_entry, closed-entries wanted vars rows leaves entries h.1)

pub closed-short : (wanted : Wanted) (vars : ℕ) (rows : List AffineForm) (leaves : List OpenLeaf) (entries : List LeafClaim) → AreClosed wanted vars rows leaves entries
    → AllByRecursion (IsEntryAsShort wanted) entries
closed-short wanted vars rows [] [] h = tt
closed-short wanted vars rows [] (e ∷ entries) h = absurd h
closed-short wanted vars rows (l ∷ leaves) [] h = absurd h
closed-short wanted vars rows (l ∷ leaves) (e ∷ entries) h = (h.0.as_short, closed-short wanted vars rows leaves entries h.1)

closed-small-one : (wanted : Wanted) (system : AffineSystem) (input : Bool) (entry : LeafClaim) → Closes wanted system input entry → IsSmallEntry entry
closed-small-one wanted system input (no_point m) h = answer-names (pointless system) m (h.few, h.closed)
closed-small-one wanted system input (stops label) h = subst (AllByRecursion _) (sym h.is_entry.1) tt
closed-small-one wanted system input (is_credited credit rows label) h = absurd h.closed
closed-small-one wanted system input (goes_on rows label) h = absurd h.closed
closed-small-one wanted system input (arrives equal) h = absurd h.closed

pub closed-small : (wanted : Wanted) (vars : ℕ) (rows : List AffineForm) (leaves : List OpenLeaf) (entries : List LeafClaim) → AreClosed wanted vars rows leaves entries
    → AllByRecursion IsSmallEntry entries
closed-small wanted vars rows [] [] h = tt
closed-small wanted vars rows [] (e ∷ entries) h = absurd h
closed-small wanted vars rows (l ∷ leaves) [] h = absurd h
closed-small wanted vars rows (l ∷ leaves) (e ∷ entries) h =
    (closed-small-one wanted (system_at vars rows l) (is_input l.origin) e h.0, closed-small wanted vars rows leaves entries h.1)

-- what is claimed at leaves, where it holds, is closed by the entries
pub hold-closed : (wanted : Wanted) (vars : ℕ) (rows : List AffineForm) (leaves : List OpenLeaf) (entries : List LeafClaim) (place : List Step) (index : ℕ)
    → AreEntries leaves entries → AllByRecursion (IsEntryAsShort wanted) entries → AllHold (leaves_claims vars rows place index leaves entries) → AreClosed wanted vars rows leaves entries
hold-closed wanted vars rows [] [] place index are short h = tt
hold-closed wanted vars rows [] (e ∷ entries) place index are short h = absurd are
hold-closed wanted vars rows (l ∷ leaves) [] place index are short h = absurd are
hold-closed wanted vars rows (l ∷ leaves) (e ∷ entries) place index are short h = (
  record { few = h.0; closed = h.1.0; is_entry = are.0; as_short = short.0 },
  hold-closed wanted vars rows leaves entries place (suc index) are.1 short.1 h.1.1,
)
