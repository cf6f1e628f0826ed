-- What is found in the claims at open leaves, leaf by leaf.
use Rattle.std.proofs.Common.{◌≡◌, refl, sym, ◌∙◌, ap, subst, ℕ, zero, suc, ◌+◌, ◌<◌, ◌≤◌, List, [], ◌∷◌, ◌++◌, length, get_or, map, drop, arith}
use Rattle.std.specs.Prelude.{Option, Result}
use Rattle.std.proofs.lemmas.List.{drop_all}
use Rattle.std.proofs.Math.Nat.{add-zero}
use Rattle.base_laws.proofs.Lists.{rest_at, add-one}
use Rattle.iolb_model.specs.Form.{AffineForm}
use Rattle.claims.specs.Claims.{Claim, AllHold, Decides, IsRefusal}
use Rattle.claims.specs.declared.place.Step.{Step}
use Rattle.claims.specs.declared.place.Step.TheVariants.{Index}
use Rattle.claims.specs.declared.refused.Refused.{Refused}
use Rattle.claims.proofs.Found.{refused-first, decides-later}
use Rattle.claims.proofs.Members.{suc-moved}
use Rattle.dep_quast.specs.Context.{ReadOf}
use Rattle.reuse_paths.specs.declared.leaf.Leaf.{Leaf}
use Rattle.reuse_paths.specs.LeafClaims.{LeafClaim, claim_of}
use Rattle.dep_quast.specs.OpenLeaves.{OpenLeaf}
use Rattle.reuse_paths.specs.EntryClaims.{leaf_claims}
use Rattle.reuse_paths.specs.WalkClaims.{leaves_claims}
use Rattle.reuse_paths.specs.WalkSettings.{WalkSetting}
use Rattle.reuse_paths.specs.WalkFits.{EntryFits, EntriesFit, RegionFits, RegionsFit}
use Rattle.reuse_paths.specs.Walks.{WalkRegion}

-- there are as many entries as leaves, and each fits
pub entries-many : (walk : WalkSetting) (reader : ReadOf) (leaves : List OpenLeaf) (entries : List LeafClaim) → EntriesFit walk reader leaves entries → length leaves ≡ length entries
entries-many walk reader [] [] fits = refl
entries-many walk reader [] (e ∷ entries) fits = absurd fits
entries-many walk reader (l ∷ leaves) [] fits = absurd fits
entries-many walk reader (l ∷ leaves) (e ∷ entries) fits = ap suc (entries-many walk reader leaves entries fits.1)

pub entry-fits-at : (walk : WalkSetting) (reader : ReadOf) (leaves : List OpenLeaf) (entries : List Leaf) (i : ℕ) (l : OpenLeaf) (e : Leaf) → EntriesFit walk reader leaves (map claim_of entries)
    → i < length leaves → l ≡ get_or leaves i l → e ≡ get_or entries i e → EntryFits walk reader l.origin (claim_of e)
entry-fits-at walk reader [] entries i l e fits below is is_e = absurd (omega (arith, below))
entry-fits-at walk reader (x ∷ leaves) [] i l e fits below is is_e = absurd fits
entry-fits-at walk reader (x ∷ leaves) (y ∷ entries) zero l e fits below is is_e =
    subst (λ (z : Leaf). EntryFits walk reader l.origin (claim_of z)) (sym is_e) (subst (λ (z : OpenLeaf). EntryFits walk reader z.origin (claim_of y)) (sym is) fits.0)
entry-fits-at walk reader (x ∷ leaves) (y ∷ entries) (suc i) l e fits below is is_e =
    entry-fits-at walk reader leaves entries i l e fits.1 (omega (arith, below)) is is_e

-- the region of a statement fits
pub regions-fit-at : (walk : WalkSetting) (first i : ℕ) (nodes : List (Option WalkRegion)) (region : Option WalkRegion) → RegionsFit walk first nodes → i < length nodes → region ≡ get_or nodes i region
    → RegionFits walk (first + i) region
regions-fit-at walk first i [] region fits below is = absurd (omega (arith, below))
regions-fit-at walk first zero (x ∷ nodes) region fits below is =
    subst (λ (n : ℕ). RegionFits walk n region) (sym (add-zero first)) (subst (RegionFits walk first) (sym is) fits.0)
regions-fit-at walk first (suc i) (x ∷ nodes) region fits below is =
    subst (λ (n : ℕ). RegionFits walk n region) (suc-moved first i) (regions-fit-at walk (suc first) i nodes region fits.1 (omega (arith, below)) is)

module _ (condition : ℕ) (walk : WalkSetting) (reader : ReadOf) (list : List Step) (rows : List AffineForm) (leaves : List OpenLeaf) (entries : List Leaf) where
  abbrev from : ℕ → List Claim
  from i = leaves_claims condition walk reader list rows i (drop i leaves) (map claim_of (drop i entries))

  pub leaves-ended : (i : ℕ) → length leaves ≤ i → AllHold (from i)
  leaves-ended i past =
      subst (λ (ls : List OpenLeaf). AllHold (leaves_claims condition walk reader list rows i ls (map claim_of (drop i entries)))) (sym (drop_all i leaves past)) tt

  module _ (i : ℕ) (l : OpenLeaf) (e : Leaf) (below : i < length leaves) (below_e : i < length entries) (is : l ≡ get_or leaves i l) (is_e : e ≡ get_or entries i e)
      (place : List Step) (at : place ≡ list ++ Index i ∷ []) where
    abbrev here : List Claim
    here = leaf_claims condition walk reader place rows l (claim_of e)

    split : from i ≡ here ++ from (i + 1)
    split =
        ap (λ (ls : List OpenLeaf). leaves_claims condition walk reader list rows i ls (map claim_of (drop i entries))) (rest_at leaves i l below is)
        ∙ ap (λ (es : List Leaf). leaves_claims condition walk reader list rows i (l ∷ drop (i + 1) leaves) (map claim_of es)) (rest_at entries i e below_e is_e)
        ∙ ap (λ (p : List Step). leaf_claims condition walk reader p rows l (claim_of e) ++ leaves_claims condition walk reader list rows (suc i) (drop (i + 1) leaves) (map claim_of (drop (i + 1) entries))) (sym at)
        ∙ ap (λ (n : ℕ). here ++ leaves_claims condition walk reader list rows n (drop (i + 1) leaves) (map claim_of (drop (i + 1) entries))) (add-one i)

    pub leaves-stop : (r : Refused) → IsRefusal here r → IsRefusal (from i) r
    leaves-stop r h = subst (λ (cs : List Claim). IsRefusal cs r) (sym split) (refused-first here (from (i + 1)) r h)

    pub leaves-next : (answer : Result (Unit {0}) Refused) → AllHold here → Decides (from (i + 1)) answer → Decides (from i) answer
    leaves-next answer h g = subst (λ (cs : List Claim). Decides cs answer) (sym split) (decides-later here (from (i + 1)) answer h g)
