-- The pieces of open leaves, leaf by leaf, and what is found in the claims that their rows are few.
use Rattle.std.proofs.Common.{◌≡◌, sym, ◌∙◌, ap, subst, ℕ, suc, ◌+◌, ◌<◌, ◌≤◌, List, [], ◌∷◌, ◌++◌, length, get_or, map, drop, append_assoc}
use Rattle.std.specs.Prelude.{Result}
use Rattle.std.proofs.lemmas.List.{append-nil, drop_all}
use Rattle.base_laws.proofs.Lists.{rest_at, add-one}
use Rattle.iolb_model.specs.Form.{AffineForm}
use Rattle.claims.specs.Claims.{Claim, AllHold, Decides, IsRefusal}
use Rattle.claims.specs.declared.place.Step.{Step}
use Rattle.claims.specs.declared.place.Step.TheVariants.{Index}
use Rattle.claims.specs.declared.refused.Refused.{Refused}
use Rattle.claims.proofs.Found.{decides-later, refused-first}
use Rattle.claims.specs.Shown.{IsFew}
use Rattle.dep_quast.specs.Context.{ReadOf}
use Rattle.reuse_paths.specs.declared.leaf.Leaf.{Leaf}
use Rattle.reuse_paths.specs.FewContexts.{few_claim, few_leaves}
use Rattle.reuse_paths.specs.LeafClaims.{claim_of}
use Rattle.dep_quast.specs.OpenLeaves.{OpenLeaf}
use Rattle.footprint_pieces.specs.Pieces.{FootprintPiece}
use Rattle.reuse_paths.specs.WalkPieces.{entry_pieces, leaves_pieces}
use Rattle.reuse_paths.specs.WalkSettings.{WalkSetting}

module _ (walk : WalkSetting) (reader : ReadOf) (list : List Step) (rows : List AffineForm) (leaves : List OpenLeaf) (entries : List Leaf) where
  abbrev from : ℕ → List Claim
  from i = few_leaves list rows i (drop i leaves) (map claim_of (drop i entries))

  abbrev rest : ℕ → List FootprintPiece
  rest i = leaves_pieces walk reader rows (drop i leaves) (map claim_of (drop i entries))

  pub few-ended : (i : ℕ) → length leaves ≤ i → AllHold (from i)
  few-ended i past = subst (λ (ls : List OpenLeaf). AllHold (few_leaves list rows i ls (map claim_of (drop i entries)))) (sym (drop_all i leaves past)) tt

  pub told-ended : (i : ℕ) → length leaves ≤ i → (now all : List FootprintPiece) → now ++ rest i ≡ all → now ≡ all
  told-ended i past now all e =
      sym (append-nil now) ∙ ap (λ (ls : List OpenLeaf). now ++ leaves_pieces walk reader rows ls (map claim_of (drop i entries))) (sym (drop_all i leaves past)) ∙ e

  module _ (i : ℕ) (l : OpenLeaf) (e : Leaf) (below : i < length leaves) (below_e : i < length entries) (is : l ≡ get_or leaves i l) (is_e : e ≡ get_or entries i e) where
    split : rest i ≡ entry_pieces walk reader (rows ++ l.tests) l.origin (claim_of e) ++ rest (i + 1)
    split =
        ap (λ (ls : List OpenLeaf). leaves_pieces walk reader rows ls (map claim_of (drop i entries))) (rest_at leaves i l below is)
        ∙ ap (λ (es : List Leaf). leaves_pieces walk reader rows (l ∷ drop (i + 1) leaves) (map claim_of es)) (rest_at entries i e below_e is_e)

    pub told-next : (before now all : List FootprintPiece) → now ≡ before ++ entry_pieces walk reader (rows ++ l.tests) l.origin (claim_of e) → before ++ rest i ≡ all → now ++ rest (i + 1) ≡ all
    told-next before now all more whole =
        ap (λ (ps : List FootprintPiece). ps ++ rest (i + 1)) more ∙ append_assoc before (entry_pieces walk reader (rows ++ l.tests) l.origin (claim_of e)) (rest (i + 1))
        ∙ ap (λ (ps : List FootprintPiece). before ++ ps) (sym split) ∙ whole

    module _ (place : List Step) (at : place ≡ list ++ Index i ∷ []) where
      abbrev here : Claim
      here = few_claim place rows l (claim_of e)

      parted : from i ≡ here ∷ from (i + 1)
      parted =
          ap (λ (ls : List OpenLeaf). few_leaves list rows i ls (map claim_of (drop i entries))) (rest_at leaves i l below is)
          ∙ ap (λ (es : List Leaf). few_leaves list rows i (l ∷ drop (i + 1) leaves) (map claim_of es)) (rest_at entries i e below_e is_e)
          ∙ ap (λ (p : List Step). few_claim p rows l (claim_of e) ∷ few_leaves list rows (suc i) (drop (i + 1) leaves) (map claim_of (drop (i + 1) entries))) (sym at)
          ∙ ap (λ (n : ℕ). here ∷ few_leaves list rows n (drop (i + 1) leaves) (map claim_of (drop (i + 1) entries))) (add-one i)

      pub few-stops : (r : Refused) → IsRefusal (here ∷ []) r → IsRefusal (from i) r
      few-stops r h = subst (λ (cs : List Claim). IsRefusal cs r) (sym parted) (refused-first (here ∷ []) (from (i + 1)) r h)

      pub few-next : (found : Result (Unit {0}) Refused) → IsFew (length (rows ++ l.tests)) → Decides (from (i + 1)) found → Decides (from i) found
      few-next found h later = subst (λ (cs : List Claim). Decides cs found) (sym parted) (decides-later (here ∷ []) (from (i + 1)) found (h, tt) later)
