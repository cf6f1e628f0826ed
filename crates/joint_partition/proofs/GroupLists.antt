-- Families of other groups, by the lists of pieces that stand beside them.
use Rattle.std.proofs.Common.{◌≡◌, ◌≢◌, refl, sym, ◌∙◌, ap, subst, ℕ, ◌≤◌, Bool, true, false, cond, not, List, [], ◌∷◌, ◌++◌, length, map, drop, take, arith}
use Rattle.std.specs.Prelude.{◌==◌, Result, codes}
use Rattle.std.proofs.lemmas.Bool.{eq-eqb, ne_eqb}
use Rattle.std.proofs.lemmas.List.{append-nil}
use Rattle.base_laws.proofs.Lists.{cons-same}
use Rattle.iolb_model.specs.Program.{AffineProgram}
use Rattle.affine_form.specs.Multipliers.{FarkasMultipliers}
use Rattle.affine_form.specs.System.{AffineSystem}
use Rattle.claims.specs.Claims.{Decides}
use Rattle.claims.specs.Shown.{pointless_claims}
use Rattle.claims.specs.declared.place.Step.{Step}
use Rattle.claims.specs.declared.place.Step.TheVariants.{Key}
use Rattle.claims.specs.declared.refused.Refused.{Refused}
use Rattle.dep_quast.specs.Tree.{SelectionTree}
use Rattle.footprint_pieces.specs.DisjointClaims.{shared_systems, systems_with_lists}
use Rattle.footprint_pieces.specs.Pieces.{FootprintPiece}
use Rattle.joint_partition.specs.Claims.{apart_claims_of, family_pieces, group_systems, of_other_groups}
use Rattle.joint_partition.specs.GroupSystems.{listed_systems, lists_of_others}
use Rattle.joint_partition.specs.Term.{JointFamily, JointTerm}

module _ (program : AffineProgram) (trees : List (List SelectionTree)) (term : JointTerm) where
  abbrev pieces : JointFamily → List FootprintPiece
  pieces family = family_pieces program trees term family

  others-same : (family : JointFamily) (others : List JointFamily) → lists_of_others family.group others (map pieces others) ≡ map pieces (of_other_groups family others)
  others-same family [] = refl
  others-same family (other ∷ others) = by (not (other.group == family.group)) (others-same family others) where
    by : (b : Bool) → lists_of_others family.group others (map pieces others) ≡ map pieces (of_other_groups family others)
        → cond b (pieces other ∷ lists_of_others family.group others (map pieces others)) (lists_of_others family.group others (map pieces others))
        ≡ map pieces (cond b (other ∷ of_other_groups family others) (of_other_groups family others))
    by true e = cons-same _ _ _ _ refl e
    by false e = e

  -- the systems of listed pieces are those of the groups
  pub listed-same : (families : List JointFamily) → listed_systems program families (map pieces families) ≡ group_systems program trees term families
  listed-same [] = refl
  listed-same (family ∷ families) =
      ap (λ (lists : List (List FootprintPiece)). systems_with_lists program (pieces family) lists ++ listed_systems program families (map pieces families)) (others-same family families)
      ∙ ap (λ (systems : List AffineSystem). systems_with_lists program (pieces family) (map pieces (of_other_groups family families)) ++ systems) (listed-same families)

-- ---- one family after another

module _ (program : AffineProgram) (pieces : List FootprintPiece) (group : ℕ) where
  abbrev systems-of : List JointFamily → List (List FootprintPiece) → List AffineSystem
  systems-of others lists = systems_with_lists program pieces (lists_of_others group others lists)

  -- the systems with the first list, and those with the others
  pub split-others : (other : JointFamily) (others : List JointFamily) (lists : List (List FootprintPiece)) → 1 ≤ length lists
      → systems-of (other ∷ others) lists ≡ systems-of (other ∷ []) (take 1 lists) ++ systems-of others (drop 1 lists)
  split-others other others [] room = absurd (omega (arith, room))
  split-others other others (list ∷ lists) room = by (not (other.group == group)) where
    by : (b : Bool) → systems_with_lists program pieces (cond b (list ∷ lists_of_others group others lists) (lists_of_others group others lists))
        ≡ systems_with_lists program pieces (cond b (list ∷ []) []) ++ systems-of others lists
    by true = ap (λ (own : List AffineSystem). own ++ systems-of others lists) (sym (append-nil (shared_systems program pieces list)))
    by false = refl

  -- none with a list of the group, and all with one of another
  pub of-group : (other : JointFamily) (one : List (List FootprintPiece)) → length one ≡ 1 → other.group ≡ group → lists_of_others group (other ∷ []) one ≡ []
  of-group other [] many same = absurd (omega (arith, many))
  of-group other (list ∷ []) many same = ap (λ (b : Bool). cond (not b) (list ∷ []) []) (eq-eqb other.group group same)
  of-group other (list ∷ next ∷ lists) many same = absurd (omega (arith, many))

  pub of-another : (other : JointFamily) (one : List (List FootprintPiece)) → length one ≡ 1 → other.group ≢ group → lists_of_others group (other ∷ []) one ≡ one
  of-another other [] many differ = absurd (omega (arith, many))
  of-another other (list ∷ []) many differ = ap (λ (b : Bool). cond (not b) (list ∷ []) []) (ne_eqb other.group group differ)
  of-another other (list ∷ next ∷ lists) many differ = absurd (omega (arith, many))

-- what decides the claims of listed systems decides those of the groups
pub groups-found : (program : AffineProgram) (trees : List (List SelectionTree)) (term : JointTerm) (place list : List Step) (systems : List AffineSystem) (shown : List FarkasMultipliers)
    (found : Result (Unit {0}) Refused) → systems ≡ group_systems program trees term term.families → list ≡ place ++ Key (codes "apart") ∷ [] → shown ≡ term.apart
    → Decides (pointless_claims 18 list 0 systems shown) found → Decides (apart_claims_of program trees place term) found
groups-found program trees term place list systems shown found same there held h =
    subst (λ (ms : List FarkasMultipliers). Decides (pointless_claims 18 (place ++ Key (codes "apart") ∷ []) 0 (group_systems program trees term term.families) ms) found) held
    (subst (λ (xs : List AffineSystem). Decides (pointless_claims 18 (place ++ Key (codes "apart") ∷ []) 0 xs shown) found) same
    (subst (λ (p : List Step). Decides (pointless_claims 18 p 0 systems shown) found) there h))
