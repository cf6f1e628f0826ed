-- The sets of the families cover the coordinates as often as those of the arrays.
use Rattle.std.proofs.Common.{◌≡◌, refl, sym, ◌∙◌, ap, ℕ, suc, ◌+◌, List, [], ◌∷◌, ◌++◌, arith, Bool, true, false, cond}
use Rattle.std.specs.Prelude.{◌==◌, if◌then◌else◌}
use Rattle.std.proofs.lemmas.Bool.{eqb-true}
use Rattle.std.proofs.lemmas.List.Sums.{sum_by-cons}
use Rattle.iolb_model.specs.Game.{stands_in}
use Rattle.iolb_model.specs.Program.{AffineProgram}
use Rattle.cover_lp.specs.Cover.{weight_at as cover_weight}
use Rattle.dep_quast.specs.Tree.{SelectionTree}
use Rattle.k_partition.specs.PartitionClaims.{weight_at}
use Rattle.reuse_paths.specs.Families.{FamilyForms}
use Rattle.projective_bounds.specs.Families.{array_families, array_family}

pub weights-same : (program : AffineProgram) (trees : List (List SelectionTree)) (first : ℕ) (sets : List (List ℕ)) (weights : List ℕ) (coordinate : ℕ)
    → weight_at (array_families program trees first sets weights) coordinate ≡ cover_weight sets weights coordinate
weights-same program trees first [] weights coordinate = refl
weights-same program trees first (set ∷ sets) [] coordinate = refl
weights-same program trees first (set ∷ sets) (weight ∷ weights) coordinate = by (weight == 0) refl (weights-same program trees (suc first) sets weights coordinate) where
  none : (b : Bool) (w : ℕ) → w ≡ 0 → cond b w 0 ≡ 0
  none true w e = e
  none false w e = refl

  by : (b : Bool) → b ≡ (weight == 0) → weight_at (array_families program trees (suc first) sets weights) coordinate ≡ cover_weight sets weights coordinate
      → weight_at ((if b then [] else array_family program trees first set weight ∷ []) ++ array_families program trees (suc first) sets weights) coordinate
      ≡ cond (stands_in set coordinate) weight 0 + cover_weight sets weights coordinate
  by true e rest = omega (arith, rest, none (stands_in set coordinate) weight (eqb-true weight 0 (sym e)))
  by false e rest =
      sum_by-cons (λ (family : FamilyForms). cond (stands_in family.set coordinate) family.weight 0) (array_family program trees first set weight) (array_families program trees (suc first) sets weights)
      ∙ ap (λ (n : ℕ). cond (stands_in set coordinate) weight 0 + n) rest
