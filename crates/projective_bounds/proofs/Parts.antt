-- The certificate of a projective program by its parts.
use Rattle.std.proofs.Common.{◌≡◌, refl, sym, subst, ℕ, List, [], ◌∷◌}
use Rattle.iolb_model.specs.Program.{AffineProgram}
use Rattle.affine_program.specs.Parts.{ProgramParts, IsProgram, meaning}
use Rattle.dep_quast.specs.Tree.{SelectionTree}
use Rattle.dep_quast.specs.declared.quasts.Quasts.{Quasts}
use Rattle.iolb_check.specs.declared.term.Branch.{Branch}
use Rattle.iolb_check.specs.Limits.{CertificateParts}
use Rattle.projective.specs.Projective.{IsProjective}
use Rattle.projective_bounds.specs.Colds.{AreArrayColds}
use Rattle.projective_bounds.specs.WholeLaws.{CanBeShown}
use Rattle.projective_bounds.specs.Trees.{HaveKeepingTrees}
use Rattle.projective_bounds.specs.Certified.{IsCertified, IsCoverInReach}
use Rattle.projective_bounds.proofs.Conditions.{AreParts, conditions-met}

pub can-be-shown : (program : ProgramParts) (trees : List (List SelectionTree)) (q : ℕ) (weights packing : List ℕ) → IsProgram program → IsProjective (meaning program)
    → HaveKeepingTrees (meaning program) trees → IsCoverInReach (meaning program) q weights packing → CanBeShown program trees q weights
can-be-shown program trees q weights packing kept projective keep cover = record {
  program = kept;
  projective = projective;
  trees = keep;
  some = cover.least.positive;
  few = cover.few;
  light = cover.light;
  packing = packing;
  pair = cover.least.is_pair;
}

-- a cover in reach, by what the code holds of it
pub in-reach : (program : AffineProgram) (q found : ℕ) (weights taken packing : List ℕ) → found ≡ q → taken ≡ weights → IsCoverInReach program q weights packing → IsCoverInReach program found taken packing
in-reach program q found weights taken packing same equal cover =
    subst (λ (n : ℕ). IsCoverInReach program n taken packing) (sym same) (subst (λ (ws : List ℕ). IsCoverInReach program q ws packing) (sym equal) cover)

pub parts-certified : (program : ProgramParts) (quasts : Quasts) (first second : Branch) (certificate : CertificateParts) (packing : List ℕ) (h : AreParts program quasts first second)
    → IsCoverInReach (meaning program) h.q h.weights packing → AreArrayColds (meaning program) h.colds → certificate ≡ record { quasts = quasts; branches = first ∷ second ∷ [] }
    → IsCertified (meaning program) certificate
parts-certified program quasts first second certificate packing h cover arrays is = subst (IsCertified (meaning program)) (sym is) (record {
  q = h.q;
  weights = h.weights;
  packing = packing;
  cover = cover;
  trees = h.trees;
  first = first;
  second = second;
  two = refl;
  whole = h.whole;
  colds = record { colds = h.colds; all = h.all; arrays = arrays; alone = h.alone };
  meets = conditions-met program quasts first second h;
})
