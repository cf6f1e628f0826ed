-- What is found of the walks from a part and from a region, by what the code holds.
use Rattle.std.proofs.Common.{◌≡◌, sym, subst, ℕ, ◌+◌, ◌<◌, List, [], ◌∷◌, ◌++◌, length}
use Rattle.std.specs.Prelude.{Result, codes}
use Rattle.std.specs.List.{AllByRecursion}
use Rattle.std.proofs.lemmas.List.{length-map}
use Rattle.iolb_model.specs.Program.{AffineProgram}
use Rattle.affine_form.specs.Form.{IsSmallForm}
use Rattle.affine_form.specs.Rows.{IsSmallOver}
use Rattle.affine_form.specs.System.{AllOver}
use Rattle.affine_program.specs.Domain.{depth_of}
use Rattle.claims.specs.Claims.{Decides}
use Rattle.claims.specs.declared.place.Step.{Step}
use Rattle.claims.specs.declared.place.Step.TheVariants.{Key}
use Rattle.claims.specs.declared.refused.Refused.{Refused}
use Rattle.dep_quast.specs.Tree.{SelectionTree}
use Rattle.dep_quast.specs.Trees.{RowsFit}
use Rattle.reuse_paths.specs.FamilyClaims.{start_rows}
use Rattle.reuse_paths.specs.WalkClaims.{walk_claims}
use Rattle.reuse_paths.specs.WalkFits.{CreditFits}
use Rattle.reuse_paths.specs.WalkSettings.{WalkSetting, region_context}
use Rattle.reuse_paths.specs.WalkViews.{ReadingFits}
use Rattle.iolb_model.specs.declared.limits.TheConstants.{PUT_SIZE}
use Rattle.joint_partition.specs.Claims.{member_at, setting_of, start_claims}
use Rattle.joint_partition.specs.FamiliesFit.{FitsFamily, StartFits}
use Rattle.joint_partition.specs.JointFits.{PartFits}
use Rattle.joint_partition.specs.JointWords.{dimensions_of}
use Rattle.joint_partition.specs.Term.{JointFamily, JointTerm, PartTerm, PartWalks, StartTerm, credited_nests, start_label, walks_from, way_at}
use Rattle.joint_partition.proofs.ScaledForms.{labels-over}
use Rattle.joint_partition.proofs.WaySettings.{way-fits, way-reading}

module _ (program : AffineProgram) (trees : List (List SelectionTree)) (term : JointTerm) (family : JointFamily) (part : PartTerm) (start : StartTerm) where
  abbrev from : PartWalks
  from = walks_from family part start

  abbrev setting : WalkSetting
  setting = setting_of program trees term from.walks from.walks.start_label

  -- a start label is over the parameters and the loop values
  label-over : FitsFamily program trees term family → PartFits program (dimensions_of term) part → AllOver (length program.parameters + depth_of program part.statement) (start_label part family)
  label-over fits part-fits =
      labels-over (length program.parameters + depth_of program part.statement) family.scale part.image family.set
      (subst (λ (n : ℕ). AllByRecursion (IsSmallOver (length program.parameters + n)) part.image) part-fits.each part-fits.over)
      (subst (λ (n : ℕ). AllByRecursion (λ (i : ℕ). i < n) family.set) (sym part-fits.long) fits.set)

  -- the setting of the walks fits
  pub start-reading : RowsFit program 0 trees → AllByRecursion (CreditFits program) (credited_nests term) → FitsFamily program trees term family → PartFits program (dimensions_of term) part
      → StartFits program trees term family part start → AllByRecursion (IsSmallForm PUT_SIZE) (start_label part family) → ReadingFits setting part.statement
  start-reading trees-fit credits fits part-fits start-fits small =
      way-reading program trees term family (way_at family start.way) trees-fit credits fits (way-fits program trees term family start.way fits start-fits.entered) (start_label part family) part.statement
      (length-map family.set _) part-fits.there (label-over fits part-fits) small

  -- what decides the claims of the code's walk decides those of the start
  pub start-found : (list place : List Step) (index condition : ℕ) (walk : WalkSetting) (found : Result (Unit {0}) Refused) → walk ≡ setting → condition ≡ 15
      → place ≡ member_at list (codes "starts") index ++ Key (codes "tree") ∷ []
      → Decides (walk_claims condition walk part.statement place (region_context walk part.statement (start_rows walk part.statement part.nest)) start.tree) found
      → Decides (start_claims program trees term list index from) found
  start-found list place index condition walk found is same there h =
      subst (λ (w : WalkSetting). Decides (walk_claims 15 w part.statement (member_at list (codes "starts") index ++ Key (codes "tree") ∷ []) (region_context w part.statement (start_rows w part.statement part.nest)) start.tree) found) is
      (subst (λ (n : ℕ). Decides (walk_claims n walk part.statement (member_at list (codes "starts") index ++ Key (codes "tree") ∷ []) (region_context walk part.statement (start_rows walk part.statement part.nest)) start.tree) found) same
      (subst (λ (p : List Step). Decides (walk_claims condition walk part.statement p (region_context walk part.statement (start_rows walk part.statement part.nest)) start.tree) found) there h))
