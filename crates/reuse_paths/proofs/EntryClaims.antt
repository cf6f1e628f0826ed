-- What is found in the claims of an entry.
use Rattle.std.proofs.Common.{◌≡◌, sym, subst, ℕ, zero, suc, ◌+◌, ◌≤◌, List, [], ◌∷◌, ◌++◌, map, arith, lit<, zero-add}
use Rattle.std.specs.Prelude.{Option, Some, None, IsSomeAnd, Result, codes}
use Rattle.std.specs.List.{AllByRecursion}
use Rattle.std.proofs.Math.IntN.{pos}
use Rattle.std.proofs.Math.Nat.{add-zero}
use Rattle.base_laws.proofs.Lists.{All-append, All-replicate}
use Rattle.iolb_model.specs.Form.{AffineForm}
use Rattle.claims.specs.Claims.{Claim, Decides}
use Rattle.claims.specs.declared.place.Step.{Step}
use Rattle.claims.specs.declared.place.Step.TheVariants.{Key}
use Rattle.claims.specs.declared.refused.Refused.{Refused}
use Rattle.claims.proofs.Found.{decides-later}
use Rattle.claims.proofs.Members.{suc-moved}
use Rattle.affine_form.specs.Form.{IsSmall}
use Rattle.affine_form.specs.Multipliers.{FarkasMultipliers}
use Rattle.affine_form.specs.Rows.{widened, IsSmallOver}
use Rattle.affine_form.specs.System.{AffineSystem}
use Rattle.affine_form.proofs.RowLemmas.{length-widened}
use Rattle.claims.specs.Shown.{follow_claims}
use Rattle.reuse_paths.specs.EntryClaims.{IsInRegion, going_goals}
use Rattle.dep_quast.specs.OpenLeaves.{written, form_at}
use Rattle.reuse_paths.specs.WalkFits.{RegionsFit, RegionRowsFit}
use Rattle.reuse_paths.specs.WalkSettings.{WalkSetting, region_variables, region_at, entering_rows}
use Rattle.reuse_paths.specs.Walks.{WalkRegion}
use Rattle.iolb_model.specs.declared.limits.TheConstants.{NUMBER_SIZE}

-- small forms read over more variables
pub all-widened-small : (many vars : ℕ) (forms : List AffineForm) → many ≤ vars → AllByRecursion (IsSmallOver many) forms → AllByRecursion (IsSmallOver vars) (map (widened vars) forms)
all-widened-small many vars [] more h = tt
all-widened-small many vars (form ∷ forms) more h = (
  record {
    over = length-widened vars form (omega (arith, more, h.0.over));
    small = (All-append (IsSmall NUMBER_SIZE) form.coefficients _ h.0.small.0 (All-replicate (IsSmall NUMBER_SIZE) _ (pos 0) (lit< tt)), h.0.small.1);
  },
  all-widened-small many vars forms more h.1,
)

-- a walk goes on into a region
pub going-found : (condition : ℕ) (walk : WalkSetting) (place : List Step) (system : AffineSystem) (point : List AffineForm) (writer : ℕ) (values : List AffineForm) (region : WalkRegion)
    (shown : List FarkasMultipliers) (found : Result (Unit {0}) Refused) → region_at walk.nodes writer ≡ Some region
    → Decides (follow_claims condition (place ++ Key (codes "rows") ∷ []) system 0 (entering_rows walk system.vars (Some region) (map (form_at system.vars point) values)) shown) found
    → Decides (record { condition = condition; place = place; statement = IsInRegion walk (written writer values) }
    ∷ follow_claims condition (place ++ Key (codes "rows") ∷ []) system 0 (going_goals walk system.vars point (written writer values)) shown) found
going-found condition walk place system point writer values region shown found is h =
    let follow : List Claim = follow_claims condition (place ++ Key (codes "rows") ∷ []) system 0 (going_goals walk system.vars point (written writer values)) shown in
    decides-later (record { condition = condition; place = place; statement = IsSomeAnd (region_at walk.nodes writer) (λ region. Unit {0}) } ∷ []) follow found
    (subst (λ (o : Option WalkRegion). IsSomeAnd o (λ region. Unit {0})) (sym is) tt, tt)
    (subst (λ (o : Option WalkRegion). Decides (follow_claims condition (place ++ Key (codes "rows") ∷ []) system 0 (entering_rows walk system.vars o (map (form_at system.vars point) values)) shown) found) (sym is) h)

-- the rows of regions that fit are over their variables
pub rows-fit : (walk : WalkSetting) (first : ℕ) (nodes : List (Option WalkRegion)) → RegionsFit walk first nodes → RegionRowsFit walk first nodes
rows-fit walk first [] fits = tt
rows-fit walk first (None ∷ nodes) fits = rows-fit walk (suc first) nodes fits.1
rows-fit walk first (Some region ∷ nodes) fits = (fits.0.0, rows-fit walk (suc first) nodes fits.1)

rows-at : (walk : WalkSetting) (first s : ℕ) (nodes : List (Option WalkRegion)) (region : WalkRegion) → region_at nodes s ≡ Some region → RegionRowsFit walk first nodes
    → AllByRecursion (IsSmallOver (region_variables walk (first + s))) region.rows
rows-at walk first s [] region e fits = absurd cc
rows-at walk first zero (None ∷ nodes) region e fits = absurd cc
rows-at walk first zero (Some other ∷ nodes) region e fits =
    let same : other ≡ region = cc in
    subst (λ (n : ℕ). AllByRecursion (IsSmallOver (region_variables walk n)) region.rows) (sym (add-zero first))
    (subst (λ (r : WalkRegion). AllByRecursion (IsSmallOver (region_variables walk first)) r.rows) same fits.0)
rows-at walk first (suc s) (None ∷ nodes) region e fits =
    subst (λ (n : ℕ). AllByRecursion (IsSmallOver (region_variables walk n)) region.rows) (suc-moved first s) (rows-at walk (suc first) s nodes region e fits)
rows-at walk first (suc s) (Some other ∷ nodes) region e fits =
    subst (λ (n : ℕ). AllByRecursion (IsSmallOver (region_variables walk n)) region.rows) (suc-moved first s) (rows-at walk (suc first) s nodes region e fits.1)

-- those of a statement's region are
pub region-over : (walk : WalkSetting) (s : ℕ) (region : WalkRegion) → RegionRowsFit walk 0 walk.nodes → region_at walk.nodes s ≡ Some region
    → AllByRecursion (IsSmallOver (region_variables walk s)) region.rows
region-over walk s region fits is = subst (λ (n : ℕ). AllByRecursion (IsSmallOver (region_variables walk n)) region.rows) (zero-add s) (rows-at walk 0 s walk.nodes region is fits)
