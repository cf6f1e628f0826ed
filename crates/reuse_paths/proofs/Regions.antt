-- The points of a region: the parameters, a point of the nest, and the loop values of an instance.
use Rattle.std.proofs.Common.{◌≡◌, refl, sym, ◌∙◌, ap, subst, ℕ, zero, suc, ◌+◌, ◌≤◌, List, [], ◌∷◌, ◌++◌, length, map, arith}
use Rattle.std.specs.Prelude.{Option, Some, None, IsSomeAnd, codes}
use Rattle.std.proofs.Math.IntN.{ℤ, pos}
use lib.Signed.{◌≤ℤ◌}
use Rattle.std.proofs.lemmas.List.{append_assoc, length-append, length-map, map-append}
use Rattle.std.proofs.Math.Nat.{add-zero}
use Rattle.base_laws.proofs.Lists.{All-append}
use Rattle.iolb_model.specs.Form.{AffineForm, form_value}
use Rattle.iolb_model.specs.Path.{row_path}
use Rattle.iolb_model.specs.Program.{IsWellFormed}
use Rattle.iolb_model.specs.Bound.{IsAdmitted}
use Rattle.iolb_model.specs.Domain.{IsWithin, IsAt, LeadAlong}
use Rattle.execution_laws.proofs.Domains.{domains_executed}
use Rattle.claims.specs.Claims.{AllHold, numbered}
use Rattle.claims.specs.declared.place.Step.{Step}
use Rattle.claims.specs.declared.place.Step.TheVariants.{Key}
use Rattle.claims.proofs.Laws.{AllHold-left, AllHold-right}
use Rattle.claims.proofs.Members.{suc-moved}
use Rattle.affine_form.specs.Multipliers.{FarkasMultipliers}
use Rattle.affine_form.specs.Substitution.{values_at}
use Rattle.affine_form.specs.System.{IsMet}
use Rattle.affine_form.specs.Rows.{widened, variables_from}
use Rattle.affine_form.proofs.RowLemmas.{length-variables}
use Rattle.affine_form.proofs.Meaning.{values-end, values-front, widened-stay}
use Rattle.affine_program.specs.Domain.{path_of, bounds_at, depth_of, domain_rows}
use Rattle.claims.specs.Shown.{follow_claims}
use Rattle.dep_quast.specs.Context.{parameter_point}
use Rattle.execution_laws.proofs.Ways.{within-length, there-holds}
use Rattle.claims.proofs.Systems.{goals-met}
use Rattle.domain_count.specs.Count.{rows_before}
use Rattle.reuse_paths.specs.EntryClaims.{IsInRegion, going_goals}
use Rattle.dep_quast.specs.OpenLeaves.{written, form_at}
use Rattle.reuse_paths.specs.ReachClaims.{region_claims}
use Rattle.reuse_paths.specs.WalkFits.{RegionFits, RegionsFit}
use Rattle.reuse_paths.specs.WalkSettings.{WalkSetting, spot_variables, region_variables, region_values, reading_point, region_context, region_at, forms_behind, entering_rows}
use Rattle.reuse_paths.specs.Walks.{WalkRegion}
use Rattle.dep_quast.proofs.ChosenLeaves.{forms_at-met, forms_at-values}
use Rattle.reuse_paths.proofs.NestPoints.{nest-met-before}
use Rattle.affine_program.proofs.Domains.{domain_rows-met}

pub there-is : (o : Option WalkRegion) → IsSomeAnd o (λ region. Unit {0}) → (region : WalkRegion) × (o ≡ Some region)
there-is None h = absurd h
there-is (Some region) h = (region, refl)

-- what is claimed of a statement's region, and that it fits
pub region-claimed : (condition : ℕ) (walk : WalkSetting) (place : List Step) (first s : ℕ) (nodes : List (Option WalkRegion)) (region : WalkRegion) → region_at nodes s ≡ Some region
    → AllHold (numbered (region_claims condition walk place) first nodes) → AllHold (region_claims condition walk place (first + s) (Some region))
region-claimed condition walk place first s [] region e h = absurd cc
region-claimed condition walk place first zero (first_region ∷ nodes) region e h =
    subst (λ (n : ℕ). AllHold (region_claims condition walk place n (Some region))) (sym (add-zero first))
    (subst (λ (o : Option WalkRegion). AllHold (region_claims condition walk place first o)) e (AllHold-left (region_claims condition walk place first first_region) (numbered (region_claims condition walk place) (suc first) nodes) h))
region-claimed condition walk place first (suc s) (first_region ∷ nodes) region e h =
    subst (λ (n : ℕ). AllHold (region_claims condition walk place n (Some region))) (suc-moved first s)
    (region-claimed condition walk place (suc first) s nodes region e (AllHold-right (region_claims condition walk place first first_region) (numbered (region_claims condition walk place) (suc first) nodes) h))

pub region-fits : (walk : WalkSetting) (first s : ℕ) (nodes : List (Option WalkRegion)) (region : WalkRegion) → region_at nodes s ≡ Some region
    → RegionsFit walk first nodes → RegionFits walk (first + s) (Some region)
region-fits walk first s [] region e h = absurd cc
region-fits walk first zero (first_region ∷ nodes) region e h =
    subst (λ (n : ℕ). RegionFits walk n (Some region)) (sym (add-zero first)) (subst (λ (o : Option WalkRegion). RegionFits walk first o) e h.0)
region-fits walk first (suc s) (first_region ∷ nodes) region e h =
    subst (λ (n : ℕ). RegionFits walk n (Some region)) (suc-moved first s) (region-fits walk (suc first) s nodes region e h.1)

module _ (walk : WalkSetting) (values u : List ℤ) (formed : IsWellFormed walk.program) (admitted : IsAdmitted walk.program values) (within : IsWithin walk.nest values u) where
  -- the parameters and the point of the nest have as many values as a spot has variables
  pub spot-many : spot_variables walk ≡ length (values ++ u)
  spot-many = omega (arith, length-append values u, admitted.each, within-length walk.nest values u within)

  -- the values of the first variables, and of forms behind them
  pub behind-nest : (vars : ℕ) (forms : List AffineForm) (at rest : List ℤ) → spot_variables walk ≤ vars → at ≡ (values ++ u) ++ rest
      → values_at (variables_from vars 0 (spot_variables walk) ++ forms) at ≡ (values ++ u) ++ values_at forms at
  behind-nest vars forms at rest room is =
      map-append (λ form. form_value form at) (variables_from vars 0 (spot_variables walk)) forms
      ∙ ap (λ (q : List ℤ). q ++ values_at forms at)
      (ap (values_at (variables_from vars 0 (spot_variables walk))) is ∙ values-front vars (spot_variables walk) (values ++ u) rest spot-many room)

  -- forms with others put in for their last variables have the values that they have at the others' values
  pub behind-values : (vars : ℕ) (these forms : List AffineForm) (at rest : List ℤ) → spot_variables walk ≤ vars → at ≡ (values ++ u) ++ rest
      → values_at (forms_behind walk vars forms these) at ≡ values_at these ((values ++ u) ++ values_at forms at)
  behind-values vars these forms at rest room is =
      forms_at-values vars (variables_from vars 0 (spot_variables walk) ++ forms) these at ((values ++ u) ++ values_at forms at) (behind-nest vars forms at rest room is)

  -- where the rows which say that loop values are in a region are met, its rows are met at them
  pub entering-met : (vars : ℕ) (region : WalkRegion) (forms : List AffineForm) (at rest : List ℤ) → spot_variables walk ≤ vars → at ≡ (values ++ u) ++ rest
      → IsMet (entering_rows walk vars (Some region) forms) at → IsMet region.rows ((values ++ u) ++ values_at forms at)
  entering-met vars region forms at rest room is met =
      forms_at-met vars (variables_from vars 0 (spot_variables walk) ++ forms) region.rows at ((values ++ u) ++ values_at forms at) (behind-nest vars forms at rest room is) met

  module _ (n s : ℕ) (x : List ℤ) (here : IsAt walk.program values n (record { statement = s; values = x })) where
    -- the loop values are in the statement's domain
    in-domain : LeadAlong (path_of walk.program s) values x
    in-domain = there-holds (row_path walk.program.tree s) (λ path. LeadAlong path values x) ((domains_executed walk.program values (record { statement = s; values = x }) formed).0 (n, here))

    pub values-many : depth_of walk.program s ≡ length x
    values-many = sym (within-length (bounds_at walk.program s) values x in-domain.0)

    -- the parameters and the loop values, as forms over the variables of the region
    pub params-there : values_at (parameter_point walk.program (region_variables walk s)) ((values ++ u) ++ x) ≡ values
    params-there =
        subst (λ (p : List ℤ). values_at (parameter_point walk.program (region_variables walk s)) p ≡ values) (sym (append_assoc values u x))
        (values-front (region_variables walk s) (length walk.program.parameters) values (u ++ x) (sym admitted.each) (omega arith))

    pub loops-there : values_at (region_values walk s) ((values ++ u) ++ x) ≡ x
    loops-there = values-end (region_variables walk s) (spot_variables walk) (depth_of walk.program s) (values ++ u) x spot-many values-many (omega arith)

    pub reading-there : values_at (reading_point walk s) ((values ++ u) ++ x) ≡ values ++ x
    reading-there =
        map-append (λ form. form_value form ((values ++ u) ++ x)) (parameter_point walk.program (region_variables walk s)) (region_values walk s)
        ∙ ap (λ (q : List ℤ). q ++ values_at (region_values walk s) ((values ++ u) ++ x)) params-there
        ∙ ap (λ (q : List ℤ). values ++ q) loops-there

    -- the rows of the region are met
    pub context-met : (rows : List AffineForm) → IsMet rows ((values ++ u) ++ x) → IsMet (region_context walk s rows) ((values ++ u) ++ x)
    context-met rows met =
        let vars : ℕ = region_variables walk s in
        let point : List ℤ = (values ++ u) ++ x in
        let nest : List AffineForm = map (widened vars) (rows_before walk.program walk.nest).rows in
        let domain : List AffineForm = domain_rows walk.program s vars (parameter_point walk.program vars) (region_values walk s) in
        let nest-rows : IsMet nest point = widened-stay vars (rows_before walk.program walk.nest).rows point (nest-met-before walk.program walk.nest values u x formed admitted within) in
        let domain-rows : IsMet domain point =
        domain_rows-met walk.program s vars (parameter_point walk.program vars) (region_values walk s) point formed (length-variables vars 0 (length walk.program.parameters))
        (subst (λ (ps : List ℤ). LeadAlong (path_of walk.program s) ps (values_at (region_values walk s) point)) (sym params-there)
        (subst (λ (ys : List ℤ). LeadAlong (path_of walk.program s) values ys) (sym loops-there) in-domain)) in
        All-append (λ (row : AffineForm). pos 0 ≤ℤ form_value row point) (nest ++ domain) rows
        (All-append (λ (row : AffineForm). pos 0 ≤ℤ form_value row point) nest domain nest-rows domain-rows) met

    -- a walk that goes on from a written word goes on in a region
    pub going-met : (condition : ℕ) (place : List Step) (rows : List AffineForm) (writer : ℕ) (forms : List AffineForm) (shown : List FarkasMultipliers)
        → length shown ≡ length (going_goals walk (region_variables walk s) (reading_point walk s) (written writer forms)) → IsMet rows ((values ++ u) ++ x)
        → IsInRegion walk (written writer forms)
        → AllHold (follow_claims condition (place ++ Key (codes "rows") ∷ []) (record { vars = region_variables walk s; rows = rows }) 0 (going_goals walk (region_variables walk s) (reading_point walk s) (written writer forms)) shown)
        → (region : WalkRegion) × ((region_at walk.nodes writer ≡ Some region) × IsMet region.rows ((values ++ u) ++ values_at forms (values ++ x)))
    going-met condition place rows writer forms shown enough met is h =
        let vars : ℕ = region_variables walk s in
        let point : List ℤ = (values ++ u) ++ x in
        let here_forms : List AffineForm = map (form_at vars (reading_point walk s)) forms in
        let region : (r : WalkRegion) × (region_at walk.nodes writer ≡ Some r) = there-is (region_at walk.nodes writer) is in
        let entering : IsMet (entering_rows walk vars (region_at walk.nodes writer) here_forms) point =
        goals-met condition (place ++ Key (codes "rows") ∷ []) (record { vars = vars; rows = rows }) 0 (going_goals walk vars (reading_point walk s) (written writer forms)) shown point (omega (arith, enough)) h met in
        let inside : IsMet region.0.rows ((values ++ u) ++ values_at here_forms point) =
        entering-met vars region.0 here_forms point x (omega arith) refl
        (subst (λ (o : Option WalkRegion). IsMet (entering_rows walk vars o here_forms) point) region.1 entering) in
        (region.0, (region.1, subst (λ (v : List ℤ). IsMet region.0.rows ((values ++ u) ++ v)) (forms_at-values vars (reading_point walk s) forms point (values ++ x) reading-there) inside))
