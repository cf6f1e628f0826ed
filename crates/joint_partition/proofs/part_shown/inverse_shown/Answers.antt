use Rattle.std.proofs.Common.{◌≡◌, ap, subst, ℕ, List, length}
use Rattle.iolb_model.specs.Form.{AffineForm}
use Rattle.claims.specs.Claims.{IsRefusalAt}
use Rattle.claims.specs.declared.place.Step.{Step}
use Rattle.execution_laws.specs.Inverse.{IsFirstDifference, IsScaledInverse}
use Rattle.reuse_paths.specs.MatrixRows.{matrix_rows}
use Rattle.wavefront.specs.Inverse.{coefficients_past}
use Rattle.wavefront.proofs.InverseClaims.{difference-refused, undone-hold}
use Rattle.joint_partition.proofs.part_shown.inverse_shown.Goals as goal

-- what holds of numbers and forms holds of those that they are
moved : (P : ℕ → ℕ → List AffineForm → Type 0) (m n k l : ℕ) (fs gs : List AffineForm) → m ≡ n → k ≡ l → fs ≡ gs → P m k fs → P n l gs
moved P m n k l fs gs d e f h = subst (λ (x : ℕ). P x l gs) d (subst (λ (x : ℕ). P m x gs) e (subst (λ (xs : List AffineForm). P m k xs) f h))

pub returns-in_ok-entry-in-Some : goal.returns-in_ok-entry-in-Some
returns-in_ok-entry-in-Some c =
    let part = c.args.part.now in
    let matrix = part.inverse.matrix in
    let scale : ℕ = part.inverse.scale in
    difference-refused matrix scale (length c.args.program.now.params) (length part.nest) part.image.items c.args.place.now c.in-Some.row c.in-Some.col c.refusal.result
    (moved (λ m k fs. IsFirstDifference scale k (matrix_rows matrix) (coefficients_past m fs) c.in-Some.row c.in-Some.col) (length c.params-params.result.now) (length c.args.program.now.params)
    (length c.bounds-size.result.now) (length part.nest) c.as_slice.result.now part.image.items (ap length c.params-params.ensures.params) (ap length c.bounds-size.ensures) c.as_slice.ensures.value c.in-Some.ensures.some)
    (subst (λ (p : List Step). IsRefusalAt 12 p c.refusal.result) c.in_ok-entry-in-Some.ensures c.refusal.ensures)

pub returns-in-None : goal.returns-in-None
returns-in-None c =
    let part = c.args.part.now in
    let matrix = part.inverse.matrix in
    let scale : ℕ = part.inverse.scale in
    undone-hold matrix scale (length c.args.program.now.params) (length part.nest) part.image.items c.args.place.now
    (moved (λ m k fs. IsScaledInverse scale k (matrix_rows matrix) (coefficients_past m fs)) (length c.params-params.result.now) (length c.args.program.now.params)
    (length c.bounds-size.result.now) (length part.nest) c.as_slice.result.now part.image.items (ap length c.params-params.ensures.params) (ap length c.bounds-size.ensures) c.as_slice.ensures.value c.in-None.ensures.none)
