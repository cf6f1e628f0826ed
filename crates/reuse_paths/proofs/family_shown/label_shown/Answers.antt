use Rattle.std.proofs.Common.{true, ◌≡◌, sym, subst, arith, ℕ, ◌<◌, List, length, get_or}
use Rattle.std.specs.Prelude.{Err}
use Rattle.std.proofs.lemmas.List.{drop_more}
use Rattle.iolb_model.specs.Form.{AffineForm}
use Rattle.claims.specs.Claims.{IsRefusalAt}
use Rattle.claims.specs.declared.place.Step.{Step}
use Rattle.affine_form.specs.Matrix.{IntegerMatrix}
use Rattle.affine_program.specs.Domain.{depth_of}
use Rattle.affine_program.specs.Parts.{meaning}
use Rattle.reuse_paths.specs.FamilyClaims.{IsScaledRow}
use Rattle.reuse_paths.proofs.FamilyParts.{row-fails, row-holds}
use Rattle.reuse_paths.proofs.family_shown.label_shown.Goals as goal

-- the row of the matrix, by what the code holds
same-row : (matrix : IntegerMatrix) (scale : ℕ) (p q : List (List ℕ)) (l m : ℕ) (s t : List ℕ) (i : ℕ) (form : AffineForm) → p ≡ q → l ≡ m → s ≡ t
    → IsScaledRow matrix scale (length p) l (get_or s i 0) form → IsScaledRow matrix scale (length q) m (get_or t i 0) form
same-row matrix scale p q l m s t i form e f g h =
    subst (λ (r : List (List ℕ)). IsScaledRow matrix scale (length r) m (get_or t i 0) form) e
    (subst (λ (n : ℕ). IsScaledRow matrix scale (length p) n (get_or t i 0) form) f (subst (λ (u : List ℕ). IsScaledRow matrix scale (length p) l (get_or u i 0) form) g h))

pub returns-then-not-is_scaled_row : goal.returns-then-not-is_scaled_row
returns-then-not-is_scaled_row c =
    let matrix = c.args.matrix.now in
    let scale : ℕ = c.args.family.now.scale in
    let params : List (List ℕ) = c.args.program.now.params in
    let loops : ℕ = depth_of (meaning c.args.program.now) c.args.statement in
    let set : List ℕ = c.args.family.now.set in
    let label : List AffineForm = c.args.family.now.start_label.items in
    let list : List Step = c.args.list.now in
    let i : ℕ = c.loop-i.i in
    let form : AffineForm = c.index-label-i.result in
    let there : i < length set = subst (λ (s : List ℕ). i < length s) c.coords-set.ensures c.loop-i-test.true in
    c.loop-i.invariant (Err c.refusal.result)
    (row-fails matrix scale (length params) loops list set label i (get_or set i 0) form (drop_more set i 0 there) (omega (arith, there, c.requires.label.each))
    (subst (λ (fs : List AffineForm). form ≡ get_or fs i form) c.as_slice-label.ensures.value c.index-label-i.is) c.refusal.result
    (λ holds.
    let yes : c.is_scaled_row.result ≡ true = c.is_scaled_row.ensures.1
    (same-row matrix scale params c.params-params.result.now loops c.depth-loops.result set c.coords-set.result.now i form (sym c.params-params.ensures.params) (sym c.depth-loops.ensures.depth) (sym c.coords-set.ensures) holds) in cc)
    (subst (λ (p : List Step). IsRefusalAt 13 p c.refusal.result) c.in_ok-place.ensures c.refusal.ensures))

pub loop-i-preserved : goal.loop-i-preserved
loop-i-preserved c = λ found h.
    let matrix = c.args.matrix.now in
    let scale : ℕ = c.args.family.now.scale in
    let params : List (List ℕ) = c.args.program.now.params in
    let loops : ℕ = depth_of (meaning c.args.program.now) c.args.statement in
    let set : List ℕ = c.args.family.now.set in
    let label : List AffineForm = c.args.family.now.start_label.items in
    let i : ℕ = c.loop-i.i in
    let form : AffineForm = c.index-label-i.result in
    let there : i < length set = subst (λ (s : List ℕ). i < length s) c.coords-set.ensures c.loop-i-test.true in
    c.loop-i.invariant found
    (row-holds matrix scale (length params) loops c.args.list.now set label i (get_or set i 0) form (drop_more set i 0 there) (omega (arith, there, c.requires.label.each))
    (subst (λ (fs : List AffineForm). form ≡ get_or fs i form) c.as_slice-label.ensures.value c.index-label-i.is) found
    (same-row matrix scale c.params-params.result.now params c.depth-loops.result loops c.coords-set.result.now set i form c.params-params.ensures.params c.depth-loops.ensures.depth c.coords-set.ensures
    (c.is_scaled_row.ensures.0 c.if-not-is_scaled_row.false)) h)
