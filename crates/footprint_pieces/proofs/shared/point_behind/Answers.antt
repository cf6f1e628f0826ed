use Rattle.std.proofs.Common.{◌≡◌, sym, ◌∙◌, ap, subst, ℕ, ◌+◌, length, map, lit<}
use Rattle.std.specs.Prelude.{IfOk}
use Rattle.std.specs.List.{AllByRecursion}
use Rattle.affine_form.specs.Form.{IsSmallForm}
use Rattle.affine_form.specs.System.{AllOver}
use Rattle.claims.proofs.Found.{IfOk-then}
use Rattle.footprint_pieces.specs.DisjointClaims.{moved}
use Rattle.footprint_pieces.proofs.MovedForms.{moved-over, moved-small}
use Rattle.footprint_pieces.proofs.shared.point_behind.Goals as goal
use Rattle.iolb_model.specs.declared.limits.TheConstants.{PUT_SIZE}

is : (c : goal.After-all_moved) → IfOk c.all_moved.result (λ all. all.items ≡ map (moved (length c.args.program.now.params) c.args.more) c.args.piece.now.point.items)
is c =
    let more : ℕ = c.args.more in
    IfOk-then c.all_moved.result (λ all. all.items ≡ map (moved (length c.params-params.result.now) more) c.as_slice.result.now)
    (λ all. all.items ≡ map (moved (length c.args.program.now.params) more) c.args.piece.now.point.items) c.all_moved.ensures
    (λ all e. e ∙ ap (λ (n : ℕ). map (moved n more) c.as_slice.result.now) (ap length c.params-params.ensures.params)
    ∙ ap (map (moved (length c.args.program.now.params) more)) c.as_slice.ensures.value)

pub returns-clause-over : goal.returns-clause-over
returns-clause-over c =
    let params : ℕ = length c.args.program.now.params in
    let own : ℕ = c.args.piece.now.vars in
    IfOk-then c.all_moved.result (λ all. all.items ≡ map (moved params c.args.more) c.args.piece.now.point.items) (λ all. AllOver (params + c.args.more + own) all.items) (is c)
    (λ all e. subst (AllOver (params + c.args.more + own)) (sym e) (moved-over params c.args.more own c.args.piece.now.point.items c.requires.fits.point))

pub returns-clause-small : goal.returns-clause-small
returns-clause-small c =
    let params : ℕ = length c.args.program.now.params in
    IfOk-then c.all_moved.result (λ all. all.items ≡ map (moved params c.args.more) c.args.piece.now.point.items) (λ all. AllByRecursion (IsSmallForm PUT_SIZE) all.items) (is c)
    (λ all e. subst (AllByRecursion (IsSmallForm PUT_SIZE)) (sym e) (moved-small PUT_SIZE params c.args.more c.args.piece.now.point.items (lit< tt) c.requires.fits.small))
