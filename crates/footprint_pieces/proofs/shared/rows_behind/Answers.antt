use Rattle.std.proofs.Common.{◌≡◌, sym, ◌∙◌, ap, subst, ℕ, ◌+◌, List, length, map, drop}
use Rattle.std.specs.Prelude.{IfOk}
use Rattle.base_laws.proofs.Lists.{All-drop}
use Rattle.iolb_model.specs.Form.{AffineForm}
use Rattle.affine_form.specs.Form.{variables}
use Rattle.affine_form.specs.System.{AffineSystem, AllOver}
use Rattle.claims.proofs.Found.{IfOk-then}
use Rattle.footprint_pieces.specs.DisjointClaims.{moved}
use Rattle.footprint_pieces.proofs.MovedForms.{moved-over}
use Rattle.footprint_pieces.proofs.shared.rows_behind.Goals as goal

is : (c : goal.After-all_moved) → IfOk c.all_moved.result (λ all. all.items ≡ map (moved (length c.args.program.now.params) c.args.more) (drop (length c.args.program.now.assumed.rows) c.args.piece.now.rows.rows))
is c =
    let more : ℕ = c.args.more in
    let rows : List AffineForm = drop (length c.args.program.now.assumed.rows) c.args.piece.now.rows.rows in
    let many : length c.rows-assumed.result.now ≡ length c.args.program.now.assumed.rows = ap length (c.rows-assumed.ensures.rows ∙ ap (λ (s : AffineSystem). s.rows) c.assumed.ensures.assumed) in
    let same : c.split_at.result.1.now ≡ rows = c.split_at.ensures.back ∙ ap (drop (length c.rows-assumed.result.now)) c.rows.ensures.rows ∙ ap (λ (n : ℕ). drop n c.args.piece.now.rows.rows) many in
    IfOk-then c.all_moved.result (λ all. all.items ≡ map (moved (length c.params-params.result.now) more) c.split_at.result.1.now)
    (λ all. all.items ≡ map (moved (length c.args.program.now.params) more) rows) c.all_moved.ensures
    (λ all e. e ∙ ap (λ (n : ℕ). map (moved n more) c.split_at.result.1.now) (ap length c.params-params.ensures.params) ∙ ap (map (moved (length c.args.program.now.params) more)) same)

pub returns-clause-over : goal.returns-clause-over
returns-clause-over c =
    let params : ℕ = length c.args.program.now.params in
    let own : ℕ = c.args.piece.now.vars in
    let rows : List AffineForm = drop (length c.args.program.now.assumed.rows) c.args.piece.now.rows.rows in
    IfOk-then c.all_moved.result (λ all. all.items ≡ map (moved params c.args.more) rows) (λ all. AllOver (params + c.args.more + own) all.items) (is c)
    (λ all e. subst (AllOver (params + c.args.more + own)) (sym e)
    (moved-over params c.args.more own rows (All-drop (λ (form : AffineForm). variables form ≡ params + own) (length c.args.program.now.assumed.rows) c.args.piece.now.rows.rows c.requires.fits.rows)))
