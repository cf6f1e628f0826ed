use Rattle.std.proofs.Common.{◌≡◌, sym, ◌∙◌, ap, subst, ℕ, ◌+◌, List, ◌++◌, length, map, arith}
use Rattle.base_laws.proofs.Lists.{All-append}
use Rattle.iolb_model.specs.Form.{AffineForm}
use Rattle.affine_form.specs.Form.{variables}
use Rattle.affine_form.specs.Rows.{widened, equality_rows}
use Rattle.affine_form.specs.System.{AllOver}
use Rattle.affine_form.proofs.RowLemmas.{equality_rows-over}
use Rattle.affine_program.specs.Parts.{meaning}
use Rattle.claims.proofs.Found.{IfOk-then}
use Rattle.claims.proofs.Rows.{widened-over}
use Rattle.footprint_pieces.specs.Pieces.{piece_of}
use Rattle.footprint_pieces.specs.DisjointClaims.{shared_variables}
use Rattle.footprint_pieces.proofs.MovedForms.{over-within}
use Rattle.footprint_pieces.proofs.shared.rows_of.Goals as goal

pub returns-clause-over : goal.returns-clause-over
returns-clause-over c =
    let vars : ℕ = shared_variables (meaning c.args.program.now) (piece_of c.args.first.now) (piece_of c.args.second.now) in
    let P : AffineForm → Type 0 = λ (row : AffineForm). variables row ≡ vars in
    let many : ℕ = length c.args.program.now.params + c.args.first.now.vars in
    let n : ℕ = c.variables_of-vars.result in
    let is : n ≡ vars = c.variables_of-vars.ensures.variables in
    let front : AllOver vars c.in_ok-front.front.items =
    subst (AllOver vars) (sym (c.in_ok-front.ensures ∙ ap (λ (k : ℕ). map (widened k) c.rows.result.now) is ∙ ap (map (widened vars)) c.rows.ensures.rows))
    (widened-over many vars c.args.first.now.rows.rows (omega arith) c.requires.first.rows) in
    let behind : AllOver vars c.in_ok-behind.behind.items = subst (λ (m : ℕ). AllOver (length c.args.program.now.params + m + c.args.second.now.vars) c.in_ok-behind.behind.items) c.from-more.ensures c.in_ok-behind.ensures.over in
    let point : AllOver vars c.in_ok-point.point.items = subst (λ (m : ℕ). AllOver (length c.args.program.now.params + m + c.args.second.now.vars) c.in_ok-point.point.items) c.from-more.ensures c.in_ok-point.ensures.over in
    let equal : AllOver vars c.in_ok-equal.equal.items =
    subst (AllOver vars) (sym (c.in_ok-equal.ensures ∙ ap (λ (k : ℕ). equality_rows k c.as_slice.result.now c.as_slice-2.result.now) is
    ∙ ap (λ (fs : List AffineForm). equality_rows vars fs c.as_slice-2.result.now) c.as_slice.ensures.value ∙ ap (equality_rows vars c.args.first.now.point.items) c.as_slice-2.ensures.value))
    (equality_rows-over vars c.args.first.now.point.items c.in_ok-point.point.items (over-within many vars c.args.first.now.point.items (omega arith) c.requires.first.point) (over-within vars vars c.in_ok-point.point.items (omega arith) point)) in
    let both : AllOver vars c.in_ok-both.both.items =
    subst (AllOver vars) (sym (c.in_ok-both.ensures ∙ ap (λ (xs : List AffineForm). c.in_ok-front.front.items ++ xs) c.as_slice-3.ensures.value)) (All-append P c.in_ok-front.front.items c.in_ok-behind.behind.items front behind) in
    IfOk-then c.followed_by-2.result (λ all. all.items ≡ c.in_ok-both.both.items ++ c.as_slice-4.result.now) (λ rows. AllOver vars rows.items) c.followed_by-2.ensures
    (λ all e. subst (AllOver vars) (sym (e ∙ ap (λ (xs : List AffineForm). c.in_ok-both.both.items ++ xs) c.as_slice-4.ensures.value)) (All-append P c.in_ok-both.both.items c.in_ok-equal.equal.items both equal))
