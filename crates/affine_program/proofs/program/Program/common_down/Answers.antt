use Rattle.std.proofs.Common.{◌≡◌, refl, ◌∙◌, sym, ap, subst, ℕ, zero, suc, ◌≤◌, Bool, List, [], ◌∷◌, length, map, get_or, take, arith}
use Rattle.std.proofs.lemmas.List.{length-map}
use Rattle.affine_form.specs.Rows.{direction_of}
use Rattle.iolb_model.specs.Order.{common_loops}
use Rattle.affine_program.specs.Parts.{ProgramParts, meaning}
use Rattle.affine_program.specs.declared.statement.Statement.{Statement}
use Rattle.affine_program.proofs.Bounds.{common-front}
use Rattle.affine_program.proofs.program.Program.common_down.Goals as goal

take-within : (n : ℕ) (xs : List Bool) → length (take n xs) ≤ length xs
take-within zero xs = omega arith
take-within (suc n) [] = omega arith
take-within (suc n) (x ∷ xs) = omega (arith, take-within n xs)

take-whole : (n : ℕ) (xs : List Bool) → n ≤ length xs → n ≡ length (take n xs)
take-whole zero xs h = refl
take-whole (suc n) [] h = absurd (omega arith)
take-whole (suc n) (x ∷ xs) h = ap suc (take-whole n xs (omega arith))

-- the statement that was read stands at its number
read-at : (parts : ProgramParts) (table : List Statement) (at : Statement) (from t : ℕ) → table ≡ parts.statements → from ≡ t → at ≡ get_or table from at → at ≡ get_or parts.statements t at
read-at parts table at from t same is read =
    subst (λ (xs : List Statement). at ≡ get_or xs t at) same (subst (λ (k : ℕ). at ≡ get_or table k at) is read)

pub slice_bounds-result-end : goal.slice_bounds-result-end
slice_bounds-result-end c =
    let parts = c.args.self.now in
    let at = c.index-statements-from.result in
    let law = common-front parts c.args.t c.args.s at c.statements.ensures.kept c.requires.t_there (read-at parts c.statements.result.now at c.from.result c.args.t c.statements.ensures.statements c.from.ensures c.index-statements-from.is) in
    take-whole c.common-common.result c.as_slice.result.now (omega (
      arith,
      c.common-common.ensures,
      ap length law,
      length-map (take (length (common_loops (meaning parts) c.args.t c.args.s)) at.down.items) direction_of,
      take-within (length (common_loops (meaning parts) c.args.t c.args.s)) at.down.items,
      ap length (c.as_slice.ensures.value ∙ ap (λ (s : Statement). s.down.items) (sym c.index-statements-from.is)),
    ))

pub returns : goal.returns
returns c =
    let parts = c.args.self.now in
    let at = c.index-statements-from.result in
    let n = length (common_loops (meaning parts) c.args.t c.args.s) in
    let law = common-front parts c.args.t c.args.s at c.statements.ensures.kept c.requires.t_there (read-at parts c.statements.result.now at c.from.result c.args.t c.statements.ensures.statements c.from.ensures c.index-statements-from.is) in
    ap (λ (k : ℕ). map direction_of (take k c.as_slice.result.now)) c.common-common.ensures
    ∙ ap (λ (xs : List Bool). map direction_of (take n xs)) (c.as_slice.ensures.value ∙ ap (λ (s : Statement). s.down.items) (sym c.index-statements-from.is))
    ∙ sym law
