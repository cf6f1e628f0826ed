use Rattle.std.proofs.Common.{◌≡◌, sym, ◌∙◌, subst, List, length, replicate}
use Rattle.std.proofs.Math.IntN.{ℤ, pos}
use Rattle.std.specs.Cmp.{signed_Decides}
use Rattle.std.proofs.lemmas.Slice.Eq.{slice_eq-Decides}
use Rattle.affine_form.proofs.WiderLists.{length-wide, wide-front, wide-behind, wide-from, whole-rest}
use Rattle.affine_form.proofs.same.are_widened.Goals as goal

pub returns-then-wide-max : goal.returns-then-wide-max
returns-then-wide-max c =
    (λ t. absurd cc, λ e. absurd (c.if-wide-max.true (length-wide c.args.numbers.now c.args.wide.now c.args.vars e ∙ sym c.max.ensures)))

pub returns-then-eq : goal.returns-then-eq
returns-then-eq c =
    let lists = slice_eq-Decides signed_Decides _ _ c.eq.result c.eq.ensures in
    let Zeros : List ℤ → Type 0 = λ xs. xs ≡ replicate (length xs) (pos 0) in
    let rest = whole-rest c.args.wide.now (length c.args.numbers.now) in (
      λ t. wide-from c.args.numbers.now c.args.wide.now c.args.vars (c.if-wide-max.false ∙ c.max.ensures) (lists.0 c.if-eq.true) (subst Zeros rest (c.are_zeros.ensures.0 t)),
      λ e. c.are_zeros.ensures.1 (subst Zeros (sym rest) (wide-behind c.args.numbers.now c.args.wide.now c.args.vars e)),
    )

pub returns-else-eq : goal.returns-else-eq
returns-else-eq c =
    let lists = slice_eq-Decides signed_Decides _ _ c.eq.result c.eq.ensures in
    (λ t. absurd cc, λ e. lists.1 (wide-front c.args.numbers.now c.args.wide.now c.args.vars e))
