use Rattle.std.proofs.Common.{◌+◌, ◌≡◌, sym, ◌∙◌, ap, subst, ◌++◌, take, drop, List, ℤ}
use Rattle.std.specs.List.{AllByRecursion}
use Rattle.affine_form.specs.Form.{IsSmall}
use Rattle.affine_c.proofs.Rows.{smaller_all, parts_small}
use Rattle.affine_c.proofs.forms.form_of.Goals as goal
use Rattle.iolb_model.specs.declared.limits.TheConstants.{COEFFICIENT_SIZE, NUMBER_SIZE, PARAMETERS}

pub new-requires-clause-small : goal.new-requires-clause-small
new-requires-clause-small c =
    let row = c.args.row.now in
    let coef : c.push_numbers-2.new.coef.items ≡ take c.args.parameters (drop 1 row) ++ take c.args.depth (drop (1 + PARAMETERS) row) =
    c.in_ok-push_numbers-2.ensures
    ∙ ap (λ (xs : List ℤ). xs ++ c.numbers_from-2.result.now) (c.in_ok-push_numbers.ensures ∙ ap (λ (xs : List ℤ). xs ++ c.numbers_from.result.now) c.new-coef.ensures.items)
    ∙ ap (λ (ns : List ℤ). c.numbers_from.result.now ++ ns) c.numbers_from-2.ensures
    ∙ ap (λ (ns : List ℤ). ns ++ take c.args.depth (drop (1 + PARAMETERS) c.numbers-numbers.result.now)) c.numbers_from.ensures
    ∙ ap (λ (ns : List ℤ). take c.args.parameters (drop 1 ns) ++ take c.args.depth (drop (1 + PARAMETERS) ns)) c.numbers-numbers.ensures in
    subst (AllByRecursion (IsSmall COEFFICIENT_SIZE)) (sym coef) (smaller_all (take c.args.parameters (drop 1 row) ++ take c.args.depth (drop (1 + PARAMETERS) row)) (parts_small (IsSmall NUMBER_SIZE) c.args.parameters c.args.depth row c.requires.over.small))
