use Rattle.std.proofs.Common.{◌≡◌, refl, sym, ◌∙◌, subst, List, [], length, ltb-true, get_or, Vec, Global}
use Rattle.std.specs.List.{AllByRecursion}
use Rattle.std.proofs.lemmas.Option.{slice_get_read}
use Rattle.iolb_check.specs.Bounds.{IsTermValue, lists}
use Rattle.iolb_check.specs.declared.bound.Value.{Value}
use Rattle.store_bound.proofs.NamedTerms.{named-at, named-counting}
use Rattle.store_bound.proofs.evaluation.named_values.Goals as goal

pub returns-in-Some-get-clause-counting : goal.returns-in-Some-get-clause-counting
returns-in-Some-get-clause-counting c =
    let rows : List (Vec Value Global) = c.branch_lists.result.now in
    let all : AllByRecursion (λ (vs : List Value). AllByRecursion (IsTermValue c.args.bound.now.assumed) vs) (lists rows) =
    subst (AllByRecursion (λ (vs : List Value). AllByRecursion (IsTermValue c.args.bound.now.assumed) vs)) (sym c.branch_lists.ensures.branches) c.branch_lists.ensures.legal in
    let at : get_or (lists rows) c.from.result [] ≡ c.in-Some-get.values.now.items = named-at (λ (v : Vec Value Global). v.items) rows c.from.result c.in-Some-get.values.now
    (slice_get_read rows (length rows) c.from.result c.in-Some-get.values.now refl (ltb-true _ _ (sym c.in-Some-get.ensures.lookup.0)) c.in-Some-get.ensures.lookup.1) in
    subst (AllByRecursion (IsTermValue c.args.bound.now.assumed)) (at ∙ sym c.as_slice.ensures.value) (named-counting c.args.bound.now.assumed (lists rows) all c.from.result)
