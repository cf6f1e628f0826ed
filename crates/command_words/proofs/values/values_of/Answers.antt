use Rattle.std.proofs.Common.{◌≡◌, ◌∙◌, sym, ap, subst, ◌+◌, List, [], ◌∷◌, ◌++◌, append_assoc, drop, map, ℕ, FitsSigned, rules}
use Rattle.std.specs.Prelude.{ℤ}
use mir.Syntax.{w64}
use Rattle.std.specs.List.{AllByRecursion}
use Rattle.std.proofs.lemmas.Int.{to_z-of_z}
use Rattle.affine_form.specs.Form.{IsSmall}
use Rattle.base_laws.proofs.Lists.{All-push, rest_at}
use Rattle.command_words.specs.Sizes.{named_of, value_for}
use Rattle.command_words.proofs.values.values_of.Goals as goal
use Rattle.iolb_model.specs.declared.limits.TheConstants.{VALUE_SIZE}

-- the numbers of the names that are left, with one more
next_number : (number : List ℕ → ℤ) (before new : List ℤ) (names : List (List ℕ)) (rest all : List (List ℕ)) (name : List ℕ) → new ≡ before ++ number name ∷ [] → names ≡ name ∷ rest → before ++ map number names ≡ map number all → new ++ map number rest ≡ map number all
next_number number before new names rest all name pushed first so_far =
    ap (λ (values : List ℤ). values ++ map number rest) pushed ∙ append_assoc before (number name ∷ []) (map number rest) ∙ ap (λ (ns : List (List ℕ)). before ++ map number ns) (sym first) ∙ so_far

pub loop-name-preserved : goal.loop-name-preserved
loop-name-preserved c =
    let number : List ℕ → ℤ = λ name. value_for name (map named_of c.args.sizes.now) in
    let before = c.loop-name.values.items in
    let fits : FitsSigned w64 c.value_for.result = search rules in
    let pushed : c.push.new.self.items ≡ before ++ c.value_for.result ∷ [] = c.in_ok-push.ensures.items ∙ ap (λ (value : ℤ). before ++ value ∷ []) (to_z-of_z w64 c.value_for.result fits) in
    record {
      same = next_number number before c.push.new.self.items (drop c.loop-name.name-index c.args.names.now) (drop (c.loop-name.name-index + 1) c.args.names.now) c.args.names.now c.name-item.result
          (pushed ∙ ap (λ (value : ℤ). before ++ value ∷ []) (c.value_for.ensures.value ∙ ap number c.bytes.ensures.bytes))
          (rest_at c.args.names.now c.loop-name.name-index c.name-item.result c.loop-name-test.true c.name-item.is) c.loop-name.invariant.same;
      small = subst (AllByRecursion (IsSmall VALUE_SIZE)) (sym pushed) (All-push (IsSmall VALUE_SIZE) before c.value_for.result c.loop-name.invariant.small c.value_for.ensures.small);
    }
