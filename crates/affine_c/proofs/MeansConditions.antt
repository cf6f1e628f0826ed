-- What the printed rows of guards and of assumptions mean: themselves.
use Rattle.std.proofs.Common.{◌≡◌, refl, sym, ap, ◌∙◌, ℕ, ◌+◌, ◌<◌, ◌≤◌, true, List, [], ◌∷◌, ◌++◌, append_assoc, length, map, replicate, arith, length-append, ℤ, pos, negsuc, take, drop}
use Rattle.std.specs.Prelude.{Some, nat_le}
use Rattle.std.specs.List.{AllByRecursion}
use Rattle.std.proofs.lemmas.Bool.Decides.{nat_tests}
use Rattle.iolb_model.specs.Form.{AffineForm}
use Rattle.c_reading.specs.Compare.{Rows}
use Rattle.c_reading.specs.Numbers.{most_parameters, most_loops, width, zeros, plus_times}
use Rattle.c_grammar.specs.Meaning as mean
use Rattle.c_grammar.specs.Meaning.{Names, affine_means, compare_means, compares_mean}
use Rattle.c_grammar.proofs.Steps.{means_then}
use Rattle.affine_c.specs.Tree.{condition_tree, conditions_tree}
use Rattle.affine_c.proofs.Roles.{padded, widened, IsSmallForm}
use Rattle.affine_c.proofs.RowForms.{length-padded, plus_none, combined-plus}
use Rattle.affine_c.proofs.MeansForms.{KnowsVariables, form_means, terms_means}

-- a row has a number for each variable that may be, and one more
pub length-widened : (parameters depth : ℕ) (form : AffineForm) → length (widened parameters depth form) ≡ width
length-widened parameters depth form =
    let first : List ℤ = padded most_parameters (take parameters form.coefficients) in
    let second : List ℤ = padded most_loops (take depth (drop parameters form.coefficients)) in
    omega (arith, length-append first second, length-padded most_parameters (take parameters form.coefficients), length-padded most_loops (take depth (drop parameters form.coefficients)))

module _ (brackets room : ℕ) (i : Names) (parameters around : List (List ℕ)) (variables : KnowsVariables i parameters around) where
  -- a printed row means itself, where there is room for it
  pub condition_means : (form : AffineForm) (rows : Rows) → IsSmallForm (length parameters) (length around) form → length rows < room
      → compare_means brackets room rows (condition_tree (parameters ++ around) form) i ≡ Some (rows ++ widened (length parameters) (length around) form ∷ [], i)
  unfolding compare_means
  condition_means form rows small few =
      let row : List ℤ = widened (length parameters) (length around) form in
      let below : nat_le (length rows + 1) room ≡ true = grind (arith, nat_tests) in
      let left_side = form_means brackets i parameters around form variables small in
      let right_side = terms_means brackets i [] zeros tt refl in
      means_then (affine_means brackets _ i) _ left_side.1 (means_then (affine_means brackets _ i) _ right_side.1
      (rw below (ap (λ o. mean.given (mean.row_behind rows o) i)
      (combined-plus (negsuc 0) row zeros ∙ ap (λ n. plus_times (negsuc 0) row (replicate n (pos 0))) (sym (length-widened (length parameters) (length around) form)) ∙ plus_none (negsuc 0) row small))))

  -- the printed rows of a guard mean themselves
  pub conditions_mean : (form : AffineForm) (forms : List AffineForm) (rows : Rows) → AllByRecursion (IsSmallForm (length parameters) (length around)) (form ∷ forms) → length rows + length (form ∷ forms) ≤ room
      → compares_mean brackets room rows (conditions_tree (parameters ++ around) form forms) i ≡ Some (rows ++ map (widened (length parameters) (length around)) (form ∷ forms), i)
  unfolding compares_mean
  conditions_mean form [] rows small few = condition_means form rows small.0 (omega (arith, few))
  conditions_mean form (other ∷ forms) rows small few =
      let row : List ℤ = widened (length parameters) (length around) form in
      means_then (compare_means brackets room rows (condition_tree (parameters ++ around) form) i) _ (condition_means form rows small.0 (omega (arith, few)))
      (conditions_mean other forms (rows ++ row ∷ []) small.1 (omega (arith, few, length-append rows (row ∷ [])))
      ∙ ap (λ r. Some (r, i)) (append_assoc rows (row ∷ []) (map (widened (length parameters) (length around)) (other ∷ forms))))
