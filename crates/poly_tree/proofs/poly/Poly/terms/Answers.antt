use Rattle.std.proofs.Common.{subst, sym, ◌∙◌, ap, List, ◌≤◌}
use Rattle.std.specs.List.{AllByRecursion}
use Rattle.iolb_model.specs.Polynomial.{Term}
use Rattle.poly_tree.specs.Printed.{in_print_order, expansion_terms}
use Rattle.poly_tree.proofs.WrittenTerms.{are-written, low-printed}
use Rattle.poly_tree.proofs.poly.Poly.terms.Goals as goal

pub returns-in_err-terms_of_tree-clause-written : goal.returns-in_err-terms_of_tree-clause-written
returns-in_err-terms_of_tree-clause-written c = are-written c.args.self.now c.tree-tree.ensures.legal

pub returns-in_err-terms-clause-written : goal.returns-in_err-terms-clause-written
returns-in_err-terms-clause-written c = are-written c.args.self.now c.tree-tree.ensures.legal

pub widened_terms-requires : goal.widened_terms-requires
widened_terms-requires c =
    subst (λ (terms : List Term). AllByRecursion (λ (term : Term). AllByRecursion (λ e. e ≤ 8) term.exponents) terms)
    (sym (c.as_slice.ensures.value ∙ c.in_ok-terms.ensures ∙ ap in_print_order (c.in_ok-terms_of_tree.ensures ∙ ap expansion_terms c.tree-tree.ensures.tree)))
    (low-printed c.args.self.now c.tree-tree.ensures.legal)

pub returns-clause-written : goal.returns-clause-written
returns-clause-written c = are-written c.args.self.now c.tree-tree.ensures.legal
