use Rattle.std.proofs.Common.{rules, ◌≡◌, sym, ◌∙◌, ap, List, []}
use Rattle.iolb_model.specs.Polynomial.{Term}
use Rattle.poly_tree.proofs.PrintedLemmas.{insert_all, insert_all-none, insert_all-last}
use Rattle.poly_tree.proofs.print_order.in_print_order.Goals as goal

pub loop-term-init : goal.loop-term-init
loop-term-init c = ap (insert_all c.args.terms.items) c.new-ordered.ensures.items ∙ insert_all-none c.args.terms.items

pub loop-term-preserved : goal.loop-term-preserved
loop-term-preserved c =
    ap (insert_all c.pop.new.self.items) c.in_ok-put_in_order.ensures
    ∙ sym (insert_all-last c.pop.new.self.items c.in-Some.term c.loop-term.ordered.items)
    ∙ ap (λ (ts : List Term). insert_all ts c.loop-term.ordered.items) (sym c.in-Some.ensures.items)
    ∙ c.loop-term.invariant

pub returns : goal.returns
returns c = ap (λ (ts : List Term). insert_all ts c.loop-term.ordered.items) none ∙ c.loop-term.invariant where
  none : [] ≡ c.loop-term.rest.items
  none = search rules
