use Rattle.std.proofs.Common.{sym, ◌∙◌, ap, subst}
use Rattle.poly_tree.specs.Printed.{AreNonzero, in_print_order}
use Rattle.poly_tree.specs.Tree.{expansion}
use Rattle.poly_tree.proofs.PrintedLemmas.{nonzero-printed}
use Rattle.poly_tree.proofs.poly.Poly.text.Goals as goal

pub sum_text-requires : goal.sum_text-requires
sum_text-requires c = subst AreNonzero (sym (c.as_slice.ensures.value ∙ c.in_ok-terms.ensures ∙ ap in_print_order c.in_ok-terms_of_tree.ensures))
    (nonzero-printed (expansion c.tree.result.now))
