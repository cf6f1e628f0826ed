use Rattle.std.proofs.Common.{◌∙◌, ap, List, [], ◌∷◌, ◌++◌}
use Rattle.iolb_check.specs.declared.term.Term.{Term}
use Rattle.iolb_check.specs.declared.term.Term.TheVariants as terms
use Rattle.projective_bounds.proofs.branches.whole_branch.Goals as goal

pub returns : goal.returns
returns c = record {
  term = c.in_ok-term.term;
  one = c.in_ok-push.ensures.items ∙ ap (λ (all : List Term). all ++ terms.Partition c.in_ok-term.term ∷ []) c.new-terms.ensures.items;
  whole = c.in_ok-term.ensures.whole;
  alone = c.new-disjoint.ensures.items;
}
