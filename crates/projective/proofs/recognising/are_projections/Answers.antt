use Rattle.projective.proofs.recognising.are_projections.Goals as goal

pub returns : goal.returns
returns c = (
  λ stand. record {
    few = c.if-arrays-gt-MOST_ARRAYS.false;
    accumulates = c.is_among.ensures.0 c.if-not-is_among.false;
    same = c.are_first.ensures.0 c.if-not-are_first.false;
    standing = c.all_stand.ensures.0 stand;
    projections = c.in_ok-all_project.ensures.0 c.if-not-branch.false;
  },
  λ all. c.all_stand.ensures.1 all.standing,
)
