use Rattle.std.proofs.Common.{refl}
use Rattle.cold_terms.proofs.undone.is_undone.Goals as goal

pub returns-in-None : goal.returns-in-None
returns-in-None c = (λ is. c.in-None.ensures.none, λ undone. refl)

pub returns-in-Some : goal.returns-in-Some
returns-in-Some c = (
  λ is. absurd cc,
  λ undone. let at = c.in-Some.ensures.some in absurd (at.differs (undone c.in-Some.field-0.0 c.in-Some.field-0.1 at.row_there at.col_there)),
)
