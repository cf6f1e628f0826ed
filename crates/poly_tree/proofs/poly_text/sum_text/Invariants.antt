use Rattle.std.proofs.Common.{◌≡◌, map, drop}
use Rattle.iolb_model.specs.Printed.{terms_text}
use Rattle.affine_form.specs.SumText.{followed_by}
use Rattle.poly_tree.specs.Printed.{named_term}
use Rattle.poly_tree.proofs.poly_text.sum_text.Given as goal

abbrev pub invariant-loop-term : goal.invariant-loop-term
invariant-loop-term l = followed_by l.sum (map (named_term l.names) (drop l.term-index l.terms)) ≡ terms_text (map (named_term l.names) l.terms)
