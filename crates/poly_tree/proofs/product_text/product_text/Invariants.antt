use Rattle.std.proofs.Common.{◌≡◌, ◌++◌, drop}
use Rattle.std.specs.Prelude.{zip}
use Rattle.iolb_model.specs.Printed.{product_text}
use Rattle.poly_tree.specs.Powers.{powers_after}
use Rattle.poly_tree.proofs.product_text.product_text.Given as goal

abbrev pub invariant-loop-i : goal.invariant-loop-i
invariant-loop-i l = l.text.items ++ powers_after l.started (zip (drop l.i l.names) (drop l.i l.exponents)) ≡ product_text l.names l.exponents
