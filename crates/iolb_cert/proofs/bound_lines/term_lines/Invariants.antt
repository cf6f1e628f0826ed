use Rattle.std.proofs.Common.{◌≡◌, ◌++◌, map, drop}
use Rattle.std.specs.Prelude.{flat_map}
use Rattle.iolb_model.specs.Printed.{bound_term_text}
use Rattle.iolb_check.specs.Bounds.{term_of}
use Rattle.iolb_cert.proofs.bound_lines.term_lines.Given as goal

abbrev pub invariant-loop-term : goal.invariant-loop-term
invariant-loop-term l = l.text.items ++ flat_map (bound_term_text l.names) (map term_of (drop l.term-index l.terms)) ≡ flat_map (bound_term_text l.names) (map term_of l.terms)
