use Rattle.std.proofs.Common.{◌≡◌, ◌++◌, drop}
use Rattle.std.specs.Prelude.{flat_map, codes}
use Rattle.affine_c.proofs.program.push_names.Given as goal

abbrev pub invariant-loop-name : goal.invariant-loop-name
invariant-loop-name l = l.text.items ++ flat_map (λ name. codes " " ++ name) (drop l.name-index l.names) ≡ l.initial.text.items ++ flat_map (λ name. codes " " ++ name) l.names
