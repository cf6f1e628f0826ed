use Rattle.std.proofs.Common.{◌≡◌, ◌++◌, drop, map, length}
use Rattle.std.specs.Prelude.{flat_map, codes}
use Rattle.std.specs.List.{AllByRecursion}
use Rattle.iolb_model.specs.Program.{AccessFits}
use Rattle.affine_program.specs.Parts.{access_of, meaning}
use Rattle.affine_c.specs.Text.{access_text}
use Rattle.affine_c.proofs.references.push_others.Given as goal

abbrev pub invariant-loop-read : goal.invariant-loop-read
invariant-loop-read l = record {
  fits : AllByRecursion (AccessFits (meaning l.program) (length l.names)) (map access_of (drop l.read-index l.reads));
  text : l.text.items ++ flat_map (λ read. codes ", " ++ access_text (meaning l.program) l.names read) (map access_of (drop l.read-index l.reads))
      ≡ l.initial.text.items ++ flat_map (λ read. codes ", " ++ access_text (meaning l.program) l.names read) (map access_of l.reads);
}
