use Rattle.std.proofs.Common.{◌+◌, ◌≤◌, List, ℕ, map, take}
use Rattle.std.specs.Prelude.{Option}
use Rattle.iolb_model.specs.Source.{Cell, cell_of}
use Rattle.affine_program.specs.Parts.{access_of}
use Rattle.loop_graph.specs.Known.{AreKnown, ArePreceded, source_by}
use Rattle.loop_graph.proofs.known.Known.read_all.Given as goal

abbrev pub invariant-loop-reference : goal.invariant-loop-reference
invariant-loop-reference l = record {
  few : l.self.inputs ≤ l.fn.self.inputs + l.reference-index;
  preceded : (writer : Cell → Option ℕ) (before : List Cell) → AreKnown l.instances writer before l.fn.self
      → ArePreceded l.instances writer before (map (source_by writer) (map (λ reference. cell_of (access_of reference) l.point) (take l.reference-index l.references))) l.self l.preds.items;
}
