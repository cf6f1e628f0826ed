use Rattle.std.proofs.Common.{◌≡◌, ◌++◌, map, drop}
use Rattle.std.specs.List.{AllByRecursion}
use Rattle.serde_json.specs.View.{view}
use Rattle.json_parts.specs.Shape.{IsReadBack}
use Rattle.json_parts.proofs.Rest.{IsWritten}
use Rattle.json_parts.proofs.lists.write_list.Given as goal

abbrev pub invariant-loop-one : goal.invariant-loop-one
invariant-loop-one g l =
    (map view l.items.items ++ map g.S.Part.shape.data_of (map g.S.Part.link.said (drop l.one-index l.parts)) ≡ map g.S.Part.shape.data_of (map g.S.Part.link.said l.parts))
    × (AllByRecursion (IsWritten (IsReadBack g.S.Part.shape) g.S.Part.link.said g.S.Part.link.Is) (drop l.one-index l.parts) → AllByRecursion (IsWritten (IsReadBack g.S.Part.shape) g.S.Part.link.said g.S.Part.link.Is) l.parts)
    × AllByRecursion g.S.Part.Fits (drop l.one-index l.parts)
