use Rattle.std.proofs.Common.{List, map, sym, subst, ap, ◌∙◌}
use Rattle.std.specs.List.{AllByRecursion}
use Rattle.serde_json.specs.Data.{Data}
use Rattle.serde_json.proofs.Views.{view-Array}
use Rattle.json_parts.specs.Shape.{IsReadBack}
use Rattle.json_parts.specs.Written.{list}
use Rattle.json_parts.proofs.Rest.{IsWritten, all-done, all-none, written-read, written-said}
use Rattle.json_parts.proofs.lists.write_list.Goals as goal

pub returns-clause-value : goal.returns-clause-value
returns-clause-value g c =
    let xs = c.args.parts.now in
    let all : List Data = map g.S.Part.shape.data_of (map g.S.Part.link.said xs) in
    view-Array c.loop-one.items ∙ ap list
    (all-done g.S.Part.shape.data_of g.S.Part.link.said xs c.loop-one.one-index c.loop-one.items.items all c.loop-one-test.false c.loop-one.invariant.0
    ∙ ap (map g.S.Part.shape.data_of) (sym (g.S.Part.link.each_said xs)))

pub returns-clause-read : goal.returns-clause-read
returns-clause-read g c =
    let xs = c.args.parts.now in
    subst (AllByRecursion (IsReadBack g.S.Part.shape)) (sym (g.S.Part.link.each_said xs))
    (written-read (IsReadBack g.S.Part.shape) g.S.Part.link.said g.S.Part.link.Is xs
    (c.loop-one.invariant.1 (all-none (IsWritten (IsReadBack g.S.Part.shape) g.S.Part.link.said g.S.Part.link.Is) xs c.loop-one.one-index c.loop-one-test.false)))

pub returns-clause-is : goal.returns-clause-is
returns-clause-is g c =
    let xs = c.args.parts.now in
    written-said g.S.Part.link (IsReadBack g.S.Part.shape) xs
    (c.loop-one.invariant.1 (all-none (IsWritten (IsReadBack g.S.Part.shape) g.S.Part.link.said g.S.Part.link.Is) xs c.loop-one.one-index c.loop-one-test.false))
