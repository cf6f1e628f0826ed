use Rattle.std.proofs.Common.{refl}
use Rattle.std.proofs.lemmas.Option.{slice_get_read}
use Rattle.named_vertices.proofs.instances.vertex_place.Goals as goal

pub returns-then-is_instance : goal.returns-then-is_instance
returns-then-is_instance c = record {
  run = c.index-all-place.result;
  there = slice_get_read c.args.all.now _ c.loop-place.place c.index-all-place.result refl c.loop-place-test.true c.index-all-place.is;
  statement_is = c.if-is_instance.ensures.statement refl;
  loops_are = c.if-is_instance.ensures.loops refl;
}
