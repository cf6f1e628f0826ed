use Rattle.std.proofs.Common.{refl}
use Rattle.std.proofs.lemmas.Option.{slice_get_read}
use Rattle.named_vertices.proofs.vertices.named_at.Goals as goal

pub returns-in-Some : goal.returns-in-Some
returns-in-Some c = record {
  run = c.in-Some.run'.now;
  there = slice_get_read c.args.all.now _ c.args.number c.in-Some.run'.now refl c.in-Some.ensures.lookup.3.0 c.in-Some.ensures.lookup.1;
  statement_is = refl;
  loops_are = cc (c.in_ok-loops.ensures, c.params.ensures.params);
}
