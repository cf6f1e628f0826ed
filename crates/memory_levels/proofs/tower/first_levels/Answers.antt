-- One empty level more.
use Rattle.std.proofs.Common.{◌+◌, arith}
use Rattle.iolb_model.specs.Game.{vertices}
use Rattle.memory_levels.proofs.Towers.{pushed-empty}
use Rattle.memory_levels.proofs.tower.first_levels.Goals as goal

pub loop-preserved : goal.loop-preserved
loop-preserved c = record {
  so_far = pushed-empty (vertices c.args.graph.now) (c.instances.result + c.inputs.result) c.loop.counter c.loop.levels.items c.push.new.self.items c.in_ok-new.field-0
      (omega (arith, c.instances.ensures.instances, c.inputs.ensures.inputs)) c.loop.invariant.so_far c.in_ok-new.ensures c.in_ok-push.ensures.items;
}
