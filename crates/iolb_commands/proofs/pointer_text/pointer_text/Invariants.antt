use Rattle.std.proofs.Common.{◌≡◌, ◌++◌, drop}
use Rattle.std.specs.Prelude.{flat_map}
use Rattle.iolb_commands.specs.PointerText.{step_text}
use Rattle.iolb_commands.proofs.pointer_text.pointer_text.Given as goal

abbrev pub invariant-loop-step : goal.invariant-loop-step
invariant-loop-step l = l.text.items ++ flat_map step_text (drop l.step-index l.step-items) ≡ flat_map step_text l.step-items
