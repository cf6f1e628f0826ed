-- Nothing written, as bytes.
use Rattle.std.proofs.Common.{◌≡◌, refl, sym, ◌∙◌, ap, List, [], ℕ}
use Rattle.std.specs.Prelude.{Option, Some, None}
use Rattle.std.specs.Io.KnownBytes.{append_known}
use Rattle.std.proofs.lemmas.List.{append-nil}
use Rattle.iolb_commands.specs.Use.{SinkUse, Gains, Stays}

append_nothing : (known : Option (List ℕ)) → append_known known [] ≡ known
append_nothing None = refl
append_nothing (Some bytes) = ap Some (append-nil bytes)

pub nothing : (sink : SinkUse) → Stays sink → Gains sink []
nothing sink stays = (stays.0 ∙ sym (append_nothing sink.before), stays.1)

pub nothing_more : (sink : SinkUse) → Gains sink [] → Stays sink
nothing_more sink gains = (gains.0 ∙ append_nothing sink.before, gains.1)
