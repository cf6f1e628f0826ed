-- How calls end: what they write, and where.
use Rattle.std.specs.Prelude.{◌≡◌, ⊤, ℕ, List, Option}
use Rattle.help_pages.specs.declared.commands.TheConstants.{USAGE}
use Rattle.iolb_host.specs.Sink.{AppendsPiece}
use Rattle.explain_commands.specs.declared.status.Status.{Status}
use Rattle.explain_commands.specs.declared.status.Status.TheVariants.{Done, Wrong, Words, Failed}

-- What a status says of the output and of the standard error, by what these had before and have now: where something is answered, or
-- was found wrong, nothing was written to the standard error; where words ask for nothing, the usage was, and nothing to the output. Of
-- the other stops nothing is said.
abbrev pub EndsWith : Status → Option (List ℕ) → Option (List ℕ) → Option (List ℕ) → Option (List ℕ) → Type 0
EndsWith Done out new_out err new_err = new_err ≡ err
EndsWith Wrong out new_out err new_err = new_err ≡ err
EndsWith Words out new_out err new_err = (new_out ≡ out) × AppendsPiece err new_err USAGE.now
EndsWith Failed out new_out err new_err = ⊤
