use Rattle.std.proofs.Common.{sym, ◌∙◌, ap, take}
use Rattle.std.specs.Prelude.{option_map}
use Rattle.command_words.specs.Requests.{bytes_of, traffic}
use Rattle.command_words.specs.Settings.{setting_of}
use Rattle.command_words.proofs.Requested.{traffic_parted}
use Rattle.command_words.proofs.command.traffic_command.Goals as goal

pub returns-in-Some-clause-command : goal.returns-in-Some-clause-command
returns-in-Some-clause-command c =
    let words = c.args.words.now in
    ap (option_map (traffic (bytes_of (take 3 words)))) (ap (option_map setting_of) (sym c.in-Some.is) ∙ c.in_ok-setting.ensures.words) ∙ traffic_parted words
