use Rattle.std.proofs.Common.{◌≡◌, subst, sym, ◌∙◌}
use Rattle.std.specs.Prelude.{IfOk, Option, option_map}
use Rattle.command_words.specs.Requests.{Request, asked}
use Rattle.command_words.proofs.Requested.{asks_sample, asks_traffic, parted}
use Rattle.command_words.proofs.command.other_command.Goals as goal

pub returns-then-eq-clause-command : goal.returns-then-eq-clause-command
returns-then-eq-clause-command c =
    subst (λ (o : Option Request). IfOk c.traffic_command.result (λ made. option_map asked made ≡ o))
    (asks_traffic c.args.command.now c.args.words.now (sym c.eq.ensures ∙ c.if-eq.true)) c.traffic_command.ensures.command

pub returns-then-eq-2-clause-command : goal.returns-then-eq-2-clause-command
returns-then-eq-2-clause-command c =
    c.sample_command.ensures.command ∙ asks_sample c.args.command.now c.args.words.now (sym c.eq.ensures ∙ c.if-eq.false) (sym c.eq-2.ensures ∙ c.if-eq-2.true)

pub returns-clause-command : goal.returns-clause-command
returns-clause-command c =
    subst (λ (o : Option Request). IfOk c.sized_command.result (λ made. option_map asked made ≡ o))
    (parted c.args.command.now c.args.words.now (sym c.eq.ensures ∙ c.if-eq.false) (sym c.eq-2.ensures ∙ c.if-eq-2.false)) c.sized_command.ensures.command
