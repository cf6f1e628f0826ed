use Rattle.std.proofs.Common.{◌≡◌, subst, sym, ◌∙◌, ap, false, ◌∷◌, List, ℕ}
use Rattle.std.specs.Prelude.{IfOk, Option, option_map, bytes_eq, codes}
use Rattle.std.specs.List.{list_any}
use Rattle.command_words.specs.Requests.{Request, asked, begins_with_dash, bytes_of}
use Rattle.command_words.proofs.Requested.{other}
use Rattle.command_words.proofs.command.command_of.Goals as goal

pub returns-clause-command : goal.returns-clause-command
returns-clause-command c =
    let command : List ℕ = c.as_str-command.result.now in
    let split = c.in-Some.ensures.cases in
    let are : bytes_of c.args.words.now ≡ command ∷ bytes_of c.in-Some.arguments.now =
    ap bytes_of split.0 ∙ ap (λ (bytes : List ℕ). bytes ∷ bytes_of c.in-Some.arguments.now) (sym c.as_str-command.ensures.value) in
    let dashless : list_any begins_with_dash (bytes_of c.args.words.now) ≡ false = sym c.has_option.ensures ∙ c.if-has_option.false in
    let no_check : bytes_eq command (codes "check") ≡ false = sym c.eq.ensures ∙ c.if-eq.false in
    let no_bound : bytes_eq command (codes "bound") ≡ false = sym c.eq-2.ensures ∙ c.if-eq-2.false in
    subst (λ (o : Option Request). IfOk c.other_command.result (λ made. option_map asked made ≡ o)) (other c.args.words.now command c.in-Some.arguments.now are dashless no_check no_bound) c.other_command.ensures.command
