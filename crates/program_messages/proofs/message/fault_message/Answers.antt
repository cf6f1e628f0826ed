use Rattle.std.proofs.Common.{◌≡◌, ◌∙◌, ap, List, ℕ, ◌++◌, take}
use Rattle.plain_pages.specs.Caret.{caret_lines}
use Rattle.plain_pages.specs.Position.{column_behind, line_behind}
use Rattle.program_messages.specs.Messages.{help_part, name_part, position_part, wrong_part}
use Rattle.program_messages.proofs.Parts.{gain}
use Rattle.program_messages.proofs.message.fault_message.Goals as goal

pub returns : goal.returns
returns c =
    let page = c.args.page.now in
    let file = c.args.file.now in
    let line = line_behind (take c.args.place c.args.text.now) 1 in
    let column = column_behind (take c.args.place c.args.text.now) 1 in
    let head = position_part file line column in
    let name = name_part c.args.number c.first_word-name.result.now in
    let wrong = wrong_part c.said_at-said.result.wrong.now c.args.number in
    let source = caret_lines c.args.text.now c.args.place in
    let help = help_part c.said_at-said.result.instead.now in
    let first : c.write_position.new.page ≡ page ++ head =
    c.in_ok-write_position.ensures
    ∙ ap (λ (n : ℕ). page ++ position_part file n c.position_of.result.column) c.position_of.ensures.line
    ∙ ap (λ (n : ℕ). page ++ position_part file line n) c.position_of.ensures.column in
    let second = gain page head name c.write_position.new.page c.write_name.new.page first c.in_ok-write_name.ensures in
    let third = gain page (head ++ name) wrong c.write_name.new.page c.write_wrong.new.page second c.in_ok-write_wrong.ensures in
    let fourth = gain page (head ++ name ++ wrong) source c.write_wrong.new.page c.caret.new.self third c.in_ok-caret.ensures in
    record {
      word = c.first_word-name.result.now;
      wrong = c.said_at-said.result.wrong.now;
      instead = c.said_at-said.result.instead.now;
      is_said = c.said_at-said.ensures;
      written = gain page (head ++ name ++ wrong ++ source) help c.caret.new.self c.write_help.new.page fourth c.in_ok-write_help.ensures;
    }
