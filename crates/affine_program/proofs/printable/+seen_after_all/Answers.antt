use Rattle.std.proofs.Common.{sym, ap, ◌∙◌, List, map}
use Rattle.std.specs.Prelude.{Some, None}
use Rattle.affine_program.specs.Parts.{statement_of}
use Rattle.affine_program.specs.Printable.{statement_numbers}
use Rattle.affine_program.specs.Seen.{seen_behind}
use Rattle.affine_program.specs.declared.statement.Statement.{Statement}
use Rattle.affine_program.proofs.Ordered.{seen_statement}
use Rattle.affine_program.proofs.printable.+seen_after_all.Goals as goal

pub returns-in-Some-seen_after_statement : goal.returns-in-Some-seen_after_statement
returns-in-Some-seen_after_statement t c =
    c.seen_after_all.ensures
    ∙ sym (ap (λ (ss : List Statement). seen_behind c.args.seen (statement_numbers (map statement_of ss))) c.in-Some.ensures.cases.0
    ∙ seen_statement c.args.seen (statement_of c.in-Some.first.now) (map statement_of c.in-Some.rest.now) (Some c.in-Some-seen_after_statement.more) (sym c.in-Some-seen_after_statement.is ∙ c.seen_after_statement.ensures))

pub returns-in-None-seen_after_statement : goal.returns-in-None-seen_after_statement
returns-in-None-seen_after_statement t c =
    sym (ap (λ (ss : List Statement). seen_behind c.args.seen (statement_numbers (map statement_of ss))) c.in-Some.ensures.cases.0
    ∙ seen_statement c.args.seen (statement_of c.in-Some.first.now) (map statement_of c.in-Some.rest.now) None (sym c.in-None-seen_after_statement.is ∙ c.seen_after_statement.ensures))
