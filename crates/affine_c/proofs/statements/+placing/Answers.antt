use Rattle.std.proofs.Common.{sym, ◌∙◌, ap, subst, ◌++◌, ◌∷◌, [], ℕ, List, length, map}
use Rattle.std.specs.List.{AllByRecursion}
use Rattle.std.proofs.lemmas.List.{map_push}
use Rattle.affine_program.specs.Parts.{statement_of}
use Rattle.affine_program.specs.Tree.{row_of}
use Rattle.affine_program.specs.declared.statement.Statement.{Statement}
use Rattle.c_reading.specs.Tree as read
use Rattle.c_grammar.specs.Well.{IsStatementIn}
use Rattle.c_grammar.specs.Program.{statements_in_item}
use Rattle.affine_c.specs.Built.{AreRowsOver, IsItemInside, StandsIn, RunsIn}
use Rattle.affine_c.proofs.Made.{rows_there, placed_more, item_of-Assign}
use Rattle.affine_c.proofs.statements.+placing.Goals as goal

pub place_item-statement_at-requires-clause-reads : goal.place_item-statement_at-requires-clause-reads
place_item-statement_at-requires-clause-reads t c =
    let s = c.in-Assign.statement in
    let is : IsStatementIn c.args.reading.now c.args.depth s = subst (IsItemInside c.args.reading.now c.args.depth) (ap read.item_of c.in-Assign.is ∙ item_of-Assign s) c.requires.fits in
    subst (λ (n : ℕ). AllByRecursion (AreRowsOver n c.args.depth) s.reads) (sym c.requires.tree.parameters_are) (rows_there c.args.reading.now c.args.depth s.reads is.reads)

pub place_item-returns-in_ok-push-in-Assign-clause-statements : goal.place_item-returns-in_ok-push-in-Assign-clause-statements
place_item-returns-in_ok-push-in-Assign-clause-statements t c =
    let before = c.args.statements.now.items in
    let made = c.in_ok-statement_at-in-Assign.field-0 in
    ap (map statement_of) c.in_ok-push-in-Assign.ensures.items ∙ map_push statement_of before made ∙ ap (λ s. map statement_of before ++ s ∷ []) c.in_ok-statement_at-in-Assign.ensures.statement
    ∙ ap (λ i. map statement_of before ++ statements_in_item c.args.parameters c.args.depth i) (sym (ap read.item_of c.in-Assign.is ∙ item_of-Assign c.in-Assign.statement))

pub place_item-returns-in_ok-push-in-Assign-clause-placed : goal.place_item-returns-in_ok-push-in-Assign-clause-placed
place_item-returns-in_ok-push-in-Assign-clause-placed t c =
    let made = c.in_ok-statement_at-in-Assign.field-0 in
    placed_more c.args.parameters (row_of c.args.tree.now) c.args.statements.now.items c.push.new.self.items made c.requires.placed c.in_ok-push-in-Assign.ensures.items
    (subst (λ (n : ℕ). StandsIn c.args.parameters (row_of c.args.tree.now) (n, made)) (ap (λ (xs : List Statement). length xs) c.as_slice.ensures.value) c.in_ok-statement_at-in-Assign.ensures.way)
    (subst (λ (n : ℕ). RunsIn (row_of c.args.tree.now) (n, made)) (ap (λ (xs : List Statement). length xs) c.as_slice.ensures.value) c.in_ok-statement_at-in-Assign.ensures.directions) c.in_ok-statement_at-in-Assign.ensures.limits
