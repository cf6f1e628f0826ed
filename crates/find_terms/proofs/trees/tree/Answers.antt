use Rattle.std.proofs.Common.{sym, ◌∙◌}
use Rattle.affine_program.specs.Parts.{meaning}
use Rattle.dep_quast.specs.Views.{read_of}
use Rattle.find_terms.proofs.Rows.{blank-tree, sought-tree}
use Rattle.find_terms.proofs.trees.tree.Goals as goal

pub returns-then-is_sought : goal.returns-then-is_sought
returns-then-is_sought c =
    sought-tree (meaning c.args.program.now) c.args.scope (read_of c.args.reader) c.quast.result (sym c.is_sought.ensures ∙ c.if-is_sought.true) c.quast.ensures.stands c.quast.ensures.few c.quast.ensures.plain

pub returns-else-is_sought : goal.returns-else-is_sought
returns-else-is_sought c = blank-tree c.args.program.now c.args.scope (read_of c.args.reader) c.params-params.ensures.kept c.requires (sym c.is_sought.ensures ∙ c.if-is_sought.false)
