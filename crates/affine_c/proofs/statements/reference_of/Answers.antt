use Rattle.std.proofs.Common.{ap, ◌∙◌, map, sym, subst}
use Rattle.std.specs.List.{AllByRecursion}
use Rattle.affine_form.specs.Form.{IsSmallForm}
use Rattle.c_grammar.specs.Program.{narrowed}
use Rattle.affine_c.proofs.Rows.{narrowed_all_small}
use Rattle.affine_c.proofs.statements.reference_of.Goals as goal
use Rattle.iolb_model.specs.declared.limits.TheConstants.{NUMBER_SIZE}

pub returns-clause-small : goal.returns-clause-small
returns-clause-small c = subst (AllByRecursion (IsSmallForm NUMBER_SIZE)) (sym (c.in_ok-subs.ensures ∙ ap (map (narrowed c.args.parameters c.args.depth)) c.subscripts.ensures)) (narrowed_all_small c.args.parameters c.args.depth c.args.access.now.subscripts c.requires.over)
