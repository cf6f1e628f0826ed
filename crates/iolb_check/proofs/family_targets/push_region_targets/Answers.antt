use Rattle.std.proofs.Common.{sym, ◌∙◌, ap, ◌≤◌, List, ◌++◌, length, append-nil, arith}
use Rattle.std.specs.Prelude.{option_map}
use Rattle.std.proofs.lemmas.List.{length-map}
use Rattle.affine_program.specs.Parts.{meaning, statement_of}
use Rattle.footprint_pieces.specs.declared.piece.Target.{Target}
use Rattle.reuse_paths.specs.Walks.{boxed_region}
use Rattle.dep_quast.specs.Quasts.{trees_of}
use Rattle.iolb_check.proofs.FamilyTargets.{none-told}
use Rattle.iolb_check.proofs.family_targets.push_region_targets.Goals as goal

pub returns-then-number-statements : goal.returns-then-number-statements
returns-then-number-statements c =
    let P = meaning c.args.program.now in
    let past : length P.statements ≤ c.args.number =
    omega (arith, length-map c.args.program.now.statements statement_of, ap length c.statements.ensures.statements, c.if-number-statements.true) in
    sym (append-nil c.args.targets.now.items)
    ∙ ap (λ (rest : List Target). c.args.targets.now.items ++ rest) (sym (none-told P (trees_of c.args.quasts.now) c.args.number past (option_map boxed_region c.args.region.now)))
