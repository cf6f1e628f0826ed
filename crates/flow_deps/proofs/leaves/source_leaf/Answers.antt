use Rattle.std.proofs.Common.{◌≡◌, ◌∙◌, ◌++◌, ap, sym, subst, ◌≤◌, List, length, map, arith}
use Rattle.iolb_model.specs.Form.{AffineForm}
use Rattle.iolb_model.specs.declared.limits.TheConstants.{ROWS}
use Rattle.affine_form.specs.System.{AffineSystem}
use Rattle.affine_program.specs.Parts.{meaning}
use Rattle.dep_quast.specs.Claims.{context_system, inside_goals, cell_goals, before_goals}
use Rattle.dep_quast.specs.Context.{context, writes_between}
use Rattle.dep_quast.specs.Tree.{SourceClaim, leaf, source}
use Rattle.dep_quast.specs.Truth.{IsThere}
use Rattle.dep_quast.specs.Views.{read_of, claim_of}
use Rattle.flow_deps.specs.Answers.{Answers, HasNoShort, following, pointless}
use Rattle.flow_deps.specs.Shapes.{last_write}
use Rattle.flow_deps.specs.Shown.{IsShown}
use Rattle.flow_deps.proofs.AnswerLaws.{found-none, found-some, system-is}
use Rattle.flow_deps.proofs.ShownLeaves.{source-not, source-shown}
use Rattle.flow_deps.proofs.leaves.source_leaf.Goals as goal

pub returns-then-len-gt-ROWS : goal.returns-then-len-gt-ROWS
returns-then-len-gt-ROWS c =
    let program = meaning c.args.program.now in
    let reader = read_of c.args.reader in
    let claim = claim_of c.args.claimed.now in
    λ nested. source-not program reader c.args.tests.now c.params-params.ensures.kept.well_formed c.requires.read nested claim.statement claim.level claim.point
    (λ aimed. let few : length (context program reader c.args.tests.now) ≤ ROWS = aimed.few in omega (arith, few, ap length c.in_ok-rows.ensures.rows, c.if-len-gt-ROWS.true, c.len.ensures))

pub returns-in_default : goal.returns-in_default
returns-in_default c =
    let program = meaning c.args.program.now in
    let reader = read_of c.args.reader in
    let claim = claim_of c.args.claimed.now in
    let tests = c.args.tests.now in
    let system : c.in_ok-system.system ≡ context_system program reader tests =
    c.in_ok-system.ensures ∙ system-is c.variables.result c.as_slice.result.now (context_system program reader tests) c.variables.ensures.variables (c.as_slice.ensures.value ∙ c.in_ok-rows.ensures.rows) in
    let none : HasNoShort (following (context_system program reader tests) (inside_goals program reader claim)) =
    subst (λ (s : AffineSystem). HasNoShort (following s (inside_goals program reader claim))) system
    (found-none c.in_ok-domain.field-0 (HasNoShort (following c.in_ok-system.system (inside_goals program reader claim))) (λ all. Answers c.args.wanted (following c.in_ok-system.system (inside_goals program reader claim)) all.items)
    c.in_default.is c.in_ok-domain.ensures) in
    λ nested. source-not program reader tests c.params-params.ensures.kept.well_formed c.requires.read nested claim.statement claim.level claim.point (λ aimed. none aimed.inside)

pub returns-in_default-2 : goal.returns-in_default-2
returns-in_default-2 c =
    let program = meaning c.args.program.now in
    let reader = read_of c.args.reader in
    let claim = claim_of c.args.claimed.now in
    let tests = c.args.tests.now in
    let system : c.in_ok-system.system ≡ context_system program reader tests =
    c.in_ok-system.ensures ∙ system-is c.variables.result c.as_slice.result.now (context_system program reader tests) c.variables.ensures.variables (c.as_slice.ensures.value ∙ c.in_ok-rows.ensures.rows) in
    let none : HasNoShort (following (context_system program reader tests) (cell_goals program reader claim)) =
    subst (λ (s : AffineSystem). HasNoShort (following s (cell_goals program reader claim))) system
    (found-none c.in_ok-cell.field-0 (HasNoShort (following c.in_ok-system.system (cell_goals program reader claim))) (λ all. Answers c.args.wanted (following c.in_ok-system.system (cell_goals program reader claim)) all.items)
    c.in_default-2.is c.in_ok-cell.ensures) in
    λ nested. source-not program reader tests c.params-params.ensures.kept.well_formed c.requires.read nested claim.statement claim.level claim.point (λ aimed. none aimed.cell)

pub returns-in_default-3 : goal.returns-in_default-3
returns-in_default-3 c =
    let program = meaning c.args.program.now in
    let reader = read_of c.args.reader in
    let claim = claim_of c.args.claimed.now in
    let tests = c.args.tests.now in
    let system : c.in_ok-system.system ≡ context_system program reader tests =
    c.in_ok-system.ensures ∙ system-is c.variables.result c.as_slice.result.now (context_system program reader tests) c.variables.ensures.variables (c.as_slice.ensures.value ∙ c.in_ok-rows.ensures.rows) in
    let none : HasNoShort (following (context_system program reader tests) (before_goals program reader claim)) =
    subst (λ (s : AffineSystem). HasNoShort (following s (before_goals program reader claim))) system
    (found-none c.in_ok-before.field-0 (HasNoShort (following c.in_ok-system.system (before_goals program reader claim))) (λ all. Answers c.args.wanted (following c.in_ok-system.system (before_goals program reader claim)) all.items)
    c.in_default-3.is c.in_ok-before.ensures) in
    λ nested. source-not program reader tests c.params-params.ensures.kept.well_formed c.requires.read nested claim.statement claim.level claim.point (λ aimed. none aimed.before)

pub returns-in_default-4 : goal.returns-in_default-4
returns-in_default-4 c =
    let program = meaning c.args.program.now in
    let reader = read_of c.args.reader in
    let claim = claim_of c.args.claimed.now in
    let tests = c.args.tests.now in
    let none : HasNoShort (map pointless (writes_between program reader (context program reader tests) claim)) =
    subst (λ (rows : List AffineForm). HasNoShort (map pointless (writes_between program reader rows claim))) (c.as_slice-2.ensures.value ∙ c.in_ok-rows.ensures.rows)
    (found-none c.in_ok-between.field-0 (HasNoShort (map pointless (writes_between program reader c.as_slice-2.result.now claim)))
    (λ all. Answers c.args.wanted (map pointless (writes_between program reader c.as_slice-2.result.now claim)) all.items) c.in_default-4.is c.in_ok-between.ensures) in
    λ nested. source-not program reader tests c.params-params.ensures.kept.well_formed c.requires.read nested claim.statement claim.level claim.point (λ aimed. none aimed.between)

pub returns : goal.returns
returns c =
    let program = meaning c.args.program.now in
    let reader = read_of c.args.reader in
    let aim = claim_of c.args.claimed.now in
    let tests = c.args.tests.now in
    let wanted = c.args.wanted in
    let system : c.in_ok-system.system ≡ context_system program reader tests =
    c.in_ok-system.ensures ∙ system-is c.variables.result c.as_slice.result.now (context_system program reader tests) c.variables.ensures.variables (c.as_slice.ensures.value ∙ c.in_ok-rows.ensures.rows) in
    let claim : SourceClaim = record {
      statement = aim.statement;
      level = aim.level;
      point = aim.point;
      inside = c.in-Some.domain.items;
      cell = c.in-Some-2.cell.items;
      before = c.in-Some-3.before.items;
      between = c.in-Some-4.between.items;
    } in
    let few : length (context program reader tests) ≤ ROWS = omega (arith, ap length c.in_ok-rows.ensures.rows, c.if-len-gt-ROWS.false, c.len.ensures) in
    let inside : Answers wanted (following (context_system program reader tests) (inside_goals program reader claim)) claim.inside =
    subst (λ (s : AffineSystem). Answers wanted (following s (inside_goals program reader claim)) claim.inside) system
    (found-some c.in_ok-domain.field-0 c.in-Some.domain (HasNoShort (following c.in_ok-system.system (inside_goals program reader claim))) (λ all. Answers wanted (following c.in_ok-system.system (inside_goals program reader claim)) all.items)
    c.in-Some.is c.in_ok-domain.ensures) in
    let cell : Answers wanted (following (context_system program reader tests) (cell_goals program reader claim)) claim.cell =
    subst (λ (s : AffineSystem). Answers wanted (following s (cell_goals program reader claim)) claim.cell) system
    (found-some c.in_ok-cell.field-0 c.in-Some-2.cell (HasNoShort (following c.in_ok-system.system (cell_goals program reader claim))) (λ all. Answers wanted (following c.in_ok-system.system (cell_goals program reader claim)) all.items)
    c.in-Some-2.is c.in_ok-cell.ensures) in
    let before : Answers wanted (following (context_system program reader tests) (before_goals program reader claim)) claim.before =
    subst (λ (s : AffineSystem). Answers wanted (following s (before_goals program reader claim)) claim.before) system
    (found-some c.in_ok-before.field-0 c.in-Some-3.before (HasNoShort (following c.in_ok-system.system (before_goals program reader claim))) (λ all. Answers wanted (following c.in_ok-system.system (before_goals program reader claim)) all.items)
    c.in-Some-3.is c.in_ok-before.ensures) in
    let between : Answers wanted (map pointless (writes_between program reader (context program reader tests) claim)) claim.between =
    subst (λ (rows : List AffineForm). Answers wanted (map pointless (writes_between program reader rows claim)) claim.between) (c.as_slice-2.ensures.value ∙ c.in_ok-rows.ensures.rows)
    (found-some c.in_ok-between.field-0 c.in-Some-4.between (HasNoShort (map pointless (writes_between program reader c.as_slice-2.result.now claim)))
    (λ all. Answers wanted (map pointless (writes_between program reader c.as_slice-2.result.now claim)) all.items) c.in-Some-4.is c.in_ok-between.ensures) in
    let there : IsThere program reader claim =
    record { statement = c.requires.there.statement; level = c.requires.there.level; point = c.requires.there.point; forms = c.requires.there.forms } in
    λ nested. subst (λ (point : List AffineForm). IsShown wanted program reader tests nested (last_write aim.statement aim.level aim.point) (leaf (source (record claim { point = point })))) (sym (c.in_ok-point.ensures ∙ ap (λ (xs : List AffineForm). xs ++ aim.point) c.new.ensures.items))
    (source-shown program reader tests c.params-params.ensures.kept.well_formed c.requires.read wanted nested claim few there c.requires.writes.1 inside cell before between)
