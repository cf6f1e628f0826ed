use Rattle.std.proofs.Common.{◌≡◌, sym, ◌∙◌, ap, subst, ℕ, List, length, get_or, arith}
use Rattle.std.proofs.lemmas.List.{length-map}
use Rattle.iolb_model.specs.Program.{Statement as ModelStatement, statement_at}
use Rattle.affine_program.specs.declared.statement.Statement.{Statement}
use Rattle.affine_program.specs.Parts.{access_of, meaning}
use Rattle.dep_quast.specs.Context.{ReadOf}
use Rattle.dep_quast.proofs.Fits.{statement-is}
use Rattle.find_terms.specs.Found.{FindsRead}
use Rattle.find_terms.proofs.ReadLaws.{earlier-next, earlier-statement}
use Rattle.find_terms.proofs.TermLaws.{first-found}
use Rattle.find_terms.proofs.openings.first_in.Goals as goal

pub returns-in-Some : goal.returns-in-Some
returns-in-Some c =
    let program = meaning c.args.program.now in
    let reader : ReadOf = record { statement = c.args.statement; read = c.loop-read.read } in
    first-found program reader c.args.array c.in-Some.cold (subst (FindsRead program c.args.array reader) c.in-Some.is c.in_ok-cold.ensures) c.loop-read.invariant

pub loop-read-preserved : goal.loop-read-preserved
loop-read-preserved c =
    let program = meaning c.args.program.now in
    let reader : ReadOf = record { statement = c.args.statement; read = c.loop-read.read } in
    earlier-next program c.args.array c.args.statement c.loop-read.read c.loop-read.invariant (subst (FindsRead program c.args.array reader) c.in_default.is c.in_ok-cold.ensures)

pub returns : goal.returns
returns c =
    let program = meaning c.args.program.now in
    let s : ℕ = c.args.statement in
    let at : Statement = c.index-statements-from.result in
    let is : at ≡ get_or c.args.program.now.statements s at =
    c.index-statements-from.is ∙ ap (λ (table : List Statement). get_or table c.from.result at) c.statements.ensures.statements ∙ ap (λ (n : ℕ). get_or c.args.program.now.statements n at) c.from.ensures in
    let many : length (statement_at program s).reads ≡ length at.reads.items =
    ap (λ (t : ModelStatement). length t.reads) (statement-is c.args.program.now s at c.requires.there is) ∙ length-map at.reads.items access_of in
    let lent : c.as_slice-reads.result.now ≡ at.reads.items = c.as_slice-reads.ensures.value ∙ ap (λ (t : Statement). t.reads.items) (sym c.index-statements-from.is) in
    earlier-statement program c.args.array s c.loop-read.read (omega (arith, many, ap length lent, c.loop-read-test.false)) c.loop-read.invariant
