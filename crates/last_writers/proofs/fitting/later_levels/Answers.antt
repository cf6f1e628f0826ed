use Rattle.std.proofs.Common.{◌≡◌, ◌+◌, ◌∙◌, ap, sym, subst, ℕ, List, [], length, drop, map, arith}
use Rattle.std.specs.Prelude.{◌==◌, if◌then◌else◌, flat_map}
use Rattle.iolb_model.specs.Program.{statement_at}
use Rattle.std.proofs.lemmas.List.{drop_all}
use Rattle.affine_program.specs.declared.statement.Statement.{Statement}
use Rattle.affine_program.specs.Parts.{meaning, statement_of}
use Rattle.dep_quast.specs.Levels.{levels, writers, writers_from}
use Rattle.dep_quast.proofs.Counts.{count-more, length-levels}
use Rattle.last_writers.proofs.FittingOutputs.{later-many}
use Rattle.last_writers.proofs.fitting.later_levels.Goals as goal
use Rattle.store_terms.specs.Claims.{claim_of_output}

pub loop-writer-preserved : goal.loop-writer-preserved
loop-writer-preserved c =
    let program = meaning c.args.program.now in
    let s : ℕ = c.args.output.now.statement in
    let array : ℕ = (statement_at program s).writes.array in
    let k = c.loop-writer.writer in
    let g : ℕ → List ℕ = λ writer. levels program s writer in
    record {
      few = omega (arith, c.levels_of-total.ensures.few, c.loop-writer.invariant.few);
      count = count-more g c.args.program.now.statements k array c.loop-writer.total c.levels_of-total.result
          (length (flat_map g (writers program array)))
          (omega (arith, c.loop-writer-test.true, ap length c.statements-writer-end.ensures.statements))
          (c.levels_of-total.ensures.count ∙ ap (λ (n : ℕ). if (statement_at program k).writes.array == array then n else 0) (sym (length-levels program s k)))
          c.loop-writer.invariant.count;
    }

pub returns : goal.returns
returns c =
    let program = meaning c.args.program.now in
    let s : ℕ = c.args.output.now.statement in
    let array : ℕ = (statement_at program s).writes.array in
    let k = c.loop-writer.writer in
    let g : ℕ → List ℕ = λ writer. levels program s writer in
    let none : drop k c.args.program.now.statements ≡ [] = drop_all k c.args.program.now.statements (omega (arith, c.loop-writer-test.false, ap length c.statements-writer-end.ensures.statements)) in
    let ended : c.loop-writer.total + 0 ≡ length (flat_map g (writers program array)) =
    subst (λ (rest : List Statement). c.loop-writer.total + length (flat_map g (writers_from k (map statement_of rest) array)) ≡ length (flat_map g (writers program array))) none c.loop-writer.invariant.count in
    omega (arith, ended, later-many program (claim_of_output c.args.output.now))
