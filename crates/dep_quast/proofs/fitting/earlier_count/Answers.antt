use Rattle.std.proofs.Common.{◌∙◌, ap, sym, ℕ, List, length, arith}
use Rattle.std.specs.Prelude.{◌==◌, if◌then◌else◌}
use Rattle.iolb_model.specs.Program.{statement_at}
use Rattle.affine_program.specs.Parts.{meaning}
use Rattle.dep_quast.specs.Context.{reference_of}
use Rattle.dep_quast.specs.Levels.{levels, levels_before, writers}
use Rattle.dep_quast.specs.Views.{read_of}
use Rattle.dep_quast.proofs.Counts.{count-more, length-levels}
use Rattle.dep_quast.proofs.fitting.earlier_count.Goals as goal

pub loop-writer-preserved : goal.loop-writer-preserved
loop-writer-preserved c =
    let program = meaning c.args.program.now in
    let reader = read_of c.args.reader in
    let k = c.loop-writer.writer in
    let g : ℕ → List ℕ = λ writer. levels program writer reader.statement in
    record {
      few = omega (arith, c.levels_of-total.ensures.few, c.loop-writer.invariant.few);
      count = count-more g c.args.program.now.statements k (reference_of program reader).array c.loop-writer.total c.levels_of-total.result
          (length (levels_before program (writers program (reference_of program reader).array) reader.statement))
          (omega (arith, c.loop-writer-test.true, ap length c.statements-writer-end.ensures.statements))
          (c.levels_of-total.ensures.count ∙ ap (λ (n : ℕ). if (statement_at program k).writes.array == (reference_of program reader).array then n else 0) (sym (length-levels program k reader.statement)))
          c.loop-writer.invariant.count;
    }
