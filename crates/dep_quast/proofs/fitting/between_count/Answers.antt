use Rattle.std.proofs.Common.{◌∙◌, ap, sym, ℕ, List, length, arith}
use Rattle.std.specs.Prelude.{◌==◌, if◌then◌else◌, flat_map}
use Rattle.iolb_model.specs.Program.{statement_at}
use Rattle.affine_program.specs.Parts.{meaning}
use Rattle.dep_quast.specs.Context.{reference_of}
use Rattle.dep_quast.specs.Levels.{levels, levels_between, writers}
use Rattle.dep_quast.specs.Views.{read_of}
use Rattle.dep_quast.proofs.Counts.{count-more, length-pairs}
use Rattle.dep_quast.proofs.fitting.between_count.Goals as goal

pub loop-writer-preserved : goal.loop-writer-preserved
loop-writer-preserved c =
    let program = meaning c.args.program.now in
    let reader = read_of c.args.reader in
    let k = c.loop-writer.writer in
    let g : ℕ → List ℕ = λ writer. flat_map (λ after. levels program writer reader.statement) (levels program c.args.source writer) in
    record {
      few = omega (arith, c.pairs_of-total.ensures.few, c.loop-writer.invariant.few);
      count = count-more g c.args.program.now.statements k (reference_of program reader).array c.loop-writer.total c.pairs_of-total.result
          (length (levels_between program c.args.source (writers program (reference_of program reader).array) reader.statement))
          (omega (arith, c.loop-writer-test.true, ap length c.statements-writer-end.ensures.statements))
          (c.pairs_of-total.ensures.count ∙ ap (λ (n : ℕ). if (statement_at program k).writes.array == (reference_of program reader).array then n else 0) (sym (length-pairs program c.args.source k reader.statement)))
          c.loop-writer.invariant.count;
    }
