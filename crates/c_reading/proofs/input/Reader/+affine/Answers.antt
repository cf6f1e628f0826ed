use Rattle.std.proofs.Common.{rules, arith}
use Rattle.std.proofs.lemmas.Grind.{common_steps}
use Rattle.c_reading.specs.Affine.{affine, bracketed}
use Rattle.c_reading.proofs.Turns.{deeper}
use Rattle.c_reading.proofs.input.Reader.+affine.Goals as goal

pub bracketed-returns-in_err-a : goal.bracketed-returns-in_err-a
unfolding bracketed affine
bracketed-returns-in_err-a t c = rw (deeper (λ n. bracketed n c.args.star c.args.self.now) c.args.brackets (omega arith)) (first_of (search rules, grind (arith, common_steps)))

pub bracketed-returns : goal.bracketed-returns
unfolding bracketed affine
bracketed-returns t c = rw (deeper (λ n. bracketed n c.args.star c.args.self.now) c.args.brackets (omega arith)) (first_of (search rules, grind (arith, common_steps)))
