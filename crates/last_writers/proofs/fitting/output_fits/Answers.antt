use Rattle.last_writers.proofs.FittingOutputs.{output-fitting}
use Rattle.last_writers.proofs.fitting.output_fits.Goals as goal

pub returns-clause-fits : goal.returns-clause-fits
returns-clause-fits c = output-fitting c.args.program.now c.args.place.now c.args.output.now c.requires c.in_ok-parts_fit.ensures
