use Rattle.wavefront.proofs.WaveLoads.{waves-leave-few, waves-loaded, waves-reloaded}
use Rattle.wavefront.proofs.waves.waves_are_loaded.Goals as goal

pub returns-clause-loaded : goal.returns-clause-loaded
returns-clause-loaded c = waves-loaded

pub returns-clause-few : goal.returns-clause-few
returns-clause-few c = waves-leave-few

pub returns-clause-different : goal.returns-clause-different
returns-clause-different c = waves-reloaded
