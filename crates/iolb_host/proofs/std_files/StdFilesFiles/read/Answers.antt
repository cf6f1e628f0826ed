use Rattle.std.proofs.Common.{◌<◌, length, IfSome}
use Rattle.iolb_host.proofs.Opened.{some_file, was_long}
use Rattle.iolb_host.proofs.std_files.StdFilesFiles.read.Goals as goal

pub returns-clause-too_long : goal.returns-clause-too_long
returns-clause-too_long g c = λ long.
    some_file c.open.result (λ file. IfSome (g.R.File.Read.remaining file) (λ rest. c.args.most < length rest))
    (c.bytes_of-outcome.ensures.too_long (was_long c.noted.result c.bytes_of-outcome.result c.noted.ensures.same long))
