-- The files of the system.
use Rattle.std.specs.Prelude.{List}
use Rattle.iolb_host.specs.declared.std_files.StdFiles.{StdFiles}
use Rattle.iolb_host.specs.Faults.{NamedFault, faults_in}

-- the faults of reads so far
abbrev pub faults_of : {R : Type 0} → StdFiles R → List NamedFault
faults_of store = faults_in store.faults.items
