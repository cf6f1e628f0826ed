-- What gives the lists of entries their lengths, as the code holds it.
use Rattle.std.specs.Prelude.{map}
use Rattle.reuse_paths.specs.Families.{credit_of}
use Rattle.certificate_fit.specs.declared.entries.Aimed.{Aimed}
use Rattle.certificate_fit.specs.EntryFit.{EntryAim}

abbrev pub aim_of : Aimed → EntryAim
aim_of aimed = record { loops = aimed.loops; label = aimed.label; credits = map credit_of aimed.credits.now }
