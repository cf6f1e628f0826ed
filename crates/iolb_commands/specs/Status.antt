-- The numbers of statuses.
use Rattle.std.specs.Prelude.{ℕ}
use Rattle.iolb_commands.specs.declared.status.Status.{Status}
use Rattle.iolb_commands.specs.declared.status.Status.TheVariants.{Done, Refused, Words, ProgramText, OtherText, FileAbsent, ReadFault, WriteFault, Wide, NoMemory}

-- 0 to 9, in this order
abbrev pub status_number : Status → ℕ
status_number Done = 0
status_number Refused = 1
status_number Words = 2
status_number ProgramText = 3
status_number OtherText = 4
status_number FileAbsent = 5
status_number ReadFault = 6
status_number WriteFault = 7
status_number Wide = 8
status_number NoMemory = 9
