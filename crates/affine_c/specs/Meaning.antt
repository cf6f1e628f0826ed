-- Which fault a C text has.
use Rattle.std.specs.Prelude.{◌≡◌, ℕ, List, Err, ⊤}
use Rattle.c_reading.specs.Text.{reading_of}
use Rattle.affine_c.specs.declared.fault.ProgramFault.{ProgramFault}
use Rattle.affine_c.specs.declared.fault.ProgramError.{ProgramError}
use Rattle.affine_c.specs.declared.fault.ProgramError.TheVariants.{Fault, Memory}

-- a text has this fault
abbrev pub HasFault : List ℕ → ProgramFault → Type 0
HasFault bytes fault = reading_of bytes ≡ Err (record { number = fault.number; place = fault.place })

-- where the error is a fault, the text has it
abbrev pub IfFault : List ℕ → ProgramError → Type 0
IfFault bytes (Fault fault) = HasFault bytes fault
IfFault bytes Memory = ⊤
