-- Messages about faults, in the form that compilers and editors share (GNU coding standards, "Formatting Error Messages").
use Rattle.std.specs.Prelude.{◌≡◌, ℕ, ◌-◌, ◌≤◌, ◌&&◌, nat_le, if◌then◌else◌, List, ◌++◌, take, Some, slice_get, codes, decimal}
use Rattle.plain_pages.specs.Caret.{caret_lines}
use Rattle.plain_pages.specs.Position.{column_behind, line_behind}
use Rattle.help_pages.specs.Faults.{fault_helps, fault_texts}
use Rattle.program_messages.specs.declared.rules.Rule.{Rule}
use Rattle.program_messages.specs.Rules.{fault_number, rule_help, rule_text}

-- This is said of the fault of this number: what a rule for it says, or what is said of it where no rule fits, or, of a number
-- that no fault has, that the text isn't read.
pub data IsSaid (number : ℕ) : List ℕ → List ℕ → Type 0 where
  by_rule : (rule : Rule) → fault_number rule ≡ number → IsSaid number (rule_text rule) (rule_help rule)
  by_fault : (wrong instead : List ℕ) → slice_get fault_texts (number - 1) ≡ Some wrong → slice_get fault_helps (number - 1) ≡ Some instead → IsSaid number wrong instead
  by_default : ¬ ((1 ≤ number) × (number ≤ 12)) → IsSaid number (codes "this isn't read") (codes "see `iolb-explain help`")

-- a name in front of what is wrong, where the fault is about a name
abbrev pub name_part : ℕ → List ℕ → List ℕ
name_part number word = if nat_le 6 number && nat_le number 8 then codes "`" ++ word ++ codes "`: " else codes ""

-- a number of a position
abbrev pub number_part : ℕ → List ℕ
number_part number = codes ":" ++ decimal number

-- `FILE:LINE:COLUMN: error: `
abbrev pub position_part : List ℕ → ℕ → ℕ → List ℕ
position_part file line column = file ++ number_part line ++ number_part column ++ codes ": error: "

-- what is wrong, and the fault's number
abbrev pub wrong_part : List ℕ → ℕ → List ℕ
wrong_part wrong number = wrong ++ (codes " [fault " ++ decimal number ++ codes "]") ++ codes "\n"

-- what to write instead
abbrev pub help_part : List ℕ → List ℕ
help_part instead = codes "help: " ++ instead ++ codes "\n"

-- `FILE:LINE:COLUMN: error: WHAT IS WRONG [fault NUMBER]`, the line with a caret, and what to write instead
abbrev pub message_lines : List ℕ → List ℕ → ℕ → ℕ → List ℕ → List ℕ → List ℕ → List ℕ
message_lines file text number place word wrong instead =
    position_part file (line_behind (take place text) 1) (column_behind (take place text) 1) ++ name_part number word ++ wrong_part wrong number ++ caret_lines text place ++ help_part instead

-- the message of a fault is written behind what a page had
pub record TellsFault (before after file text : List ℕ) (number place : ℕ) : Type 0 where
  pub word : List ℕ
  pub wrong : List ℕ
  pub instead : List ℕ
  pub is_said : IsSaid number wrong instead
  pub written : after ≡ before ++ message_lines file text number place word wrong instead
