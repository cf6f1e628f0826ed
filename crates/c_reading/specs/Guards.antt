-- What an `if` asks, and what stands around it.
use Rattle.std.specs.Prelude.{ℕ, ◌-◌, ◌==◌, if◌then◌else◌, [], Ok, Err, codes}
use Rattle.c_reading.specs.declared.error.ReadFault.{ReadFault}
use Rattle.c_reading.specs.Input.{Rule, Outcome, ◌>>=◌, ◌>>◌, pure, fault, refuse, sees, place, next}
use Rattle.c_reading.specs.Affine.{closed_by}
use Rattle.c_reading.specs.Compare.{Rows, all_compares}
use Rattle.c_reading.specs.Values.{open_bracket}

-- `for` or `if`, and the bracket behind it
unfoldable pub bracket_behind : ℕ → Rule (Unit {0})
bracket_behind brackets i = if sees (codes "(") (next i) then open_bracket brackets (next i) else refuse (next i)

-- the compares of an `if` behind its bracket, up to the one that closes it, where there may be so many rows
unfoldable pub asked : ℕ → ℕ → Rule Rows
asked brackets room = do
  c ← all_compares brackets room []
  closed_by (codes ")") c.last
  pure c.rows

-- what isn't affine in the compares of an `if` that begins here is the fault of that `if`
abbrev pub fault_in_if : ℕ → ReadFault → ReadFault
fault_in_if start f = if f.number == 4 then record { number = 12; place = start } else f

abbrev pub in_if : {A : Type 0} → ℕ → Outcome A → Outcome A
in_if start (Ok p) = Ok p
in_if start (Err f) = Err (fault_in_if start f)

-- `if` and its bracket: the rows that it asks
unfoldable pub conditions : ℕ → ℕ → Rule Rows
conditions brackets room i = (bracket_behind brackets >> (λ j. in_if (place i) (asked (brackets - 1) room j))) i

-- an `else` behind the item of an `if` isn't read
unfoldable pub no_else : Rule (Unit {0})
no_else i = if sees (codes "else") i then fault 12 i else Ok (tt, i)
