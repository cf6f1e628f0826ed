-- References and statements, as they were read.
use Rattle.std.specs.Prelude.{ℕ, ℤ, List}

-- a reference: an array's number, and the numbers of each subscript
pub record Access : Type 0 where
  pub array : ℕ
  pub subscripts : List (List ℤ)

-- a statement: what it writes, and what it reads in order
pub record Statement : Type 0 where
  pub writes : Access
  pub reads : List Access
