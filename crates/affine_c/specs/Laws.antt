-- A text means one program at most.
use Rattle.std.specs.Prelude.{◌≡◌, ℕ, List}
use Rattle.iolb_model.specs.Program.{AffineProgram}
use Rattle.c_grammar.specs.Program.{Means}

abbrev pub TextsMeanOneProgram : Type 0
TextsMeanOneProgram = (bytes : List ℕ) (p q : AffineProgram) → Means bytes p → Means bytes q → p ≡ q
