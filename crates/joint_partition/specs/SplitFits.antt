-- What makes a split fit a system.
use Rattle.std.specs.Prelude.{ℕ, suc, ⊤, max}
use Rattle.affine_form.specs.Rows.{IsSmallOver}
use Rattle.joint_partition.specs.Splits.{SplitTree, empty, split}

-- how many tests there are on the way to an end, at most
abbrev pub nesting : SplitTree → ℕ
nesting (empty shown) = 0
nesting (split form above below) = suc (max (nesting above) (nesting below))

-- each form is over so many variables, with small numbers
abbrev pub SplitFits : ℕ → SplitTree → Type 0
SplitFits vars (empty shown) = ⊤
SplitFits vars (split form above below) = IsSmallOver vars form × (SplitFits vars above × SplitFits vars below)
