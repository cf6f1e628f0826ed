-- Splits, which show that a system of rows has no whole-number point: multipliers that show it, or a test of a form with a split
-- for each side. A form is at least 0 at a point, or at most -1, so a split may use that numbers are whole. (Branching on a form,
-- as in Cook, Kannan and Schrijver 1990, Chvátal closures.)
use Rattle.std.specs.Prelude.{ℕ, ℤ, List, [], ◌∷◌, ◌++◌, codes}
use Rattle.iolb_model.specs.Form.{AffineForm}
use Rattle.affine_form.specs.Multipliers.{FarkasMultipliers}
use Rattle.affine_form.specs.System.{IsMet}
use Rattle.claims.specs.Claims.{AllHold, Claim}
use Rattle.claims.specs.declared.place.Step.{Step}
use Rattle.claims.specs.declared.place.Step.TheVariants.{Key}
use Rattle.claims.specs.Shown.{IsPointless}
use Rattle.dep_quast.specs.Context.{no_row}

pub data SplitTree : Type 0 where
  empty : FarkasMultipliers → SplitTree
  split : AffineForm → SplitTree → SplitTree → SplitTree

-- What a split claims of a system, by the condition of this number: at each of its ends, yes before no, that no point meets the
-- rows and those of the tests on the way.
abbrev pub split_claims : ℕ → List Step → ℕ → List AffineForm → SplitTree → List Claim
split_claims condition place vars rows (empty shown) =
    record { condition = condition; place = place ++ Key (codes "empty") ∷ []; statement = IsPointless (record { vars = vars; rows = rows }) shown } ∷ []
split_claims condition place vars rows (split form above below) =
    split_claims condition (place ++ Key (codes "yes") ∷ []) vars (rows ++ form ∷ []) above
    ++ split_claims condition (place ++ Key (codes "no") ∷ []) vars (rows ++ no_row vars form ∷ []) below

-- Where these hold no point meets all rows.
abbrev pub SplitsShow : Type 0
SplitsShow = (condition : ℕ) (place : List Step) (vars : ℕ) (rows : List AffineForm) (tree : SplitTree) → AllHold (split_claims condition place vars rows tree)
    → (point : List ℤ) → ¬ IsMet rows point
