-- What is used of a projective program.
use Rattle.std.proofs.Common.{◌≡◌, ◌∙◌, ap, ℕ, ◌+◌, ◌<◌, true, List, [], ◌++◌, length}
use Rattle.std.specs.List.{AllByRecursion}
use Rattle.std.proofs.lemmas.List.{append-nil}
use Rattle.iolb_model.specs.Form.{AffineForm}
use Rattle.iolb_model.specs.Order.{common_loops}
use Rattle.iolb_model.specs.Program.{AffineProgram, statement_at}
use Rattle.affine_form.specs.Rows.{guard_rows, variable, within_rows}
use Rattle.affine_program.specs.Domain.{bounds_at, depth_of, domain_rows, guards_at}
use Rattle.projective.specs.Turns.{width, is_kept}
use Rattle.projective.proofs.NestRows.{AreUpward, RunsTo, IsAmong}
use Rattle.projective.proofs.TurnWorths.{ends_of}

-- a form is a loop that stands in the reference
abbrev pub IsKeptLoop : AffineProgram → AffineForm → Type 0
IsKeptLoop program form = (place : ℕ) × (place < depth_of program 0) × (is_kept program place ≡ true) × (form ≡ variable (width program) (length program.parameters + place))

-- where no guard stands around a statement, the rows of its domain are those of its bounds
pub rows-bare : (program : AffineProgram) (statement vars : ℕ) (before values : List AffineForm) → guards_at program statement ≡ []
    → domain_rows program statement vars before values ≡ within_rows vars (bounds_at program statement) before values
rows-bare program statement vars before values bare =
    ap (λ (guards : List AffineForm). within_rows vars (bounds_at program statement) before values ++ guard_rows vars guards (before ++ values)) bare
    ∙ append-nil (within_rows vars (bounds_at program statement) before values)

-- No guard stands around the statement. The loops run from 0 to ends that depend on the parameters alone; all are around the
-- statement twice, and run upward; and the subscripts of the reference that is written are those that stand in it.
pub record NestFacts (program : AffineProgram) : Type 0 where
  pub bare : guards_at program 0 ≡ []
  pub runs : RunsTo (length program.parameters) (ends_of (bounds_at program 0)) (bounds_at program 0)
  pub common : length (common_loops program 0 0) ≡ depth_of program 0
  pub rise : AreUpward (common_loops program 0 0)
  pub subscripts : AllByRecursion (IsKeptLoop program) (statement_at program 0).writes.subscripts
  pub among : (place : ℕ) → place < depth_of program 0 → is_kept program place ≡ true → IsAmong (variable (width program) (length program.parameters + place)) (statement_at program 0).writes.subscripts
