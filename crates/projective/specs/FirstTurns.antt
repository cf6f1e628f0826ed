-- Loops that are tested to be in their first turns.
use Rattle.std.specs.Prelude.{◌≡◌, ℕ, ◌+◌, ◌<◌, ◌≤◌, false, List, length}
use Rattle.iolb_model.specs.Form.{AffineForm}
use Rattle.iolb_model.specs.Program.{AffineProgram}
use Rattle.affine_form.specs.System.{AllOver}
use Rattle.affine_program.specs.Domain.{depth_of}
use Rattle.dep_quast.specs.Context.{no_row}
use Rattle.projective.specs.Projective.{HoldsOfOne}
use Rattle.projective.specs.Turns.{width, is_kept, later_turn}

-- Each loop from one on that doesn't stand in the reference is tested to be in its first turn, by tests over the parameters and
-- the loop values, no more than one for each of these loops.
pub record AreFirstTurns (program : AffineProgram) (loop : ℕ) (tests : List AffineForm) : Type 0 where
  pub first : (other : ℕ) → loop ≤ other → other < depth_of program 0 → is_kept program other ≡ false
      → HoldsOfOne (λ (test : AffineForm). test ≡ no_row (width program) (later_turn program other)) tests
  pub over : AllOver (width program) tests
  pub few : length tests + loop ≤ depth_of program 0
