-- A text has one schedule of a program, or one fault, and a schedule has one order.
use Rattle.std.specs.Prelude.{◌≡◌, ◌⊎◌, ℕ, ℤ, List}
use Rattle.iolb_model.specs.Program.{AffineProgram}
use Rattle.tile_sched.specs.declared.error.SchedFault.{SchedFault}
use Rattle.tile_sched.specs.declared.schedule.Key.{Key}
use Rattle.tile_sched.specs.Order.{IsOrder}
use Rattle.tile_sched.specs.Texts.{IsTextOf, IsNoJson, IsFirstFault}

-- the text has this fault
abbrev pub IsTextFault : AffineProgram → List ℕ → SchedFault → Type 0
IsTextFault program bytes fault = IsNoJson bytes fault ⊎ IsFirstFault program bytes fault

-- Two schedules of one text are equal, two faults of one text are equal, and no text has both a schedule and a fault.
pub record TextsHaveOneSchedule : Type 0 where
  pub one_schedule : (program : AffineProgram) (bytes : List ℕ) (one other : List (List Key)) → IsTextOf program bytes one → IsTextOf program bytes other → one ≡ other
  pub one_fault : (program : AffineProgram) (bytes : List ℕ) (fault other : SchedFault) → IsTextFault program bytes fault → IsTextFault program bytes other → fault ≡ other
  pub either : (program : AffineProgram) (bytes : List ℕ) (schedule : List (List Key)) (fault : SchedFault) → IsTextOf program bytes schedule → IsTextFault program bytes fault → ⊥

-- Two orders by what is said of instances are equal.
abbrev pub OrdersAreOne : Type 0
OrdersAreOne = (all : List (List ℤ)) (one other : List ℕ) → IsOrder all one → IsOrder all other → one ≡ other
