-- Instances with what is said of them.
use Rattle.std.specs.Prelude.{◌≡◌, ℕ, suc, ◌≤◌, ℤ, List, [], length, Vec}
use Rattle.std.specs.Global.{Global}
use Rattle.std.specs.List.{AllByRecursion}
use Rattle.affine_form.specs.Form.{IsSmall}
use Rattle.loop_graph.specs.declared.listed.Run.{Run}
use Rattle.tile_sched.specs.declared.schedule.Key.{Key}
use Rattle.tile_sched.specs.Schedules.{IsKey}
use Rattle.tile_sched.specs.Order.{keys_of, said_by}
use Rattle.iolb_model.specs.declared.limits.TheConstants.{VALUE_SIZE}

-- the number of an instance, and what is said of it
abbrev pub rank_of : Vec ℤ Global × ℕ → ℕ × List ℤ
rank_of rank = (rank.1, rank.0.items)

-- what the schedule says of a run
abbrev pub said_of_run : List (List Key) → Run → List ℤ
said_of_run schedule run = said_by (keys_of schedule run.statement) run.point.items

-- the schedule has keys for the statement of the run, over the variables that the run has values of
pub record CanSay (schedule : List (List Key)) (run : Run) : Type 0 where
  pub there : suc run.statement ≤ length schedule
  pub keys : AllByRecursion (IsKey (length run.point.items)) (keys_of schedule run.statement)
  pub small : AllByRecursion (IsSmall VALUE_SIZE) run.point.items

-- no statement has a key
abbrev pub SaysNothing : List (List Key) → Type 0
SaysNothing schedule = AllByRecursion (λ keys. keys ≡ []) schedule
