-- Room for the turns of loops and for instances.
use Rattle.std.specs.Prelude.{◌≡◌, ℕ, ◌+◌, ◌≤◌, ℤ, pos, ◌+ℤ◌, ◌≤ℤ◌, ◌<ℤ◌, List, length, Option, Some, None}
use Rattle.std.specs.List.{AllByRecursion}
use Rattle.affine_form.specs.Form.{IsSmall}
use Rattle.loop_graph.specs.declared.counted.Room.{Room}
use Rattle.loop_graph.specs.declared.values.Values.{Values}
use Rattle.iolb_model.specs.declared.limits.TheConstants.{VALUE_SIZE}

-- there is room for these turns, each of size below 2^40, and for so many instances
pub record HasRoom (list : List ℤ) (count : ℕ) (room : Room) : Type 0 where
  pub small : AllByRecursion (IsSmall VALUE_SIZE) list
  pub turns : length list ≤ room.turns
  pub instances : count ≤ room.instances

-- what is left of the room behind them
pub record Leaves (list : List ℤ) (count : ℕ) (room left : Room) : Type 0 where
  pub small : AllByRecursion (IsSmall VALUE_SIZE) list
  pub turns : length list + left.turns ≡ room.turns
  pub instances : count + left.instances ≡ room.instances

-- what is left if there is room, and nothing exactly where there is none
abbrev pub IsLeft : List ℤ → ℕ → Room → Option Room → Type 0
IsLeft turns instances room None = ¬ HasRoom turns instances room
IsLeft turns instances room (Some left) = Leaves turns instances room left

-- Where a loop has values, there is room for a turn with each of them, each of size below 2^40.
abbrev pub MayBegin : Values → Room → Type 0
MayBegin values room = values.lower ≤ℤ values.upper → IsSmall VALUE_SIZE values.lower × IsSmall VALUE_SIZE values.upper × (values.upper <ℤ (values.lower +ℤ pos room.turns))
