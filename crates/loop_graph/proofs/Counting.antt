-- Counting turns and instances one after the other.
use Rattle.std.proofs.Common.{◌≡◌, refl, sym, ap, subst, ℕ, ◌+◌, ◌<◌, ◌≤◌, List, [], ◌∷◌, ◌++◌, length, drop, get_or, arith}
use Rattle.std.specs.Prelude.{flat_map, ◌≤ℤ◌, Option, None, Some}
use Rattle.std.specs.List.{AllByRecursion}
use Rattle.std.proofs.Math.IntN.{ℤ, pos, negsuc, ◌+ℤ◌, ◌-ℤ◌}
use Rattle.std.proofs.lemmas.Int.{ints}
use Rattle.iolb_model.specs.Form.{AffineForm, form_value}
use Rattle.std.proofs.lemmas.List.{length-append, length-map}
use Rattle.base_laws.proofs.Lists.{All-append}
use Rattle.execution_laws.proofs.Members.{Member}
use Rattle.execution_laws.proofs.Ranges.{values-has, values-within}
use Rattle.execution_laws.proofs.Ordered.{All-from, All-member}
use Rattle.affine_form.specs.Form.{IsSmall}
use Rattle.affine_form.specs.Rows.{direction_of}
use Rattle.affine_program.specs.declared.item.Item.{Item}
use Rattle.affine_program.specs.Tree.{item_of, row_of}
use Rattle.iolb_model.specs.Program.{Direction, Item as ModelItem, loop, Row, next}
use Rattle.iolb_model.specs.Execution.{natural, range_size, loop_values, at_value, item_runs, row_runs}
use Rattle.loop_graph.specs.Turns.{item_turns, row_turns}
use Rattle.loop_graph.specs.Rooms.{HasRoom, Leaves, IsLeft, MayBegin}
use Rattle.loop_graph.specs.Values.{values_left}
use Rattle.loop_graph.specs.declared.values.Values.{Values}
use Rattle.loop_graph.specs.declared.counted.Room.{Room}
use Rattle.loop_graph.proofs.LoopValues.{values_count}
use Rattle.loop_graph.proofs.Walks.{All-both, turns_at, runs_at, values_hold, row_seen}
use Rattle.iolb_model.specs.declared.limits.TheConstants.{VALUE_SIZE}

pub nothing_taken : (room : Room) → Leaves [] 0 room room
nothing_taken room = record { small = tt; turns = omega arith; instances = omega arith }

-- what is behind some turns and instances, where some of the room is left
pub more_taken : (a b : List ℤ) (n m : ℕ) (room mid : Room) (out : Option Room) → Leaves a n room mid → IsLeft b m mid out → IsLeft (a ++ b) (n + m) room out
more_taken a b n m room mid None first second = λ has. second (record {
  small = (All-both (IsSmall VALUE_SIZE) a b has.small).1;
  turns = omega (arith, has.turns, first.turns, length-append a b);
  instances = omega (arith, has.instances, first.instances);
})
more_taken a b n m room mid (Some left) first second = record {
  small = All-append (IsSmall VALUE_SIZE) a b first.small second.small;
  turns = omega (arith, first.turns, second.turns, length-append a b);
  instances = omega (arith, first.instances, second.instances);
}

-- and where there was no room for the first
pub no_room : (a b : List ℤ) (n m : ℕ) (room : Room) → (HasRoom a n room → ⊥) → HasRoom (a ++ b) (n + m) room → ⊥
no_room a b n m room none has = none (record {
  small = (All-both (IsSmall VALUE_SIZE) a b has.small).0;
  turns = omega (arith, has.turns, length-append a b);
  instances = omega (arith, has.instances);
})

-- ---- rows

abbrev pub RowLeft : Row → List ℤ → Room → Option Room → Type 0
RowLeft row point room out = IsLeft (row_turns row point) (length (row_runs row point)) room out

-- what the items from one on leave is what the row leaves
abbrev pub RowGoesOn : List Item → ℕ → List ℤ → Room → Room → Type 0
RowGoesOn row i point left room = (out : Option Room) → RowLeft (row_of (drop i row)) point left out → RowLeft (row_of row) point room out

item_first : (item : ModelItem) (rest : Row) (point : List ℤ) → length (item_runs item point) + length (row_runs rest point) ≡ length (row_runs (next item rest) point)
item_first item rest point = sym (length-append (item_runs item point) (row_runs rest point))

pub item_taken : (row : List Item) (i : ℕ) (item : Item) (point : List ℤ) (left after room : Room) → i < length row → item ≡ get_or row i item
    → Leaves (item_turns (item_of item) point) (length (item_runs (item_of item) point)) left after → RowGoesOn row i point left room → RowGoesOn row (i + 1) point after room
item_taken row i item point left after room below is taken so_far out rest =
    let others = row_of (drop (i + 1) row) in
    let more = more_taken (item_turns (item_of item) point) (row_turns others point) (length (item_runs (item_of item) point)) (length (row_runs others point)) left after out taken rest in
    so_far out (subst (λ (r : Row). RowLeft r point left out) (sym (row_seen row i item below is))
    (subst (λ (n : ℕ). IsLeft (row_turns (next (item_of item) others) point) n left out) (item_first (item_of item) others point) more))

pub item_too_long : (row : List Item) (i : ℕ) (item : Item) (point : List ℤ) (left room : Room) → i < length row → item ≡ get_or row i item
    → (HasRoom (item_turns (item_of item) point) (length (item_runs (item_of item) point)) left → ⊥) → RowGoesOn row i point left room → RowLeft (row_of row) point room None
item_too_long row i item point left room below is none so_far =
    let others = row_of (drop (i + 1) row) in
    let more = no_room (item_turns (item_of item) point) (row_turns others point) (length (item_runs (item_of item) point)) (length (row_runs others point)) left none in
    so_far None (subst (λ (r : Row). RowLeft r point left None) (sym (row_seen row i item below is))
    (subst (λ (n : ℕ). IsLeft (row_turns (next (item_of item) others) point) n left None) (item_first (item_of item) others point) more))

-- ---- loops

abbrev pub LoopLeft : Row → List ℤ → List ℤ → Room → Option Room → Type 0
LoopLeft body point values room out = IsLeft (flat_map (turns_at body point) values) (length (flat_map (runs_at body point) values)) room out

-- what a loop leaves with the values that it has yet to take is what it leaves with all
abbrev pub LoopGoesOn : Row → List ℤ → List ℤ → List ℤ → Room → Room → Type 0
LoopGoesOn body point all values left room = (out : Option Room) → LoopLeft body point values left out → LoopLeft body point all room out

entered_turn : (value : ℤ) (left entered : Room) → IsSmall VALUE_SIZE value → record { turns = entered.turns + 1; instances = entered.instances } ≡ left → Leaves (value ∷ []) 0 left entered
entered_turn value left entered small is = record {
  small = (small, tt);
  turns = omega (arith, ap (λ (r : Room). r.turns) is);
  instances = omega (arith, ap (λ (r : Room). r.instances) is);
}

value_first : (body : Row) (point : List ℤ) (value : ℤ) (values : List ℤ) → length (row_runs body (point ++ value ∷ [])) + length (flat_map (runs_at body point) values)
    ≡ length (flat_map (runs_at body point) (value ∷ values))
value_first body point value values =
    omega (arith, length-append (runs_at body point value) (flat_map (runs_at body point) values), length-map (row_runs body (point ++ value ∷ [])) (at_value value))

-- the turn at a value and what the body takes there
body_taken : (body : Row) (point : List ℤ) (value : ℤ) (left entered : Room) (out : Option Room) → IsSmall VALUE_SIZE value → record { turns = entered.turns + 1; instances = entered.instances } ≡ left
    → RowLeft body (point ++ value ∷ []) entered out → IsLeft (turns_at body point value) (length (row_runs body (point ++ value ∷ []))) left out
body_taken body point value left entered out small is rest =
    subst (λ (n : ℕ). IsLeft (turns_at body point value) n left out) (none (length (row_runs body (point ++ value ∷ []))))
    (more_taken (value ∷ []) (row_turns body (point ++ value ∷ [])) 0 (length (row_runs body (point ++ value ∷ []))) left entered out (entered_turn value left entered small is) rest) where
      none : (n : ℕ) → 0 + n ≡ n
      none n = omega arith

pub turn_taken : (body : Row) (point all : List ℤ) (value : ℤ) (values : List ℤ) (left entered after room : Room) → IsSmall VALUE_SIZE value
    → record { turns = entered.turns + 1; instances = entered.instances } ≡ left → RowLeft body (point ++ value ∷ []) entered (Some after)
    → LoopGoesOn body point all (value ∷ values) left room → LoopGoesOn body point all values after room
turn_taken body point all value values left entered after room small is taken so_far out rest =
    let here = body_taken body point value left entered (Some after) small is taken in
    let more = more_taken (turns_at body point value) (flat_map (turns_at body point) values) (length (row_runs body (point ++ value ∷ [])))
    (length (flat_map (runs_at body point) values)) left after out here rest in
    so_far out (subst (λ (n : ℕ). IsLeft (flat_map (turns_at body point) (value ∷ values)) n left out) (value_first body point value values) more)

-- the loop has no room for its turn at a value, or for what its body takes there
stopped : (body : Row) (point all : List ℤ) (value : ℤ) (values : List ℤ) (left room : Room)
    → (HasRoom (turns_at body point value) (length (row_runs body (point ++ value ∷ []))) left → ⊥) → LoopGoesOn body point all (value ∷ values) left room → LoopLeft body point all room None
stopped body point all value values left room none so_far =
    let more = no_room (turns_at body point value) (flat_map (turns_at body point) values) (length (row_runs body (point ++ value ∷ [])))
    (length (flat_map (runs_at body point) values)) left none in
    so_far None (subst (λ (n : ℕ). IsLeft (flat_map (turns_at body point) (value ∷ values)) n left None) (value_first body point value values) more)

pub body_too_long : (body : Row) (point all : List ℤ) (value : ℤ) (values : List ℤ) (left entered room : Room) → IsSmall VALUE_SIZE value
    → record { turns = entered.turns + 1; instances = entered.instances } ≡ left → RowLeft body (point ++ value ∷ []) entered None
    → LoopGoesOn body point all (value ∷ values) left room → LoopLeft body point all room None
body_too_long body point all value values left entered room small is none so_far =
    stopped body point all value values left room (body_taken body point value left entered None small is none) so_far

pub no_turn_left : (body : Row) (point all : List ℤ) (value : ℤ) (values : List ℤ) (left room : Room) → left.turns ≡ 0
    → LoopGoesOn body point all (value ∷ values) left room → LoopLeft body point all room None
no_turn_left body point all value values left room none so_far = stopped body point all value values left room (λ has. absurd (omega (arith, has.turns, none))) so_far

pub all_taken : (body : Row) (point all : List ℤ) (left room : Room) → LoopGoesOn body point all [] left room → LoopLeft body point all room (Some left)
all_taken body point all left room so_far = so_far (Some left) (nothing_taken left)

-- ---- a loop that may not begin

values_many : (body : Row) (point values : List ℤ) → length values ≤ length (flat_map (turns_at body point) values)
values_many body point [] = omega arith
values_many body point (value ∷ values) =
    omega (arith, values_many body point values, length-append (turns_at body point value) (flat_map (turns_at body point) values))

natural_is : (z : ℤ) → pos 0 ≤ℤ z → pos (natural z) ≡ z
natural_is (pos n) h = refl
natural_is (negsuc n) h = absurd (omega (arith, ints))

begins : (body : Row) (point : List ℤ) (values : Values) (instances : ℕ) (room : Room) → HasRoom (flat_map (turns_at body point) (values_left values)) instances room → MayBegin values room
begins body point values instances room has le =
    let lower : ℤ = values.lower in
    let upper : ℤ = values.upper in
    let direction : Direction = direction_of values.down in
    let small = values_hold (IsSmall VALUE_SIZE) body point (values_left values) has.small in
    let whole : pos (range_size lower upper) ≡ (upper -ℤ lower) +ℤ pos 1 = natural_is ((upper -ℤ lower) +ℤ pos 1) (omega (arith, ints, le)) in
    let many : range_size lower upper ≤ room.turns = omega (arith, values_many body point (values_left values), has.turns, values_count direction lower upper) in (
      All-member (IsSmall VALUE_SIZE) (values_left values) lower small (values-has direction lower upper lower (omega (arith, ints)) le),
      All-member (IsSmall VALUE_SIZE) (values_left values) upper small (values-has direction lower upper upper le (omega (arith, ints))),
      omega (arith, ints, whole, many),
    )

-- the values of a loop that may begin are small
pub values_small : (values : Values) (room : Room) → MayBegin values room → AllByRecursion (IsSmall VALUE_SIZE) (values_left values)
values_small values room may = All-from (IsSmall VALUE_SIZE) (values_left values) one where
  one : (v : ℤ) → Member v (values_left values) → IsSmall VALUE_SIZE v
  one v m =
      let within = values-within (direction_of values.down) values.lower values.upper v m in
      let ends = may (omega (arith, ints, within.0, within.1)) in
      omega (arith, ints, ends.0, ends.1, within.0, within.1)

-- a loop that may not begin has no room
pub may_not_begin : (body : Row) (point : List ℤ) (values : Values) (room : Room) → (MayBegin values room → ⊥) → LoopLeft body point (values_left values) room None
may_not_begin body point values room not has = not (begins body point values (length (flat_map (runs_at body point) (values_left values))) room has)

-- ---- items

abbrev pub ItemLeft : ModelItem → List ℤ → Room → Option Room → Type 0
ItemLeft item point room out = IsLeft (item_turns item point) (length (item_runs item point)) room out

-- what a loop leaves
pub loop_left : (item : ModelItem) (name : List ℕ) (lower upper : AffineForm) (body : Row) (point : List ℤ) (values : Values) (room : Room) (out : Option Room)
    → item ≡ loop name (direction_of values.down) lower upper body
    → values.lower ≡ form_value lower point → values.upper ≡ form_value upper point → LoopLeft body point (values_left values) room out → ItemLeft item point room out
loop_left item name lower upper body point values room out is low high h =
    subst (λ (i : ModelItem). ItemLeft i point room out) (sym is)
    (subst (λ (v : ℤ). LoopLeft body point (loop_values (direction_of values.down) (form_value lower point) v) room out) high
    (subst (λ (v : ℤ). LoopLeft body point (loop_values (direction_of values.down) v values.upper) room out) low h))
