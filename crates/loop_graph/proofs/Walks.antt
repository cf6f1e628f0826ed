-- The instances of a loop and of a row, one after the other.
use Rattle.std.proofs.Common.{◌≡◌, refl, sym, ap, ◌∙◌, subst, ℕ, zero, suc, List, [], ◌∷◌, Bool, true, ◌++◌, ◌+◌, ◌<◌, length, drop, get_or, map, append_assoc, arith, Vec, Global}
use Rattle.std.specs.Prelude.{if◌then◌else◌, flat_map}
use Rattle.std.specs.List.{AllByRecursion}
use Rattle.std.proofs.Math.IntN.{ℤ}
use Rattle.std.proofs.lemmas.List.{append-nil, map-append, length-append}
use Rattle.affine_form.specs.Form.{IsSmall}
use Rattle.iolb_model.specs.Program.{Direction, Item as ModelItem, assign, loop, guard, Row, done, next, AffineProgram, ItemFits, RowFits}
use Rattle.iolb_model.specs.declared.limits.TheConstants.{VALUE_SIZE}
use Rattle.base_laws.proofs.Lists.{rest_at, All-push}
use Rattle.affine_program.specs.declared.item.Item.{Item}
use Rattle.affine_program.specs.declared.item.Item.TheVariants.{Loop, Guard, Assign, rolls-Loop, rolls-Guard, rolls-Assign}
use Rattle.affine_program.specs.declared.item.Item.TheOpen.{Loop as loop_layer, Guard as guard_layer, Assign as assign_layer}
use Rattle.affine_program.specs.declared.item.Item.TheFolds.{fold-roll-Item}
use Rattle.iolb_model.specs.Form.{AffineForm, are_met}
use Rattle.affine_form.specs.Rows.{direction_of}
use Rattle.affine_program.specs.Tree.{item_step, item_of, row_of}
use Rattle.iolb_model.specs.Execution.{Instance, at_value, item_runs, row_runs}
use Rattle.loop_graph.specs.Turns.{item_turns, row_turns}
use Rattle.loop_graph.specs.Runs.{with_point, run_of}
use Rattle.loop_graph.specs.declared.listed.Run.{Run}

-- ---- what holds of the turns

pub All-both : {X : Type 0} (P : X → Type 0) (xs ys : List X) → AllByRecursion P (xs ++ ys) → AllByRecursion P xs × AllByRecursion P ys
All-both P [] ys h = (tt, h)
All-both P (x ∷ xs) ys h = let more = All-both P xs ys h.1 in ((h.0, more.0), more.1)

-- the turns of a loop's body at a value, and that value
abbrev pub turns_at : Row → List ℤ → ℤ → List ℤ
turns_at body point value = value ∷ row_turns body (point ++ value ∷ [])

-- what holds of a loop's turns holds of its values
pub values_hold : (P : ℤ → Type 0) (body : Row) (point values : List ℤ) → AllByRecursion P (flat_map (turns_at body point) values) → AllByRecursion P values
values_hold P body point [] h = tt
values_hold P body point (value ∷ values) h =
    let both = All-both P (turns_at body point value) (flat_map (turns_at body point) values) h in (both.0.0, values_hold P body point values both.1)

-- ---- the instances of a loop

-- an instance of a loop's body at a value has one value more
point_more : (point : List ℤ) (value : ℤ) (runs : List Instance) → map (with_point point) (map (at_value value) runs) ≡ map (with_point (point ++ value ∷ [])) runs
point_more point value [] = refl
point_more point value (run ∷ runs) =
    ap (λ (values : List ℤ). (run.statement, values) ∷ map (with_point point) (map (at_value value) runs)) (sym (append_assoc point (value ∷ []) run.values))
    ∙ ap (λ (more : List (ℕ × List ℤ)). with_point (point ++ value ∷ []) run ∷ more) (point_more point value runs)

abbrev pub runs_at : Row → List ℤ → ℤ → List Instance
runs_at body point value = map (at_value value) (row_runs body (point ++ value ∷ []))

-- the instances of a loop's body at these values
abbrev pub loop_points : Row → List ℤ → List ℤ → List (ℕ × List ℤ)
loop_points body point values = map (with_point point) (flat_map (runs_at body point) values)

pub loop_goes_on : (body : Row) (point : List ℤ) (value : ℤ) (values : List ℤ) (before after total : List (ℕ × List ℤ))
    → after ≡ before ++ map (with_point (point ++ value ∷ [])) (row_runs body (point ++ value ∷ []))
    → before ++ loop_points body point (value ∷ values) ≡ total → after ++ loop_points body point values ≡ total
loop_goes_on body point value values before after total one so_far =
    let others = loop_points body point values in
    let here : map (with_point point) (runs_at body point value) ≡ map (with_point (point ++ value ∷ [])) (row_runs body (point ++ value ∷ [])) = point_more point value (row_runs body (point ++ value ∷ [])) in
    let split : loop_points body point (value ∷ values) ≡ map (with_point point) (runs_at body point value) ++ others = map-append (with_point point) (runs_at body point value) (flat_map (runs_at body point) values) in
    ap (λ (l : List (ℕ × List ℤ)). l ++ others) (one ∙ ap (λ (l : List (ℕ × List ℤ)). before ++ l) (sym here))
    ∙ append_assoc before (map (with_point point) (runs_at body point value)) others
    ∙ ap (λ (l : List (ℕ × List ℤ)). before ++ l) (sym split) ∙ so_far

-- ---- items, as those of the definitions

pub item_of-Loop : (name : List ℕ) (lower upper : AffineForm) (down : Bool) (body : Vec Item Global) → item_of (Loop name lower upper down body) ≡ loop name (direction_of down) lower upper (row_of body.items)
item_of-Loop name lower upper down body = ap item_of (sym (rolls-Loop name lower upper down body)) ∙ fold-roll-Item ModelItem item_step (loop_layer name lower upper down body)

pub item_of-Guard : (rows : Vec AffineForm Global) (body : Vec Item Global) → item_of (Guard rows body) ≡ guard rows.items (row_of body.items)
item_of-Guard rows body = ap item_of (sym (rolls-Guard rows body)) ∙ fold-roll-Item ModelItem item_step (guard_layer rows body)

pub item_of-Assign : (statement : ℕ) → item_of (Assign statement) ≡ assign statement
item_of-Assign statement = ap item_of (sym (rolls-Assign statement)) ∙ fold-roll-Item ModelItem item_step (assign_layer statement)

-- how many items, and rows in them, there are
mutual
  pub item_size : ModelItem → ℕ
  item_size (assign statement) = 0
  item_size (loop name direction lower upper body) = suc (row_size body)
  item_size (guard rows body) = suc (row_size body)

  pub row_size : Row → ℕ
  row_size done = 0
  row_size (next item row) = suc (item_size item + row_size row)

pub body_smaller : (t : ModelItem) (name : List ℕ) (direction : Direction) (lower upper : AffineForm) (body : Row) → t ≡ loop name direction lower upper body → row_size body < item_size t
unfolding item_size row_size
body_smaller t name direction lower upper body e = omega (arith, ap item_size e)

pub guarded_smaller : (t : ModelItem) (rows : List AffineForm) (body : Row) → t ≡ guard rows body → row_size body < item_size t
unfolding item_size row_size
guarded_smaller t rows body e = omega (arith, ap item_size e)

pub item_smaller : (row : List Item) (i : ℕ) (item : Item) → i < length row → item ≡ get_or row i item → item_size (item_of item) < row_size (row_of row)
unfolding item_size row_size
item_smaller [] i item below is = absurd (omega arith)
item_smaller (x ∷ row) zero item below is = omega (arith, ap (λ (y : Item). item_size (item_of y)) is)
item_smaller (x ∷ row) (suc i) item below is = let h = item_smaller row i item (omega arith) is in omega (arith, h)

-- ---- the instances of a row

pub row_seen : (row : List Item) (i : ℕ) (item : Item) → i < length row → item ≡ get_or row i item → row_of (drop i row) ≡ next (item_of item) (row_of (drop (i + 1) row))
row_seen row i item below is = ap row_of (rest_at row i item below is)

pub row_goes_on : (item : ModelItem) (rest : Row) (point : List ℤ) (before after total : List (ℕ × List ℤ)) → after ≡ before ++ map (with_point point) (item_runs item point)
    → before ++ map (with_point point) (row_runs (next item rest) point) ≡ total → after ++ map (with_point point) (row_runs rest point) ≡ total
row_goes_on item rest point before after total one so_far =
    let others = map (with_point point) (row_runs rest point) in
    ap (λ (l : List (ℕ × List ℤ)). l ++ others) one
    ∙ append_assoc before (map (with_point point) (item_runs item point)) others
    ∙ ap (λ (l : List (ℕ × List ℤ)). before ++ l) (sym (map-append (with_point point) (item_runs item point) (row_runs rest point))) ∙ so_far

-- what is asked for at an item of a row, and at the items behind it
abbrev pub ItemAsks : ModelItem → List ℤ → Type 0
ItemAsks item point = ((program : AffineProgram) × ItemFits program (length point) item) × AllByRecursion (IsSmall VALUE_SIZE) (item_turns item point)

abbrev pub RowAsks : Row → List ℤ → Type 0
RowAsks row point = ((program : AffineProgram) × RowFits program (length point) row) × AllByRecursion (IsSmall VALUE_SIZE) (row_turns row point)

pub row_asks : (row : List Item) (i : ℕ) (item : Item) (point : List ℤ) → i < length row → item ≡ get_or row i item → RowAsks (row_of (drop i row)) point
    → ItemAsks (item_of item) point × RowAsks (row_of (drop (i + 1) row)) point
row_asks row i item point below is asks =
    let seen : RowAsks (next (item_of item) (row_of (drop (i + 1) row))) point = subst (λ (r : Row). RowAsks r point) (row_seen row i item below is) asks in
    let turns = All-both (IsSmall VALUE_SIZE) (item_turns (item_of item) point) (row_turns (row_of (drop (i + 1) row)) point) seen.1 in
    (((seen.0.0, seen.0.1.0), turns.0), ((seen.0.0, seen.0.1.1), turns.1))

-- what is asked for at a loop's body, where the loop has yet to take these values
pub body_asks : (body : Row) (point inner : List ℤ) (value : ℤ) (values : List ℤ) → inner ≡ point ++ value ∷ [] → ((program : AffineProgram) × RowFits program (suc (length point)) body)
    → AllByRecursion (IsSmall VALUE_SIZE) point → AllByRecursion (IsSmall VALUE_SIZE) (flat_map (turns_at body point) (value ∷ values))
    → RowAsks body inner × AllByRecursion (IsSmall VALUE_SIZE) inner
body_asks body point inner value values is fits small turns =
    let first = All-both (IsSmall VALUE_SIZE) (turns_at body point value) (flat_map (turns_at body point) values) turns in
    let long : suc (length point) ≡ length inner = omega (arith, ap length is, length-append point (value ∷ [])) in (
      (
        (fits.0, subst (λ n. RowFits fits.0 n body) long fits.1),
        subst (λ (l : List ℤ). AllByRecursion (IsSmall VALUE_SIZE) (row_turns body l)) (sym is) first.0.1,
      ),
      subst (AllByRecursion (IsSmall VALUE_SIZE)) (sym is) (All-push (IsSmall VALUE_SIZE) point value small first.0.0),
    )

-- what is asked for at a guard's body, where its rows are met
pub guarded_asks : (item : ModelItem) (rows : List AffineForm) (body : Row) (point : List ℤ) → item ≡ guard rows body → are_met rows point ≡ true → ItemAsks item point → RowAsks body point
guarded_asks item rows body point is met asks =
    let here : ItemAsks (guard rows body) point = subst (λ (i : ModelItem). ItemAsks i point) is asks in
    ((here.0.0, here.0.1.1), subst (λ (b : Bool). AllByRecursion (IsSmall VALUE_SIZE) (if b then row_turns body point else [])) met here.1)

pub assign_done : (runs after : List Run) (run : Run) (statement : ℕ) (point : List ℤ) → after ≡ runs ++ run ∷ [] → run.statement ≡ statement → run.point.items ≡ point
    → map run_of after ≡ map run_of runs ++ map (with_point point) (item_runs (assign statement) point)
assign_done runs after run statement point is e f =
    let one : run_of run ≡ (statement, point ++ []) = cc (append-nil point) in
    ap (map run_of) is ∙ map-append run_of runs (run ∷ []) ∙ ap (λ (p : ℕ × List ℤ). map run_of runs ++ p ∷ []) one
