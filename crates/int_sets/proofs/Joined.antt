-- What halves that make a short list have in common with the goal.
use Rattle.std.proofs.Common.{◌≡◌, sym, subst, ◌∙◌, ap, ℕ, zero, suc, ◌<◌, ◌≤◌, List, [], ◌∷◌, ◌++◌, length, take, drop, arith, inl, inr, take-append-drop}
use Rattle.std.specs.List.{AllByRecursion}
use Rattle.std.proofs.Math.IntN.{ℤ, pos, ◌+ℤ◌, ◌-ℤ◌}
use Rattle.std.proofs.lemmas.Int.{ints}
use Rattle.std.proofs.lemmas.List.{length-append}
use Rattle.base_laws.proofs.Ring.{one-mul}
use Rattle.base_laws.proofs.Lists.{All-append, All-weaken}
use Rattle.iolb_model.specs.Form.{AffineForm, dot}
use Rattle.affine_form.specs.Combination.{scale_form, constant_form, combination}
use Rattle.affine_form.specs.Multipliers.{IsWeight, RowsRise}
use Rattle.affine_form.specs.Shown.{NamesRows, Shows, weighted_rows}
use Rattle.affine_form.specs.System.{AffineSystem}
use Rattle.affine_form.proofs.Combination.{dot-scale}
use Rattle.int_sets.specs.ShortList.{HasShortList, IsOnceOrTwice, RowsDiffer}
use Rattle.int_sets.specs.Fingerprint.{value_at_point}
use Rattle.int_sets.specs.Halves.{Holds, HoldUpTo, IsHalf, Joins, NeverJoins, sum_of, weights_of}
use Rattle.int_sets.specs.Chains.{half_at}
use Rattle.int_sets.specs.declared.half.Half.{Half}
use Rattle.int_sets.specs.declared.fingerprint.TheConstants.{POINT}
use Rattle.int_sets.proofs.Sums.{value-append, value-rest, constant-append, constant-rest}
use Rattle.int_sets.proofs.Sorting.{ordered}

-- the goal's value is the sum of the halves' values
pub joins-value : (system : AffineSystem) (goal : AffineForm) (first second : Half) (rest : ℕ) → IsHalf system.rows first → IsHalf system.rows second
    → Joins system goal first second rest → value_at_point goal ≡ first.value +ℤ second.value
joins-value system goal first second rest f s joins =
    let ws = weights_of first in
    let vs = weights_of second in
    let left : value_at_point goal ≡ dot (scale_form (pos 1) goal).coefficients POINT = sym (dot-scale (pos 1) goal.coefficients POINT ∙ one-mul (value_at_point goal)) in
    left ∙ ap value_at_point joins.shows.identity ∙ value-rest system.rows (ws ++ vs) system.vars (pos rest) ∙ value-append system.rows ws vs
    ∙ ap (λ (z : ℤ). z +ℤ value_at_point (sum_of system.rows vs)) (sym f.value) ∙ ap (λ (z : ℤ). first.value +ℤ z) (sym s.value)

-- the goal's constant is the sum of the halves' constants and the number beside them
pub joins-constant : (system : AffineSystem) (goal : AffineForm) (first second : Half) (rest : ℕ) → IsHalf system.rows first → IsHalf system.rows second
    → Joins system goal first second rest → goal.constant ≡ (first.constant +ℤ second.constant) +ℤ pos rest
joins-constant system goal first second rest f s joins =
    let ws = weights_of first in
    let vs = weights_of second in
    sym (one-mul goal.constant) ∙ ap (λ (form : AffineForm). form.constant) joins.shows.identity ∙ constant-rest system.rows (ws ++ vs) system.vars (pos rest)
    ∙ ap (λ (z : ℤ). z +ℤ pos rest)
    (constant-append system.rows ws vs ∙ ap (λ (z : ℤ). z +ℤ (sum_of system.rows vs).constant) (sym f.constant) ∙ ap (λ (z : ℤ). first.constant +ℤ z) (sym s.constant))

-- rows taken once or twice have small multipliers
pub small-weights : (ws : List (ℕ × ℕ)) → AllByRecursion IsOnceOrTwice ws → AllByRecursion IsWeight ws
small-weights ws taken = All-weaken IsOnceOrTwice IsWeight ws (λ w once. (once.0, omega (arith, once.1))) taken

-- rising rows differ
pub rising-different : (ws : List (ℕ × ℕ)) → RowsRise ws → RowsDiffer ws
rising-different [] rise = tt
rising-different (w ∷ ws) rise =
    (All-weaken (λ (v : ℕ × ℕ). w.0 < v.0) (λ (v : ℕ × ℕ). w.0 ≡ v.0 → ⊥) ws (λ v less same. omega (arith, less, same)) rise.0, rising-different ws rise.1)

-- what is held stands at a place
Holds-place : (halves : List Half) (ws : List (ℕ × ℕ)) → Holds halves ws → (k : ℕ) × (k < length halves) × (weights_of (half_at halves k) ≡ ws)
Holds-place [] ws h = absurd h
Holds-place (half ∷ halves) ws (inl e) = (0, omega arith, e)
Holds-place (half ∷ halves) ws (inr h) =
    let there = Holds-place halves ws h in (suc there.0, omega (arith, there.1), there.2)

take-few : (n : ℕ) (ws : List (ℕ × ℕ)) → length (take n ws) ≤ n
take-few zero [] = omega arith
take-few zero (w ∷ ws) = omega arith
take-few (suc n) [] = omega arith
take-few (suc n) (w ∷ ws) = omega (arith, take-few n ws)

drop-few : (ws : List (ℕ × ℕ)) → length ws ≤ 4 → length (drop 2 ws) ≤ 2
drop-few [] few = omega arith
drop-few (v ∷ []) few = omega arith
drop-few (v ∷ w ∷ ws) few = omega arith

All-front : (P : ℕ × ℕ → Type 0) (n : ℕ) (ws : List (ℕ × ℕ)) → AllByRecursion P ws → AllByRecursion P (take n ws)
All-front P zero [] h = tt
All-front P zero (w ∷ ws) h = tt
All-front P (suc n) [] h = tt
All-front P (suc n) (w ∷ ws) h = (h.0, All-front P n ws h.1)

All-back : (P : ℕ × ℕ → Type 0) (n : ℕ) (ws : List (ℕ × ℕ)) → AllByRecursion P ws → AllByRecursion P (drop n ws)
All-back P zero [] h = tt
All-back P zero (w ∷ ws) h = h
All-back P (suc n) [] h = tt
All-back P (suc n) (w ∷ ws) h = All-back P n ws h.1

rise-front : (n : ℕ) (ws : List (ℕ × ℕ)) → RowsRise ws → RowsRise (take n ws)
rise-front zero [] h = tt
rise-front zero (w ∷ ws) h = tt
rise-front (suc n) [] h = tt
rise-front (suc n) (w ∷ ws) h = (All-front (λ (v : ℕ × ℕ). w.0 < v.0) n ws h.0, rise-front n ws h.1)

rise-back : (n : ℕ) (ws : List (ℕ × ℕ)) → RowsRise ws → RowsRise (drop n ws)
rise-back zero [] h = tt
rise-back zero (w ∷ ws) h = h
rise-back (suc n) [] h = tt
rise-back (suc n) (w ∷ ws) h = rise-back n ws h.1

-- where no two halves make it so, no short list shows the goal
pub no-short-list : (system : AffineSystem) (goal : AffineForm) (halves : List Half) → HoldUpTo 2 system.rows halves
    → ((i k : ℕ) → i < length halves → k < length halves → NeverJoins system goal (half_at halves i) (half_at halves k)) → HasShortList system goal → ⊥
no-short-list system goal halves all never (list, short, shows) =
    let sorting = ordered system.rows list.weights short.different in
    let ws = sorting.0 in
    let taken : AllByRecursion IsOnceOrTwice ws = sorting.1.members IsOnceOrTwice short.taken in
    let named : NamesRows system.rows ws = sorting.1.members (λ (weight : ℕ × ℕ). weight.0 < length system.rows) shows.named in
    let few : length ws ≤ 4 = omega (arith, sorting.1.as_many, short.few) in
    let front = Holds-place halves (take 2 ws)
    (all (take 2 ws) (take-few 2 ws) (All-front (λ (weight : ℕ × ℕ). weight.0 < length system.rows) 2 ws named) (All-front IsOnceOrTwice 2 ws taken) (rise-front 2 ws sorting.1.rising)) in
    let back = Holds-place halves (drop 2 ws)
    (all (drop 2 ws) (drop-few ws few) (All-back (λ (weight : ℕ × ℕ). weight.0 < length system.rows) 2 ws named) (All-back IsOnceOrTwice 2 ws taken) (rise-back 2 ws sorting.1.rising)) in
    let whole : weights_of (half_at halves front.0) ++ weights_of (half_at halves back.0) ≡ ws =
    ap (λ (us : List (ℕ × ℕ)). us ++ weights_of (half_at halves back.0)) front.2 ∙ ap (λ (us : List (ℕ × ℕ)). take 2 ws ++ us) back.2 ∙ take-append-drop 2 ws in
    never front.0 back.0 front.1 back.1 list.rest (record {
      small = short.rest;
      rising = subst RowsRise (sym whole) sorting.1.rising;
      shows = subst (λ (us : List (ℕ × ℕ)). Shows system goal (record { scale = 1; rest = list.rest; weights = us })) (sym whole) (record {
        named = named;
        identity = subst (λ (n : ℕ). scale_form (pos n) goal ≡ combination (weighted_rows system.rows list.weights) (constant_form system.vars (pos list.rest))) short.scale shows.identity
            ∙ sym (sorting.1.sum (constant_form system.vars (pos list.rest)));
      });
    })

-- what is left of a sum
pub left_over : (v a b d : ℤ) → d ≡ v -ℤ a → v ≡ a +ℤ b → d ≡ b
left_over v a b d p q = omega (arith, ints)

-- what is left of a sum and a number
pub left_above : (v a b d r : ℤ) → d ≡ v -ℤ a → v ≡ (a +ℤ b) +ℤ r → d ≡ b +ℤ r
left_above v a b d r p q = omega (arith, ints)

-- a number that is left over is the same
pub same-rest : (v b : ℤ) (r s : ℕ) → v ≡ b +ℤ pos r → v ≡ b +ℤ pos s → r ≡ s
same-rest v b r s p q = omega (arith, ints)

-- two halves have at most four rows, each once or twice
pub halves-few : (rows : List AffineForm) (first second : Half) (ws : List (ℕ × ℕ)) → IsHalf rows first → IsHalf rows second
    → ws ≡ weights_of first ++ weights_of second → length ws ≤ 4
halves-few rows first second ws f s e =
    let left : length (weights_of first) ≤ first.count = take-few first.count first.rows in
    let right : length (weights_of second) ≤ second.count = take-few second.count second.rows in
    omega (arith, ap length e, length-append (weights_of first) (weights_of second), f.few, s.few)

pub halves-taken : (rows : List AffineForm) (first second : Half) (ws : List (ℕ × ℕ)) → IsHalf rows first → IsHalf rows second
    → ws ≡ weights_of first ++ weights_of second → AllByRecursion IsOnceOrTwice ws
halves-taken rows first second ws f s e = subst (AllByRecursion IsOnceOrTwice) (sym e) (All-append IsOnceOrTwice (weights_of first) (weights_of second) f.taken s.taken)
