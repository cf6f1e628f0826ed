-- What Farkas multipliers show.
use Rattle.std.proofs.Common.{◌≡◌, ℕ, zero, suc, ◌+◌, ◌<◌, ◌≤◌, List, [], ◌∷◌, length, get_or, drop, map, arith, subst, sym, lit<, ◌∙◌, ap}
use Rattle.std.proofs.Math.IntN.{ℤ, pos, negsuc, ◌+ℤ◌, ◌*ℤ◌}
use lib.Signed.{◌≤ℤ◌}
use Rattle.std.specs.Prelude.{unsigned_abs}
use Rattle.std.proofs.lemmas.Int.{ints}
use Rattle.std.proofs.lemmas.List.{drop_more, ext_get_or, length-map, length-replicate}
use Rattle.std.specs.List.{AllByRecursion}
use Rattle.base_laws.proofs.Ring.{mul-nonneg}
use Rattle.iolb_model.specs.Form.{AffineForm, form_value}
use Rattle.affine_form.specs.Combination.{scale_form, constant_form, combination, coefficient_of}
use Rattle.affine_form.specs.Form.{variables, IsLegalForm, IsSmall}
use Rattle.affine_form.specs.Multipliers.{FarkasMultipliers, RowsRise, IsWeight}
use Rattle.affine_form.specs.Shown.{row_at, weighted_rows, NamesRows, row_sum, Shows, Follows, HasNoPoint, minus_one}
use Rattle.affine_form.specs.System.{AffineSystem, AllOver, IsMet}
use Rattle.affine_form.proofs.Combination.{get_or-scale, coefficient_of-combination, length-add_lists, form_value-scale, form_value-add, form_value-constant}
use Rattle.base_laws.proofs.Lists.{All-at, All-or}
use Rattle.iolb_model.specs.declared.limits.TheConstants.{MULTIPLIER_SIZE, COEFFICIENT_SIZE}

-- multipliers whose rows rise below a bound are no more than that
pub rising-few : (low high : ℕ) (ws : List (ℕ × ℕ)) → RowsRise ws → AllByRecursion (λ (w : ℕ × ℕ). w.0 < high) ws
    → AllByRecursion (λ (w : ℕ × ℕ). low ≤ w.0) ws → low ≤ high → length ws + low ≤ high
rising-few low high [] rise below above le = omega arith
rising-few low high (w ∷ ws) rise below above le =
    let rest : length ws + (w.0 + 1) ≤ high = rising-few (w.0 + 1) high ws rise.1 below.1 (weaken ws rise.0) (omega (arith, below.0))
    in omega (arith, above.0) where
      weaken : (vs : List (ℕ × ℕ)) → AllByRecursion (λ (v : ℕ × ℕ). w.0 < v.0) vs → AllByRecursion (λ (v : ℕ × ℕ). w.0 + 1 ≤ v.0) vs
      weaken [] h = tt
      weaken (v ∷ vs) h = (omega (arith, h.0), weaken vs h.1)

-- every number is at least 0
pub above_zero : (ws : List (ℕ × ℕ)) → AllByRecursion (λ (w : ℕ × ℕ). 0 ≤ w.0) ws
above_zero [] = tt
above_zero (w ∷ ws) = (omega arith, above_zero ws)

-- multipliers that name rows which are there are no more than the rows
pub named-few : (rows : List AffineForm) (ws : List (ℕ × ℕ)) → NamesRows rows ws → RowsRise ws → length ws ≤ length rows
named-few rows ws named rise =
    let h : length ws + 0 ≤ length rows = rising-few 0 (length rows) ws rise named (above_zero ws) (omega arith) in omega arith

-- the sum of rows has the system's variables
pub length-row_sum : (vars : ℕ) (rows : List AffineForm) (ws : List (ℕ × ℕ)) (rest : ℤ) → AllOver vars rows → NamesRows rows ws
    → length (combination (weighted_rows rows ws) (constant_form vars rest)).coefficients ≡ vars
length-row_sum vars rows [] rest over named = length-replicate vars (pos 0)
length-row_sum vars rows (w ∷ ws) rest over named =
    length-add_lists vars (map (λ (x : ℤ). pos w.1 *ℤ x) (row_at rows w.0).coefficients) (combination (weighted_rows rows ws) (constant_form vars rest)).coefficients
    (length-map (row_at rows w.0).coefficients (λ (x : ℤ). pos w.1 *ℤ x)
    ∙ All-at (λ (row : AffineForm). variables row ≡ vars) rows w.0 (record { coefficients = []; constant = pos 0 }) over named.0)
    (length-row_sum vars rows ws rest over named.1)

-- a shown goal has the system's variables
pub Shows-variables : (system : AffineSystem) (goal : AffineForm) (shown : FarkasMultipliers) → AllOver system.vars system.rows
    → Shows system goal shown → variables goal ≡ system.vars
Shows-variables system goal shown over h =
    sym (length-map goal.coefficients (λ (x : ℤ). pos shown.scale *ℤ x))
    ∙ ap (λ (f : AffineForm). length f.coefficients) h.identity
    ∙ length-row_sum system.vars system.rows shown.weights (pos shown.rest) over h.named

-- a shown goal's coefficients, times the scale, are those of the sum of rows
pub Shows-coefficient : (system : AffineSystem) (goal : AffineForm) (shown : FarkasMultipliers) (v : ℕ)
    → Shows system goal shown → (pos shown.scale *ℤ coefficient_of v goal) ≡ coefficient_of v (row_sum system shown)
Shows-coefficient system goal shown v h =
    sym (get_or-scale (pos shown.scale) goal.coefficients v) ∙ ap (coefficient_of v) h.identity

-- two forms with the same coefficients and constant are the same
same_form : (f g : AffineForm) → f.coefficients ≡ g.coefficients → f.constant ≡ g.constant → f ≡ g
same_form f g p q = ap (λ (xs : List ℤ). record { coefficients = xs; constant = f.constant }) p ∙ ap (λ (x : ℤ). record { coefficients = g.coefficients; constant = x }) q

-- a goal is shown where the coefficients and the constants agree
pub Shows-from : (system : AffineSystem) (goal : AffineForm) (shown : FarkasMultipliers) → AllOver system.vars system.rows
    → NamesRows system.rows shown.weights → variables goal ≡ system.vars
    → ((v : ℕ) → v < system.vars → (pos shown.scale *ℤ coefficient_of v goal) ≡ coefficient_of v (row_sum system shown))
    → (pos shown.scale *ℤ goal.constant) ≡ (row_sum system shown).constant → Shows system goal shown
Shows-from system goal shown over names same each last = record {
  named = names;
  identity = same_form (scale_form (pos shown.scale) goal) (row_sum system shown) (ext_get_or (pos 0) (map (λ (x : ℤ). pos shown.scale *ℤ x) goal.coefficients) (row_sum system shown).coefficients lengths agree) last;
} where
  left : length (map (λ (x : ℤ). pos shown.scale *ℤ x) goal.coefficients) ≡ system.vars
  left = length-map goal.coefficients (λ (x : ℤ). pos shown.scale *ℤ x) ∙ same

  lengths : length (map (λ (x : ℤ). pos shown.scale *ℤ x) goal.coefficients) ≡ length (row_sum system shown).coefficients
  lengths = left ∙ sym (length-row_sum system.vars system.rows shown.weights (pos shown.rest) over names)

  agree : (i : ℕ) → i < length (map (λ (x : ℤ). pos shown.scale *ℤ x) goal.coefficients)
      → get_or (map (λ (x : ℤ). pos shown.scale *ℤ x) goal.coefficients) i (pos 0) ≡ get_or (row_sum system shown).coefficients i (pos 0)
  agree i p = get_or-scale (pos shown.scale) goal.coefficients i ∙ each i (subst (λ (n : ℕ). i < n) left p)

-- the sum of rows is at least 0 where all rows are
row_sum-nonneg : (rows : List AffineForm) (ws : List (ℕ × ℕ)) (vars rest : ℕ) (point : List ℤ) → NamesRows rows ws → IsMet rows point
    → pos 0 ≤ℤ form_value (combination (weighted_rows rows ws) (constant_form vars (pos rest))) point
row_sum-nonneg rows [] vars rest point named met = rw (form_value-constant vars (pos rest) point) (omega (arith, ints))
row_sum-nonneg rows (w ∷ ws) vars rest point named met =
    let row = row_at rows w.0 in
    let others = combination (weighted_rows rows ws) (constant_form vars (pos rest)) in
    let above : pos 0 ≤ℤ form_value row point = All-at (λ (r : AffineForm). pos 0 ≤ℤ form_value r point) rows w.0 (record { coefficients = []; constant = pos 0 }) met named.0 in
    let product : pos 0 ≤ℤ (pos w.1 *ℤ form_value row point) = mul-nonneg (pos w.1) (form_value row point) (omega (arith, ints)) above in
    let tail : pos 0 ≤ℤ form_value others point = row_sum-nonneg rows ws vars rest point named.1 met in
    rw (form_value-add (scale_form (pos w.1) row) others point, form_value-scale (pos w.1) row point) (omega (arith, ints))

-- a number that is at least 0 after a multiplication by a positive one was so before
positive : (n : ℕ) (x : ℤ) → 1 ≤ n → pos 0 ≤ℤ (pos n *ℤ x) → pos 0 ≤ℤ x
positive n (pos k) p h = omega (arith, ints)
positive zero (negsuc k) p h = absurd (omega arith)
positive (suc n) (negsuc k) p h = absurd (grind (arith, ints))

-- what is shown follows
pub Shows-follows : (system : AffineSystem) (goal : AffineForm) (shown : FarkasMultipliers) → 1 ≤ shown.scale
    → Shows system goal shown → Follows system goal
Shows-follows system goal shown some h point met =
    positive shown.scale (form_value goal point) some
    (subst (λ (z : ℤ). pos 0 ≤ℤ z) (ap (λ (f : AffineForm). form_value f point) (sym h.identity) ∙ form_value-scale (pos shown.scale) goal point)
    (row_sum-nonneg system.rows shown.weights system.vars shown.rest point h.named met))

-- a system from which -1 is shown has no point
pub Shows-none : (system : AffineSystem) (shown : FarkasMultipliers) → 1 ≤ shown.scale
    → Shows system (minus_one system.vars) shown → HasNoPoint system
Shows-none system shown some h point met =
    let below : pos 0 ≤ℤ negsuc 0 = subst (λ (z : ℤ). pos 0 ≤ℤ z) (form_value-constant system.vars (negsuc 0) point) (Shows-follows system (minus_one system.vars) shown some h point met)
    in omega (arith, ints)

-- one row more in a running sum of coefficients
pub coefficient-step : (rows : List AffineForm) (ws : List (ℕ × ℕ)) (start : AffineForm) (v k : ℕ) (w d : ℕ × ℕ) (sum x z total : ℤ)
    → k < length ws → w ≡ get_or ws k d → x ≡ coefficient_of v (row_at rows w.0) → z ≡ sum +ℤ (pos w.1 *ℤ x)
    → (sum +ℤ coefficient_of v (combination (weighted_rows rows (drop k ws)) start)) ≡ total
    → (z +ℤ coefficient_of v (combination (weighted_rows rows (drop (k + 1) ws)) start)) ≡ total
coefficient-step rows ws start v k w d sum x z total below read is step h =
    let first : coefficient_of v (combination (weighted_rows rows (drop k ws)) start) ≡ (pos w.1 *ℤ x) +ℤ coefficient_of v (combination (weighted_rows rows (drop (k + 1) ws)) start)
    = ap (λ (vs : List (ℕ × ℕ)). coefficient_of v (combination (weighted_rows rows vs) start)) (drop_more ws k d below ∙ ap (λ (y : ℕ × ℕ). y ∷ drop (k + 1) ws) (sym read))
    ∙ coefficient_of-combination v (pos w.1) (row_at rows w.0) (weighted_rows rows (drop (k + 1) ws)) start
    ∙ ap (λ (y : ℤ). (pos w.1 *ℤ y) +ℤ coefficient_of v (combination (weighted_rows rows (drop (k + 1) ws)) start)) (sym is)
    in omega (arith, ints)

-- one row more in a running sum of constants
pub constant-step : (rows : List AffineForm) (ws : List (ℕ × ℕ)) (start : AffineForm) (k : ℕ) (w d : ℕ × ℕ) (sum x z total : ℤ)
    → k < length ws → w ≡ get_or ws k d → x ≡ (row_at rows w.0).constant → z ≡ sum +ℤ (pos w.1 *ℤ x)
    → (sum +ℤ (combination (weighted_rows rows (drop k ws)) start).constant) ≡ total
    → (z +ℤ (combination (weighted_rows rows (drop (k + 1) ws)) start).constant) ≡ total
constant-step rows ws start k w d sum x z total below read is step h =
    let first : (combination (weighted_rows rows (drop k ws)) start).constant ≡ (pos w.1 *ℤ x) +ℤ (combination (weighted_rows rows (drop (k + 1) ws)) start).constant
    = ap (λ (vs : List (ℕ × ℕ)). (combination (weighted_rows rows vs) start).constant) (drop_more ws k d below ∙ ap (λ (y : ℕ × ℕ). y ∷ drop (k + 1) ws) (sym read))
    ∙ ap (λ (y : ℤ). (pos w.1 *ℤ y) +ℤ (combination (weighted_rows rows (drop (k + 1) ws)) start).constant) (sym is)
    in omega (arith, ints)

-- the weights of multipliers that name rows of a system are few
pub weights-few : (rows : List AffineForm) (ws vs : List (ℕ × ℕ)) → ws ≡ vs → NamesRows rows vs → RowsRise vs → length rows ≤ 128 → length ws ≤ 128
weights-few rows ws vs e named rise few =
    subst (λ (us : List (ℕ × ℕ)). length us ≤ 128) (sym e) (omega (arith, named-few rows vs named rise))

-- and each is small
pub weight-small : (ws vs : List (ℕ × ℕ)) (k : ℕ) (z : ℤ) → ws ≡ vs → AllByRecursion IsWeight vs → k < length ws
    → z ≡ pos (get_or ws k (0, 0)).1 → unsigned_abs z < MULTIPLIER_SIZE
weight-small ws vs k z e small below is =
    subst (λ (y : ℤ). unsigned_abs y < MULTIPLIER_SIZE) (sym is) (All-at IsWeight ws k (0, 0) (subst (AllByRecursion IsWeight) (sym e) small) below).1

-- and names a row that is there
pub weight-named : (rows : List AffineForm) (ws vs : List (ℕ × ℕ)) (k : ℕ) → ws ≡ vs → NamesRows rows vs → k < length ws
    → (get_or ws k (0, 0)).0 < length rows
weight-named rows ws vs k e named below =
    All-at (λ (w : ℕ × ℕ). w.0 < length rows) ws k (0, 0) (subst (NamesRows rows) (sym e) named) below

-- a coefficient of a form of the program is small
pub coefficient-small : (form : AffineForm) (xs : List ℤ) (v : ℕ) → xs ≡ form.coefficients → IsLegalForm form → unsigned_abs (get_or xs v (pos 0)) < COEFFICIENT_SIZE
coefficient-small form xs v e legal =
    All-or (IsSmall COEFFICIENT_SIZE) xs v (pos 0) (subst (AllByRecursion (IsSmall COEFFICIENT_SIZE)) (sym e) legal.1.0) (lit< tt)

-- a constant of a form of the program is small
pub constant-small : (form : AffineForm) (x : ℤ) → x ≡ form.constant → IsLegalForm form → unsigned_abs x < COEFFICIENT_SIZE
constant-small form x e legal = subst (λ (y : ℤ). unsigned_abs y < COEFFICIENT_SIZE) (sym e) legal.1.1
