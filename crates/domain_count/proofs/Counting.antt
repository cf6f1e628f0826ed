-- Right claims count the points.
use Rattle.std.proofs.Common.{◌≡◌, refl, sym, ◌∙◌, ap, subst, ℕ, suc, ◌+◌, ◌<◌, ◌≤◌, List, [], ◌∷◌, ◌++◌, length, map, take, arith}
use Rattle.std.specs.Prelude.{⊤}
use Rattle.std.proofs.Math.IntN.{ℤ, pos, ◌+ℤ◌, ◌-ℤ◌, ◌*ℤ◌}
use Rattle.std.proofs.Math.Seq.{take-append_seam, get_or-append_seam}
use lib.Signed.{◌≤ℤ◌}
use Rattle.std.proofs.lemmas.Int.{ints}
use Rattle.std.proofs.lemmas.List.{append_assoc, append-nil, length-append, length-map, map-append}
use Rattle.base_laws.proofs.Lists.{All-append}
use Rattle.iolb_model.specs.Form.{AffineForm, dot, form_value}
use Rattle.iolb_model.specs.Program.{AffineProgram, IsWellFormed}
use Rattle.iolb_model.specs.Bound.{IsAdmitted}
use Rattle.iolb_model.specs.Domain.{IsWithin}
use Rattle.affine_form.specs.Multipliers.{FarkasMultipliers}
use Rattle.affine_form.specs.Substitution.{values_at}
use Rattle.affine_form.specs.System.{IsMet}
use Rattle.affine_form.proofs.ShownLemmas.{Shows-follows}
use Rattle.affine_form.specs.Rows.{BoundsFit, widened, variables_from, within_rows}
use Rattle.affine_form.proofs.Meaning.{form_value-difference, values-end, values-front, widened-met, within_rows-met}
use Rattle.poly_tree.specs.Expansion.{at, put, value}
use Rattle.poly_tree.specs.Poly.{Quotient, numerator_at}
use Rattle.domain_count.specs.Points.{points}
use Rattle.domain_count.specs.Antidifference.{IsSummed}
use Rattle.domain_count.specs.Count.{AreShownBelow, IsSumFrom, RightClaimsCount, ShowsRange, bounds_at, multipliers_at, rows_before, range_goal}
use Rattle.domain_count.proofs.Fractions.{difference-value, between-value}
use Rattle.domain_count.proofs.Places.{at-last, put-behind, put-last}
use Rattle.domain_count.proofs.Telescope.{range-telescopes}

-- at each point all ranges are whole
abbrev pub RangesAreWhole : List (AffineForm × AffineForm) → List ℤ → Type 0
RangesAreWhole [] before = ⊤
RangesAreWhole (bounds ∷ nest) before =
    (pos 0 ≤ℤ ((form_value bounds.1 before -ℤ form_value bounds.0 before) +ℤ pos 1))
    × ((x : ℤ) → form_value bounds.0 before ≤ℤ x → x ≤ℤ form_value bounds.1 before → RangesAreWhole nest (before ++ x ∷ []))

longer : {X : Type 0} (xs : List X) (x : X) → suc (length xs) ≡ length (xs ++ x ∷ [])
longer xs x = omega (arith, length-append xs (x ∷ []))

-- a polynomial's numerator where a point has this value behind others
last_value : Quotient → List ℤ → ℤ → ℤ
last_value sum before x = value sum.tree (at (before ++ x ∷ []))

-- one summation: where the summand counts the points behind each value, the sum counts the points behind all values
summed-counts : (bounds : AffineForm × AffineForm) (nest : List (AffineForm × AffineForm)) (summand sum total : Quotient) (before : List ℤ)
    → length bounds.0.coefficients ≤ length before → length bounds.1.coefficients ≤ length before → IsSummed (length before) bounds summand sum total
    → pos 0 ≤ℤ ((form_value bounds.1 before -ℤ form_value bounds.0 before) +ℤ pos 1)
    → 1 ≤ summand.denominator
    → ((x : ℤ) → form_value bounds.0 before ≤ℤ x → x ≤ℤ form_value bounds.1 before
    → numerator_at summand (before ++ x ∷ []) ≡ pos (length (points nest (before ++ x ∷ []))) *ℤ pos summand.denominator)
    → numerator_at total before ≡ pos (length (points (bounds ∷ nest) before)) *ℤ pos total.denominator
unfolding last_value
summed-counts bounds nest summand sum total before over0 over1 is whole some counts =
    let var = length before in
    let lower = form_value bounds.0 before in
    let upper = form_value bounds.1 before in
    let anti = is.antidifference in
    let shifted = anti.backward.shifted in
    let pieces : ℤ → List (List ℤ) = λ x. map (λ (point : List ℤ). x ∷ point) (points nest (before ++ x ∷ [])) in
    let step : (x : ℤ) → lower ≤ℤ x → x ≤ℤ upper → pos (length (pieces x)) *ℤ pos sum.denominator ≡ last_value sum before x -ℤ last_value sum before (x -ℤ pos 1)
    = λ x p q. let point = before ++ x ∷ [] in
    ap (λ (n : ℕ). pos n *ℤ pos sum.denominator) (length-map (points nest point) (λ (tail : List ℤ). x ∷ tail))
    ∙ difference-value sum.denominator shifted.denominator anti.difference.denominator summand.denominator
    (last_value sum before x) (last_value sum before (x -ℤ pos 1)) (numerator_at shifted point) (numerator_at anti.difference point) (numerator_at summand point) (pos (length (points nest point)))
    anti.backward.shift.legal.positive anti.backward.less.legal.positive some
    (anti.backward.shift.value point ∙ ap (λ (f : ℕ → ℤ). value sum.tree f *ℤ pos shifted.denominator)
    (ap (λ (z : ℤ). put (at point) var (z -ℤ pos 1)) (at-last before x) ∙ put-last before x (x -ℤ pos 1)))
    (anti.backward.less.value point) (anti.same point) (counts x p q) in
    let number : pos (length (points (bounds ∷ nest) before)) *ℤ pos sum.denominator ≡ last_value sum before upper -ℤ last_value sum before (lower -ℤ pos 1)
    = range-telescopes lower upper (pos sum.denominator) pieces (last_value sum before) whole step in
    between-value sum.denominator is.between.upper.denominator is.between.lower.denominator total.denominator
    (last_value sum before upper) (last_value sum before (lower -ℤ pos 1)) (numerator_at is.between.upper before) (numerator_at is.between.lower before) (numerator_at total before)
    (pos (length (points (bounds ∷ nest) before))) is.legal.positive is.between.at_upper.legal.positive is.between.at_lower.legal.positive
    (is.between.at_upper.value before over1 ∙ ap (λ (f : ℕ → ℤ). value sum.tree f *ℤ pos is.between.upper.denominator) (put-behind before upper))
    (is.between.at_lower.value before over0
    ∙ ap (λ (f : ℕ → ℤ). value sum.tree f *ℤ pos is.between.lower.denominator)
    (ap (λ (z : ℤ). put (at before) var z) (less (dot bounds.0.coefficients before) bounds.0.constant) ∙ put-behind before (lower -ℤ pos 1)))
    (is.between.less.value before) number where
      less : (a b : ℤ) → a +ℤ (b -ℤ pos 1) ≡ (a +ℤ b) -ℤ pos 1
      less a b = omega (arith, ints)

-- the denominator of what the sums give is at least 1
pub positive-from : (var : ℕ) (nest : List (AffineForm × AffineForm)) (sums : List Quotient) (total : Quotient) → IsSumFrom var nest sums total → 1 ≤ total.denominator
positive-from var [] sums total h = omega (arith, ap (λ (q : Quotient). q.denominator) h)
positive-from var (bounds ∷ nest) [] total h = absurd h
positive-from var (bounds ∷ nest) (sum ∷ sums) total h = h.1.1.between.less.legal.positive

-- what the sums give counts the points where all ranges are whole
counted : (nest : List (AffineForm × AffineForm)) (sums : List Quotient) (total : Quotient) (before : List ℤ) → BoundsFit (length before) nest → RangesAreWhole nest before
    → IsSumFrom (length before) nest sums total → numerator_at total before ≡ pos (length (points nest before)) *ℤ pos total.denominator
counted [] sums total before fit whole h =
    ap (λ (q : Quotient). numerator_at q before) h ∙ sym (ap (λ (q : Quotient). pos 1 *ℤ pos q.denominator) h)
counted (bounds ∷ nest) [] total before fit whole h = absurd h
counted (bounds ∷ nest) (sum ∷ sums) total before fit whole h =
    summed-counts bounds nest h.0 sum total before (omega (arith, fit.0.0.over)) (omega (arith, fit.0.1.over)) h.1.1 whole.0 (positive-from (suc (length before)) nest sums h.0 h.1.0)
    (λ x p q. counted nest sums h.0 (before ++ x ∷ []) (subst (λ (n : ℕ). BoundsFit n nest) (longer before x) fit.1) (whole.1 x p q)
    (subst (λ (n : ℕ). IsSumFrom n nest sums h.0) (longer before x) h.1.0))

-- a value more within its bounds
within-more : (loops : List (AffineForm × AffineForm)) (bounds : AffineForm × AffineForm) (point xs : List ℤ) (x : ℤ) → IsWithin loops point xs
    → form_value bounds.0 (point ++ xs) ≤ℤ x → x ≤ℤ form_value bounds.1 (point ++ xs) → IsWithin (loops ++ bounds ∷ []) point (xs ++ x ∷ [])
within-more [] bounds point [] x h p q =
    let same = append-nil point in (
      subst (λ (ps : List ℤ). form_value bounds.0 ps ≤ℤ x) same p,
      subst (λ (ps : List ℤ). x ≤ℤ form_value bounds.1 ps) same q,
      tt,
    )
within-more [] bounds point (y ∷ xs) x h p q = absurd h
within-more (first ∷ loops) bounds point [] x h p q = absurd h
within-more (first ∷ loops) bounds point (y ∷ xs) x h p q =
    let same = append_assoc point (y ∷ []) xs in (
      h.0,
      h.1,
      within-more loops bounds (point ++ y ∷ []) xs x h.2 (subst (λ (ps : List ℤ). form_value bounds.0 ps ≤ℤ x) (sym same) p)
          (subst (λ (ps : List ℤ). x ≤ℤ form_value bounds.1 ps) (sym same) q),
    )

-- a shown range is whole at values within the bounds of the variables before
range-whole : (program : AffineProgram) (before : List (AffineForm × AffineForm)) (bounds : AffineForm × AffineForm) (shown : FarkasMultipliers) (values xs : List ℤ)
    → IsWellFormed program → IsAdmitted program values → length xs ≡ length before → IsWithin before values xs → ShowsRange program before bounds shown
    → pos 0 ≤ℤ ((form_value bounds.1 (values ++ xs) -ℤ form_value bounds.0 (values ++ xs)) +ℤ pos 1)
range-whole program before bounds shown values xs formed admitted same within shows =
    let params = length program.parameters in
    let vars = params + length before in
    let front = values-front vars params values xs (sym admitted.each) (omega arith) in
    let end = values-end vars params (length before) values xs (sym admitted.each) (sym same) (omega arith) in
    let point = values ++ xs in
    let assumed : IsMet (map (widened vars) program.assumptions) point
    = widened-met vars params program.assumptions values xs formed.assumptions (sym admitted.each) admitted.met in
    let ranges : IsMet (within_rows vars before (variables_from vars 0 params) (variables_from vars params (length before))) point
    = within_rows-met vars before (variables_from vars 0 params) (variables_from vars params (length before)) point
    (subst (λ (ps : List ℤ). IsWithin before ps (values_at (variables_from vars params (length before)) point)) (sym front)
    (subst (λ (ys : List ℤ). IsWithin before values ys) (sym end) within)) in
    subst (λ (z : ℤ). pos 0 ≤ℤ z) (form_value-difference vars bounds.1 bounds.0 (pos 1) point)
    (Shows-follows (rows_before program before) (range_goal vars bounds) shown shows.0 shows.1 point
    (All-append (λ (row : AffineForm). pos 0 ≤ℤ form_value row point) (map (widened vars) program.assumptions)
    (within_rows vars before (variables_from vars 0 params) (variables_from vars params (length before))) assumed ranges))

-- all ranges are whole where all are shown
ranges-whole : (program : AffineProgram) (nest before rest : List (AffineForm × AffineForm)) (shown : List FarkasMultipliers) (values xs : List ℤ)
    → IsWellFormed program → IsAdmitted program values → nest ≡ before ++ rest → length xs ≡ length before → IsWithin before values xs
    → AreShownBelow program nest shown (length nest) → RangesAreWhole rest (values ++ xs)
ranges-whole program nest before [] shown values xs formed admitted split same within all = tt
ranges-whole program nest before (bounds ∷ rest) shown values xs formed admitted split same within all =
    let k = length before in
    let below : k < length nest = omega (arith, ap length split, length-append before (bounds ∷ rest)) in
    let first : take k nest ≡ before = ap (take k) split ∙ take-append_seam before (bounds ∷ rest) in
    let here : bounds_at nest k ≡ bounds = ap (λ (n : List (AffineForm × AffineForm)). bounds_at n k) split ∙ get_or-append_seam before bounds rest (bounds_at [] 0) in
    let shows : ShowsRange program before bounds (multipliers_at shown k)
    = subst (λ (b : AffineForm × AffineForm). ShowsRange program before b (multipliers_at shown k)) here
    (subst (λ (front : List (AffineForm × AffineForm)). ShowsRange program front (bounds_at nest k) (multipliers_at shown k)) first (all k below)) in (
      range-whole program before bounds (multipliers_at shown k) values xs formed admitted same within shows,
      λ x p q. subst (λ (ps : List ℤ). RangesAreWhole rest ps) (sym (append_assoc values xs (x ∷ [])))
          (ranges-whole program nest (before ++ bounds ∷ []) rest shown values (xs ++ x ∷ []) formed admitted (split ∙ sym (append_assoc before (bounds ∷ []) rest))
          (omega (arith, length-append xs (x ∷ []), length-append before (bounds ∷ [])))
          (within-more before bounds values xs x within p q) all),
    )

pub right-claims-count : RightClaimsCount
right-claims-count program nest claims total formed fit is values admitted =
    let whole : RangesAreWhole nest values = subst (λ (ps : List ℤ). RangesAreWhole nest ps) (append-nil values)
    (ranges-whole program nest [] nest claims.shown values [] formed admitted refl refl tt is.shown) in
    counted nest claims.sums total values (subst (λ (n : ℕ). BoundsFit n nest) (sym admitted.each) fit) whole
    (subst (λ (n : ℕ). IsSumFrom n nest claims.sums total) (sym admitted.each) is.sums)
