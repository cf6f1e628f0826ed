-- Matrices that undo the order of subscripts: subscripts that name loops, and these loops outermost first.
use Rattle.std.proofs.Common.{◌≡◌, ◌≢◌, refl, sym, ◌∙◌, ap, subst, inl, inr, ℕ, zero, suc, ◌+◌, ◌*◌, ◌<◌, ◌≤◌, Bool, true, false, List, [], ◌∷◌, ◌++◌, length, map, filter, take, drop, get_or, arith}
use Rattle.std.specs.Prelude.{◌⊎◌, ◌||◌, ◌==◌, cond, flat_map, if◌then◌else◌, nat_eq}
use Rattle.std.specs.List.{AllByRecursion, IsDistinct, list_any, range_with_len}
use Rattle.std.proofs.Math.IntN.{ℤ, pos, ◌+ℤ◌, ◌*ℤ◌}
use Rattle.std.proofs.Math.Seq.{drop-append-add, take-append_seam}
use Rattle.std.proofs.lemmas.Int.{ints}
use Rattle.std.proofs.lemmas.Bool.{eq-eqb, eqb-true}
use Rattle.std.proofs.lemmas.List.{length-map}
use Rattle.std.proofs.lemmas.List.FromFn.{get_or-map-range_with_len}
use Rattle.base_laws.proofs.Lists.{All-at, All-weaken}
use Rattle.base_laws.proofs.Ring.{mul-swap}
use Rattle.iolb_model.specs.Form.{dot}
use Rattle.affine_form.specs.Matrix.{IntegerMatrix}
use Rattle.find_terms.specs.Openings.{AreRising, is_named, same_loop}
use Rattle.projective.specs.Products.{product_of}
use Rattle.projective.proofs.ProjectiveFacts.{same-place}
use Rattle.projective_bounds.proofs.LoopValues.{IsAt, among}
use Rattle.projective_bounds.proofs.Unequal.{differs}
use Rattle.reuse_paths.specs.MatrixRows.{matrix_rows}

-- ---- numbers that pass a test, in their order

module _ (passes : ℕ → Bool) where
  abbrev passing : ℕ → ℕ → List ℕ
  passing first count = filter passes (range_with_len first count)

  passing-above : (bound first count : ℕ) → bound ≤ first → AllByRecursion (λ (n : ℕ). bound ≤ n) (passing first count)
  passing-above bound first zero le = tt
  passing-above bound first (suc count) le = by (passes first) (passing-above bound (first + 1) count (omega (arith, le))) where
    by : (b : Bool) → AllByRecursion (λ (n : ℕ). bound ≤ n) (passing (first + 1) count) → AllByRecursion (λ (n : ℕ). bound ≤ n) (cond b (first ∷ passing (first + 1) count) (passing (first + 1) count))
    by true rest = (le, rest)
    by false rest = rest

  pub passing-rises : (first count : ℕ) → AreRising (passing first count)
  passing-rises first zero = tt
  passing-rises first (suc count) = by (passes first) (passing-rises (first + 1) count) where
    by : (b : Bool) → AreRising (passing (first + 1) count) → AreRising (cond b (first ∷ passing (first + 1) count) (passing (first + 1) count))
    by true rest = (All-weaken (λ (n : ℕ). first + 1 ≤ n) (λ (n : ℕ). first < n) (passing (first + 1) count) (λ n h. omega (arith, h)) (passing-above (first + 1) (first + 1) count (omega arith)), rest)
    by false rest = rest

  pub passing-below : (bound first count : ℕ) → first + count ≤ bound → AllByRecursion (λ (n : ℕ). n < bound) (passing first count)
  passing-below bound first zero le = tt
  passing-below bound first (suc count) le = by (passes first) (passing-below bound (first + 1) count (omega (arith, le))) where
    by : (b : Bool) → AllByRecursion (λ (n : ℕ). n < bound) (passing (first + 1) count) → AllByRecursion (λ (n : ℕ). n < bound) (cond b (first ∷ passing (first + 1) count) (passing (first + 1) count))
    by true rest = (omega (arith, le), rest)
    by false rest = rest

  pub passing-pass : (first count : ℕ) → AllByRecursion (λ (n : ℕ). passes n ≡ true) (passing first count)
  passing-pass first zero = tt
  passing-pass first (suc count) = by (passes first) refl (passing-pass (first + 1) count) where
    by : (b : Bool) → passes first ≡ b → AllByRecursion (λ (n : ℕ). passes n ≡ true) (passing (first + 1) count)
        → AllByRecursion (λ (n : ℕ). passes n ≡ true) (cond b (first ∷ passing (first + 1) count) (passing (first + 1) count))
    by true e rest = (e, rest)
    by false e rest = rest

  none-passing : (level first count : ℕ) → first ≤ level → level < first + count → passes level ≡ true → AllByRecursion (λ (n : ℕ). n ≢ level) (passing first count) → ⊥
  none-passing level first zero le less is h = omega (arith, le, less)
  none-passing level first (suc count) le less is h = by (passes first) refl (same-place first level) h (λ later. none-passing level (first + 1) count later (omega (arith, less)) is) where
    clash : (b : Bool) → b ≡ true → b ≡ false → ⊥
    clash true x y = cc
    clash false x y = cc

    by : (b : Bool) → passes first ≡ b → (first ≡ level) ⊎ (first ≢ level) → AllByRecursion (λ (n : ℕ). n ≢ level) (cond b (first ∷ passing (first + 1) count) (passing (first + 1) count))
        → (first + 1 ≤ level → AllByRecursion (λ (n : ℕ). n ≢ level) (passing (first + 1) count) → ⊥) → ⊥
    by true e (inl same) g rest = g.0 same
    by true e (inr apart) g rest = rest (omega (arith, le, apart)) g.1
    by false e (inl same) g rest = clash (passes first) (ap passes same ∙ is) e
    by false e (inr apart) g rest = rest (omega (arith, le, apart)) g

  -- one that passes has a place among them
  pub passing-place : (level count : ℕ) → level < count → passes level ≡ true → IsAt level (passing 0 count)
  passing-place level count less is = elim (among level (passing 0 count)) [ inl there ↦ there | inr others ↦ absurd (none-passing level 0 count (omega arith) (omega (arith, less)) is others) ]

-- loops are named by themselves
named-more : (x level : ℕ) (loops : List ℕ) → is_named loops level ≡ true → is_named (x ∷ loops) level ≡ true
named-more x level loops h = by (nat_eq x level) where
  by : (b : Bool) → (b || list_any (λ (loop : ℕ). nat_eq loop level) loops) ≡ true
  by true = refl
  by false = h

pub all-named : (loops : List ℕ) → AllByRecursion (λ (loop : ℕ). is_named loops loop ≡ true) loops
all-named [] = tt
all-named (l ∷ loops) = (
  ap (λ (b : Bool). b || list_any (λ (loop : ℕ). nat_eq loop l) loops) (eq-eqb l l refl),
  All-weaken (λ (loop : ℕ). is_named loops loop ≡ true) (λ (loop : ℕ). is_named (l ∷ loops) loop ≡ true) loops (λ loop h. named-more l loop loops h) (all-named loops),
)

-- those that rise differ
pub rising-differ : (ns : List ℕ) (i k : ℕ) → AreRising ns → i < length ns → k < length ns → i ≢ k → get_or ns i 0 ≢ get_or ns k 0
rising-differ [] i k rises here there apart e = omega (arith, here)
rising-differ (n ∷ ns) zero zero rises here there apart e = apart refl
rising-differ (n ∷ ns) zero (suc k) rises here there apart e =
    let after = All-at (λ (later : ℕ). n < later) ns k 0 rises.0 (omega (arith, there)) in omega (arith, after, e)
rising-differ (n ∷ ns) (suc i) zero rises here there apart e =
    let after = All-at (λ (later : ℕ). n < later) ns i 0 rises.0 (omega (arith, here)) in omega (arith, after, e)
rising-differ (n ∷ ns) (suc i) (suc k) rises here there apart e =
    rising-differ ns i k rises.1 (omega (arith, here)) (omega (arith, there)) (λ same. apart (ap suc same)) e

-- ---- rows and columns of the matrix

-- where a loop stands among some: 1 there, and 0 elsewhere
abbrev pub places : ℕ → List ℕ → List ℤ
places loop loops = map (same_loop loop) loops

-- the rows of two loops have nothing in common
apart-zero : (a b : ℕ) (loops : List ℕ) → a ≢ b → dot (places a loops) (places b loops) ≡ pos 0
apart-zero a b [] apart = refl
apart-zero a b (l ∷ loops) apart =
    total (same_loop a l *ℤ same_loop b l) (dot (places a loops) (places b loops)) (by (nat_eq a l) (nat_eq b l) refl refl) (apart-zero a b loops apart) where
      total : (x y : ℤ) → x ≡ pos 0 → y ≡ pos 0 → x +ℤ y ≡ pos 0
      total x y e g = omega (arith, ints)

      by : (x y : Bool) → nat_eq a l ≡ x → nat_eq b l ≡ y → (if x then pos 1 else pos 0) *ℤ (if y then pos 1 else pos 0) ≡ pos 0
      by true true e g = absurd (apart (eqb-true a l e ∙ sym (eqb-true b l g)))
      by true false e g = refl
      by false true e g = refl
      by false false e g = refl

-- of a loop that isn't there
none-zero : (a : ℕ) (loops : List ℕ) → AllByRecursion (λ (l : ℕ). nat_eq a l ≡ false) loops → dot (places a loops) (places a loops) ≡ pos 0
none-zero a [] h = refl
none-zero a (l ∷ loops) h =
    ap (λ (b : Bool). ((if b then pos 1 else pos 0) *ℤ (if b then pos 1 else pos 0)) +ℤ dot (places a loops) (places a loops)) h.0
    ∙ total (dot (places a loops) (places a loops)) (none-zero a loops h.1) where
      total : (x : ℤ) → x ≡ pos 0 → (pos 0 *ℤ pos 0) +ℤ x ≡ pos 0
      total x e = ap (λ (z : ℤ). (pos 0 *ℤ pos 0) +ℤ z) e

-- of a loop with itself
own-one : (a : ℕ) (loops : List ℕ) → IsDistinct nat_eq loops → is_named loops a ≡ true → dot (places a loops) (places a loops) ≡ pos 1
unfolding IsDistinct
own-one a [] h named = absurd (let e : false ≡ true = named in cc)
own-one a (l ∷ loops) h named = by (nat_eq l a) refl named (λ later. own-one a loops h.1 later) where
  by : (b : Bool) → nat_eq l a ≡ b → (b || list_any (λ (loop : ℕ). nat_eq loop a) loops) ≡ true → (is_named loops a ≡ true → dot (places a loops) (places a loops) ≡ pos 1)
      → (same_loop a l *ℤ same_loop a l) +ℤ dot (places a loops) (places a loops) ≡ pos 1
  by true e found rest =
      let same : l ≡ a = eqb-true l a e in
      ap (λ (c : Bool). ((if c then pos 1 else pos 0) *ℤ (if c then pos 1 else pos 0)) +ℤ dot (places a loops) (places a loops)) (eq-eqb a l (sym same))
      ∙ ap (λ (z : ℤ). (pos 1 *ℤ pos 1) +ℤ z) (none-zero a loops (subst (λ (n : ℕ). AllByRecursion (λ (y : ℕ). nat_eq n y ≡ false) loops) same h.0))
  by false e found rest =
      ap (λ (c : Bool). ((if c then pos 1 else pos 0) *ℤ (if c then pos 1 else pos 0)) +ℤ dot (places a loops) (places a loops)) (differs a l (λ same. clash (nat_eq l a) (eq-eqb l a (sym same)) e))
      ∙ ap (λ (z : ℤ). (pos 0 *ℤ pos 0) +ℤ z) (rest found) where
        clash : (b : Bool) → b ≡ true → b ≡ false → ⊥
        clash true x y = cc
        clash false x y = cc

-- a row of the matrix
row-of : (loops ns : List ℕ) (row : ℕ) → row < length ns → take (length loops) (drop (row * length loops) (flat_map (λ (loop : ℕ). places loop loops) ns)) ≡ places (get_or ns row 0) loops
row-of loops [] row below = absurd (omega (arith, below))
row-of loops (n ∷ ns) zero below =
    ap (λ (m : ℕ). take m (drop (0 * length loops) (places n loops ++ flat_map (λ (loop : ℕ). places loop loops) ns))) (sym (length-map loops (same_loop n)))
    ∙ ap (λ (m : ℕ). take (length (places n loops)) (drop m (places n loops ++ flat_map (λ (loop : ℕ). places loop loops) ns))) (none (length loops))
    ∙ take-append_seam (places n loops) (flat_map (λ (loop : ℕ). places loop loops) ns) where
      none : (m : ℕ) → 0 * m ≡ 0
      none m = omega arith
row-of loops (n ∷ ns) (suc row) below =
    ap (λ (m : ℕ). take (length loops) (drop m (places n loops ++ flat_map (λ (loop : ℕ). places loop loops) ns))) (next row (length loops) ∙ ap (λ (m : ℕ). m + row * length loops) (sym (length-map loops (same_loop n))))
    ∙ ap (take (length loops)) (drop-append-add (places n loops) (flat_map (λ (loop : ℕ). places loop loops) ns) (row * length loops))
    ∙ row-of loops ns row (omega (arith, below)) where
      next : (k m : ℕ) → suc k * m ≡ m + k * m
      next k m = grind arith

-- ---- the product

-- a row for each of some loops, with 1 where it stands among others
abbrev pub order_matrix : List ℕ → List ℕ → IntegerMatrix
order_matrix loops ns = record { rows = length ns; columns = length loops; cells = flat_map (λ (loop : ℕ). places loop loops) ns }

module _ (loops ns : List ℕ) (different : IsDistinct nat_eq loops) (rising : AreRising ns) (named : AllByRecursion (λ (n : ℕ). is_named loops n ≡ true) ns) where
  pub order-undone : (row col : ℕ) → row < length ns → col < length ns → dot (get_or (matrix_rows (order_matrix loops ns)) row []) (places (get_or ns col 0) loops) ≡ (if row == col then pos 1 else pos 0)
  order-undone row col below inside =
      ap (λ (xs : List ℤ). dot xs (places (get_or ns col 0) loops)) (is_row ∙ row-of loops ns row below) ∙ by (row == col) refl where
        is_row : get_or (matrix_rows (order_matrix loops ns)) row [] ≡ take (length loops) (drop (row * length loops) (order_matrix loops ns).cells)
        is_row = get_or-map-range_with_len (λ (k : ℕ). take (length loops) (drop (k * length loops) (order_matrix loops ns).cells)) 0 (length ns) row row [] below (omega arith)

        clash : (b : Bool) → b ≡ true → b ≡ false → ⊥
        clash true x y = cc
        clash false x y = cc

        by : (b : Bool) → (row == col) ≡ b → dot (places (get_or ns row 0) loops) (places (get_or ns col 0) loops) ≡ (if b then pos 1 else pos 0)
        by true e =
            ap (λ (k : ℕ). dot (places (get_or ns row 0) loops) (places (get_or ns k 0) loops)) (sym (eqb-true row col e))
            ∙ own-one (get_or ns row 0) loops different (All-at (λ (n : ℕ). is_named loops n ≡ true) ns row 0 named below)
        by false e = apart-zero (get_or ns row 0) (get_or ns col 0) loops (rising-differ ns row col rising below inside (λ same. clash (row == col) (eq-eqb row col same) e))

-- ---- products in either order

module _ (parameter : ℕ → ℕ) (values : ℕ → ℤ) where
  -- the product of the parameters of some loops
  abbrev product_over : List ℕ → ℤ
  product_over loops = product_of (map parameter loops) values

  -- a loop that comes before all others
  earlier-over : (l : ℕ) (loops : List ℕ) (first count : ℕ) → l < first → passing (is_named (l ∷ loops)) first count ≡ passing (is_named loops) first count
  earlier-over l loops first zero less = refl
  earlier-over l loops first (suc count) less =
      ap (λ (b : Bool). cond (b || is_named loops first) (first ∷ passing (is_named (l ∷ loops)) (first + 1) count) (passing (is_named (l ∷ loops)) (first + 1) count))
      (differs l first (λ e. absurd (omega (arith, less, e))))
      ∙ ap (λ (ns : List ℕ). cond (is_named loops first) (first ∷ ns) ns) (earlier-over l loops (first + 1) count (omega (arith, less)))

  -- a loop more
  more-over : (l : ℕ) (loops : List ℕ) (first count : ℕ) → first ≤ l → l < first + count → is_named loops l ≡ false
      → product_over (passing (is_named (l ∷ loops)) first count) ≡ values (parameter l) *ℤ product_over (passing (is_named loops) first count)
  more-over l loops first zero le less none = absurd (omega (arith, le, less))
  more-over l loops first (suc count) le less none = by (same-place l first) (λ later. more-over l loops (first + 1) count later (omega (arith, less)) none) where
    by : (l ≡ first) ⊎ (l ≢ first)
        → (first + 1 ≤ l → product_over (passing (is_named (l ∷ loops)) (first + 1) count) ≡ values (parameter l) *ℤ product_over (passing (is_named loops) (first + 1) count))
        → product_over (passing (is_named (l ∷ loops)) first (suc count)) ≡ values (parameter l) *ℤ product_over (passing (is_named loops) first (suc count))
    by (inl same) rest =
        ap (λ (b : Bool). product_over (cond (b || is_named loops first) (first ∷ passing (is_named (l ∷ loops)) (first + 1) count) (passing (is_named (l ∷ loops)) (first + 1) count))) (eq-eqb l first same)
        ∙ ap (λ (ns : List ℕ). values (parameter first) *ℤ product_over ns) (earlier-over l loops (first + 1) count (omega (arith, same)))
        ∙ ap (λ (n : ℕ). values (parameter n) *ℤ product_over (passing (is_named loops) (first + 1) count)) (sym same)
        ∙ ap (λ (b : Bool). values (parameter l) *ℤ product_over (cond b (first ∷ passing (is_named loops) (first + 1) count) (passing (is_named loops) (first + 1) count)))
        (sym (ap (is_named loops) (sym same) ∙ none))
    by (inr apart) rest =
        ap (λ (b : Bool). product_over (cond (b || is_named loops first) (first ∷ passing (is_named (l ∷ loops)) (first + 1) count) (passing (is_named (l ∷ loops)) (first + 1) count))) (differs l first apart)
        ∙ either (is_named loops first) (rest (omega (arith, le, apart))) where
          either : (b : Bool) → product_over (passing (is_named (l ∷ loops)) (first + 1) count) ≡ values (parameter l) *ℤ product_over (passing (is_named loops) (first + 1) count)
              → product_over (cond b (first ∷ passing (is_named (l ∷ loops)) (first + 1) count) (passing (is_named (l ∷ loops)) (first + 1) count))
              ≡ values (parameter l) *ℤ product_over (cond b (first ∷ passing (is_named loops) (first + 1) count) (passing (is_named loops) (first + 1) count))
          either true e =
              ap (λ (z : ℤ). values (parameter first) *ℤ z) e ∙ mul-swap (values (parameter first)) (values (parameter l)) (product_over (passing (is_named loops) (first + 1) count))
          either false e = e

  none-over : (first count : ℕ) → passing (is_named []) first count ≡ []
  none-over first zero = refl
  none-over first (suc count) = none-over (first + 1) count

  not-named : (l : ℕ) (loops : List ℕ) → AllByRecursion (λ (y : ℕ). nat_eq l y ≡ false) loops → is_named loops l ≡ false
  not-named l [] h = refl
  not-named l (x ∷ loops) h =
      ap (λ (b : Bool). b || is_named loops l) (differs x l (λ same. clash (nat_eq l x) (eq-eqb l x (sym same)) h.0)) ∙ not-named l loops h.1 where
        clash : (b : Bool) → b ≡ true → b ≡ false → ⊥
        clash true x y = cc
        clash false x y = cc

  -- the loops that are named, outermost first and as they are named
  pub order-product : (loops : List ℕ) (count : ℕ) → IsDistinct nat_eq loops → AllByRecursion (λ (loop : ℕ). loop < count) loops
      → product_over (passing (is_named loops) 0 count) ≡ product_over loops
  unfolding IsDistinct
  order-product [] count different below = ap product_over (none-over 0 count)
  order-product (l ∷ loops) count different below =
      more-over l loops 0 count (omega arith) (omega (arith, below.0)) (not-named l loops different.0)
      ∙ ap (λ (z : ℤ). values (parameter l) *ℤ z) (order-product loops count different.1 below.1)
