-- Rows have the values of the expressions that mean them, at every point, and comparisons and headers say what their rows say.
use Rattle.std.proofs.Common.{◌≡◌, refl, sym, ◌∙◌, ap, subst, ℕ, zero, suc, ◌+◌, ◌-◌, ◌*◌, ◌<◌, ◌≤◌, List, [], ◌∷◌, ◌++◌, length, replicate, arith, Bool, true, false, length-append, length-set, append_assoc}
use Rattle.std.specs.Prelude.{ℤ, pos, negsuc, neg_ℤ, ◌+ℤ◌, ◌-ℤ◌, ◌*ℤ◌, bytes_eq, slice_get, slice_set, nat_lt, min, Option, Some, None, if◌then◌else◌, ◌&&◌, ◌||◌, ◌≤ℤ◌, ◌↔◌, nat_le, option_and_then}
use Rattle.std.proofs.lemmas.Int.{ints}
use Rattle.std.proofs.lemmas.Bool.{and_parts, or_parts}
use Rattle.std.proofs.lemmas.Bool.Decides.{nat_tests}
use Rattle.base_laws.proofs.Ring.{add-mul, mul-add, mul_comm, mul_assoc_ℤ, mul-zero, mul-one, one-mul, zero-mul, neg-mul}
use Rattle.iolb_model.specs.Form.{dot}
use Rattle.iolb_model.specs.declared.limits.TheConstants.{LOOPS, PARAMETERS, NUMBER_SIZE}
use Rattle.affine_form.proofs.Combination.{dot-zeros}
use Rattle.c_reading.specs.declared.named.Kind.{Kind}
use Rattle.c_reading.specs.declared.named.Kind.TheVariants.{Parameter, OpenLoop, ClosedLoop}
use Rattle.c_reading.specs.Affine.{kind_of, with_name, is_short, sign_of, number_of}
use Rattle.c_reading.specs.Numbers.{plus_times, combined, single, zeros, width, constant_of, value_from, is_integer, most_parameters}
use Rattle.c_grammar.specs.Affine as tree
use Rattle.c_grammar.specs.Meaning as mean
use Rattle.c_grammar.specs.Meaning.{Names, Form, form, then_in, given, slot_by, slot, affine_means, sums_means, term_means, products_means, factor_means, row_behind, with_row, with_compare, row_count, if_rows, compare_means, loop_again, loop_by, loop_name, excluded, last_bound, header_means}
use Rattle.c_grammar.specs.Points.{Point, digits_value, affine_value, sums_value, term_value, products_value, factor_value, row_value, AreNumbersAt, HaveKinds, RowsHaveValues, Compares, Holds, Takes, IsTaken, RowsHoldSo, LoopsTakeValues}
use Rattle.c_grammar.proofs.Spelled.{then_some, given_some, given_last, same_some, some_if}
use Rattle.c_grammar.proofs.Forms.{front_is}
use Rattle.c_grammar.proofs.NameKinds.{kind_of-lookup, lookup-other, lookup-new, bytes_are}
use Rattle.std.proofs.lemmas.Option.{slice_get_within}
use Rattle.c_grammar.proofs.Steps.{bool_cases}
use Rattle.std.specs.List.{AllByRecursion}
use Rattle.c_reading.specs.declared.tree.Header.{Header as ReadHeader}
use Rattle.c_reading.specs.Compare.{Rows}
use Rattle.c_reading.specs.Items.{header_by}

-- ---- sums of rows

-- what is added, at a number of its variable
add_at : (k x y n z u v : ℤ) → z ≡ (x +ℤ (k *ℤ y)) -ℤ pos 0 → (z *ℤ n) +ℤ (u +ℤ (k *ℤ v)) ≡ ((x *ℤ n) +ℤ u) +ℤ (k *ℤ ((y *ℤ n) +ℤ v))
add_at k x y n z u v e =
    let same : z ≡ x +ℤ (k *ℤ y) = omega (arith, ints, e) in
    ap (λ w. (w *ℤ n) +ℤ (u +ℤ (k *ℤ v))) same ∙ omega (arith, ints, add-mul x (k *ℤ y) n, mul_assoc_ℤ k y n, mul-add k (y *ℤ n) v)

-- a sum of numbers has the sum of their values
plus_value : (k : ℤ) (xs ys zs ns : List ℤ) → length xs ≡ length ys → plus_times k xs ys ≡ Some zs → (length zs ≡ length xs) × (dot zs ns ≡ dot xs ns +ℤ (k *ℤ dot ys ns))
plus_value k [] [] zs ns same e = let none : [] ≡ zs = cc in (ap length (sym none), ap (λ l. dot l ns) (sym none) ∙ omega (arith, ints, mul-zero k))
plus_value k (x ∷ xs) (y ∷ ys) zs [] same e =
    let f = front_is k (pos 0) x y (plus_times k xs ys) zs e in
    let rest = plus_value k xs ys f.rest [] (omega (arith, same)) f.behind in
    (ap length f.all ∙ ap suc rest.0, ap (λ l. dot l []) f.all ∙ omega (arith, ints, mul-zero k))
plus_value k (x ∷ xs) (y ∷ ys) zs (n ∷ ns) same e =
    let f = front_is k (pos 0) x y (plus_times k xs ys) zs e in
    let rest = plus_value k xs ys f.rest ns (omega (arith, same)) f.behind in
    (ap length f.all ∙ ap suc rest.0, ap (λ l. dot l (n ∷ ns)) f.all ∙ ap (λ d. (f.number *ℤ n) +ℤ d) rest.1 ∙ add_at k x y n f.number (dot xs ns) (dot ys ns) f.is)
plus_value k _ _ zs ns same e = absurd (omega (arith, same))

-- a sum of rows, and less this much
pub record IsSum (k less : ℤ) (xs ys zs : List ℤ) : Type 0 where
  pub size : length zs ≡ length xs
  pub value : (ns : List ℤ) → row_value zs ns ≡ (row_value xs ns +ℤ (k *ℤ row_value ys ns)) -ℤ less
  pub constant : constant_of zs ≡ (constant_of xs +ℤ (k *ℤ constant_of ys)) -ℤ less

-- the first number is the constant
first_at : (k less x y z u v : ℤ) → z ≡ (x +ℤ (k *ℤ y)) -ℤ less → (z *ℤ pos 1) +ℤ (u +ℤ (k *ℤ v)) ≡ (((x *ℤ pos 1) +ℤ u) +ℤ (k *ℤ ((y *ℤ pos 1) +ℤ v))) -ℤ less
first_at k less x y z u v e = omega (arith, ints, e, mul-one z, mul-one x, mul-add k (y *ℤ pos 1) v, ap (λ w. k *ℤ w) (mul-one y))

-- what is combined is a sum
pub combined_sum : (k less : ℤ) (xs ys zs : List ℤ) → length xs ≡ width → length ys ≡ width → combined k less xs ys ≡ Some zs → IsSum k less xs ys zs
combined_sum k less [] ys zs p q e = absurd (omega (arith, p))
combined_sum k less (x ∷ xs) [] zs p q e = absurd (omega (arith, q))
combined_sum k less (x ∷ xs) (y ∷ ys) zs p q e =
    let f = front_is k less x y (plus_times k xs ys) zs e in
    let rest = λ (ns : List ℤ). plus_value k xs ys f.rest ns (omega (arith, p, q)) f.behind in
    record {
      size = ap length f.all ∙ ap suc (rest []).0;
      value = λ ns. ap (λ l. dot l (pos 1 ∷ ns)) f.all ∙ ap (λ d. (f.number *ℤ pos 1) +ℤ d) (rest ns).1 ∙ first_at k less x y f.number (dot xs ns) (dot ys ns) f.is;
      constant = ap constant_of f.all ∙ f.is;
    }

-- the row of zeros
pub zeros_value : (ns : List ℤ) → row_value zeros ns ≡ pos 0
zeros_value ns = dot-zeros width (pos 1 ∷ ns)

-- ---- one variable

-- one number of zeros is changed
dot_set : (m k : ℕ) (n v : ℤ) (ns : List ℤ) → k < m → slice_get ns k ≡ Some v → dot (slice_set (replicate m (pos 0)) k n) ns ≡ n *ℤ v
dot_set zero k n v ns below e = absurd (omega arith)
dot_set (suc m) k n v [] below e = cc
dot_set (suc m) zero n v (w ∷ ns) below e = let same : w ≡ v = cc in let rest = dot-zeros m ns in omega (arith, ints, rest, ap (λ x. n *ℤ x) same)
dot_set (suc m) (suc k) n v (w ∷ ns) below e = let rest = dot_set m k n v ns (omega arith) e in omega (arith, ints, rest, zero-mul w)

-- the row of a constant
constant_value : (n : ℤ) (ns : List ℤ) → row_value (single 0 n) ns ≡ n
constant_value n ns = let rest = dot-zeros (PARAMETERS + LOOPS) ns in omega (arith, ints, rest, mul-one n)

-- the row of a variable
variable_value : (k : ℕ) (v : ℤ) (ns : List ℤ) → length ns ≡ PARAMETERS + LOOPS → slice_get ns k ≡ Some v → row_value (single (1 + k) (pos 1)) ns ≡ v
variable_value k v ns many e =
    let one : 1 + k ≡ suc k = omega arith in
    ap (λ n. row_value (single n (pos 1)) ns) one ∙ dot_set width (suc k) (pos 1) v (pos 1 ∷ ns) (omega (arith, many, slice_get_within ns k v e)) e ∙ one-mul v

-- ---- names

-- what an expression means, its value, and that names stay what they are
pub record IsValued (s : Names) (a : Form) (r : Names) (value : Point → ℤ) : Type 0 where
  pub kinds : HaveKinds r
  pub back : (at : Point) (ns : List ℤ) → AreNumbersAt r at ns → AreNumbersAt s at ns
  pub size : length a.numbers ≡ width
  pub is : (at : Point) (ns : List ℤ) → AreNumbersAt r at ns → row_value a.numbers ns ≡ value at
  pub constant : a.has_name ≡ false → (ns : List ℤ) → row_value a.numbers ns ≡ constant_of a.numbers

-- a name's place, and its number at a point
record IsPlaced (s : Names) (bytes : List ℕ) (slot_is : ℕ) (r : Names) : Type 0 where
  pub kinds : HaveKinds r
  pub back : (at : Point) (ns : List ℤ) → AreNumbersAt r at ns → AreNumbersAt s at ns
  pub is : (at : Point) (ns : List ℤ) → AreNumbersAt r at ns → row_value (single slot_is (pos 1)) ns ≡ at bytes

-- a name that was seen stays what it is behind a new one
stays_so : (bytes other : List ℕ) (k l : Kind) (p a : ℕ) (s : Names) → HaveKinds s → kind_of bytes s ≡ None → kind_of other s ≡ Some l → kind_of other (record s { names = s.names ++ bytes ∷ []; kinds = s.kinds ++ k ∷ []; parameters = p; arrays = a }) ≡ Some l
stays_so bytes other k l p a s same none e =
    let long : length (s.kinds ++ k ∷ []) ≡ length (s.names ++ bytes ∷ []) = omega (arith, same, length-append s.kinds (k ∷ []), length-append s.names (bytes ∷ [])) in
    let differ : bytes_eq other bytes ≡ false = apart (bytes_eq other bytes) refl in
    kind_of-lookup other _ long ∙ lookup-other other bytes k s.names s.kinds same differ ∙ sym (kind_of-lookup other s same) ∙ e where
      apart : (b : Bool) → bytes_eq other bytes ≡ b → bytes_eq other bytes ≡ false
      apart true f = let both : ◌≡◌ {A = Option Kind} None (Some l) = sym none ∙ ap (λ n. kind_of n s) (sym (bytes_are other bytes f)) ∙ e in cc
      apart false f = f

-- a name's place, by its kind
placed_by : (bytes : List ℕ) (o : Option Kind) (s : Names) (x : ℕ × Names) → HaveKinds s → kind_of bytes s ≡ o → slot_by bytes o s ≡ Some x → IsPlaced s bytes x.0 x.1
unfolding with_name
placed_by bytes None s x same none e = some_if _ (is_short bytes && nat_lt s.parameters most_parameters) e (λ test is. subst (λ (y : ℕ × Names). IsPlaced s bytes y.0 y.1) is (record {
  kinds = omega (arith, same, length-append s.kinds (Parameter s.parameters ∷ []), length-append s.names (bytes ∷ []));
  back = λ at ns h. record {
    many = h.many;
    parameters = λ other k f. h.parameters other k (stays_so bytes other (Parameter s.parameters) (Parameter k) (s.parameters + 1) s.arrays s same none f);
    loops = λ other d f. h.loops other d (stays_so bytes other (Parameter s.parameters) (OpenLoop d) (s.parameters + 1) s.arrays s same none f);
  };
  is = λ at ns h.
      let long : length (s.kinds ++ Parameter s.parameters ∷ []) ≡ length (s.names ++ bytes ∷ []) = omega (arith, same, length-append s.kinds (Parameter s.parameters ∷ []), length-append s.names (bytes ∷ [])) in
      variable_value s.parameters (at bytes) ns h.many (h.parameters bytes s.parameters (kind_of-lookup bytes _ long ∙ lookup-new bytes (Parameter s.parameters) s.names s.kinds same (sym (kind_of-lookup bytes s same) ∙ none)));
}))
placed_by bytes (Some (Parameter k)) s x same e f = subst (λ (y : ℕ × Names). IsPlaced s bytes y.0 y.1) (same_some f) (record { kinds = same; back = λ at ns h. h; is = λ at ns h. variable_value k (at bytes) ns h.many (h.parameters bytes k e) })
placed_by bytes (Some (OpenLoop d)) s x same e f =
    let place : 1 + PARAMETERS + d ≡ 1 + (PARAMETERS + d) = omega arith in
    subst (λ (y : ℕ × Names). IsPlaced s bytes y.0 y.1) (same_some f) (record { kinds = same; back = λ at ns h. h; is = λ at ns h. ap (λ n. row_value (single n (pos 1)) ns) place ∙ variable_value (PARAMETERS + d) (at bytes) ns h.many (h.loops bytes d e) })
placed_by bytes (Some _) s x same e f = cc

-- ---- forms

-- the form of numbers
form_of : (h : Bool) (o : Option (List ℤ)) (c : Form) → form h o ≡ Some c → (ns : List ℤ) × (o ≡ Some ns) × (record { numbers = ns; has_name = h } ≡ c)
form_of h None c e = cc
form_of h (Some ns) c e = (ns, refl, cc)

-- a sum of forms is valued so
sum_valued : (s q r : Names) (sign : Bool) (a b c : Form) (u v : Point → ℤ) → IsValued s a q u → IsValued q b r v → mean.plus sign a b ≡ Some c → IsValued s c r (λ at. u at +ℤ (sign_of sign *ℤ v at))
sum_valued s q r sign a b c u v x y e =
    let f = form_of (a.has_name || b.has_name) (combined (sign_of sign) (pos 0) a.numbers b.numbers) c e in
    let sum = combined_sum (sign_of sign) (pos 0) a.numbers b.numbers f.0 x.size y.size f.1 in
    subst (λ (d : Form). IsValued s d r (λ at. u at +ℤ (sign_of sign *ℤ v at))) f.2 (record {
      kinds = y.kinds;
      back = λ at ns h. x.back at ns (y.back at ns h);
      size = sum.size ∙ x.size;
      is = λ at ns h. let p = x.is at ns (y.back at ns h) in let q = y.is at ns h in sum.value ns ∙ omega (arith, ints, p, ap (λ w. sign_of sign *ℤ w) q);
      constant = λ none ns.
          let both = or_parts a.has_name b.has_name none in
          let p = x.constant both.0 ns in let q = y.constant both.1 ns in
          sum.value ns ∙ omega (arith, ints, p, ap (λ w. sign_of sign *ℤ w) q, sum.constant);
    })

-- a multiple of a form, whose value this factor has
multiple_valued : (s r : Names) (h : Bool) (k : ℤ) (b c : Form) (u v : Point → ℤ) → ((at : Point) (ns : List ℤ) → AreNumbersAt r at ns → AreNumbersAt s at ns) → HaveKinds r → ((at : Point) (ns : List ℤ) → AreNumbersAt r at ns → k ≡ u at) → length b.numbers ≡ width
    → ((at : Point) (ns : List ℤ) → AreNumbersAt r at ns → row_value b.numbers ns ≡ v at) → (h ≡ false → b.has_name ≡ false) → (b.has_name ≡ false → (ns : List ℤ) → row_value b.numbers ns ≡ constant_of b.numbers)
    → form h (combined k (pos 0) zeros b.numbers) ≡ Some c → IsValued s c r (λ at. u at *ℤ v at)
multiple_valued s r h k b c u v back kinds factor size is named constant e =
    let f = form_of h (combined k (pos 0) zeros b.numbers) c e in
    let sum = combined_sum k (pos 0) zeros b.numbers f.0 refl size f.1 in
    let value = λ (ns : List ℤ). (let z = zeros_value ns in let step : row_value f.0 ns ≡ k *ℤ row_value b.numbers ns = sum.value ns ∙ omega (arith, ints, z) in step) in
    subst (λ (d : Form). IsValued s d r (λ at. u at *ℤ v at)) f.2 (record {
      kinds = kinds;
      back = back;
      size = sum.size;
      is = λ at ns g. value ns ∙ ap (λ w. k *ℤ w) (is at ns g) ∙ ap (λ w. w *ℤ v at) (factor at ns g);
      constant = λ none ns. value ns ∙ ap (λ w. k *ℤ w) (constant (named none) ns) ∙ sym (sum.constant ∙ omega (arith, ints));
    })

-- the same value, said otherwise
as_value : (s r : Names) (a : Form) (u v : Point → ℤ) → ((at : Point) → u at ≡ v at) → IsValued s a r u → IsValued s a r v
as_value s r a u v same x = record { kinds = x.kinds; back = x.back; size = x.size; is = λ at ns h. x.is at ns h ∙ same at; constant = x.constant }

-- a product of forms is valued so
times_valued : (s q r : Names) (a b c : Form) (u v : Point → ℤ) → IsValued s a q u → IsValued q b r v → mean.times a b ≡ Some c → IsValued s c r (λ at. u at *ℤ v at)
times_valued s q r a b c u v x y e = which a.has_name b.has_name refl refl e where
  which : (l m : Bool) → a.has_name ≡ l → b.has_name ≡ m
      → (if l && m then None else form (l || m) (if m then combined (constant_of a.numbers) (pos 0) zeros b.numbers else combined (constant_of b.numbers) (pos 0) zeros a.numbers)) ≡ Some c → IsValued s c r (λ at. u at *ℤ v at)
  which true true f g e = cc
  which false true f g e = multiple_valued s r true (constant_of a.numbers) b c u v (λ at ns h. x.back at ns (y.back at ns h)) y.kinds
      (λ at ns h. sym (x.constant f ns) ∙ x.is at ns (y.back at ns h)) y.size y.is (λ none. cc) y.constant e
  which true false f g e = as_value s r c (λ at. v at *ℤ u at) (λ at. u at *ℤ v at) (λ at. mul_comm (v at) (u at)) (multiple_valued s r true (constant_of b.numbers) a c v u (λ at ns h. x.back at ns (y.back at ns h)) y.kinds
      (λ at ns h. sym (y.constant g ns) ∙ y.is at ns h) x.size (λ at ns h. x.is at ns (y.back at ns h)) (λ none. cc) x.constant e)
  which false false f g e = as_value s r c (λ at. v at *ℤ u at) (λ at. u at *ℤ v at) (λ at. mul_comm (v at) (u at)) (multiple_valued s r false (constant_of b.numbers) a c v u (λ at ns h. x.back at ns (y.back at ns h)) y.kinds
      (λ at ns h. sym (y.constant g ns) ∙ y.is at ns h) x.size (λ at ns h. x.is at ns (y.back at ns h)) (λ _. f) x.constant e)

-- -1 times
pub minus-one : (v : ℤ) → negsuc 0 *ℤ v ≡ neg_ℤ v
minus-one v = neg-mul (pos 1) v ∙ ap neg_ℤ (one-mul v)

-- ---- integers

-- what reaches the bound stays there
stays_large : (bytes : List ℕ) → value_from NUMBER_SIZE bytes ≡ NUMBER_SIZE
stays_large [] = refl
stays_large (b ∷ bytes) = let same : min (10 * NUMBER_SIZE + (b - 48)) NUMBER_SIZE ≡ NUMBER_SIZE = omega arith in ap (λ n. value_from n bytes) same ∙ stays_large bytes

-- digits that mean a number below the bound write it
value_is : (n : ℕ) (bytes : List ℕ) → value_from n bytes < NUMBER_SIZE → value_from n bytes ≡ digits_value n bytes
value_is n [] small = refl
value_is n (b ∷ bytes) small = bool_cases (nat_lt (10 * n + (b - 48)) NUMBER_SIZE)
    (λ e.
    let below : 10 * n + (b - 48) < NUMBER_SIZE = grind (arith, nat_tests) in
    let same : min (10 * n + (b - 48)) NUMBER_SIZE ≡ 10 * n + (b - 48) = omega arith in
    ap (λ m. value_from m bytes) same ∙ value_is (10 * n + (b - 48)) bytes (subst (λ m. value_from m bytes < NUMBER_SIZE) same small))
    (λ e.
    let over : NUMBER_SIZE ≤ 10 * n + (b - 48) = grind (arith, nat_tests) in
    let same : min (10 * n + (b - 48)) NUMBER_SIZE ≡ NUMBER_SIZE = omega arith in
    let large : value_from (min (10 * n + (b - 48)) NUMBER_SIZE) bytes ≡ NUMBER_SIZE = ap (λ m. value_from m bytes) same ∙ stays_large bytes in
    absurd (omega (arith, large, small)))

-- an integer's number
integer_is : (bytes : List ℕ) (n : ℤ) → mean.integer_means bytes ≡ Some n → n ≡ pos (digits_value 0 bytes)
unfolding mean.integer_means
integer_is bytes n e = some_if _ (is_integer bytes && nat_lt (value_from 0 bytes) NUMBER_SIZE) e (λ test is.
    let parts = and_parts (is_integer bytes) (nat_lt (value_from 0 bytes) NUMBER_SIZE) test in
    let below : value_from 0 bytes < NUMBER_SIZE = small parts.1 in
    sym is ∙ ap pos (value_is 0 bytes below)) where
      small : nat_lt (value_from 0 bytes) NUMBER_SIZE ≡ true → value_from 0 bytes < NUMBER_SIZE
      small f = grind (arith, nat_tests)

-- ---- expressions

-- what is meant last
last_valued : (s q r : Names) (c a : Form) (u v : Point → ℤ) → ((at : Point) → u at ≡ v at) → IsValued s c q u → ◌≡◌ {A = Form × Names} (c, q) (a, r) → IsValued s a r v
last_valued s q r c a u v same x e = as_value s r a u v same (subst (λ (y : Form × Names). IsValued s y.0 y.1 u) e x)

mutual
  unfolding affine_means sums_means term_means products_means factor_means slot

  pub affine_valued : (b : ℕ) (t : tree.Affine) (s r : Names) (a : Form) → HaveKinds s → affine_means b t s ≡ Some (a, r) → IsValued s a r (λ at. affine_value at t)
  affine_valued b (tree.sum t ss) s r a k e = then_some (λ c. sums_means b c ss) (term_means b t s) e (λ p f g.
      let first = term_valued b t s p.1 p.0 k f in sums_valued b p.0 ss s p.1 r a (λ at. term_value at t) first g)

  sums_valued : (b : ℕ) (c : Form) (ss : tree.Sums) (s q r : Names) (a : Form) (u : Point → ℤ) → IsValued s c q u → sums_means b c ss q ≡ Some (a, r) → IsValued s a r (λ at. u at +ℤ sums_value at ss)
  sums_valued b c tree.sum_end s q r a u x e = last_valued s q r c a u (λ at. u at +ℤ pos 0) (λ at. omega (arith, ints)) x (same_some e)
  sums_valued b c (tree.plus t ss) s q r a u x e = then_some (λ d i. then_in (mean.given (mean.plus false c d) i) (λ f. sums_means b f ss)) (term_means b t q) e (λ p f g.
      let next = term_valued b t q p.1 p.0 x.kinds f in
      given_some (mean.plus false c p.0) (λ f. sums_means b f ss) p.1 g (λ d h i.
      as_value s r a (λ at. (u at +ℤ (pos 1 *ℤ term_value at t)) +ℤ sums_value at ss) (λ at. u at +ℤ (term_value at t +ℤ sums_value at ss)) (λ at. omega (arith, ints, one-mul (term_value at t)))
      (sums_valued b d ss s p.1 r a (λ at. u at +ℤ (pos 1 *ℤ term_value at t)) (sum_valued s q p.1 false c p.0 d u (λ at. term_value at t) x next h) i)))
  sums_valued b c (tree.minus t ss) s q r a u x e = then_some (λ d i. then_in (mean.given (mean.plus true c d) i) (λ f. sums_means b f ss)) (term_means b t q) e (λ p f g.
      let next = term_valued b t q p.1 p.0 x.kinds f in
      given_some (mean.plus true c p.0) (λ f. sums_means b f ss) p.1 g (λ d h i.
      as_value s r a (λ at. (u at +ℤ (negsuc 0 *ℤ term_value at t)) +ℤ sums_value at ss) (λ at. u at +ℤ (neg_ℤ (term_value at t) +ℤ sums_value at ss)) (λ at. omega (arith, ints, minus-one (term_value at t)))
      (sums_valued b d ss s p.1 r a (λ at. u at +ℤ (negsuc 0 *ℤ term_value at t)) (sum_valued s q p.1 true c p.0 d u (λ at. term_value at t) x next h) i)))

  term_valued : (b : ℕ) (t : tree.Term) (s r : Names) (a : Form) → HaveKinds s → term_means b t s ≡ Some (a, r) → IsValued s a r (λ at. term_value at t)
  term_valued b (tree.product f ps) s r a k e = then_some (λ c. products_means b c ps) (factor_means b f s) e (λ p g h.
      let first = factor_valued b f s p.1 p.0 k g in products_valued b p.0 ps s p.1 r a (λ at. factor_value at f) first h)

  products_valued : (b : ℕ) (c : Form) (ps : tree.Products) (s q r : Names) (a : Form) (u : Point → ℤ) → IsValued s c q u → products_means b c ps q ≡ Some (a, r) → IsValued s a r (λ at. u at *ℤ products_value at ps)
  products_valued b c tree.product_end s q r a u x e = last_valued s q r c a u (λ at. u at *ℤ pos 1) (λ at. sym (mul-one (u at))) x (same_some e)
  products_valued b c (tree.times f ps) s q r a u x e = then_some (λ d i. then_in (mean.given (mean.times c d) i) (λ g. products_means b g ps)) (factor_means b f q) e (λ p g h.
      let next = factor_valued b f q p.1 p.0 x.kinds g in
      given_some (mean.times c p.0) (λ g. products_means b g ps) p.1 h (λ d i j.
      as_value s r a (λ at. (u at *ℤ factor_value at f) *ℤ products_value at ps) (λ at. u at *ℤ (factor_value at f *ℤ products_value at ps)) (λ at. mul_assoc_ℤ (u at) (factor_value at f) (products_value at ps))
      (products_valued b d ps s p.1 r a (λ at. u at *ℤ factor_value at f) (times_valued s q p.1 c p.0 d u (λ at. factor_value at f) x next i) j)))

  factor_valued : (b : ℕ) (f : tree.Factor) (s r : Names) (a : Form) → HaveKinds s → factor_means b f s ≡ Some (a, r) → IsValued s a r (λ at. factor_value at f)
  factor_valued b (tree.integer bytes) s r a k e = given_some (mean.integer_means bytes) (λ n. mean.pure (record { numbers = single 0 n; has_name = false })) s e (λ n f g.
      let is = integer_is bytes n f in
      last_valued s s r (record { numbers = single 0 n; has_name = false }) a (λ _. n) (λ at. pos (digits_value 0 bytes)) (λ at. is)
      (record { kinds = k; back = λ at ns h. h; size = length-set (replicate width (pos 0)) 0 n; is = λ at ns h. constant_value n ns; constant = λ _ ns. constant_value n ns }) (same_some g))
  factor_valued b (tree.name name) s r a k e = then_some (λ at. mean.pure (record { numbers = single at (pos 1); has_name = true })) (slot name s) e (λ p f g.
      let placed = placed_by name (kind_of name s) s p k refl f in
      last_valued s p.1 r (record { numbers = single p.0 (pos 1); has_name = true }) a (λ at. at name) (λ at. at name) (λ at. refl)
      (record { kinds = placed.kinds; back = placed.back; size = length-set (replicate width (pos 0)) p.0 (pos 1); is = placed.is; constant = λ none. cc }) (same_some g))
  factor_valued zero (tree.in_brackets t) s r a k e = cc
  factor_valued (suc b) (tree.in_brackets t) s r a k e = affine_valued b t s r a k e
  factor_valued b (tree.negative f) s r a k e = then_some (λ c. mean.given (mean.negated c)) (factor_means b f s) e (λ p g h.
      let x = factor_valued b f s p.1 p.0 k g in
      given_last (mean.negated p.0) p.1 h (λ c i j. last_valued s p.1 r c a (λ at. neg_ℤ (factor_value at f)) (λ at. neg_ℤ (factor_value at f)) (λ at. refl)
      (as_value s p.1 c (λ at. negsuc 0 *ℤ factor_value at f) (λ at. neg_ℤ (factor_value at f)) (λ at. minus-one (factor_value at f)) (multiple_valued s p.1 p.0.has_name (negsuc 0) p.0 c (λ _. negsuc 0) (λ at. factor_value at f) x.back x.kinds (λ at ns h. refl) x.size x.is (λ none. none) x.constant i)) j))
  factor_valued b (tree.positive f) s r a k e = factor_valued b f s r a k e

-- a row that an expression means has the expression's value at every point
pub rows_have_values : RowsHaveValues
rows_have_values b t s r a k e at ns h = let x = affine_valued b t s r a k e in x.is at ns h

-- ---- rows of comparisons

-- one row more: a less b and this much
record IsOneMore (rows all : Rows) (less : ℤ) (a b : List ℤ) : Type 0 where
  row : List ℤ
  all_are : all ≡ rows ++ row ∷ []
  value : (ns : List ℤ) → row_value row ns ≡ (row_value a ns -ℤ row_value b ns) -ℤ less

one_more : (rows all : Rows) (less : ℤ) (a b : List ℤ) → length a ≡ width → length b ≡ width → with_row rows less a b ≡ Some all → IsOneMore rows all less a b
one_more rows all less a b p q e = which (combined (negsuc 0) less a b) refl e where
  which : (o : Option (List ℤ)) → combined (negsuc 0) less a b ≡ o → row_behind rows o ≡ Some all → IsOneMore rows all less a b
  which None f g = cc
  which (Some row) f g =
      let sum = combined_sum (negsuc 0) less a b row p q f in
      record { row = row; all_are = sym (same_some g); value = λ ns. sum.value ns ∙ omega (arith, ints, minus-one (row_value b ns)) }

-- the rows of a comparison
compares_so : (c : tree.Comparison) (rows all : Rows) (a b : List ℤ) → length a ≡ width → length b ≡ width → with_compare rows c a b ≡ Some all
    → (more : Rows) × (all ≡ rows ++ more) × ((ns : List ℤ) → AllByRecursion (λ row. pos 0 ≤ℤ row_value row ns) more ↔ Compares c (row_value a ns) (row_value b ns))
compares_so tree.at_least rows all a b p q e = let one = one_more rows all (pos 0) a b p q e in
    (one.row ∷ [], one.all_are, λ ns. let is = one.value ns in (λ h. let some = h.0 in omega (arith, ints, is, some), λ h. (omega (arith, ints, is, h), tt)))
compares_so tree.above rows all a b p q e = let one = one_more rows all (pos 1) a b p q e in
    (one.row ∷ [], one.all_are, λ ns. let is = one.value ns in (λ h. let some = h.0 in omega (arith, ints, is, some), λ h. (omega (arith, ints, is, h), tt)))
compares_so tree.at_most rows all a b p q e = let one = one_more rows all (pos 0) b a q p e in
    (one.row ∷ [], one.all_are, λ ns. let is = one.value ns in (λ h. let some = h.0 in omega (arith, ints, is, some), λ h. (omega (arith, ints, is, h), tt)))
compares_so tree.below rows all a b p q e = let one = one_more rows all (pos 1) b a q p e in
    (one.row ∷ [], one.all_are, λ ns. let is = one.value ns in (λ h. let some = h.0 in omega (arith, ints, is, some), λ h. (omega (arith, ints, is, h), tt)))
compares_so tree.equal rows all a b p q e = which (with_row rows (pos 0) a b) refl e where
  which : (o : Option Rows) → with_row rows (pos 0) a b ≡ o → option_and_then (λ more. with_row more (pos 0) b a) o ≡ Some all
      → (more : Rows) × (all ≡ rows ++ more) × ((ns : List ℤ) → AllByRecursion (λ row. pos 0 ≤ℤ row_value row ns) more ↔ Compares tree.equal (row_value a ns) (row_value b ns))
  which None f g = cc
  which (Some some) f g =
      let one = one_more rows some (pos 0) a b p q f in
      let two = one_more some all (pos 0) b a q p g in (
        one.row ∷ two.row ∷ [],
        two.all_are ∙ ap (λ l. l ++ two.row ∷ []) one.all_are ∙ append_assoc rows (one.row ∷ []) (two.row ∷ []),
        λ ns.
            let is = one.value ns in let also = two.value ns in
            (λ h. let some = h.0 in let more = h.1.0 in omega (arith, ints, is, also, some, more), λ h. (omega (arith, ints, is, h), (omega (arith, ints, also, h), tt))),
      )

-- rows that aren't too many
few_rows : (room : ℕ) (rows all : Rows) (c : tree.Comparison) (o : Option Rows) → if_rows room rows c o ≡ Some all → o ≡ Some all
few_rows room rows all c o e = bool_cases (nat_le (length rows + row_count c) room) (λ t. rw t at e) (λ t. let none = rw t at e in cc)

-- a comparison holds at a point exactly where the rows that it means are at least 0 there
pub rows_hold_so : RowsHoldSo
unfolding compare_means
rows_hold_so b room c s r rows all k e =
    then_some (λ a i. then_in (affine_means b c.right i) (λ end. given (if_rows room rows c.comparison (with_compare rows c.comparison a.numbers end.numbers)))) (affine_means b c.left s) e (λ x f g.
    let left = affine_valued b c.left s x.1 x.0 k f in
    then_some (λ end. given (if_rows room rows c.comparison (with_compare rows c.comparison x.0.numbers end.numbers))) (affine_means b c.right x.1) g (λ y h i.
    let right = affine_valued b c.right x.1 y.1 y.0 left.kinds h in
    given_last (if_rows room rows c.comparison (with_compare rows c.comparison x.0.numbers y.0.numbers)) y.1 i (λ found j is.
    subst (λ (z : Rows × Names). (more : Rows) × (z.0 ≡ rows ++ more) × ((at : Point) (numbers : List ℤ) → AreNumbersAt z.1 at numbers → AllByRecursion (λ row. pos 0 ≤ℤ row_value row numbers) more ↔ Holds at c)) is (
    let so = compares_so c.comparison rows found x.0.numbers y.0.numbers left.size right.size (few_rows room rows found c.comparison (with_compare rows c.comparison x.0.numbers y.0.numbers) j) in (
      so.0,
      so.1,
      λ at ns m.
          let l = left.is at ns (right.back at ns m) in let u = right.is at ns m in
          subst (λ w. AllByRecursion (λ row. pos 0 ≤ℤ row_value row ns) so.0 ↔ Compares c.comparison (affine_value at c.left) w) u (
          subst (λ v. AllByRecursion (λ row. pos 0 ≤ℤ row_value row ns) so.0 ↔ Compares c.comparison v (row_value y.0.numbers ns)) l (so.2 ns)),
    )))))

-- ---- headers

-- a loop's name has a kind
named_kinds : (name : List ℕ) (o : Option Kind) (s : Names) (x : ℕ × Names) → HaveKinds s → loop_by name o s ≡ Some x → HaveKinds x.1
unfolding with_name
named_kinds name None s x k e = some_if _ (is_short name) e (λ test is. subst (λ (y : ℕ × Names). HaveKinds y.1) is (omega (arith, k, length-append s.kinds (ClosedLoop ∷ []), length-append s.names (name ∷ []))))
named_kinds name (Some ClosedLoop) s x k e = again (number_of name s) e where
  again : (o : Option ℕ) → loop_again o s ≡ Some x → HaveKinds x.1
  again None f = cc
  again (Some at) f = subst (λ (y : ℕ × Names). HaveKinds y.1) (same_some f) k
named_kinds name (Some _) s x k e = cc

-- a loop falls where it was read so
falls_so : (name : ℕ) (falls : Bool) (first last : List ℤ) → (header_by name falls first last).down ≡ falls
falls_so name false first last = refl
falls_so name true first last = refl

-- a loop takes a value exactly where that is within the bounds that were read
taken_so : (name : ℕ) (falls excludes : Bool) (first last ns : List ℤ) (start end value : ℤ) → row_value first ns ≡ start → row_value last ns ≡ end -ℤ excluded falls excludes
    → ((row_value (header_by name falls first last).lower ns ≤ℤ value) × (value ≤ℤ row_value (header_by name falls first last).upper ns)) ↔ Takes falls excludes start end value
taken_so name false true first last ns start end value a b = (λ h. (omega (arith, ints, h.0), omega (arith, ints, h.1)), λ h. (omega (arith, ints, h.0), omega (arith, ints, h.1)))
taken_so name false false first last ns start end value a b = (λ h. (omega (arith, ints, h.0), omega (arith, ints, h.1)), λ h. (omega (arith, ints, h.0), omega (arith, ints, h.1)))
taken_so name true true first last ns start end value a b = (λ h. (omega (arith, ints, h.1), omega (arith, ints, h.0)), λ h. (omega (arith, ints, h.1), omega (arith, ints, h.0)))
taken_so name true false first last ns start end value a b = (λ h. (omega (arith, ints, h.1), omega (arith, ints, h.0)), λ h. (omega (arith, ints, h.1), omega (arith, ints, h.0)))

-- the values of a loop are exactly those from its first value on for which its comparison holds
pub loops_take_values : LoopsTakeValues
unfolding header_means loop_name
loops_take_values b h s r l k e =
    then_some (λ n i. then_in (affine_means b h.first i) (λ first j. then_in (affine_means b h.last j) (λ last m. then_in (given (last_bound h.falls h.excludes last.numbers) m) (λ numbers. mean.pure (header_by n h.falls first.numbers numbers)))))
    (loop_by h.name (kind_of h.name s) s) e (λ x f g.
    let kinds = named_kinds h.name (kind_of h.name s) s x k f in
    then_some (λ first j. then_in (affine_means b h.last j) (λ last m. then_in (given (last_bound h.falls h.excludes last.numbers) m) (λ numbers. mean.pure (header_by x.0 h.falls first.numbers numbers)))) (affine_means b h.first x.1) g (λ y f2 g2.
    let first = affine_valued b h.first x.1 y.1 y.0 kinds f2 in
    then_some (λ last m. then_in (given (last_bound h.falls h.excludes last.numbers) m) (λ numbers. mean.pure (header_by x.0 h.falls y.0.numbers numbers))) (affine_means b h.last y.1) g2 (λ z f3 g3.
    let last = affine_valued b h.last y.1 z.1 z.0 first.kinds f3 in
    given_some (last_bound h.falls h.excludes z.0.numbers) (λ numbers. mean.pure (header_by x.0 h.falls y.0.numbers numbers)) z.1 g3 (λ numbers f4 g4.
    subst (λ (w : ReadHeader × Names). (w.0.down ≡ h.falls) × ((at : Point) (ns : List ℤ) → AreNumbersAt w.1 at ns → (value : ℤ) → ((row_value w.0.lower ns ≤ℤ value) × (value ≤ℤ row_value w.0.upper ns)) ↔ IsTaken at h value)) (same_some g4) (
      falls_so x.0 h.falls y.0.numbers numbers,
      (λ at ns m value.
          let sum = combined_sum (pos 1) (excluded h.falls h.excludes) zeros z.0.numbers numbers refl last.size f4 in
          taken_so x.0 h.falls h.excludes y.0.numbers numbers ns (affine_value at h.first) (affine_value at h.last) value (first.is at ns (last.back at ns m))
          (sum.value ns ∙ omega (arith, ints, zeros_value ns, one-mul (row_value z.0.numbers ns), last.is at ns m))),
    )))))
