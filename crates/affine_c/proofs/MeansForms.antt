-- What the trees of printed forms mean: their rows.
use Rattle.std.proofs.Common.{◌≡◌, refl, sym, ap, subst, ◌∙◌, ℕ, zero, suc, ◌+◌, ◌<◌, ◌≤◌, Bool, true, false, List, [], ◌∷◌, ◌++◌, append_assoc, append-nil, length, take, drop, get_or, replicate, arith, ℤ, pos, negsuc, length-append, length-take, length-set}
use Rattle.std.specs.Prelude.{codes, ⊤, Some, None, Option, ◌==◌, ◌||◌, nat_lt, ◌+ℤ◌, ◌-ℤ◌, ◌*ℤ◌, unsigned_abs, set, decimal, zip}
use Rattle.std.specs.Ordering.{int_eq}
use Rattle.std.specs.List.{AllByRecursion}
use Rattle.std.proofs.lemmas.Bool.Decides.{Decides-int_eq, nat_tests}
use Rattle.std.proofs.lemmas.Bool.{eqb-true}
use Rattle.std.proofs.lemmas.Int.{ints}
use Rattle.std.proofs.lemmas.List.{set-get_or, get_or-replicate, get_or_at, set_at}
use Rattle.std.proofs.lemmas.Fmt.{decimal_digit}
use Rattle.iolb_model.specs.Form.{AffineForm}
use Rattle.iolb_model.specs.declared.limits.TheConstants.{NUMBER_SIZE}
use Rattle.iolb_model.specs.Printed.{is_below_zero, nonzero}
use Rattle.c_reading.specs.declared.named.Kind.{Kind}
use Rattle.c_reading.specs.declared.named.Kind.TheVariants.{Parameter, OpenLoop}
use Rattle.c_reading.specs.Numbers.{width, most_parameters, most_loops, single, zeros, combined, value_from, is_integer, parameter_slot, loop_slot}
use Rattle.c_reading.specs.Affine.{kind_of, sign_of}
use Rattle.c_grammar.specs.Affine as tree
use Rattle.c_grammar.specs.Affine.{Factor, Term, Sums}
use Rattle.c_grammar.specs.Meaning as mean
use Rattle.c_grammar.specs.Meaning.{Names, Form, form, affine_means, sums_means, term_means, products_means, factor_means, integer_means, slot_by}
use Rattle.affine_c.specs.Tree.{form_terms, signed, size_tree, added, later_tree, terms_tree, form_tree}
use Rattle.c_tokens.specs.Names.{IsName}
use Rattle.affine_c.proofs.Roles.{IsSmall, IsSmallForm, padded, widened}
use Rattle.affine_c.proofs.Lexed.{Writes, writes_decimal}
use Rattle.affine_c.proofs.RowForms.{IsTerm, AreTerms, form_terms-parts, form_terms-are, combined_single, length-padded}
use Rattle.base_laws.proofs.Lists.{All-replicate}
use Rattle.c_grammar.proofs.NameKinds.{All-set}
use Rattle.c_grammar.proofs.Steps.{means_then, means_given, bool_cases}

-- ---- names and numbers

-- the place of a name's coefficient, by its kind
abbrev pub kind_slot : Option Kind → Option ℕ
kind_slot (Some (Parameter k)) = Some (parameter_slot k)
kind_slot (Some (OpenLoop depth)) = Some (loop_slot depth)
kind_slot _ = None

-- the place of a name that has one
slot_known : (n : List ℕ) (k : Option Kind) (at : ℕ) (s : Names) → kind_slot k ≡ Some at → slot_by n k s ≡ Some (at, s)
slot_known n (Some (Parameter k)) at s e = let same : parameter_slot k ≡ at = cc in ap (λ m. Some (m, s)) same
slot_known n (Some (OpenLoop depth)) at s e = let same : loop_slot depth ≡ at = cc in ap (λ m. Some (m, s)) same
slot_known n _ at s e = cc

-- a name, or the constant, has this place
abbrev pub HasSlot : Names → List ℕ → ℕ → Type 0
HasSlot s [] at = at ≡ 0
HasSlot s (b ∷ bytes) at = kind_slot (kind_of (b ∷ bytes) s) ≡ Some at

-- decimal digits mean their number
integer_is : (n : ℕ) → n < NUMBER_SIZE → integer_means (decimal n) ≡ Some (pos n)
unfolding integer_means
integer_is n small =
    let w : Writes n (decimal n) = writes_decimal n small in
    let integer : is_integer (decimal n) ≡ true = w.is_integer in
    let value : value_from 0 (decimal n) ≡ n = w.value in
    let below : nat_lt n NUMBER_SIZE ≡ true = grind (arith, nat_tests) in
    rw (integer, value, below) refl

-- ---- factors and terms

-- these numbers are meant, and no name is new
abbrev pub MeansRow : Option (Form × Names) → List ℤ → Names → Type 0
MeansRow o numbers s = (has_name : Bool) × (o ≡ Some (record { numbers = numbers; has_name = has_name }, s))

-- the multiple of one variable
single_times : (k : ℤ) (at : ℕ) (n v : ℤ) → at < width → (pos 0 +ℤ (k *ℤ n)) -ℤ pos 0 ≡ v → IsSmall v → combined k (pos 0) zeros (single at n) ≡ Some (single at v)
single_times k at n v within e fits =
    combined_single k zeros at n v refl (All-replicate IsSmall width (pos 0) (omega arith)) within (ap (λ z. (z +ℤ (k *ℤ n)) -ℤ pos 0) (get_or-replicate width at (pos 0) (pos 0) within) ∙ e) fits

module _ (brackets : ℕ) (s : Names) where
  -- a factor of one variable, with its sign
  signed_means : (below : Bool) (f : Factor) (at : ℕ) (n v : ℤ) (h : Bool) → factor_means brackets f s ≡ Some (record { numbers = single at n; has_name = h }, s) → at < width → (pos 0 +ℤ (sign_of below *ℤ n)) -ℤ pos 0 ≡ v → IsSmall v
      → factor_means brackets (signed below f) s ≡ Some (record { numbers = single at v; has_name = h }, s)
  unfolding factor_means
  signed_means true f at n v h e within is fits =
      means_then (factor_means brackets f s) _ e (ap (λ o. mean.given (form h o) s) (single_times (negsuc 0) at n v within is fits))
  signed_means false f at n v h e within is fits =
      let same : n ≡ v = omega (arith, ints, is) in
      e ∙ ap (λ m. Some (record { numbers = single at m; has_name = h }, s)) same

  -- a number
  integer_factor : (n : ℕ) → n < NUMBER_SIZE → factor_means brackets (tree.integer (decimal n)) s ≡ Some (record { numbers = single 0 (pos n); has_name = false }, s)
  unfolding factor_means
  integer_factor n small = means_given (integer_means (decimal n)) _ s (integer_is n small) refl

  -- a name
  name_factor : (bytes : List ℕ) (at : ℕ) → kind_slot (kind_of bytes s) ≡ Some at → factor_means brackets (tree.name bytes) s ≡ Some (record { numbers = single at (pos 1); has_name = true }, s)
  unfolding factor_means mean.slot
  name_factor bytes at known = means_then (slot_by bytes (kind_of bytes s) s) _ (slot_known bytes (kind_of bytes s) at s known) refl

  -- a factor alone
  alone : (f : Factor) (a : Form) → factor_means brackets f s ≡ Some (a, s) → term_means brackets (tree.product f tree.product_end) s ≡ Some (a, s)
  unfolding term_means products_means
  alone f a e = means_then (factor_means brackets f s) _ e refl

  -- a number times a name
  multiple : (f g : Factor) (at : ℕ) (v : ℤ) → factor_means brackets f s ≡ Some (record { numbers = single 0 v; has_name = false }, s) → factor_means brackets g s ≡ Some (record { numbers = single at (pos 1); has_name = true }, s) → at < width → IsSmall v
      → term_means brackets (tree.product f (tree.times g tree.product_end)) s ≡ Some (record { numbers = single at v; has_name = true }, s)
  unfolding term_means products_means
  multiple f g at v e1 e2 within fits =
      means_then (factor_means brackets f s) _ e1 (means_then (factor_means brackets g s) _ e2
      (means_given _ _ s (ap (form true) (single_times v at (pos 1) v within (omega (arith, ints)) fits)) refl))

  -- a term with its sign
  pub size_means : (below : Bool) (t : ℤ × List ℕ) (at : ℕ) (v : ℤ) → IsTerm t → HasSlot s t.1 at → at < width → (pos 0 +ℤ (sign_of below *ℤ pos (unsigned_abs t.0))) -ℤ pos 0 ≡ v → IsSmall v
      → MeansRow (term_means brackets (size_tree below t.0 t.1) s) (single at v) s
  size_means below (c, []) at v is known within e fits =
      (false, alone _ _ (signed_means below _ 0 (pos (unsigned_abs c)) v false (integer_factor (unsigned_abs c) is.0) (omega arith) e fits) ∙ ap (λ m. Some (record { numbers = single m v; has_name = false }, s)) (sym known))
  size_means below (c, b ∷ bytes) at v is known within e fits =
      elim (unsigned_abs c == 1) as (λ w. (unsigned_abs c == 1) ≡ w → MeansRow (term_means brackets (size_tree below c (b ∷ bytes)) s) (single at v) s) [
        | true ↦ λ one.
            let unit : unsigned_abs c ≡ 1 = eqb-true (unsigned_abs c) 1 one in
            rw one (true, alone _ _ (signed_means below _ at (pos 1) v true (name_factor (b ∷ bytes) at known) within (ap (λ n. (pos 0 +ℤ (sign_of below *ℤ pos n)) -ℤ pos 0) (sym unit) ∙ e) fits))
        | false ↦ λ other.
            rw other (true, multiple _ _ at v (signed_means below _ 0 (pos (unsigned_abs c)) v false (integer_factor (unsigned_abs c) is.0) (omega arith) e fits) (name_factor (b ∷ bytes) at known) within fits)
      ] refl

-- ---- sums

-- A row with each term's coefficient at the place of its name, which was 0, becomes this row.
abbrev pub FillsRow : Names → List ℤ → List (ℤ × List ℕ) → List ℤ → Type 0
FillsRow s row [] last = row ≡ last
FillsRow s row (t ∷ terms) last = (at : ℕ) × (at < width) × HasSlot s t.1 at × (get_or row at (pos 0) ≡ pos 0) × FillsRow s (set row at t.0) terms last

-- a number from its size and its sign
signed_size : (c : ℤ) → (pos 0 +ℤ (sign_of (is_below_zero c) *ℤ pos (unsigned_abs c))) -ℤ pos 0 ≡ c
signed_size (pos n) = omega (arith, ints)
signed_size (negsuc n) = omega (arith, ints)

module _ (brackets : ℕ) (s : Names) where
  -- a term more
  added_means : (below : Bool) (a b c : Form) (t : Term) (ss : Sums) (o : Option (Form × Names)) → term_means brackets t s ≡ Some (b, s) → mean.plus below a b ≡ Some c → sums_means brackets c ss s ≡ o → sums_means brackets a (added below t ss) s ≡ o
  unfolding sums_means
  added_means true a b c t ss o e f g = means_then (term_means brackets t s) _ e (means_given _ _ s f g)
  added_means false a b c t ss o e f g = means_then (term_means brackets t s) _ e (means_given _ _ s f g)

  -- terms after the first
  later_means : (terms : List (ℤ × List ℕ)) (row last : List ℤ) (h : Bool) → length row ≡ width → AllByRecursion IsSmall row → AreTerms terms → FillsRow s row terms last
      → MeansRow (sums_means brackets (record { numbers = row; has_name = h }) (later_tree terms) s) last s
  unfolding sums_means
  later_means [] row last h long small are fills = (h, ap (λ ns. Some (record { numbers = ns; has_name = h }, s)) fills)
  later_means (t ∷ terms) row last h long small are fills =
      let size = size_means brackets s false t fills.0 (pos (unsigned_abs t.0)) are.0 fills.2 fills.1 (omega (arith, ints)) are.0.0 in
      let b : Form = record { numbers = single fills.0 (pos (unsigned_abs t.0)); has_name = size.0 } in
      let sums : mean.plus (is_below_zero t.0) (record { numbers = row; has_name = h }) b ≡ Some (record { numbers = set row fills.0 t.0; has_name = h || size.0 }) =
      ap (form (h || size.0)) (combined_single (sign_of (is_below_zero t.0)) row fills.0 (pos (unsigned_abs t.0)) t.0 long small fills.1 (ap (λ z. (z +ℤ (sign_of (is_below_zero t.0) *ℤ pos (unsigned_abs t.0))) -ℤ pos 0) fills.3 ∙ signed_size t.0) are.0.0) in
      let rest = later_means terms (set row fills.0 t.0) last (h || size.0) (length-set row fills.0 t.0 ∙ long) (All-set IsSmall row fills.0 t.0 are.0.0 small) are.1 fills.4 in
      (rest.0, added_means (is_below_zero t.0) _ b _ (size_tree false t.0 t.1) (later_tree terms) _ size.1 sums rest.1)

  -- all terms
  pub terms_means : (terms : List (ℤ × List ℕ)) (last : List ℤ) → AreTerms terms → FillsRow s zeros terms last → MeansRow (affine_means brackets (terms_tree terms) s) last s
  unfolding affine_means sums_means
  terms_means [] last are fills =
      let zero_is : decimal 0 ≡ codes "0" = decimal_digit 0 (omega arith) in
      let none : factor_means brackets (tree.integer (codes "0")) s ≡ Some (record { numbers = zeros; has_name = false }, s) = ap (λ ds. factor_means brackets (tree.integer ds) s) (sym zero_is) ∙ integer_factor brackets s 0 (omega arith) in
      (false, means_then (term_means brackets (tree.product (tree.integer (codes "0")) tree.product_end) s) (λ a. sums_means brackets a tree.sum_end) (alone brackets s (tree.integer (codes "0")) _ none) (ap (λ ns. Some (record { numbers = ns; has_name = false }, s)) fills))
  terms_means (t ∷ terms) last are fills =
      let size = size_means brackets s (is_below_zero t.0) t fills.0 t.0 are.0 fills.2 fills.1 (signed_size t.0) are.0.0 in
      let rest = later_means terms (single fills.0 t.0) last size.0 (length-set zeros fills.0 t.0) (All-set IsSmall zeros fills.0 t.0 are.0.0 (All-replicate IsSmall width (pos 0) (omega arith))) are.1 fills.4 in
      (rest.0, means_then _ _ size.1 rest.1)

-- ---- rows

-- the places of these names' coefficients, from this one on
abbrev pub HaveSlots : Names → List (List ℕ) → ℕ → Type 0
HaveSlots i [] s = ⊤
HaveSlots i (name ∷ names) s = (kind_slot (kind_of name i) ≡ Some s) × HaveSlots i names (suc s)

-- a name's place
has_slot : (i : Names) (name : List ℕ) (s : ℕ) → IsName name → kind_slot (kind_of name i) ≡ Some s → HasSlot i name s
has_slot i [] s is e = absurd (let b = is.begins in cc)
has_slot i (b ∷ name) s is e = e

-- a term fills its place, unless it is 0
fills_kept : (i : Names) (row last : List ℤ) (t : ℤ × List ℕ) (terms : List (ℤ × List ℕ)) (s : ℕ) → s < width → HasSlot i t.1 s → get_or row s (pos 0) ≡ pos 0 → FillsRow i (set row s t.0) (nonzero terms) last → FillsRow i row (nonzero (t ∷ terms)) last
fills_kept i row last t terms s within has none rest =
    bool_cases (int_eq t.0 (pos 0))
    (λ e.
    let zero_is : t.0 ≡ pos 0 = (Decides-int_eq t.0 (pos 0)).0 e in
    let same : set row s t.0 ≡ row = ap (set row s) (zero_is ∙ sym none) ∙ set-get_or row s (pos 0) in
    rw e (subst (λ r. FillsRow i r (nonzero terms) last) same rest))
    (λ e. rw e (s, within, has, none, rest))

-- only zeros
pub padded_none : (k : ℕ) → padded k [] ≡ replicate k (pos 0)
padded_none zero = refl
padded_none (suc k) = ap (λ ns. pos 0 ∷ ns) (padded_none k)

-- some names in order, whose places stand behind these numbers
fills_names : (i : Names) (names : List (List ℕ)) (ns front rest : List ℤ) (k : ℕ) (later : List (ℤ × List ℕ)) (last : List ℤ) → length ns ≤ length names → length names ≤ k → length front + length names ≤ width → AllByRecursion IsName names
    → HaveSlots i names (length front) → FillsRow i (front ++ (padded k ns ++ rest)) (nonzero later) last → FillsRow i (front ++ (replicate k (pos 0) ++ rest)) (nonzero (zip ns names ++ later)) last
fills_names i names [] front rest k later last fewer few within all have fills = subst (λ ns. FillsRow i (front ++ (ns ++ rest)) (nonzero later) last) (padded_none k) fills
fills_names i (name ∷ names) (n ∷ ns) front rest (suc k) later last fewer few within all have fills =
    let longer : length (front ++ n ∷ []) ≡ suc (length front) = omega (arith, length-append front (n ∷ [])) in
    let zero_rest : List ℤ = replicate k (pos 0) ++ rest in
    fills_kept i (front ++ (pos 0 ∷ zero_rest)) last (n, name) (zip ns names ++ later) (length front) (omega arith) (has_slot i name (length front) all.0 have.0) (get_or_at front (pos 0) zero_rest (pos 0) (length front) refl)
    (subst (λ r. FillsRow i r (nonzero (zip ns names ++ later)) last) (append_assoc front (n ∷ []) zero_rest ∙ sym (set_at front (pos 0) zero_rest n (length front) refl))
    (fills_names i names ns (front ++ n ∷ []) rest k later last (omega arith) (omega arith) (omega arith) all.1 (subst (HaveSlots i names) (sym longer) have.1)
    (subst (λ r. FillsRow i r (nonzero later) last) (sym (append_assoc front (n ∷ []) (padded k ns ++ rest))) fills)))
fills_names i _ (n ∷ ns) front rest _ later last fewer few within all have fills = absurd (omega arith)

-- ---- forms

-- where the names of parameters and of loops around have their places
pub record KnowsVariables (i : Names) (parameters around : List (List ℕ)) : Type 0 where
  pub parameter_names : AllByRecursion IsName parameters
  pub loop_names : AllByRecursion IsName around
  pub few : length parameters ≤ most_parameters
  pub deep : length around ≤ most_loops
  pub parameter_slots : HaveSlots i parameters 1
  pub loop_slots : HaveSlots i around (1 + most_parameters)

-- a form's terms fill its row
fills_form : (i : Names) (parameters around : List (List ℕ)) (form : AffineForm) → KnowsVariables i parameters around → FillsRow i zeros (form_terms (parameters ++ around) form) (widened (length parameters) (length around) form)
fills_form i parameters around form knows =
    let first : List ℤ = take (length parameters) form.coefficients in
    let second : List ℤ = take (length around) (drop (length parameters) form.coefficients) in
    let numbers : List ℤ = widened (length parameters) (length around) form in
    let constant : List (ℤ × List ℕ) = (form.constant, []) ∷ [] in
    let front : List ℤ = pos 0 ∷ padded most_parameters first in
    let seven : length front ≡ 1 + most_parameters = ap suc (length-padded most_parameters first) in
    let end_row : FillsRow i (front ++ (padded most_loops second ++ [])) (nonzero constant) numbers =
    fills_kept i (front ++ (padded most_loops second ++ [])) numbers (form.constant, []) [] 0 (omega arith) refl refl (ap (λ ns. form.constant ∷ (padded most_parameters first ++ ns)) (append-nil (padded most_loops second))) in
    let loops : FillsRow i (front ++ (replicate most_loops (pos 0) ++ [])) (nonzero (zip second around ++ constant)) numbers =
    fills_names i around second front [] most_loops constant numbers (omega (arith, length-take (length around) (drop (length parameters) form.coefficients))) knows.deep (omega (arith, seven, knows.deep)) knows.loop_names
    (subst (HaveSlots i around) (sym seven) knows.loop_slots) end_row in
    let all : FillsRow i zeros (nonzero (zip first parameters ++ (zip second around ++ constant))) numbers =
    fills_names i parameters first (pos 0 ∷ []) (replicate most_loops (pos 0)) most_parameters (zip second around ++ constant) numbers (omega (arith, length-take (length parameters) form.coefficients)) knows.few (omega (arith, knows.few)) knows.parameter_names knows.parameter_slots loops in
    subst (λ terms. FillsRow i zeros terms numbers) (sym (form_terms-parts parameters around form)) all

-- a printed form means its row
pub form_means : (brackets : ℕ) (i : Names) (parameters around : List (List ℕ)) (form : AffineForm) → KnowsVariables i parameters around → IsSmallForm (length parameters) (length around) form
    → MeansRow (affine_means brackets (form_tree (parameters ++ around) form) i) (widened (length parameters) (length around) form) i
form_means brackets i parameters around form knows small =
    terms_means brackets i (form_terms (parameters ++ around) form) (widened (length parameters) (length around) form)
    (form_terms-are parameters around form knows.parameter_names knows.loop_names knows.few knows.deep small) (fills_form i parameters around form knows)
