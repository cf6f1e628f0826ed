-- Affine expressions that are spelled within the limits are read, with their meaning.
use Rattle.std.proofs.Common.{◌≡◌, ℕ, zero, suc, ◌≤◌, Bool, true, false, not, List, [], ◌∷◌, ◌++◌, refl, sym, ap, ◌∙◌, Option, Some, None, subst, arith}
use Rattle.std.specs.Prelude.{◌&&◌, ◌||◌, if◌then◌else◌, ℤ, Result, Ok, bytes_eq, codes}
use Rattle.std.proofs.lemmas.Bool.{and_parts}
use Rattle.c_reading.specs.declared.named.Kind.{Kind}
use Rattle.c_reading.specs.declared.named.Kind.TheVariants.{ClosedLoop, Array}
use Rattle.c_reading.specs.declared.error.ReadFault.{ReadFault}
use Rattle.c_reading.specs.Input.{Input, Rule, Outcome, and_then, given as rule_given, spelling, next, sees, left, place}
use Rattle.c_reading.specs.Numbers.{is_integer}
use Rattle.c_reading.specs.Affine as rule
use Rattle.c_reading.specs.Affine.{Affine, kind_of, with_name, star_of, small, one_number}
use Rattle.c_grammar.specs.Words.{Word, a_name, a_symbol}
use Rattle.c_grammar.specs.Affine as tree
use Rattle.c_grammar.specs.Affine.{Factor, factor_words, products_words, term_words, sums_words, affine_words}
use Rattle.c_grammar.specs.Meaning as mean
use Rattle.c_grammar.specs.Meaning.{Names, Meaning, Form, form, then_in, given, factor_means, products_means, term_means, sums_means, affine_means}
use Rattle.c_grammar.proofs.Steps.{bare, first, spelled_kind}
use Rattle.c_grammar.proofs.SoundAffine.{form_of, Allowed}
use Rattle.c_grammar.proofs.Forms.{AreSmall, flipped, flipped_negative, factor_are, flip, negated_is, signed_is}
use Rattle.c_grammar.proofs.Spelled.{same_some, At, at_kind, at_spelling, at_sees, at_next, at_as, at_assoc, some_left, longer, fewer, name_not_symbol, number_not_symbol, then_some, given_some, then_ok, some_if, RunsIf, Runs, none_meant, runs_end, runs_if_then, runs_after, runs_given, runs_when, at_name}

-- ---- what follows

-- no `*` follows
abbrev pub NoStar : List Word → Type 0
NoStar ws = bytes_eq (first ws).bytes (codes "*") ≡ false

-- no word that goes on with an expression
pub record Ends (ws : List Word) : Type 0 where
  pub times : NoStar ws
  pub plus : bytes_eq (first ws).bytes (codes "+") ≡ false
  pub minus : bytes_eq (first ws).bytes (codes "-") ≡ false

-- no `*` stands behind a term of a sum
no_star : (ss : tree.Sums) (rest : List Word) → Ends rest → NoStar (sums_words ss ++ rest)
no_star tree.sum_end rest ends = ends.times
no_star _ rest ends = refl

-- ---- names and numbers

-- a name gives its place, by its kind
slot_by_run : (i : Input) (rest : List Word) (k : Option Kind) → At i (a_name (spelling i) ∷ rest) → Runs (λ a. a) (rule.slot_by k i) rest (mean.slot_by (spelling i) k (bare i))
unfolding rule.new_parameter with_name next
slot_by_run i rest None at = runs_when _ _ (runs_end (at_as _ refl (at_next at)) refl)
slot_by_run i rest (Some ClosedLoop) at = none_meant
slot_by_run i rest (Some (Array number subscripts)) at = none_meant
slot_by_run i rest (Some _) at = runs_end (at_next at) refl

-- a name that is spelled gives its place
pub slot_run : (i : Input) (name : List ℕ) (rest : List Word) → At i (a_name name ∷ rest) → Runs (λ a. a) (rule.slot i) rest (mean.slot name (bare i))
unfolding rule.slot mean.slot kind_of
slot_run i name rest at = at_name (λ n. mean.slot_by n (kind_of n (bare i)) (bare i)) at (slot_by_run i rest (kind_of (spelling i) i))

-- an integer below 2^20 is read
integer_read : (i : Input) (n : ℤ) → mean.integer_means (spelling i) ≡ Some n → rule.number i ≡ Ok (one_number n, next i)
unfolding mean.integer_means
integer_read i n e = some_if _ _ e (λ both same. let is = and_parts (is_integer (spelling i)) _ both in rw (is.0, is.1) (ap (λ (n : ℤ). Ok (one_number n, next i)) same))

-- ---- numbers

-- small numbers are given
small_run : (start : ℕ) (has_name last : Bool) (o : Option (List ℤ)) (x : Form) → form has_name o ≡ Some x → (c : Affine) × (small start o has_name last ≡ Ok c) × (form_of c ≡ x)
small_run start has_name last None x e = absurd cc
small_run start has_name last (Some ns) x e = (record { numbers = ns; has_name = has_name; ends_in_name = last }, refl, same_some e)

-- a sum is given
sum_run : (start : ℕ) (negative : Bool) (a b : Affine) (x : Form) → mean.plus negative (form_of a) (form_of b) ≡ Some x → (c : Affine) × (rule.sum start negative a b ≡ Ok c) × (form_of c ≡ x)
unfolding rule.sum
sum_run start negative a b x e = small_run start (a.has_name || b.has_name) b.ends_in_name _ x e

-- two factors of which at most one has a name
times_some : {P : Type 0} (both : Bool) (o : Option Form) (x : Form) → (if both then None else o) ≡ Some x → (both ≡ false → o ≡ Some x → P) → P
times_some true o x e k = absurd cc
times_some false o x e k = k refl e

-- a product is given
product_run : (start : ℕ) (a b : Affine) (x : Form) → mean.times (form_of a) (form_of b) ≡ Some x → (c : Affine) × (rule.product start a b ≡ Ok c) × (form_of c ≡ x)
unfolding rule.product
product_run start a b x e = times_some (a.has_name && b.has_name) _ x e (λ apart e1. small_run start (a.has_name || b.has_name) b.ends_in_name _ x e1)

-- ---- where names may stand

-- a form keeps whether a name stands in it
form_has : (h : Bool) (o : Option (List ℤ)) (x : Form) → form h o ≡ Some x → h ≡ x.has_name
form_has h None x e = absurd cc
form_has h (Some ns) x e = ap (λ (f : Form). f.has_name) (let same : record { numbers = ns; has_name = h } ≡ x = cc in same)

-- where no name may stand, none stands in either part
allowed_or : (star : Option ℕ) (a b : Bool) → Allowed star (a || b) → Allowed star a × Allowed star b
allowed_or None a b h = (tt, tt)
allowed_or (Some s) true b h = absurd cc
allowed_or (Some s) false b h = (refl, h)

-- none stands in the parts of a product, nor in the second behind a name
times_allowed : (star : Option ℕ) (there : ℕ) (a b c : Form) → mean.times a b ≡ Some c → Allowed star c.has_name → Allowed star a.has_name × Allowed (star_of star a.has_name there) b.has_name
times_allowed star there a b c e h = times_some (a.has_name && b.has_name) _ c e (λ apart e1.
    let both = allowed_or star a.has_name b.has_name (subst (Allowed star) (sym (form_has _ _ c e1)) h) in
    (both.0, at star a.has_name b.has_name apart both.1)) where
      at : (star : Option ℕ) (x y : Bool) → (x && y) ≡ false → Allowed star y → Allowed (star_of star x there) y
      at None true y apart h = apart
      at None false y apart h = tt
      at (Some s) x y apart h = h

-- none stands in a sum before these, nor in its next term
sum_allowed : (star : Option ℕ) (b : ℕ) (sign : Bool) (ss : tree.Sums) (a : Form) (p x : Form × Names) → then_in (given (mean.plus sign a p.0) p.1) (λ c. sums_means b c ss) ≡ Some x
    → ((c : Form) → sums_means b c ss p.1 ≡ Some x → Allowed star c.has_name) → Allowed star a.has_name × Allowed star p.0.has_name
sum_allowed star b sign ss a p x e rest = given_some (mean.plus sign a p.0) _ p.1 e (λ c e1 e2. allowed_or star a.has_name p.0.has_name (subst (Allowed star) (sym (form_has _ _ c e1)) (rest c e2)))

-- none stands in what a sum begins with
sums_allowed : (star : Option ℕ) (b : ℕ) (ss : tree.Sums) (a : Form) (s : Names) (x : Form × Names) → sums_means b a ss s ≡ Some x → Allowed star x.0.has_name → Allowed star a.has_name
unfolding sums_means
sums_allowed star b tree.sum_end a s x e h = subst (λ (y : Form × Names). Allowed star y.0.has_name) (sym (same_some e)) h
sums_allowed star b (tree.plus t ss) a s x e h = then_some _ (term_means b t s) e (λ p e1 e2. (sum_allowed star b false ss a p x e2 (λ c f. sums_allowed star b ss c p.1 x f h)).0)
sums_allowed star b (tree.minus t ss) a s x e h = then_some _ (term_means b t s) e (λ p e1 e2. (sum_allowed star b true ss a p x e2 (λ c f. sums_allowed star b ss c p.1 x f h)).0)

-- none stands in what a product begins with
products_allowed : (star : Option ℕ) (b : ℕ) (ps : tree.Products) (a : Form) (s : Names) (x : Form × Names) → products_means b a ps s ≡ Some x → Allowed star x.0.has_name → Allowed star a.has_name
unfolding products_means
products_allowed star b tree.product_end a s x e h = subst (λ (y : Form × Names). Allowed star y.0.has_name) (sym (same_some e)) h
products_allowed star b (tree.times f ps) a s x e h = then_some _ (factor_means b f s) e (λ p e1 e2. given_some (mean.times a p.0) _ p.1 e2 (λ c e3 e4.
    (times_allowed star 0 a p.0 c e3 (products_allowed star b ps c p.1 x e4 h)).0))

-- ---- factors

-- where a name stands in the form only if it may, the rule gives it
abbrev FormRuns : Option ℕ → Outcome Affine → List Word → Option (Form × Names) → Type 0
FormRuns star o rest m = RunsIf (λ a. Allowed star a.has_name) form_of o rest m

-- a factor behind signs, of which so many are left behind this one
abbrev factor_from : (Option ℕ → Rule Affine) → ℕ → Option ℕ → ℕ → Bool → Input → Outcome Affine
factor_from br start star n sign i = and_then (rule.signs n sign i) (λ negative. λ j. and_then (rule.atom br star j) (λ a. rule_given (rule.signed start negative a)))

-- what it means behind this sign
abbrev meant : Bool → Option (Form × Names) → Option (Form × Names)
meant sign m = then_in m (λ a. λ s. Some (flip sign a, s))

-- signs end where none is seen
pub no_signs : (n : ℕ) (sign : Bool) (i : Input) → 1 ≤ n → sees (codes "-") i ≡ false → sees (codes "+") i ≡ false → rule.signs n sign i ≡ Ok (sign, i)
unfolding rule.signs
no_signs zero sign i some minus plus = absurd (omega arith)
no_signs (suc n) sign i some minus plus = rw (minus, plus) refl

-- a `-` is taken
pub minus_sign : (n : ℕ) (sign : Bool) (i : Input) → sees (codes "-") i ≡ true → rule.signs (suc n) sign i ≡ rule.signs n (not sign) (next i)
unfolding rule.signs
minus_sign n sign i minus = rw minus refl

-- a `+` is taken
pub plus_sign : (n : ℕ) (sign : Bool) (i : Input) → sees (codes "-") i ≡ false → sees (codes "+") i ≡ true → rule.signs (suc n) sign i ≡ rule.signs n sign (next i)
unfolding rule.signs
plus_sign n sign i minus plus = rw (minus, plus) refl

-- a name stands where it may
name_run : (b : ℕ) (star : Option ℕ) (i : Input) (name : List ℕ) (rest : List Word) → At i (a_name name ∷ rest) → FormRuns star (rule.name_by star i) rest (factor_means b (tree.name name) (bare i))
unfolding factor_means
name_run b None i name rest at = runs_if_then (rule.slot i) _ (mean.slot name (bare i)) _ (λ p x e h. tt) (slot_run i name rest at) (λ s at1. runs_end at1 refl)
name_run b (Some star) i name rest at = record { run = λ x e h. then_some _ (mean.slot name (bare i)) e (λ p e1 e2. let has : true ≡ x.0.has_name = ap (λ (y : Form × Names). y.0.has_name) (same_some e2) in absurd cc) }

-- the symbol that closes an expression is taken
pub closed_by_run : (word : List ℕ) (a : Affine) (i : Input) → sees word i ≡ true → rule.closed_by word a i ≡ Ok (record a { ends_in_name = false }, next i)
unfolding rule.closed_by
closed_by_run word a i seen = rw seen refl

-- a factor is its signs and what stands behind them
factor_joined : (br : Option ℕ → Rule Affine) (start : ℕ) (star : Option ℕ) (i : Input) (rest : List Word) (m : Option (Form × Names)) → FormRuns star (factor_from br start star (left i) false i) rest (meant false m) → FormRuns star (rule.factor br start star i) rest m
unfolding rule.factor rule.all_signs
factor_joined br start star i rest None r = r
factor_joined br start star i rest (Some x) r = r

-- what stands behind no signs
unsigned_run : (br : Option ℕ → Rule Affine) (start : ℕ) (star : Option ℕ) (n : ℕ) (sign : Bool) (i : Input) (rest : List Word) (m : Option (Form × Names)) → rule.signs n sign i ≡ Ok (sign, i) → ((x : Form × Names) → m ≡ Some x → AreSmall x.0.numbers)
    → FormRuns star (rule.atom br star i) rest m → FormRuns star (factor_from br start star n sign i) rest (meant sign m)
unsigned_run br start star n sign i rest m none are atom = record {
  run = λ x e h. then_some _ m e (λ p e1 e2.
      let same : ◌≡◌ {A = Form × Names} (flip sign p.0, p.1) x = same_some e2 in
      let r = atom.run p e1 (subst (λ (y : Form × Names). Allowed star y.0.has_name) (sym same) h) in
      let small : AreSmall r.0.0.numbers = subst (λ (y : Form × Names). AreSmall y.0.numbers) (sym r.3) (are p e1) in (
        (record { numbers = flipped sign r.0.0.numbers; has_name = r.0.0.has_name; ends_in_name = r.0.0.ends_in_name }, r.0.1),
        then_ok _ _ none (then_ok _ _ r.1 (ap (λ (o : Result Affine ReadFault). rule_given o r.0.1) (signed_is start sign r.0.0 small))),
        r.2,
        ap (λ (y : Form × Names). (flip sign y.0, y.1)) r.3 ∙ same,
      ));
}

-- a `-` in front makes the form its negative
negative_meant : (sign : Bool) (m : Option (Form × Names)) → ((x : Form × Names) → m ≡ Some x → AreSmall x.0.numbers) → meant sign (then_in m (λ a. given (mean.negated a))) ≡ meant (not sign) m
negative_meant sign None are = refl
negative_meant sign (Some x) are = ap (λ (o : Option Form). meant sign (given o x.1)) (negated_is x.0 (are x refl)) ∙ ap (λ (ns : List ℤ). Some (record { numbers = ns; has_name = x.0.has_name }, x.1)) (flipped_negative sign x.0.numbers)

-- ---- expressions

-- what the rule makes is meant, and what follows
made_run : (star : Option ℕ) {rest : List Word} (r : Result Affine ReadFault) (f : Affine → Rule Affine) (o : Option Form) (g : Form → Meaning Form) (j : Input) → ((x : Form) → o ≡ Some x → (c : Affine) × (r ≡ Ok c) × (form_of c ≡ x))
    → ((c : Affine) → FormRuns star (f c j) rest (g (form_of c) (bare j))) → FormRuns star (and_then (rule_given r j) f) rest (then_in (given o (bare j)) g)
made_run star {rest} r f (Some x) g j made k = let c = made x refl in rw c.1 (subst (λ (y : Form). FormRuns star (f c.0 j) rest (g y (bare j))) c.2 (k c.0))
made_run star r f None g j made k = none_meant

mutual
  unfolding affine_means sums_means term_means products_means factor_means rule.affine_by rule.term rule.sums rule.products rule.atom rule.bracketed next spelled_kind

  affine_run : (b : ℕ) (star : Option ℕ) (t : tree.Affine) (rest : List Word) (i : Input) → At i (affine_words t ++ rest) → Ends rest → FormRuns star (rule.affine_by (rule.bracketed b) star i) rest (affine_means b t (bare i))
  affine_run b star (tree.sum t ss) rest i at ends =
      runs_if_then (rule.term (rule.bracketed b) (place i) star i) _ (term_means b t (bare i)) _ (λ p x e h. sums_allowed star b ss p.0 p.1 x e h)
      (term_run b star (place i) t (sums_words ss ++ rest) i (at_assoc (term_words t) (sums_words ss) rest at) (no_star ss rest ends)) (λ r at1.
      sums_run b star (place i) ss rest (left r.1) r.0 r.1 at1 ends (omega arith))

  sums_run : (b : ℕ) (star : Option ℕ) (start : ℕ) (ss : tree.Sums) (rest : List Word) (n : ℕ) (a : Affine) (i : Input) → At i (sums_words ss ++ rest) → Ends rest → left i ≤ n
      → FormRuns star (rule.sums (rule.bracketed b) start star n a i) rest (sums_means b (form_of a) ss (bare i))
  sums_run b star start ss rest zero a i at ends few = let some = some_left at in absurd (omega arith)
  sums_run b star start tree.sum_end rest (suc n) a i at ends few = rw (at_sees (codes "-") at ∙ ends.minus, at_sees (codes "+") at ∙ ends.plus) (runs_end at refl)
  sums_run b star start (tree.plus t ss) rest (suc n) a i at ends few =
      rw (at_sees (codes "-") at, at_sees (codes "+") at) (runs_if_then (rule.term (rule.bracketed b) start star (next i)) _ (term_means b t (bare i)) _ (λ p x e h. (sum_allowed star b false ss (form_of a) p x e (λ c f. sums_allowed star b ss c p.1 x f h)).1)
      (term_run b star start t (sums_words ss ++ rest) (next i) (at_assoc (term_words t) (sums_words ss) rest (at_next at)) (no_star ss rest ends)) (λ r at1.
      made_run star (rule.sum start false a r.0) _ (mean.plus false (form_of a) (form_of r.0)) _ r.1 (sum_run start false a r.0) (λ c. sums_run b star start ss rest n c r.1 at1 ends (fewer at at1 few (omega (arith, longer (term_words t) (sums_words ss) rest))))))
  sums_run b star start (tree.minus t ss) rest (suc n) a i at ends few =
      rw (at_sees (codes "-") at) (runs_if_then (rule.term (rule.bracketed b) start star (next i)) _ (term_means b t (bare i)) _ (λ p x e h. (sum_allowed star b true ss (form_of a) p x e (λ c f. sums_allowed star b ss c p.1 x f h)).1)
      (term_run b star start t (sums_words ss ++ rest) (next i) (at_assoc (term_words t) (sums_words ss) rest (at_next at)) (no_star ss rest ends)) (λ r at1.
      made_run star (rule.sum start true a r.0) _ (mean.plus true (form_of a) (form_of r.0)) _ r.1 (sum_run start true a r.0) (λ c. sums_run b star start ss rest n c r.1 at1 ends (fewer at at1 few (omega (arith, longer (term_words t) (sums_words ss) rest))))))

  term_run : (b : ℕ) (star : Option ℕ) (start : ℕ) (t : tree.Term) (rest : List Word) (i : Input) → At i (term_words t ++ rest) → NoStar rest → FormRuns star (rule.term (rule.bracketed b) start star i) rest (term_means b t (bare i))
  term_run b star start (tree.product f ps) rest i at ends =
      runs_if_then (rule.factor (rule.bracketed b) start star i) _ (factor_means b f (bare i)) _ (λ p x e h. products_allowed star b ps p.0 p.1 x e h)
      (factor_joined (rule.bracketed b) start star i (products_words ps ++ rest) _ (factor_run b star start f (left i) false (products_words ps ++ rest) i (at_assoc (factor_words f) (products_words ps) rest at) (omega arith))) (λ r at1.
      products_run b star start ps rest (left r.1) r.0 r.1 at1 ends (omega arith))

  products_run : (b : ℕ) (star : Option ℕ) (start : ℕ) (ps : tree.Products) (rest : List Word) (n : ℕ) (a : Affine) (i : Input) → At i (products_words ps ++ rest) → NoStar rest → left i ≤ n
      → FormRuns star (rule.products (rule.bracketed b) start star n a i) rest (products_means b (form_of a) ps (bare i))
  products_run b star start ps rest zero a i at ends few = let some = some_left at in absurd (omega arith)
  products_run b star start tree.product_end rest (suc n) a i at ends few = rw (at_sees (codes "*") at ∙ ends) (runs_end at refl)
  products_run b star start (tree.times f ps) rest (suc n) a i at ends few =
      let inner : Option ℕ = star_of star a.has_name (place i) in
      rw (at_sees (codes "*") at) (runs_if_then (rule.factor (rule.bracketed b) start inner (next i)) _ (factor_means b f (bare i)) _ (λ p x e h. given_some (mean.times (form_of a) p.0) _ p.1 e (λ c e3 e4. (times_allowed star (place i) (form_of a) p.0 c e3 (products_allowed star b ps c p.1 x e4 h)).1))
      (factor_joined (rule.bracketed b) start inner (next i) (products_words ps ++ rest) _ (factor_run b inner start f (left (next i)) false (products_words ps ++ rest) (next i) (at_assoc (factor_words f) (products_words ps) rest (at_next at)) (omega arith))) (λ r at1.
      made_run star (rule.product start a r.0) _ (mean.times (form_of a) (form_of r.0)) _ r.1 (product_run start a r.0) (λ c. products_run b star start ps rest n c r.1 at1 ends (fewer at at1 few (omega (arith, longer (factor_words f) (products_words ps) rest))))))

  factor_run : (b : ℕ) (star : Option ℕ) (start : ℕ) (f : Factor) (n : ℕ) (sign : Bool) (rest : List Word) (i : Input) → At i (factor_words f ++ rest) → left i ≤ n
      → FormRuns star (factor_from (rule.bracketed b) start star n sign i) rest (meant sign (factor_means b f (bare i)))
  factor_run b star start (tree.integer bytes) n sign rest i at few =
      let some = some_left at in
      unsigned_run (rule.bracketed b) start star n sign i rest _ (no_signs n sign i (omega arith) (number_not_symbol (codes "-") refl at) (number_not_symbol (codes "+") refl at)) (factor_are b (tree.integer bytes) (bare i)) (
      rw (at_kind at) (runs_given (mean.integer_means bytes) (bare i) _ (λ m e. rw (integer_read i m (ap mean.integer_means (at_spelling at) ∙ e)) (runs_end (at_next at) refl))))
  factor_run b star start (tree.name name) n sign rest i at few =
      let some = some_left at in
      unsigned_run (rule.bracketed b) start star n sign i rest _ (no_signs n sign i (omega arith) (name_not_symbol (codes "-") refl at) (name_not_symbol (codes "+") refl at)) (factor_are b (tree.name name) (bare i)) (
      rw (at_kind at) (name_run b star i name rest at))
  factor_run zero star start (tree.in_brackets a) n sign rest i at few = none_meant
  factor_run (suc b) star start (tree.in_brackets a) n sign rest i at few =
      let some = some_left at in
      unsigned_run (rule.bracketed (suc b)) start star n sign i rest _ (no_signs n sign i (omega arith) (at_sees (codes "-") at) (at_sees (codes "+") at)) (factor_are (suc b) (tree.in_brackets a) (bare i)) (
      rw (at_kind at, at_sees (codes "(") at) (runs_after (rule.affine_by (rule.bracketed b) star (next i)) _
      (affine_run b star a (a_symbol (codes ")") ∷ rest) (next i) (at_assoc (affine_words a) (a_symbol (codes ")") ∷ []) rest (at_next at)) (record { times = refl; plus = refl; minus = refl })) (λ r at1.
      rw (closed_by_run (codes ")") r.0 r.1 (at_sees (codes ")") at1)) (runs_end (at_next at1) refl))))
  factor_run b star start (tree.negative f) (suc n) sign rest i at few =
      rw (minus_sign n sign i (at_sees (codes "-") at), negative_meant sign (factor_means b f (bare i)) (factor_are b f (bare i))) (
      factor_run b star start f n (not sign) rest (next i) (at_next at) (fewer at (at_next at) few (omega arith)))
  factor_run b star start (tree.positive f) (suc n) sign rest i at few =
      rw (plus_sign n sign i (at_sees (codes "-") at) (at_sees (codes "+") at)) (factor_run b star start f n sign rest (next i) (at_next at) (fewer at (at_next at) few (omega arith)))
  factor_run b star start _ zero sign rest i at few = let some = some_left at in absurd (omega arith)

-- an affine expression, where so many brackets may still be opened
pub affine_read : (b : ℕ) (t : tree.Affine) (rest : List Word) (i : Input) → At i (affine_words t ++ rest) → Ends rest → Runs form_of (rule.affine b None i) rest (affine_means b t (bare i))
unfolding rule.affine
affine_read b t rest i at ends = record { run = λ x e h. (affine_run b None t rest i at ends).run x e tt }
