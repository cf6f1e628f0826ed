-- Affine expressions that are read spell the grammar, and mean what was read.
use Rattle.std.proofs.Common.{◌≡◌, ℕ, zero, suc, Bool, true, false, not, List, [], ◌∷◌, ◌++◌, refl, sym, ap, ◌∙◌, Option, Some, None, subst}
use Rattle.std.specs.Prelude.{◌&&◌, ◌||◌, nat_lt, if◌then◌else◌, ℤ, pos, Ok, codes}
use Rattle.c_tokens.specs.declared.token.TokenKind.TheVariants as token
use Rattle.c_reading.specs.declared.named.Kind.{Kind}
use Rattle.c_reading.specs.declared.named.Kind.TheVariants.{ClosedLoop, Array}
use Rattle.c_reading.specs.Input.{Input, Rule, kind, spelling, next, sees, left, place, is_name_kind, is_number_kind}
use Rattle.c_reading.specs.Numbers.{is_integer, value_from, combined, constant_of, zeros}
use Rattle.c_reading.specs.Affine as rule
use Rattle.c_reading.specs.Affine.{Affine, kind_of, with_name, star_of, small}
use Rattle.c_grammar.specs.Words.{Word, a_symbol}
use Rattle.c_grammar.specs.Affine as tree
use Rattle.c_grammar.specs.Affine.{Factor, factor_words, products_words, term_words, sums_words, affine_words}
use Rattle.c_grammar.specs.Meaning as mean
use Rattle.c_grammar.specs.Meaning.{Names, Meaning, Form, form, given, factor_means, products_means, term_means, sums_means, affine_means}
use Rattle.c_grammar.proofs.Forms.{AreSmall, flipped_are, flipped_not, factor_are, flip, negated_is, signed_is}
use Rattle.c_grammar.proofs.Steps.{Passed, same_ok, words, bare, spelled_kind, AreLexical, Took, took_then, took_none, took_symbol, took_name, took_number, took_as, Reads, fails, gives, gives_if, reads_map, reads_then, reads_given, reads_if, means_then, means_given, NamedAs}
use Rattle.iolb_model.specs.declared.limits.TheConstants.{NUMBER_SIZE}

-- an expression's numbers, and whether it has a name
abbrev pub form_of : Affine → Form
form_of a = record { numbers = a.numbers; has_name = a.has_name }

-- behind a `*` that has a name before it no name stands
abbrev pub Allowed : Option ℕ → Bool → Type 0
Allowed None has_name = Unit {0}
Allowed (Some star) has_name = has_name ≡ false

-- ---- names and numbers

-- a name that was read means its place, by its kind
slot_by_sound : (i : Input) (k : Option Kind) → AreLexical (words i) → is_name_kind (kind i) ≡ true → Reads (rule.slot_by k i) (NamedAs i (mean.slot_by (spelling i) k))
unfolding rule.new_parameter with_name next
slot_by_sound i None g is = gives_if _ _ _ (λ few. (took_as _ refl (took_name i g is), rw few refl))
slot_by_sound i (Some ClosedLoop) g is = fails
slot_by_sound i (Some (Array number subscripts)) g is = fails
slot_by_sound i (Some _) g is = gives (took_name i g is, refl)

-- a name that was read means its place
pub slot_sound : (i : Input) → AreLexical (words i) → is_name_kind (kind i) ≡ true → Reads (rule.slot i) (NamedAs i (mean.slot (spelling i)))
unfolding rule.slot mean.slot kind_of
slot_sound i g is = slot_by_sound i (kind_of (spelling i) i) g is

-- a tree was taken that means this form, in which names stand where they may
abbrev pub Formed : {T : Type 0} → (T → List Word) → (T → Meaning Form) → Option ℕ → Input → Affine × Input → Type 0
Formed {T} ws means star i q = (t : T) × Took i (ws t) q.1 × (means t (bare i) ≡ Some (form_of q.0, bare q.1)) × Allowed star q.0.has_name

-- a name that was read is a factor
name_sound : (b : ℕ) (star : Option ℕ) (i : Input) → AreLexical (words i) → is_name_kind (kind i) ≡ true → Reads (rule.name_by star i) (Formed factor_words (factor_means b) star i)
unfolding factor_means
name_sound b None i g is = reads_then (rule.slot i) _ (slot_sound i g is) (λ p s. gives (tree.name (spelling i), s.0, means_then _ _ s.1 refl, tt))
name_sound b (Some star) i g is = fails

-- digits below 2^20 mean a number
pub integer_is : (bytes : List ℕ) → is_integer bytes ≡ true → nat_lt (value_from 0 bytes) NUMBER_SIZE ≡ true → mean.integer_means bytes ≡ Some (pos (value_from 0 bytes))
unfolding mean.integer_means
integer_is bytes whole low = rw (whole, low) refl

-- a number that was read is a factor
number_sound : (b : ℕ) (star : Option ℕ) (i : Input) → AreLexical (words i) → is_number_kind (kind i) ≡ true → Reads (rule.number i) (Formed factor_words (factor_means b) star i)
unfolding factor_means mean.integer_means next
number_sound b star i g is = reads_if (is_integer (spelling i))
    (λ whole. gives_if _ _ _ (λ low. (tree.integer (spelling i), took_number i g is, means_given _ _ _ (integer_is (spelling i) whole low) refl, allowed star))) (λ _. fails) where
      allowed : (star : Option ℕ) → Allowed star false
      allowed None = tt
      allowed (Some n) = refl

-- ---- signs

-- the words of signs, and whether they make a factor negative
abbrev pub sign_words : List Bool → List Word
sign_words [] = []
sign_words (true ∷ bs) = a_symbol (codes "-") ∷ sign_words bs
sign_words (false ∷ bs) = a_symbol (codes "+") ∷ sign_words bs

-- whether signs behind this one make a factor negative
abbrev pub parity : Bool → List Bool → Bool
parity sign [] = sign
parity sign (true ∷ bs) = parity (not sign) bs
parity sign (false ∷ bs) = parity sign bs

-- signs that were read are spelled
signs_sound : (n : ℕ) (sign : Bool) (i : Input) → AreLexical (words i) → Reads (rule.signs n sign i) (Passed sign_words (parity sign) i)
unfolding rule.signs next spelled_kind
signs_sound zero sign i g = fails
signs_sound (suc n) sign i g = reads_if (sees (codes "-") i)
    (λ is. let t = took_symbol (codes "-") refl i g is in reads_map (signs_sound n (not sign) (next i) t.lexical) (λ q s. (true ∷ s.0, took_then t s.1, s.2, s.3)))
    (λ _. reads_if (sees (codes "+") i)
    (λ is. let t = took_symbol (codes "+") refl i g is in reads_map (signs_sound n sign (next i) t.lexical) (λ q s. (false ∷ s.0, took_then t s.1, s.2, s.3)))
    (λ _. gives ([], took_none g, refl, refl)))

-- all signs in front are spelled
pub all_signs_sound : (i : Input) → AreLexical (words i) → Reads (rule.all_signs i) (Passed sign_words (parity false) i)
unfolding rule.all_signs
all_signs_sound i g = signs_sound (left i) false i g

-- a factor, or an operand, behind signs
abbrev pub with_signs : {T : Type 0} → (T → T) → (T → T) → List Bool → T → T
with_signs minus plus [] t = t
with_signs minus plus (true ∷ bs) t = minus (with_signs minus plus bs t)
with_signs minus plus (false ∷ bs) t = plus (with_signs minus plus bs t)

-- it spells the signs, then what stands behind them
pub with_signs-words : {T : Type 0} (minus plus : T → T) (spelled : T → List Word) → ((t : T) → spelled (minus t) ≡ a_symbol (codes "-") ∷ spelled t) → ((t : T) → spelled (plus t) ≡ a_symbol (codes "+") ∷ spelled t)
    → (bs : List Bool) (t : T) → spelled (with_signs minus plus bs t) ≡ sign_words bs ++ spelled t
with_signs-words minus plus spelled m p [] t = refl
with_signs-words minus plus spelled m p (true ∷ bs) t = m (with_signs minus plus bs t) ∙ ap (λ l. a_symbol (codes "-") ∷ l) (with_signs-words minus plus spelled m p bs t)
with_signs-words minus plus spelled m p (false ∷ bs) t = p (with_signs minus plus bs t) ∙ ap (λ l. a_symbol (codes "+") ∷ l) (with_signs-words minus plus spelled m p bs t)

-- a `-` in front makes an even number of them odd
parity_not : (sign : Bool) (bs : List Bool) → not (parity sign bs) ≡ parity (not sign) bs
parity_not sign [] = refl
parity_not sign (true ∷ bs) = parity_not (not sign) bs
parity_not sign (false ∷ bs) = parity_not sign bs

-- it means the factor, or its negative
with_signs-means : (b : ℕ) (bs : List Bool) (f : Factor) (s : Names) (x : Form × Names) → AreSmall x.0.numbers → factor_means b f s ≡ Some x
    → factor_means b (with_signs (λ t. tree.negative t) (λ t. tree.positive t) bs f) s ≡ Some (flip (parity false bs) x.0, x.1)
unfolding factor_means
with_signs-means b [] f s x are e = e
with_signs-means b (true ∷ bs) f s x are e =
    means_then _ _ (with_signs-means b bs f s x are e)
    (ap (λ (o : Option Form). given o x.1) (negated_is (flip (parity false bs) x.0) (flipped_are (parity false bs) x.0.numbers are))
    ∙ ap (λ (ns : List ℤ). Some (record { numbers = ns; has_name = x.0.has_name }, x.1)) (flipped_not (parity false bs) x.0.numbers)
    ∙ ap (λ (sign : Bool). Some (flip sign x.0, x.1)) (parity_not false bs))
with_signs-means b (false ∷ bs) f s x are e = with_signs-means b bs f s x are e

-- ---- numbers

-- small numbers were given
small_sound : (start : ℕ) (has_name last : Bool) (o : Option (List ℤ)) (c : Affine) → small start o has_name last ≡ Ok c → (form has_name o ≡ Some (form_of c)) × (has_name ≡ c.has_name)
small_sound start has_name last None c e = absurd cc
small_sound start has_name last (Some ns) c e = subst (λ (c : Affine). (form has_name (Some ns) ≡ Some (form_of c)) × (has_name ≡ c.has_name)) (same_ok e) (refl, refl)

-- a sum was given
pub sum_sound : (start : ℕ) (negative : Bool) (a b c : Affine) → rule.sum start negative a b ≡ Ok c → (mean.plus negative (form_of a) (form_of b) ≡ Some (form_of c)) × ((a.has_name || b.has_name) ≡ c.has_name)
unfolding rule.sum
sum_sound start negative a b c e = small_sound start (a.has_name || b.has_name) b.ends_in_name _ c e

-- a name stands in a product only where none stood before
allowed_product : (star : Option ℕ) (there : ℕ) (x y : Bool) → Allowed star x → Allowed (star_of star x there) y → ((x && y) ≡ false) × Allowed star (x || y)
allowed_product None there true y a b = (b, tt)
allowed_product None there false y a b = (refl, tt)
allowed_product (Some s) there true y a b = absurd cc
allowed_product (Some s) there false y a b = (refl, b)

-- where no name stands in the parts of a sum, none stands in it
allowed_sum : (star : Option ℕ) (x y : Bool) → Allowed star x → Allowed star y → Allowed star (x || y)
allowed_sum None x y a b = tt
allowed_sum (Some s) true y a b = absurd cc
allowed_sum (Some s) false y a b = b

-- a product of which at most one factor has a name
times_is : (a b : Form) (o : Option Form) → (a.has_name && b.has_name) ≡ false
    → form (a.has_name || b.has_name) (if b.has_name then combined (constant_of a.numbers) (pos 0) zeros b.numbers else combined (constant_of b.numbers) (pos 0) zeros a.numbers) ≡ o
    → mean.times a b ≡ o
times_is a b o apart e = rw apart e

-- a product was given
product_sound : (start : ℕ) (star : Option ℕ) (there : ℕ) (a b c : Affine) → rule.product start a b ≡ Ok c → Allowed star a.has_name → Allowed (star_of star a.has_name there) b.has_name
    → (mean.times (form_of a) (form_of b) ≡ Some (form_of c)) × Allowed star c.has_name
unfolding rule.product
product_sound start star there a b c e h k =
    let s = small_sound start (a.has_name || b.has_name) b.ends_in_name _ c e in
    let p = allowed_product star there a.has_name b.has_name h k in
    (times_is (form_of a) (form_of b) _ p.0 s.0, subst (Allowed star) s.1 p.1)

-- one of two tests succeeded
pub either : {P : Type 0} (x y : Bool) → (not x && not y) ≡ false → (x ≡ true → P) → (x ≡ false → y ≡ true → P) → P
either true y e k m = k refl
either false true e k m = m refl refl
either false false e k m = absurd cc

-- ---- over what brackets hold

module _ (b : ℕ) (br : Option ℕ → Rule Affine)
    (inner : (star : Option ℕ) (i : Input) → AreLexical (words i) → sees (codes "(") i ≡ true → Reads (br star i) (Formed factor_words (factor_means b) star i)) where
  -- what stands behind the signs is a factor
  atom_sound : (star : Option ℕ) (i : Input) → AreLexical (words i) → Reads (rule.atom br star i) (Formed factor_words (factor_means b) star i)
  unfolding rule.atom
  atom_sound star i g = reads_if (is_name_kind (kind i)) (λ is. name_sound b star i g is) (λ _.
      reads_if (is_number_kind (kind i)) (λ is. number_sound b star i g is) (λ _.
      reads_if (sees (codes "(") i) (λ is. inner star i g is) (λ _. fails)))

  -- a factor that was read is spelled
  factor_sound : (start : ℕ) (star : Option ℕ) (i : Input) → AreLexical (words i) → Reads (rule.factor br start star i) (Formed factor_words (factor_means b) star i)
  unfolding rule.factor
  factor_sound start star i g =
      reads_then (rule.all_signs i) _ (all_signs_sound i g) (λ p s.
      reads_then (rule.atom br star p.1) _ (atom_sound star p.1 s.1.lexical) (λ r a.
      let small = factor_are b a.0 (bare p.1) (form_of r.0, bare r.1) a.2 in
      rw (signed_is start p.0 r.0 small) (gives (
        with_signs (λ t. tree.negative t) (λ t. tree.positive t) s.0 a.0,
        subst (λ (ws : List Word). Took i ws r.1) (sym (with_signs-words (λ t. tree.negative t) (λ t. tree.positive t) factor_words (λ t. refl) (λ t. refl) s.0 a.0)) (took_then s.1 a.1),
        with_signs-means b s.0 a.0 (bare i) (form_of r.0, bare r.1) small (ap (factor_means b a.0) (sym s.2) ∙ a.2) ∙ ap (λ (sign : Bool). Some (flip sign (form_of r.0), bare r.1)) (sym s.3),
        a.3,
      ))))

  -- factors that were read are spelled
  products_sound : (start : ℕ) (star : Option ℕ) (n : ℕ) (a : Affine) (i : Input) → AreLexical (words i) → Allowed star a.has_name → Reads (rule.products br start star n a i) (Formed products_words (products_means b (form_of a)) star i)
  unfolding rule.products products_means next spelled_kind
  products_sound start star zero a i g h = fails
  products_sound start star (suc n) a i g h = reads_if (sees (codes "*") i)
      (λ is.
      let t = took_symbol (codes "*") refl i g is in
      reads_then (rule.factor br start (star_of star a.has_name (place i)) (next i)) _ (factor_sound start (star_of star a.has_name (place i)) (next i) t.lexical) (λ p f.
      reads_given (rule.product start a p.0) _ p.1 (λ c e.
      let m = product_sound start star (place i) a p.0 c e h f.3 in
      reads_map (products_sound start star n c p.1 f.1.lexical m.1) (λ q r. (tree.times f.0 r.0, took_then t (took_then f.1 r.1), means_then _ _ f.2 (means_given _ _ _ m.0 r.2), r.3)))))
      (λ _. gives (tree.product_end, took_none g, refl, h))

  -- a term that was read is spelled
  term_sound : (start : ℕ) (star : Option ℕ) (i : Input) → AreLexical (words i) → Reads (rule.term br start star i) (Formed term_words (term_means b) star i)
  unfolding rule.term term_means
  term_sound start star i g = reads_then (rule.factor br start star i) _ (factor_sound start star i g) (λ p f.
      reads_map (products_sound start star (left p.1) p.0 p.1 f.1.lexical f.3) (λ q r. (tree.product f.0 r.0, took_then f.1 r.1, means_then _ _ f.2 r.2, r.3)))

  -- terms that were read are spelled
  sums_sound : (start : ℕ) (star : Option ℕ) (n : ℕ) (a : Affine) (i : Input) → AreLexical (words i) → Allowed star a.has_name → Reads (rule.sums br start star n a i) (Formed sums_words (sums_means b (form_of a)) star i)
  unfolding rule.sums sums_means next spelled_kind
  sums_sound start star zero a i g h = fails
  sums_sound start star (suc n) a i g h = reads_if (not (sees (codes "-") i) && not (sees (codes "+") i))
      (λ _. gives (tree.sum_end, took_none g, refl, h))
      (λ some. either (sees (codes "-") i) (sees (codes "+") i) some
      (λ is.
      let t = took_symbol (codes "-") refl i g is in
      reads_then (rule.term br start star (next i)) _ (term_sound start star (next i) t.lexical) (λ p f.
      reads_given (rule.sum start (sees (codes "-") i) a p.0) _ p.1 (λ c e.
      let m = sum_sound start (sees (codes "-") i) a p.0 c e in
      reads_map (sums_sound start star n c p.1 f.1.lexical (subst (Allowed star) m.1 (allowed_sum star a.has_name p.0.has_name h f.3)))
      (λ q r. (tree.minus f.0 r.0, took_then t (took_then f.1 r.1), means_then _ _ f.2 (means_given _ _ _ (ap (λ (t : Bool). mean.plus t (form_of a) (form_of p.0)) (sym is) ∙ m.0) r.2), r.3)))))
      (λ other is.
      let t = took_symbol (codes "+") refl i g is in
      reads_then (rule.term br start star (next i)) _ (term_sound start star (next i) t.lexical) (λ p f.
      reads_given (rule.sum start (sees (codes "-") i) a p.0) _ p.1 (λ c e.
      let m = sum_sound start (sees (codes "-") i) a p.0 c e in
      reads_map (sums_sound start star n c p.1 f.1.lexical (subst (Allowed star) m.1 (allowed_sum star a.has_name p.0.has_name h f.3)))
      (λ q r. (tree.plus f.0 r.0, took_then t (took_then f.1 r.1), means_then _ _ f.2 (means_given _ _ _ (ap (λ (t : Bool). mean.plus t (form_of a) (form_of p.0)) (sym other) ∙ m.0) r.2), r.3))))))

  -- an expression that was read is spelled
  affine_by_sound : (star : Option ℕ) (i : Input) → AreLexical (words i) → Reads (rule.affine_by br star i) (Formed affine_words (affine_means b) star i)
  unfolding rule.affine_by affine_means
  affine_by_sound star i g = reads_then (rule.term br (place i) star i) _ (term_sound (place i) star i g) (λ p t.
      reads_map (sums_sound (place i) star (left p.1) p.0 p.1 t.1.lexical t.3) (λ q r. (tree.sum t.0 r.0, took_then t.1 r.1, means_then _ _ t.2 r.2, r.3)))

-- the symbol was taken that closes an expression
pub closed_by_sound : (word : List ℕ) (a : Affine) (i : Input) → spelled_kind word ≡ token.Symbol → AreLexical (words i)
    → Reads (rule.closed_by word a i) (λ q. Took i (a_symbol word ∷ []) q.1 × (form_of q.0 ≡ form_of a) × (bare q.1 ≡ bare i))
unfolding rule.closed_by next
closed_by_sound word a i symbol g = gives_if _ _ _ (λ is. (took_symbol word symbol i g is, refl, refl))

-- an expression in brackets that was read is a factor
bracketed_sound : (b : ℕ) (star : Option ℕ) (i : Input) → AreLexical (words i) → sees (codes "(") i ≡ true → Reads (rule.bracketed b star i) (Formed factor_words (factor_means b) star i)
unfolding rule.bracketed factor_means next spelled_kind
bracketed_sound zero star i g is = fails
bracketed_sound (suc b) star i g is =
    let t = took_symbol (codes "(") refl i g is in
    reads_then (rule.affine_by (rule.bracketed b) star (next i)) _ (affine_by_sound b (rule.bracketed b) (bracketed_sound b) star (next i) t.lexical) (λ p a.
    reads_map (closed_by_sound (codes ")") p.0 p.1 refl a.1.lexical) (λ q c. (
      tree.in_brackets a.0,
      took_then t (took_then a.1 c.0),
      a.2 ∙ ap (λ (x : Form). Some (x, bare p.1)) (sym c.1) ∙ ap (λ (names : Names). Some (form_of q.0, names)) (sym c.2),
      subst (λ (x : Form). Allowed star x.has_name) (sym c.1) a.3,
    )))

-- an affine expression, where so many brackets may still be opened
pub affine_sound : (b : ℕ) (star : Option ℕ) (i : Input) → AreLexical (words i) → Reads (rule.affine b star i) (Formed affine_words (affine_means b) star i)
unfolding rule.affine
affine_sound b star i g = affine_by_sound b (rule.bracketed b) (bracketed_sound b) star i g
