-- Headers of loops that are read spell the grammar, and mean what was read.
use Rattle.std.proofs.Common.{◌≡◌, ℕ, suc, ◌-◌, Bool, true, false, List, [], ◌∷◌, ◌++◌, refl, sym, ap, ◌∙◌, Option, Some, None, subst}
use Rattle.std.specs.Prelude.{ℤ, pos, Ok, codes}
use Rattle.c_tokens.specs.declared.token.TokenKind.{TokenKind}
use Rattle.c_tokens.specs.declared.token.TokenKind.TheVariants as token
use Rattle.c_reading.specs.declared.named.Kind.{Kind}
use Rattle.c_reading.specs.declared.named.Kind.TheVariants.{ClosedLoop}
use Rattle.c_reading.specs.declared.tree.Header.{Header}
use Rattle.c_reading.specs.Input.{Input, and_then, kind, spelling, next, sees, place, is_name_kind}
use Rattle.std.proofs.lemmas.List.{append_assoc}
use Rattle.c_reading.specs.Numbers.{combined, zeros}
use Rattle.c_reading.specs.Affine.{kind_of, number_of, with_name, affine, closed_by}
use Rattle.c_reading.specs.Values.{expect}
use Rattle.c_reading.specs.Items as rule
use Rattle.c_reading.specs.Guards as rule_guard
use Rattle.c_grammar.specs.Words.{Word, a_name, a_number, a_symbol, a_keyword}
use Rattle.c_grammar.specs.Affine.{affine_words}
use Rattle.c_grammar.specs.Affine as affine_tree
use Rattle.c_grammar.specs.Item as tree
use Rattle.c_grammar.specs.Item.{twice_word, updating_word, sign_word, step_words, bound_word, bounds_words, header_words}
use Rattle.c_grammar.specs.Meaning as mean
use Rattle.c_grammar.specs.Meaning.{Names, Form, affine_means, header_means}
use Rattle.c_grammar.proofs.Steps.{one_less, words, bare, spelled_kind, AreLexical, Took, is_plain, took_then, took_symbol, took_word, took_name, took_as, kind_spelled, Reads, fails, gives, gives_if, reads_map, reads_then, reads_given, reads_if, bool_cases, means_then, means_given, class, name_kind_is, NamedAs}
use Rattle.c_grammar.proofs.SoundAffine.{form_of, affine_sound, closed_by_sound}
use Rattle.c_grammar.proofs.SoundValues.{WordSound, word_sound, open_bracket_sound}

-- the name of a loop that was left is one
loop_again_sound : (i : Input) (at : Option ℕ) → number_of (spelling i) i ≡ at → AreLexical (words i) → is_name_kind (kind i) ≡ true → Reads (rule.loop_again at i) (NamedAs i (mean.loop_by (spelling i) (Some ClosedLoop)))
unfolding next
loop_again_sound i None found g is = fails
loop_again_sound i (Some at) found g is = gives (took_name i g is, ap (λ (o : Option ℕ). mean.loop_again o (bare i)) found)

-- a loop's name that was read is one, by its kind
loop_name_by_sound : (i : Input) (k : Option Kind) → AreLexical (words i) → is_name_kind (kind i) ≡ true → Reads (rule.loop_name_by (number_of (spelling i) i) k i) (NamedAs i (mean.loop_by (spelling i) k))
unfolding rule.new_loop with_name next
loop_name_by_sound i None g is = gives_if _ _ _ (λ short. (took_as _ refl (took_name i g is), rw short refl))
loop_name_by_sound i (Some ClosedLoop) g is = loop_again_sound i (number_of (spelling i) i) refl g is
loop_name_by_sound i (Some _) g is = fails

-- a loop's name that was read is one
loop_name_sound : (i : Input) → AreLexical (words i)
    → Reads (rule.loop_name i) (λ q. Took i (a_name (spelling i) ∷ []) q.1 × (mean.loop_name (spelling i) (bare i) ≡ Some (q.0, bare q.1)) × (is_name_kind (kind i) ≡ true))
unfolding rule.loop_name mean.loop_name kind_of
loop_name_sound i g = reads_if (is_name_kind (kind i)) (λ is. reads_map (loop_name_by_sound i (kind_of (spelling i) i) g is) (λ q n. (n.0, n.1, is))) (λ _. fails)

-- a bound's comparison that was read is spelled
comparison_sound : (i : Input) → AreLexical (words i)
    → Reads (rule.comparison i) (λ q. (falls : Bool) × (excludes : Bool) × Took i (bound_word falls excludes ∷ []) q.1 × (bare q.1 ≡ bare i) × (q.0.down ≡ falls) × (q.0.less ≡ mean.excluded falls excludes))
unfolding rule.comparison next spelled_kind
comparison_sound i g =
    reads_if (sees (codes "<") i) (λ is. gives (false, true, took_symbol (codes "<") refl i g is, refl, refl, refl)) (λ _.
    reads_if (sees (codes "<=") i) (λ is. gives (false, false, took_symbol (codes "<=") refl i g is, refl, refl, refl)) (λ _.
    reads_if (sees (codes ">") i) (λ is. gives (true, true, took_symbol (codes ">") refl i g is, refl, refl, refl)) (λ _.
    reads_if (sees (codes ">=") i) (λ is. gives (true, false, took_symbol (codes ">=") refl i g is, refl, refl, refl)) (λ _. fails))))

-- a word of a step is spelled
in_step_sound : (start : ℕ) (k : TokenKind) → is_plain k ≡ true → (word : List ℕ) → spelled_kind word ≡ class k → (i : Input) → AreLexical (words i) → Reads (rule.expect_in_step start word i) (WordSound k word i)
unfolding rule.expect_in_step next
in_step_sound start k plain word is i g = gives_if _ _ _ (λ seen. (took_word word k plain is i g seen, refl))

-- the symbols of a step are spelled
twice_sound : (falls : Bool) (i : Input) → AreLexical (words i) → sees (rule.twice falls) i ≡ true → Took i (twice_word falls ∷ []) (next i)
unfolding spelled_kind
twice_sound false i g is = took_symbol (codes "++") refl i g is
twice_sound true i g is = took_symbol (codes "--") refl i g is

updating_sound : (falls : Bool) (i : Input) → AreLexical (words i) → sees (rule.updating falls) i ≡ true → Took i (updating_word falls ∷ []) (next i)
unfolding spelled_kind
updating_sound false i g is = took_symbol (codes "+=") refl i g is
updating_sound true i g is = took_symbol (codes "-=") refl i g is

sign_sound : (falls : Bool) (start : ℕ) (i : Input) → AreLexical (words i) → Reads (rule.expect_in_step start (rule.sign falls) i) (λ q. Took i (sign_word falls ∷ []) q.1 × (bare q.1 ≡ bare i))
unfolding spelled_kind
sign_sound false start i g = in_step_sound start token.Symbol refl (codes "+") refl i g
sign_sound true start i g = in_step_sound start token.Symbol refl (codes "-") refl i g

-- what stands behind a step's name is spelled
behind_name_sound : (start : ℕ) (falls : Bool) (name : List ℕ) (i : Input) → spelled_kind name ≡ token.Name → AreLexical (words i)
    → Reads (rule.step_behind_name start falls name i) (λ q. (s : tree.Step) × (ws : List Word) × (step_words falls name s ≡ a_name name ∷ ws) × Took i ws q.1 × (bare q.1 ≡ bare i))
unfolding rule.step_behind_name next spelled_kind
behind_name_sound start falls name i named g =
    reads_if (sees (rule.twice falls) i) (λ is. gives (tree.name_plus_plus, twice_word falls ∷ [], refl, twice_sound falls i g is, refl)) (λ _.
    reads_if (sees (rule.updating falls) i) (λ is.
    let t = updating_sound falls i g is in
    reads_map (in_step_sound start token.Number refl (codes "1") refl (next i) t.lexical) (λ q o. (tree.name_plus_one, updating_word falls ∷ a_number (codes "1") ∷ [], refl, took_then t o.0, o.1))) (λ _.
    reads_if (sees (codes "=") i) (λ is.
    let t = took_symbol (codes "=") refl i g is in
    reads_then (and_then (rule.expect_in_step start name (next i)) (λ _. rule.expect_in_step start (rule.sign falls))) _ {Q = λ (p : Unit {0} × Input). Took (next i) (a_name name ∷ sign_word falls ∷ []) p.1 × (bare p.1 ≡ bare i)}
    (reads_then (rule.expect_in_step start name (next i)) _ (in_step_sound start token.Name refl name named (next i) t.lexical) (λ r n.
    reads_map (sign_sound falls start r.1 n.0.lexical) (λ p s. (took_then n.0 s.0, s.1 ∙ n.1)))) (λ p s.
    reads_map (in_step_sound start token.Number refl (codes "1") refl p.1 s.0.lexical) (λ q o.
    (tree.name_is_name_plus_one, a_symbol (codes "=") ∷ a_name name ∷ sign_word falls ∷ a_number (codes "1") ∷ [], refl, took_then t (took_then s.0 o.0), o.1 ∙ s.1))))
    (λ _. fails)))

-- a step that was read is spelled
step_sound : (falls : Bool) (name : List ℕ) (i : Input) → spelled_kind name ≡ token.Name → AreLexical (words i)
    → Reads (rule.step falls name i) (λ q. (s : tree.Step) × Took i (step_words falls name s) q.1 × (bare q.1 ≡ bare i))
unfolding rule.step next spelled_kind
step_sound falls name i named g = reads_if (sees name i)
    (λ is.
    let t = took_word name token.Name refl named i g is in
    reads_map (behind_name_sound (place i) falls name (next i) named t.lexical) (λ q s. (s.0, subst (λ (ws : List Word). Took i ws q.1) (sym s.2) (took_then t s.3), s.4)))
    (λ _. reads_if (sees (rule.twice falls) i)
    (λ is.
    let t = twice_sound falls i g is in
    reads_map (in_step_sound (place i) token.Name refl name named (next i) t.lexical) (λ q n. (tree.plus_plus_name, took_then t n.0, n.1)))
    (λ _. fails))

-- a bound with small numbers was given
bound_sound : (start : ℕ) (o : Option (List ℤ)) (numbers : List ℤ) → rule.bound_of start o ≡ Ok numbers → o ≡ Some numbers
bound_sound start None numbers e = absurd cc
bound_sound start (Some ns) numbers e = cc

-- a bound, up to its `;`
BoundSound : ℕ → List Word → (List ℤ → List ℤ → Type 0) → Input → List ℤ × Input → Type 0
BoundSound b ws gives i q = (a : affine_tree.Affine) × (f : Form) × Took i (ws ++ (affine_words a ++ (a_symbol (codes ";") ∷ []))) q.1 × (affine_means b a (bare i) ≡ Some (f, bare q.1)) × gives f.numbers q.0

-- a first bound that was read is spelled
first_sound : (b : ℕ) (i : Input) → AreLexical (words i) → Reads (rule.first_bound b i) (BoundSound b (a_symbol (codes "=") ∷ []) (λ ns row. ns ≡ row) i)
unfolding rule.first_bound BoundSound spelled_kind
first_sound b i g =
    reads_then (expect (codes "=") i) _ (word_sound token.Symbol refl (codes "=") refl i g) (λ x s.
    reads_then (affine b None x.1) _ (affine_sound b None x.1 s.0.lexical) (λ p a.
    reads_then (closed_by (codes ";") p.0 p.1) _ (closed_by_sound (codes ";") p.0 p.1 refl a.1.lexical) (λ r c. gives (
      a.0,
      form_of p.0,
      took_then s.0 (took_then a.1 c.0),
      ap (affine_means b a.0) (sym s.1) ∙ a.2 ∙ ap (λ (s : Names). Some (form_of p.0, s)) (sym c.2),
      ap (λ (f : Form). f.numbers) (sym c.1),
    ))))

-- a bound behind its comparison that was read is spelled
last_sound : (b : ℕ) (less : ℤ) (i : Input) → AreLexical (words i) → Reads (rule.last_from b (place i) less i) (BoundSound b [] (λ ns row. combined (pos 1) less zeros ns ≡ Some row) i)
unfolding rule.last_from rule.bound BoundSound spelled_kind
last_sound b less i g =
    reads_then (affine b None i) _ (affine_sound b None i g) (λ p a.
    reads_given (rule.bound (place i) less p.0.numbers) _ p.1 (λ numbers e.
    reads_then (closed_by (codes ";") p.0 p.1) _ (closed_by_sound (codes ";") p.0 p.1 refl a.1.lexical) (λ k d.
    gives (a.0, form_of p.0, took_then a.1 d.0, a.2 ∙ ap (λ (s : Names). Some (form_of p.0, s)) (sym d.2), bound_sound (place i) _ numbers e))))

-- the rest of a header was taken behind its first bound
RestSound : ℕ → List ℕ → ℕ → List ℤ → Input → Header × Input → Type 0
RestSound b name at first i q =
    (falls : Bool) × (excludes : Bool) × (step : tree.Step) × (a : affine_tree.Affine) × (f : Form) × (row : List ℤ)
    × Took i (a_name name ∷ bound_word falls excludes ∷ (affine_words a ++ (a_symbol (codes ";") ∷ step_words falls name step))) q.1
    × (affine_means b a (bare i) ≡ Some (f, bare q.1)) × (mean.last_bound falls excludes f.numbers ≡ Some row) × (q.0 ≡ rule.header_by at falls first row)

-- the rest of a header that was read is spelled
rest_sound : (b : ℕ) (name : List ℕ) (at : ℕ) (first : List ℤ) (i : Input) → spelled_kind name ≡ token.Name → AreLexical (words i) → Reads (rule.header_from b name at first i) (RestSound b name at first i)
unfolding rule.header_from RestSound BoundSound
rest_sound b name at first i named g =
    reads_then (expect name i) _ (word_sound token.Name refl name named i g) (λ n s.
    reads_then (rule.comparison n.1) _ (comparison_sound n.1 s.0.lexical) (λ r c.
    reads_then (rule.last_from b (place r.1) r.0.less r.1) _ (last_sound b r.0.less r.1 c.2.lexical) (λ last l.
    reads_then (rule.step r.0.down name last.1) _ (step_sound r.0.down name last.1 named l.2.lexical) (λ q t. gives (
      c.0,
      c.1,
      t.0,
      l.0,
      l.1,
      last.0,
      subst (λ (falls : Bool). Took i (a_name name ∷ bound_word c.0 c.1 ∷ (affine_words l.0 ++ (a_symbol (codes ";") ∷ step_words falls name t.0))) q.1) c.4
          (subst (λ (ws : List Word). Took i (a_name name ∷ bound_word c.0 c.1 ∷ ws) q.1) (append_assoc (affine_words l.0) (a_symbol (codes ";") ∷ []) (step_words r.0.down name t.0))
          (took_then (took_then s.0 c.2) (took_then l.2 t.1))),
      ap (affine_means b l.0) (sym s.1 ∙ sym c.3) ∙ l.3 ∙ ap (λ (s : Names). Some (l.1, s)) (sym t.2),
      ap (λ (z : ℤ). combined (pos 1) z zeros l.1.numbers) (sym c.5) ∙ l.4,
      ap (λ (falls : Bool). rule.header_by at falls first last.0) c.4,
    )))))

-- a header was taken behind its bracket and its `int`
HeaderOfSound : ℕ → Bool → Input → Header × Input → Type 0
HeaderOfSound b has_int i q = (h : tree.Header) × (h.has_int ≡ has_int) × Took i (a_name h.name ∷ bounds_words h) q.1 × (header_means b h (bare i) ≡ Some (q.0, bare q.1))

-- a header that was read is spelled, behind its bracket and its `int`
header_of_sound : (b : ℕ) (has_int : Bool) (i : Input) → AreLexical (words i) → Reads (rule.header_of b (spelling i) i) (HeaderOfSound b has_int i)
unfolding rule.header_of BoundSound RestSound HeaderOfSound header_means spelled_kind
header_of_sound b has_int i g =
    reads_then (rule.loop_name i) _ (loop_name_sound i g) (λ p n.
    let named : spelled_kind (spelling i) ≡ token.Name = sym (kind_spelled i g) ∙ ap class (name_kind_is (kind i) n.2) in
    reads_then (rule.first_bound b p.1) _ (first_sound b p.1 n.0.lexical) (λ first l.
    reads_then (rule.header_from b (spelling i) p.0 first.0 first.1) _ (rest_sound b (spelling i) p.0 first.0 first.1 named l.2.lexical) (λ rest u.
    reads_then (expect (codes ")") rest.1) _ (word_sound token.Symbol refl (codes ")") refl rest.1 u.6.lexical) (λ c x. gives (
      record { has_int = has_int; name = spelling i; falls = u.0; first = l.0; excludes = u.1; last = u.3; step = u.2 },
      refl,
      subst (λ (ws : List Word). Took i ws c.1) (simp append_assoc) (took_then n.0 (took_then l.2 (took_then u.6 x.0))),
      means_then _ _ n.1 (means_then _ _ l.3 (means_then _ _ u.7 (means_given _ _ _ u.8
          (ap (λ (ns : List ℤ). Some (rule.header_by p.0 u.0 ns u.5, bare rest.1)) l.4
          ∙ ap (λ (h : Header). Some (h, bare rest.1)) (sym u.9)
          ∙ ap (λ (s : Names). Some (rest.0, s)) (sym x.1))))),
    )))))

-- a header was taken that means this loop, where one bracket more could be opened
unfoldable pub HeaderSound : ℕ → Input → Header × Input → Type 0
HeaderSound b i q = (d : ℕ) × (b ≡ suc d) × (h : tree.Header) × Took i (header_words h) q.1 × (header_means d h (bare i) ≡ Some (q.0, bare q.1))

-- `for`, its bracket and `int` stand in front of it
header_joined : (b d : ℕ) (has_int : Bool) (i j : Input) (q : Header × Input) → b ≡ suc d → Took i (a_keyword (codes "for") ∷ a_symbol (codes "(") ∷ tree.int_words has_int) j → bare j ≡ bare i → HeaderOfSound d has_int j q
    → HeaderSound b i q
unfolding HeaderOfSound HeaderSound
header_joined b d has_int i j q is t same h = (
  d,
  is,
  h.0,
  took_then (subst (λ (x : Bool). Took i (a_keyword (codes "for") ∷ a_symbol (codes "(") ∷ tree.int_words x) j) (sym h.1) t) h.2,
  ap (header_means d h.0) (sym same) ∙ h.3,
)

-- the bracket behind a word was taken, where one bracket more could be opened
pub bracket_sound : (b : ℕ) (i : Input) → Reads (rule_guard.bracket_behind b i) (λ p. (d : ℕ) × (b ≡ suc d) × (p.1 ≡ next (next i)) × (sees (codes "(") (next i) ≡ true))
unfolding rule_guard.bracket_behind
bracket_sound b i = reads_if (sees (codes "(") (next i)) (λ is. reads_map (open_bracket_sound b (next i)) (λ p o. (o.0, o.1, o.2, is))) (λ _. fails)

-- a header that was read is spelled
pub header_sound : (b : ℕ) (i : Input) → AreLexical (words i) → sees (codes "for") i ≡ true → Reads (rule.header b i) (HeaderSound b i)
unfolding rule.header rule_guard.bracket_behind rule.skip_int next spelled_kind
header_sound b i g seen = reads_then (rule_guard.bracket_behind b i) _ (bracket_sound b i) (λ p o.
    let t = took_word (codes "for") token.Word refl refl i g seen in
    let u = took_symbol (codes "(") refl (next i) t.lexical o.3 in
    let less : b - 1 ≡ o.0 = ap (λ (n : ℕ). n - 1) o.1 ∙ one_less o.0 in
    rw (o.2, less) (bool_cases (sees (codes "int") (next (next i))) (λ int.
    let w = took_word (codes "int") token.Word refl refl (next (next i)) u.lexical int in
    rw int (reads_map (header_of_sound o.0 true (next (next (next i))) w.lexical) (λ q h. header_joined b o.0 true i (next (next (next i))) q o.1 (took_then t (took_then u w)) refl h)))
    (λ none. rw none (reads_map (header_of_sound o.0 false (next (next i)) u.lexical) (λ q h. header_joined b o.0 false i (next (next i)) q o.1 (took_then t u) refl h)))))
