-- Words at the head of a line, and in its compared form.
use Rattle.std.proofs.Common.{◌≡◌, ℕ, suc, ◌+◌, List, [], ◌∷◌, refl, ap, sym, ◌∙◌, arith, Bool, true, false, subst}
use Rattle.std.specs.Prelude.{◌==◌, ◌&&◌, not, if◌then◌else◌, Option, Some, None, is_some, option_and_then}
use Rattle.std.specs.List.{prefix_len, list_all}
use Rattle.std.proofs.lemmas.Bool.{and_parts, not-true, or_parts}
use Rattle.std.proofs.lemmas.Bool.Decides.{nat_tests}
use Rattle.c_tokens.specs.Bytes.{is_blank, is_space}
use Rattle.c_tokens.specs.Words.{past_blanks, past_spaces, past_words, past_head, is_spaces}
use Rattle.c_tokens.specs.Compared.{is_empty, before_end, without_end, has_space, before_run, squeezed, begins_so, are_words, ComparesLines}

-- this holds of what follows, where something does
abbrev pub so : (List ℕ → Bool) → Option (List ℕ) → Bool
so passes None = false
so passes (Some rest) = passes rest

same_byte : (b c : ℕ) → (b == c) ≡ true → b ≡ c
same_byte b c is = grind (arith, nat_tests)

other_byte : (b c w : ℕ) → (b == c) ≡ true → (c == w) ≡ false → (b == w) ≡ false
other_byte b c w is other = rw (same_byte b c is) other

swapped : (b c : ℕ) → (b == c) ≡ false → (c == b) ≡ false
swapped b c other = grind (arith, nat_tests)

no_blank : (b : ℕ) → is_space b ≡ false → is_blank b ≡ false
no_blank b other = (or_parts (is_blank b) (b == 13) other).0

no_32 : (b : ℕ) → is_blank b ≡ false → (b == 32) ≡ false
no_32 b other = (or_parts (b == 32) (b == 9) other).0

blank_space : (b : ℕ) → is_blank b ≡ true → is_space b ≡ true
blank_space b is = rw is refl

-- no byte but the first stands in front
not_first : (keeps : List ℕ → Bool) (w : ℕ) (words z : List ℕ) → (32 == w) ≡ false → has_space z ≡ true → begins_so keeps (w ∷ words) z ≡ false
not_first keeps w words [] other is = refl
not_first keeps w words (c ∷ z) other is = rw (other_byte c 32 w is other) refl

not_run : (keeps : List ℕ → Bool) (b w : ℕ) (words z : List ℕ) → (b == w) ≡ false → (32 == w) ≡ false → begins_so keeps (w ∷ words) (before_run b z) ≡ false
not_run keeps b w words z other space =
    elim (is_blank b) as (λ v. begins_so keeps (w ∷ words) (if v then (if has_space z then z else 32 ∷ z) else b ∷ z) ≡ false) [
      | true ↦ elim (has_space z) as (λ u. has_space z ≡ u → begins_so keeps (w ∷ words) (if u then z else 32 ∷ z) ≡ false) [
        | true ↦ λ is. not_first keeps w words z space is
        | false ↦ λ _. rw space refl
      ] refl
      | false ↦ rw other refl
    ]

-- a byte that isn't the first word byte isn't in the compared form either
not_head : (keeps : List ℕ → Bool) (b w : ℕ) (words y : List ℕ) → (b == w) ≡ false → (32 == w) ≡ false → begins_so keeps (w ∷ words) (squeezed (before_end b y)) ≡ false
not_head keeps b w words y other space =
    elim (is_space b && is_empty y) as (λ v. begins_so keeps (w ∷ words) (squeezed (if v then [] else b ∷ y)) ≡ false) [
      | true ↦ refl
      | false ↦ not_run keeps b w words (squeezed y) other space
    ]

-- a byte that isn't blank isn't a space in the compared form
not_space : (keeps : List ℕ → Bool) (b : ℕ) (words y : List ℕ) → is_blank b ≡ false → begins_so keeps (32 ∷ words) (squeezed (before_end b y)) ≡ false
not_space keeps b words y other =
    elim (is_space b && is_empty y) as (λ v. begins_so keeps (32 ∷ words) (squeezed (if v then [] else b ∷ y)) ≡ false) [
      | true ↦ refl
      | false ↦ rw other (rw (no_32 b other) refl)
    ]

-- a byte that isn't a space stays
kept : (b : ℕ) (y : List ℕ) → is_space b ≡ false → squeezed (before_end b y) ≡ b ∷ squeezed y
kept b y other = rw other (rw (no_blank b other) refl)

-- ---- runs of blanks

past_blanks-more : (c : ℕ) (x : List ℕ) → is_blank c ≡ true → past_blanks (c ∷ x) ≡ past_blanks x
past_blanks-more c x is = rw is (rw add-one-left refl)
  where
    add-one-left : 1 + prefix_len is_blank x ≡ suc (prefix_len is_blank x)
    add-one-left = omega arith

past_blanks-none : (c : ℕ) (x : List ℕ) → is_blank c ≡ false → past_blanks (c ∷ x) ≡ c ∷ x
past_blanks-none c x other = rw other refl

-- a blank in front of a run is one with it
run_space : (c : ℕ) (z : List ℕ) → is_blank c ≡ true → has_space (before_run c z) ≡ true
run_space c z is = rw is (elim (has_space z) as (λ v. has_space z ≡ v → has_space (if v then z else 32 ∷ z) ≡ true) [ true ↦ λ h. h | false ↦ λ _. refl ] refl)

squeezed-run : (b c : ℕ) (y : List ℕ) → is_blank b ≡ true → is_blank c ≡ true → squeezed (before_end b (before_end c y)) ≡ squeezed (before_end c y)
squeezed-run b c y hb hc =
    rw (blank_space b hb) (elim (is_space c && is_empty y) as (λ v. squeezed (if is_empty (if v then [] else c ∷ y) then [] else b ∷ (if v then [] else c ∷ y)) ≡ squeezed (if v then [] else c ∷ y)) [
      | true ↦ refl
      | false ↦ rw hb (rw (run_space c (squeezed y) hc) refl)
    ])

-- a space between two words is a run of blanks between them
run : (keeps : List ℕ → Bool) (v : ℕ) (words : List ℕ) (b : ℕ) (x : List ℕ) → is_blank b ≡ true → begins_so keeps (32 ∷ v ∷ words) (squeezed (without_end (b ∷ x))) ≡ begins_so keeps (v ∷ words) (squeezed (without_end (past_blanks x)))
run keeps v words b [] hb = rw (blank_space b hb) refl
run keeps v words b (c ∷ x) hb =
    elim (is_blank c) as (λ u. is_blank c ≡ u → begins_so keeps (32 ∷ v ∷ words) (squeezed (without_end (b ∷ c ∷ x))) ≡ begins_so keeps (v ∷ words) (squeezed (without_end (past_blanks (c ∷ x))))) [
      | true ↦ λ hc.
          ap (begins_so keeps (32 ∷ v ∷ words)) (squeezed-run b c (without_end x) hb hc)
          ∙ run keeps v words c x hc
          ∙ ap (λ z. begins_so keeps (v ∷ words) (squeezed (without_end z))) (sym (past_blanks-more c x hc))
      | false ↦ λ hc.
          rw (past_blanks-none c x hc) (rw (blank_space b hb)
          (elim (is_space c && is_empty (without_end x)) as (λ u. begins_so keeps (32 ∷ v ∷ words) (squeezed (if is_empty (if u then [] else c ∷ without_end x) then [] else b ∷ (if u then [] else c ∷ without_end x))) ≡ begins_so keeps (v ∷ words) (squeezed (if u then [] else c ∷ without_end x))) [
            | true ↦ refl
            | false ↦ rw hb (rw hc (rw (no_32 c hc) refl))
          ]))
    ] refl

-- ---- words

-- a byte of a word
step_byte : (passes keeps : List ℕ → Bool) (w : ℕ) (words : List ℕ) (b : ℕ) (x : List ℕ) → is_space w ≡ false → so passes (past_words words x) ≡ begins_so keeps words (squeezed (without_end x)) → so passes (past_words (w ∷ words) (b ∷ x)) ≡ begins_so keeps (w ∷ words) (squeezed (without_end (b ∷ x)))
step_byte passes keeps w words b x other same =
    rw (no_blank w other) (elim (b == w) as (λ u. (b == w) ≡ u → so passes (option_and_then (past_words words) (if u then Some x else None)) ≡ begins_so keeps (w ∷ words) (squeezed (without_end (b ∷ x)))) [
      | true ↦ λ is. same ∙ sym (ap (begins_so keeps (w ∷ words)) (kept b (without_end x) (subst (λ (k : ℕ). is_space k ≡ false) (sym (same_byte b w is)) other)) ∙ rw is refl)
      | false ↦ λ differs. sym (not_head keeps b w words (without_end x) differs (swapped w 32 (no_32 w (no_blank w other))))
    ] refl)

-- a space between words
step_space : (passes keeps : List ℕ → Bool) (v : ℕ) (words : List ℕ) (b : ℕ) (x : List ℕ) → so passes (past_words (v ∷ words) (past_blanks x)) ≡ begins_so keeps (v ∷ words) (squeezed (without_end (past_blanks x))) → so passes (past_words (32 ∷ v ∷ words) (b ∷ x)) ≡ begins_so keeps (32 ∷ v ∷ words) (squeezed (without_end (b ∷ x)))
step_space passes keeps v words b x same =
    elim (is_blank b) as (λ u. is_blank b ≡ u → so passes (option_and_then (past_words (v ∷ words)) (if u then Some (past_blanks x) else None)) ≡ begins_so keeps (32 ∷ v ∷ words) (squeezed (without_end (b ∷ x)))) [
      | true ↦ λ is. same ∙ sym (run keeps v words b x is)
      | false ↦ λ other. sym (not_space keeps b (v ∷ words) (without_end x) other)
    ] refl

pub so-past_words : (passes keeps : List ℕ → Bool) → ((x : List ℕ) → passes x ≡ keeps (squeezed (without_end x))) → (words x : List ℕ) → are_words words ≡ true → so passes (past_words words x) ≡ begins_so keeps words (squeezed (without_end x))
so-past_words passes keeps base [] x proper = base x
so-past_words passes keeps base (w ∷ []) (b ∷ x) proper = step_byte passes keeps w [] b x (not-true (is_space w) proper) (base x)
so-past_words passes keeps base (w ∷ v ∷ words) (b ∷ x) proper =
    elim (w == 32) as (λ u. (w == 32) ≡ u → (if u then not (is_space v) && are_words (v ∷ words) else not (is_space w) && are_words (v ∷ words)) ≡ true → so passes (past_words (w ∷ v ∷ words) (b ∷ x)) ≡ begins_so keeps (w ∷ v ∷ words) (squeezed (without_end (b ∷ x)))) [
      | true ↦ λ is good.
          subst (λ (k : ℕ). so passes (past_words (k ∷ v ∷ words) (b ∷ x)) ≡ begins_so keeps (k ∷ v ∷ words) (squeezed (without_end (b ∷ x)))) (sym (same_byte w 32 is))
          (step_space passes keeps v words b x (so-past_words passes keeps base (v ∷ words) (past_blanks x) (and_parts (not (is_space v)) (are_words (v ∷ words)) good).1))
      | false ↦ λ _ good.
          let both = and_parts (not (is_space w)) (are_words (v ∷ words)) good in
          step_byte passes keeps w (v ∷ words) b x (not-true (is_space w) both.0) (so-past_words passes keeps base (v ∷ words) x both.1)
    ] refl proper
so-past_words passes keeps base _ [] proper = refl

-- ---- whole lines

is_some-so : (found : Option (List ℕ)) → is_some found ≡ so (λ _. true) found
is_some-so None = refl
is_some-so (Some rest) = refl

is_spaces-so : (found : Option (List ℕ)) → is_spaces found ≡ so (list_all is_space) found
is_spaces-so None = refl
is_spaces-so (Some rest) = refl

not_empty : (b : ℕ) (z : List ℕ) → is_empty (before_run b z) ≡ false
not_empty b z =
    elim (is_blank b) as (λ v. is_empty (if v then (if has_space z then z else 32 ∷ z) else b ∷ z) ≡ false) [
      | true ↦ elim (has_space z) as (λ u. has_space z ≡ u → is_empty (if u then z else 32 ∷ z) ≡ false) [ true ↦ λ h. has_some z h | false ↦ λ _. refl ] refl
      | false ↦ refl
    ]
  where
    has_some : (y : List ℕ) → has_space y ≡ true → is_empty y ≡ false
    has_some [] h = cc
    has_some (c ∷ y) h = refl

end_empty : (b : ℕ) (y : List ℕ) → (is_space b && is_empty (squeezed y)) ≡ is_empty (squeezed (before_end b y))
end_empty b [] = elim (is_space b) as (λ v. (v && true) ≡ is_empty (squeezed (if v && true then [] else b ∷ []))) [ true ↦ refl | false ↦ sym (not_empty b []) ]
end_empty b (c ∷ y) =
    rw (not_empty c (squeezed y)) (elim (is_space b) as (λ v. (v && false) ≡ is_empty (squeezed (if v && false then [] else b ∷ c ∷ y))) [ true ↦ sym (not_empty b (squeezed (c ∷ y))) | false ↦ sym (not_empty b (squeezed (c ∷ y))) ])

-- only spaces are left exactly where the compared form has nothing left
all_spaces : (x : List ℕ) → list_all is_space x ≡ is_empty (squeezed (without_end x))
all_spaces [] = refl
all_spaces (b ∷ x) = ap (λ v. is_space b && v) (all_spaces x) ∙ end_empty b (without_end x)

pub compares : ComparesLines
compares words line proper = (
  is_some-so (past_head words line) ∙ so-past_words (λ _. true) (λ _. true) (λ _. refl) words (past_spaces line) proper,
  is_spaces-so (past_head words line) ∙ so-past_words (list_all is_space) is_empty all_spaces words (past_spaces line) proper,
)
