-- Printed forms, references, statements and loops lex as the words of their trees.
use Rattle.std.proofs.Common.{◌≡◌, refl, sym, ap, subst, ◌∙◌, ℕ, zero, suc, ◌+◌, ◌<◌, ◌≤◌, Bool, true, false, List, [], ◌∷◌, ◌++◌, append_assoc, append-nil, length, arith, length-append}
use Rattle.std.specs.Prelude.{ℤ, codes, ◌==◌, if◌then◌else◌, unsigned_abs, decimal, slice_get, slice_index_or, IsSomeAnd, flat_map}
use Rattle.std.specs.List.{AllByRecursion, list_all, join_by}
use Rattle.std.proofs.lemmas.Bool.Decides.{nat_tests}
use Rattle.std.proofs.lemmas.Bool.{and_parts}
use Rattle.base_laws.proofs.Lists.{All-append}
use Rattle.iolb_model.specs.Form.{AffineForm}
use Rattle.iolb_model.specs.Program.{Direction, upward, downward, Access, Statement, Item, assign, loop, guard, Row, done, next, Array, AffineProgram, statement_at}
use Rattle.iolb_model.specs.Printed.{is_below_zero, size_text, later_terms_text, terms_text, form_text}
use Rattle.c_tokens.specs.Bytes.{is_name_byte, is_digit}
use Rattle.c_tokens.specs.declared.token.TokenKind.{TokenKind}
use Rattle.c_tokens.specs.declared.token.TokenKind.TheVariants as token
use Rattle.c_tokens.specs.Names.{IsName}
use Rattle.c_grammar.specs.Words.{Word, a_keyword, a_name, a_number, a_symbol}
use Rattle.c_grammar.specs.Affine.{affine_words, sums_words, term_words, compares_words, subscripts_words, reference_words}
use Rattle.c_grammar.specs.Value.{value_words, arguments_words}
use Rattle.c_grammar.specs.Item.{Items, assign_words, header_words, item_words, items_words}
use Rattle.affine_c.specs.Text.{subscript_text, array_name, access_text, reads_text, statement_text, header_text, condition_text, guard_text, item_text, row_text}
use Rattle.affine_c.specs.Tree.{size_tree, later_tree, terms_tree, form_terms, form_tree, subscripts_tree, access_tree, arguments_tree, reads_tree, statement_tree, header_tree, conditions_tree, guard_tree, item_tree, row_tree}
use Rattle.affine_c.proofs.Roles.{IsSmallForm, HasRoles, IsReadableAccess, AreReadableAccesses, access_seen, IsReadableStatement, IsReadableHeader, IsReadableGuard, IsReadableItem, IsReadableRow, item_seen}
use Rattle.affine_c.proofs.Lexed.{begins_so, goes_on, ends_name, ends_number, Piece, space, newline, word, text_in, words_in, IsWordAt, AreLexed, name_fits, number_fits, single_fits, plain_fits, minus_before, star_before, Writes, writes_decimal}
use Rattle.affine_c.proofs.RowForms.{IsTerm, AreTerms, form_terms-are}
use Rattle.iolb_model.specs.declared.limits.TheConstants.{NUMBER_SIZE, PARAMETERS, LOOPS}
use Rattle.c_grammar.proofs.Steps.{bool_cases}

-- ---- texts as words

-- a text that lexes as these words, inside a line or at its begin, up to the end of its part
pub record Lexes (last : TokenKind) (inside : Bool) (text : List ℕ) (ws : List Word) : Type 0 where
  pub pieces : List Piece
  pub text_is : text_in pieces ≡ text
  pub words_are : words_in pieces ≡ ws
  pub lexed : AreLexed last inside pieces

-- the same, where it ends a word before it
pub record Follows (last : TokenKind) (text : List ℕ) (ws : List Word) : Type 0 where
  pub ends : goes_on ends_number text ≡ true
  pub lexes : Lexes last true text ws

-- written otherwise
pub lexes_as : {last : TokenKind} {inside : Bool} {a b : List ℕ} {x y : List Word} → Lexes last inside a x → a ≡ b → x ≡ y → Lexes last inside b y
lexes_as l e f = record { pieces = l.pieces; text_is = l.text_is ∙ e; words_are = l.words_are ∙ f; lexed = l.lexed }

-- the same of what follows a word
pub follows_as : {last : TokenKind} {a b : List ℕ} {x y : List Word} → Follows last a x → a ≡ b → x ≡ y → Follows last b y
follows_as l e f = record { ends = ap (goes_on ends_number) (sym e) ∙ l.ends; lexes = lexes_as l.lexes e f }

-- a word, and what follows it
pub word_then : {last : TokenKind} {inside : Bool} {text : List ℕ} {ws : List Word} (kind : TokenKind) (bytes : List ℕ) → IsWordAt kind bytes text → Lexes last true text ws → Lexes last inside (bytes ++ text) (record { kind = kind; bytes = bytes } ∷ ws)
word_then kind bytes fits l = record {
  pieces = word kind bytes ∷ l.pieces;
  text_is = ap (λ t. bytes ++ t) l.text_is;
  words_are = ap (λ ws. record { kind = kind; bytes = bytes } ∷ ws) l.words_are;
  lexed = (subst (IsWordAt kind bytes) (sym l.text_is) fits, l.lexed);
}

-- a space, and what follows it
pub space_then : {last : TokenKind} {text : List ℕ} {ws : List Word} → Lexes last true text ws → Follows last (32 ∷ text) ws
space_then l = record { ends = refl; lexes = record { pieces = space ∷ l.pieces; text_is = ap (λ t. 32 ∷ t) l.text_is; words_are = l.words_are; lexed = (refl, l.lexed) } }

-- a newline of the program, and the line behind it
newline_then : {last : TokenKind} {inside : Bool} {text : List ℕ} {ws : List Word} → last ≡ token.End → Lexes last false text ws → Lexes last inside (10 ∷ text) ws
newline_then program l = record { pieces = newline ∷ l.pieces; text_is = ap (λ t. 10 ∷ t) l.text_is; words_are = l.words_are; lexed = (program, l.lexed) }

-- one symbol more
pub symbol_then : {last : TokenKind} {text : List ℕ} {ws : List Word} (b : ℕ) → IsWordAt token.Symbol (b ∷ []) text → ends_number b ≡ true → Lexes last true text ws → Follows last (b ∷ text) (a_symbol (b ∷ []) ∷ ws)
symbol_then b fits ends l = record { ends = ends; lexes = word_then token.Symbol (b ∷ []) fits l }

-- ---- what may follow

-- what may follow a number may follow a name
goes_on-name : (rest : List ℕ) → goes_on ends_number rest ≡ true → goes_on ends_name rest ≡ true
goes_on-name [] h = refl
goes_on-name (b ∷ rest) h = grind (arith, nat_tests)

-- ---- forms

-- a number, and what follows it
number_lexes : {last : TokenKind} {text : List ℕ} {ws : List Word} (n : ℕ) → n < NUMBER_SIZE → Follows last text ws → Lexes last true (decimal n ++ text) (a_number (decimal n) ∷ ws)
number_lexes {text = text} n small follows = let w : Writes n (decimal n) = writes_decimal n small in word_then token.Number (decimal n) (number_fits (decimal n) text w.some w.digits follows.ends) follows.lexes

-- 0, and what follows it
pub none_lexes : {last : TokenKind} {text : List ℕ} {ws : List Word} → Follows last text ws → Lexes last true (codes "0" ++ text) (a_number (codes "0") ∷ ws)
none_lexes {text = text} follows = word_then token.Number (codes "0") (number_fits (codes "0") text (omega arith) refl follows.ends) follows.lexes

-- a name, and what follows it
pub name_lexes : {last : TokenKind} {inside : Bool} {text : List ℕ} {ws : List Word} (name : List ℕ) → IsName name → Follows last text ws → Lexes last inside (name ++ text) (a_name name ∷ ws)
name_lexes {text = text} name is follows = word_then token.Name name (name_fits name text is (goes_on-name text follows.ends)) follows.lexes

-- a name begins with a byte of one
name-begins : (name rest : List ℕ) → IsName name → begins_so is_name_byte (name ++ rest) ≡ true
name-begins [] rest is = absurd (let e = is.begins in cc)
name-begins (b ∷ name) rest is = (and_parts (is_name_byte b) (list_all is_name_byte name) is.bytes).0

-- digits begin with a byte of names
digits-begin : (ds rest : List ℕ) → 1 ≤ length ds → list_all is_digit ds ≡ true → begins_so is_name_byte (ds ++ rest) ≡ true
digits-begin [] rest some all = absurd (omega arith)
digits-begin (d ∷ ds) rest some all = let digit : is_digit d ≡ true = (and_parts (is_digit d) (list_all is_digit ds) all).0 in grind (arith, nat_tests)

-- a decimal text begins with a byte of names
decimal-begins : (n : ℕ) (rest : List ℕ) → n < NUMBER_SIZE → begins_so is_name_byte (decimal n ++ rest) ≡ true
decimal-begins n rest small = let w : Writes n (decimal n) = writes_decimal n small in digits-begin (decimal n) rest w.some w.digits

-- a term begins with a byte of names
size_begins : (t : ℤ × List ℕ) (rest : List ℕ) → IsTerm t → begins_so is_name_byte (size_text t.0 t.1 ++ rest) ≡ true
size_begins (c, []) rest is = decimal-begins (unsigned_abs c) rest is.0
size_begins (c, b ∷ name) rest is =
    bool_cases (unsigned_abs c == 1) (λ e. rw e (name-begins (b ∷ name) rest is.1)) (λ e. rw e (simp append_assoc (decimal-begins (unsigned_abs c) _ is.0)))

-- a term, and what follows it
size_lexes : {last : TokenKind} {text : List ℕ} {ws : List Word} (t : ℤ × List ℕ) → IsTerm t → Follows last text ws → Lexes last true (size_text t.0 t.1 ++ text) (term_words (size_tree false t.0 t.1) ++ ws)
size_lexes (c, []) is follows = number_lexes (unsigned_abs c) is.0 follows
size_lexes {last} {text} {ws} (c, b ∷ name) is follows =
    bool_cases (unsigned_abs c == 1)
    (λ e. rw e (name_lexes (b ∷ name) is.1 follows))
    (λ e. rw e (lexes_as (number_lexes (unsigned_abs c) is.0 (
    symbol_then 42 (single_fits 42 (b ∷ (name ++ text)) refl (star_before (b ∷ (name ++ text)) (name-begins (b ∷ name) text is.1))) refl (name_lexes (b ∷ name) is.1 follows))) (simp append_assoc) refl))

-- the terms after the first
later_follow : {last : TokenKind} {text : List ℕ} {ws : List Word} (terms : List (ℤ × List ℕ)) → AreTerms terms → Follows last text ws → Follows last (later_terms_text terms ++ text) (sums_words (later_tree terms) ++ ws)
later_follow [] are follows = follows
later_follow {last} {text} {ws} (t ∷ terms) are follows =
    let rest = size_lexes t are.0 (later_follow terms are.1 follows) in
    bool_cases (is_below_zero t.0)
    (λ e. rw e (follows_as (space_then (word_then token.Symbol (codes "-") (single_fits 45 (32 ∷ _) refl refl) (space_then rest).lexes)) (simp append_assoc) (simp append_assoc)))
    (λ e. rw e (follows_as (space_then (word_then token.Symbol (codes "+") (single_fits 43 (32 ∷ _) refl refl) (space_then rest).lexes)) (simp append_assoc) (simp append_assoc)))

-- a term's words behind a minus
minus_words : (c : ℤ) (name : List ℕ) → a_symbol (codes "-") ∷ term_words (size_tree false c name) ≡ term_words (size_tree true c name)
minus_words c [] = refl
minus_words c (b ∷ bytes) =
    bool_cases (unsigned_abs c == 1) (λ e. rw e refl) (λ e. rw e refl)

-- a term with its sign, and what follows it
first_lexes : {last : TokenKind} {text : List ℕ} {ws : List Word} (below : Bool) (t : ℤ × List ℕ) → IsTerm t → Follows last text ws → Lexes last true ((if below then codes "-" else []) ++ (size_text t.0 t.1 ++ text)) (term_words (size_tree below t.0 t.1) ++ ws)
first_lexes {text = text} {ws = ws} true t is follows =
    lexes_as (word_then token.Symbol (codes "-") (single_fits 45 (size_text t.0 t.1 ++ text) refl (minus_before (size_text t.0 t.1 ++ text) (size_begins t text is))) (size_lexes t is follows)) refl (ap (λ (l : List Word). l ++ ws) (minus_words t.0 t.1))
first_lexes false t is follows = size_lexes t is follows

-- all terms
terms_lexes : {last : TokenKind} {text : List ℕ} {ws : List Word} (terms : List (ℤ × List ℕ)) → AreTerms terms → Follows last text ws → Lexes last true (terms_text terms ++ text) (affine_words (terms_tree terms) ++ ws)
terms_lexes [] are follows = none_lexes follows
terms_lexes {ws = ws} (t ∷ terms) are follows =
    lexes_as (first_lexes (is_below_zero t.0) t are.0 (later_follow terms are.1 follows)) (simp append_assoc) (sym (append_assoc (term_words (size_tree (is_below_zero t.0) t.0 t.1)) (sums_words (later_tree terms)) ws))

-- the names of parameters and of loops around, and their bounds
pub record AreVariables (parameters around : List (List ℕ)) : Type 0 where
  pub parameter_names : AllByRecursion IsName parameters
  pub loop_names : AllByRecursion IsName around
  pub few : length parameters ≤ PARAMETERS
  pub deep : length around ≤ LOOPS

-- a form
pub form_lexes : {last : TokenKind} {text : List ℕ} {ws : List Word} {parameters around : List (List ℕ)} (form : AffineForm) → AreVariables parameters around → IsSmallForm (length parameters) (length around) form → Follows last text ws
    → Lexes last true (form_text (parameters ++ around) form ++ text) (affine_words (form_tree (parameters ++ around) form) ++ ws)
form_lexes {parameters = parameters} {around = around} form are small follows =
    terms_lexes (form_terms (parameters ++ around) form) (form_terms-are parameters around form are.parameter_names are.loop_names are.few are.deep small) follows

-- ---- references and statements

-- subscripts
subscripts_follow : {last : TokenKind} {text : List ℕ} {ws : List Word} {parameters around : List (List ℕ)} (forms : List AffineForm) → AreVariables parameters around → AllByRecursion (IsSmallForm (length parameters) (length around)) forms → Follows last text ws
    → Follows last (flat_map (subscript_text (parameters ++ around)) forms ++ text) (subscripts_words (subscripts_tree (parameters ++ around) forms) ++ ws)
subscripts_follow [] are small follows = follows
subscripts_follow (form ∷ forms) are small follows =
    let close = symbol_then 93 (plain_fits 93 _ refl refl refl) refl (subscripts_follow forms are small.1 follows).lexes in
    follows_as (symbol_then 91 (plain_fits 91 _ refl refl refl) refl (form_lexes form are small.0 close)) (simp append_assoc) (simp append_assoc)

-- the name of an array that is there
pub array_named : (P Q : Array → Type 0) (arrays : List Array) (number : ℕ) (none : Array) → AllByRecursion P arrays → IsSomeAnd (slice_get arrays number) Q → P (slice_index_or arrays number none) × Q (slice_index_or arrays number none)
array_named P Q [] number none all found = absurd found
array_named P Q (a ∷ arrays) zero none all found = (all.0, found)
array_named P Q (a ∷ arrays) (suc number) none all found = array_named P Q arrays number none all.1 found

module _ (p : AffineProgram) (is : HasRoles p) where
  -- the parameters and the loops around
  pub are_variables : (around : List (List ℕ)) → AllByRecursion IsName around → length around ≤ LOOPS → AreVariables p.parameters around
  are_variables around names deep = record { parameter_names = is.parameters; loop_names = names; few = is.few_parameters; deep = deep }

  module _ (around : List (List ℕ)) (are : AreVariables p.parameters around) where
    -- a reference
    access_lexes : {last : TokenKind} {inside : Bool} {text : List ℕ} {ws : List Word} (seen : ℕ) (access : Access) → IsReadableAccess p (length around) seen access → Follows last text ws
        → Lexes last inside (access_text p (p.parameters ++ around) access ++ text) (reference_words (access_tree p (p.parameters ++ around) access) ++ ws)
    access_lexes seen access fits follows =
        lexes_as (name_lexes (array_name p access.array) (array_named _ _ p.arrays access.array _ is.arrays fits.rank).0.0 (subscripts_follow access.subscripts are fits.subscripts follows)) (simp append_assoc) refl

    -- the arguments of a call
    arguments_lex : {last : TokenKind} {text : List ℕ} {ws : List Word} (seen : ℕ) (read : Access) (reads : List Access) → AreReadableAccesses p (length around) seen (read ∷ reads) → Follows last text ws
        → Lexes last true ((access_text p (p.parameters ++ around) read ++ flat_map (λ r. codes ", " ++ access_text p (p.parameters ++ around) r) reads) ++ text) (arguments_words (arguments_tree p (p.parameters ++ around) read reads) ++ ws)
    arguments_lex seen read [] fit follows = lexes_as (access_lexes seen read fit.0 follows) (simp (append-nil, append_assoc)) (simp append_assoc)
    arguments_lex seen read (other ∷ reads) fit follows =
        let more = space_then (arguments_lex (access_seen seen read) other reads fit.1 follows) in
        lexes_as (access_lexes seen read fit.0 (symbol_then 44 (plain_fits 44 _ refl refl refl) refl more.lexes)) (simp append_assoc) (simp append_assoc)

    -- what a statement reads
    reads_lex : {last : TokenKind} {text : List ℕ} {ws : List Word} (seen : ℕ) (reads : List Access) → AreReadableAccesses p (length around) seen reads → Follows last text ws
        → Lexes last true (reads_text p (p.parameters ++ around) reads ++ text) (value_words (reads_tree p (p.parameters ++ around) reads) ++ ws)
    reads_lex seen [] fit follows = none_lexes follows
    reads_lex seen (read ∷ reads) fit follows =
        let inside = arguments_lex seen read reads fit (symbol_then 41 (plain_fits 41 _ refl refl refl) refl follows.lexes) in
        lexes_as (name_lexes (codes "f") (record { begins = refl; bytes = refl; few = omega arith; no_word = refl }) (symbol_then 40 (plain_fits 40 _ refl refl refl) refl inside)) (simp append_assoc) (simp (append-nil, append_assoc))

    -- a statement
    statement_lexes : {last : TokenKind} {inside : Bool} {text : List ℕ} {ws : List Word} (seen : ℕ) (statement : Statement) → last ≡ token.End → IsReadableStatement p (length around) seen statement → Lexes last false text ws
        → Lexes last inside (statement_text p (p.parameters ++ around) statement ++ text) ((assign_words (statement_tree p (p.parameters ++ around) statement) ++ (a_symbol (codes ";") ∷ [])) ++ ws)
    statement_lexes seen statement program fits l =
        let close = symbol_then 59 (plain_fits 59 _ refl refl refl) refl (newline_then program l) in
        let reads = space_then (reads_lex (access_seen seen statement.writes) statement.reads fits.accesses.1 close) in
        lexes_as (access_lexes seen statement.writes fits.accesses.0 (space_then (word_then token.Symbol (codes "=") (single_fits 61 (32 ∷ _) refl refl) reads.lexes))) (simp append_assoc) (simp append_assoc)

    -- the beginning of a header, up to its first bound
    begun : {last : TokenKind} {inside : Bool} {text : List ℕ} {ws : List Word} (name : List ℕ) (first : AffineForm) → IsName name → IsSmallForm (length p.parameters) (length around) first → Lexes last true text ws
        → Lexes last inside (codes "for (" ++ name ++ codes " = " ++ form_text (p.parameters ++ around) first ++ codes "; " ++ text)
        (a_keyword (codes "for") ∷ a_symbol (codes "(") ∷ a_name name ∷ a_symbol (codes "=") ∷ (affine_words (form_tree (p.parameters ++ around) first) ++ (a_symbol (codes ";") ∷ ws)))
    begun name first is_name small behind =
        let bound = space_then (form_lexes first are small (symbol_then 59 (plain_fits 59 _ refl refl refl) refl (space_then behind).lexes)) in
        let named = name_lexes name is_name (space_then (word_then token.Symbol (codes "=") (single_fits 61 (32 ∷ _) refl refl) bound.lexes)) in
        lexes_as (word_then token.Word (codes "for") (record { begins = refl; in_line = refl; long = λ region. refl; token = λ region place. refl })
        (space_then (word_then token.Symbol (codes "(") (plain_fits 40 _ refl refl refl) named)).lexes) (simp append_assoc) refl

    -- a header, and the bracket behind it
    header_lexes : {last : TokenKind} {inside : Bool} {text : List ℕ} {ws : List Word} (name : List ℕ) (direction : Direction) (lower upper : AffineForm) → last ≡ token.End → IsReadableHeader p around name lower upper → Lexes last false text ws
        → Lexes last inside (header_text (p.parameters ++ around) name direction lower upper ++ text) (header_words (header_tree (p.parameters ++ around) name direction lower upper) ++ (a_symbol (codes "{") ∷ ws))
    header_lexes name upward lower upper program fits l =
        let brace = space_then (symbol_then 123 (plain_fits 123 _ refl refl refl) refl (newline_then program l)).lexes in
        let close = symbol_then 41 (plain_fits 41 _ refl refl refl) refl brace.lexes in
        let plus = word_then token.Symbol (codes "++") (record { begins = refl; in_line = refl; long = λ region. refl; token = λ region place. refl }) close.lexes in
        let step = space_then (word_then token.Name name (name_fits name _ fits.is_name refl) plus) in
        let high = space_then (form_lexes upper are fits.upper_small (symbol_then 59 (plain_fits 59 _ refl refl refl) refl step.lexes)) in
        let compare = space_then (word_then token.Symbol (codes "<=") (record { begins = refl; in_line = refl; long = λ region. refl; token = λ region place. refl }) high.lexes) in
        lexes_as (begun name lower fits.is_name fits.lower_small (name_lexes name fits.is_name compare)) (simp append_assoc) (simp append_assoc)
    header_lexes name downward lower upper program fits l =
        let brace = space_then (symbol_then 123 (plain_fits 123 _ refl refl refl) refl (newline_then program l)).lexes in
        let close = symbol_then 41 (plain_fits 41 _ refl refl refl) refl brace.lexes in
        let minus = word_then token.Symbol (codes "--") (record { begins = refl; in_line = refl; long = λ region. refl; token = λ region place. refl }) close.lexes in
        let step = space_then (word_then token.Name name (name_fits name _ fits.is_name refl) minus) in
        let low = space_then (form_lexes lower are fits.lower_small (symbol_then 59 (plain_fits 59 _ refl refl refl) refl step.lexes)) in
        let compare = space_then (word_then token.Symbol (codes ">=") (record { begins = refl; in_line = refl; long = λ region. refl; token = λ region place. refl }) low.lexes) in
        lexes_as (begun name upper fits.is_name fits.upper_small (name_lexes name fits.is_name compare)) (simp append_assoc) (simp append_assoc)

    -- what stands behind a condition's form
    zero_follows : {last : TokenKind} {text : List ℕ} {ws : List Word} → Follows last text ws → Follows last (codes " >= 0" ++ text) (a_symbol (codes ">=") ∷ a_number (codes "0") ∷ ws)
    zero_follows behind = space_then (word_then token.Symbol (codes ">=") (record { begins = refl; in_line = refl; long = λ region. refl; token = λ region place. refl }) (space_then (none_lexes behind)).lexes)

    -- the rows of a guard
    conditions_lex : {last : TokenKind} {text : List ℕ} {ws : List Word} (row : AffineForm) (rows : List AffineForm) → AllByRecursion (IsSmallForm (length p.parameters) (length around)) (row ∷ rows) → Follows last text ws
        → Lexes last true (join_by (condition_text (p.parameters ++ around)) (codes " && ") (row ∷ rows) ++ text) (compares_words (conditions_tree (p.parameters ++ around) row rows) ++ ws)
    conditions_lex row [] small follows = lexes_as (form_lexes row are small.0 (zero_follows follows)) (simp (append-nil, append_assoc)) (simp append_assoc)
    conditions_lex row (other ∷ rows) small follows =
        let more = space_then (conditions_lex other rows small.1 follows) in
        let both = space_then (word_then token.Symbol (codes "&&") (record { begins = refl; in_line = refl; long = λ region. refl; token = λ region place. refl }) more.lexes) in
        lexes_as (form_lexes row are small.0 (zero_follows both)) (simp append_assoc) (simp append_assoc)

    -- what a guard begins with, and the items of its block
    guard_lexes : {last : TokenKind} {text : List ℕ} (ws : List Word) (guards : ℕ) (rows : List AffineForm) (items : Items) → last ≡ token.End → IsReadableGuard p (length around) guards rows → Lexes last false text (items_words items ++ (a_symbol (codes "}") ∷ ws))
        → Lexes last false (guard_text (p.parameters ++ around) rows ++ text) (item_words (guard_tree (p.parameters ++ around) rows items) ++ ws)
    guard_lexes ws guards [] items program fits l = absurd (omega (arith, fits.some))
    guard_lexes ws guards (row ∷ rows) items program fits l =
        let brace = space_then (symbol_then 123 (plain_fits 123 _ refl refl refl) refl (newline_then program l)).lexes in
        let close = symbol_then 41 (plain_fits 41 _ refl refl refl) refl brace.lexes in
        let conditions = conditions_lex row rows fits.small close in
        lexes_as (word_then token.Word (codes "if") (record { begins = refl; in_line = refl; long = λ region. refl; token = λ region place. refl })
        (space_then (word_then token.Symbol (codes "(") (plain_fits 40 _ refl refl refl) conditions)).lexes) (simp append_assoc) (simp append_assoc)

  mutual
    -- an item
    item_lexes : {last : TokenKind} {text : List ℕ} {ws : List Word} (around : List (List ℕ)) (are : AreVariables p.parameters around) (guards seen : ℕ) (item : Item) → last ≡ token.End → IsReadableItem p around guards seen item → Lexes last false text ws
        → Lexes last false (item_text p (p.parameters ++ around) item ++ text) (item_words (item_tree p (p.parameters ++ around) item) ++ ws)
    item_lexes around are guards seen (assign number) program fits l = statement_lexes around are seen (statement_at p number) program fits l
    item_lexes {last} {text} {ws} around are guards seen (loop name direction lower upper body) program fits l =
        let inner : AreVariables p.parameters (around ++ name ∷ []) = are_variables (around ++ name ∷ []) (All-append IsName around (name ∷ []) are.loop_names (fits.0.is_name, tt)) (omega (arith, fits.0.depth, length-append around (name ∷ []))) in
        let close = word_then token.Symbol (codes "}") (plain_fits 125 _ refl refl refl) (newline_then program l) in
        let rows = row_lexes (around ++ name ∷ []) inner guards seen body program fits.1 close in
        let again = subst (λ names. Lexes last false (row_text p names body ++ (codes "}\n" ++ text)) (items_words (row_tree p names body) ++ (a_symbol (codes "}") ∷ ws))) (sym (append_assoc p.parameters around (name ∷ []))) rows in
        let head : List ℕ = header_text (p.parameters ++ around) name direction lower upper in
        let inside : List ℕ = row_text p ((p.parameters ++ around) ++ name ∷ []) body in
        let head_words : List Word = header_words (header_tree (p.parameters ++ around) name direction lower upper) in
        let words : List Word = items_words (row_tree p ((p.parameters ++ around) ++ name ∷ []) body) in
        lexes_as (header_lexes around are name direction lower upper program fits.0 again) (sym (append_assoc (head ++ inside) (codes "}\n") text ∙ append_assoc head inside (codes "}\n" ++ text)))
        (ap (λ (l : List Word). head_words ++ (a_symbol (codes "{") ∷ l)) (sym (append_assoc words (a_symbol (codes "}") ∷ []) ws)) ∙ sym (append_assoc head_words (a_symbol (codes "{") ∷ (words ++ a_symbol (codes "}") ∷ [])) ws))
    item_lexes {last} {text} {ws} around are guards seen (guard rows body) program fits l =
        let close = word_then token.Symbol (codes "}") (plain_fits 125 _ refl refl refl) (newline_then program l) in
        let inside = row_lexes around are (guards + length rows) seen body program fits.1 close in
        let names : List (List ℕ) = p.parameters ++ around in
        let head : List ℕ = guard_text names rows in
        lexes_as (guard_lexes around are ws guards rows (row_tree p names body) program fits.0 inside) (sym (append_assoc (head ++ row_text p names body) (codes "}\n") text ∙ append_assoc head (row_text p names body) (codes "}\n" ++ text))) refl

    -- a row
    pub row_lexes : {last : TokenKind} {text : List ℕ} {ws : List Word} (around : List (List ℕ)) (are : AreVariables p.parameters around) (guards seen : ℕ) (row : Row) → last ≡ token.End → IsReadableRow p around guards seen row → Lexes last false text ws
        → Lexes last false (row_text p (p.parameters ++ around) row ++ text) (items_words (row_tree p (p.parameters ++ around) row) ++ ws)
    row_lexes around are guards seen done program fits l = l
    row_lexes around are guards seen (next item row) program fits l =
        lexes_as (item_lexes around are guards seen item program fits.0 (row_lexes around are guards (item_seen p seen item) row program fits.1 l)) (sym (append_assoc (item_text p (p.parameters ++ around) item) _ _)) (sym (append_assoc (item_words (item_tree p (p.parameters ++ around) item)) _ _))
