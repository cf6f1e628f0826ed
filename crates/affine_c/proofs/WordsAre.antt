-- Printed texts: their lines and the words of each part, which are those of their trees; and so they mean their programs.
use Rattle.std.proofs.Common.{◌≡◌, refl, sym, ap, subst, ◌∙◌, ℕ, ◌+◌, ◌-◌, Bool, true, false, cond, List, [], ◌∷◌, ◌++◌, append_assoc, append-nil, length, take, drop, map, arith, length-append}
use Rattle.std.specs.Prelude.{codes, ◌==◌, find, Some, option_map, option_and_then, flat_map}
use Rattle.std.specs.List.{list_all, AllByRecursion}
use Rattle.std.proofs.lemmas.List.{drop-drop, map-append}
use Rattle.std.proofs.lemmas.List.Folds.{list_all-append}
use Rattle.std.proofs.Math.Seq.{drop-append_seam, take-append_seam}
use Rattle.std.proofs.lemmas.Bool.{and_from, and_parts, not-true}
use Rattle.c_tokens.specs.Bytes.{is_in_line, is_space}
use Rattle.c_tokens.specs.Lines.{in_front, lines, lines_from, line_end as behind_line}
use Rattle.c_tokens.specs.Words.{reads_as, closing_words}
use Rattle.c_tokens.specs.Text.{opens, closes, directive_of, line_tokens, head_tokens, part, scop_tokens, tokens_behind}
use Rattle.c_tokens.specs.declared.token.Token.{Token}
use Rattle.c_tokens.specs.declared.token.TokenKind.{TokenKind}
use Rattle.c_tokens.specs.declared.token.TokenKind.TheVariants.{Parameters, Assumptions, LineEnd, End, Symbol}
use Rattle.c_grammar.specs.Words.{Word, word_of, words_of, a_name, a_number, a_symbol, line_end, program_end}
use Rattle.affine_c.proofs.Lexed.{is_safe, begins_so, Piece, space, newline, word, end, text_in, words_in, AreLexed, lexed_words, safe-not_space, safe-not_hash, drop_next}
use Rattle.iolb_model.specs.Form.{AffineForm}
use Rattle.iolb_model.specs.Printed.{form_text}
use Rattle.iolb_model.specs.Program.{AffineProgram, IsWellFormed}
use Rattle.c_tokens.specs.Names.{IsName}
use Rattle.c_grammar.specs.Affine.{affine_words, compares_words}
use Rattle.c_grammar.specs.Item.{items_words}
use Rattle.c_grammar.specs.Text.{line_none, lines_words, text_words}
use Rattle.c_grammar.specs.Program.{Means}
use Rattle.affine_c.specs.Text.{row_text, parameters_text, assumption_pragma, program_text}
use Rattle.affine_c.specs.Tree.{form_tree, row_tree, parameters_tree, assumption_tree, assumptions_tree, program_tree}
use Rattle.affine_c.proofs.Roles.{IsSmallForm, HasRoles}
use Rattle.affine_c.proofs.LexedForms.{Lexes, Follows, lexes_as, word_then, space_then, name_lexes, none_lexes, form_lexes, AreVariables, are_variables, row_lexes}
use Rattle.affine_c.proofs.MeansText.{tree_means}

-- ---- lines

-- a line in front of others
pub line_front : (place : ℕ) (line rest : List ℕ) → list_all is_in_line line ≡ true → lines place (line ++ 10 ∷ rest) ≡ record { place = place; bytes = line } ∷ lines (place + length line + 1) rest
line_front place [] rest all = ap (λ n. record { place = place; bytes = [] } ∷ lines n rest) (omega arith)
line_front place (b ∷ line) rest all =
    let both = and_parts (is_in_line b) (list_all is_in_line line) all in
    let other : (b == 10) ≡ false = not-true (b == 10) both.0 in
    let after : place + 1 + length line + 1 ≡ place + length (b ∷ line) + 1 = omega arith in
    rw other (ap (in_front place b) (line_front (place + 1) line rest both.1) ∙ ap (λ n. record { place = place; bytes = b ∷ line } ∷ lines n rest) after)

-- a directive has no newline
lexed-in_line : (inside : Bool) (pieces : List Piece) → AreLexed LineEnd inside pieces → list_all is_in_line (text_in pieces) ≡ true
lexed-in_line inside [] h = absurd h
lexed-in_line inside (space ∷ pieces) h = lexed-in_line true pieces h.1
lexed-in_line inside (newline ∷ pieces) h = absurd (let e : ◌≡◌ {A = TokenKind} LineEnd End = h.0 in cc)
lexed-in_line inside (word kind bytes ∷ pieces) h = list_all-append is_in_line bytes (text_in pieces) ∙ and_from (list_all is_in_line bytes) (list_all is_in_line (text_in pieces)) h.0.in_line (lexed-in_line true pieces h.1)
lexed-in_line inside (end kind ∷ pieces) h = ap (λ pieces. list_all is_in_line (text_in pieces)) h.1

-- ---- the lines before the program

-- the line that closes the program
abbrev pub tail : List ℕ
tail = codes "#pragma endscop\n"

-- From this place on, lines that don't open the program stand before others, and their tokens are these words.
pub record Passes (place : ℕ) (text more : List ℕ) (ws : List Word) : Type 0 where
  pub count : ℕ
  pub front : List Token
  pub behind : drop count text ≡ more
  pub opening : find opens (lines place text) ≡ find opens (lines (place + count) more)
  pub head : head_tokens (lines place text) ≡ front ++ head_tokens (lines (place + count) more)
  pub words : (whole : List ℕ) → drop place whole ≡ text → map (word_of whole) front ≡ ws

-- no line
pub passes_none : (place : ℕ) (text : List ℕ) → Passes place text text []
passes_none place text =
    let same : place ≡ place + 0 = omega arith in
    record { count = 0; front = []; behind = refl; opening = ap (λ n. find opens (lines n text)) same; head = ap (λ n. head_tokens (lines n text)) same; words = λ whole e. refl }

-- lines, and then others
pub passes_both : {place : ℕ} {text more last : List ℕ} {ws vs : List Word} (first : Passes place text more ws) → Passes (place + first.count) more last vs → Passes place text last (ws ++ vs)
passes_both {place} {text} {more} {last} {ws} {vs} first second =
    let same : place + first.count + second.count ≡ place + (first.count + second.count) = omega arith in
    record {
      count = first.count + second.count;
      front = first.front ++ second.front;
      behind = sym (drop-drop second.count first.count text) ∙ ap (drop second.count) first.behind ∙ second.behind;
      opening = first.opening ∙ second.opening ∙ ap (λ n. find opens (lines n last)) same;
      head = first.head ∙ ap (λ ts. first.front ++ ts) (second.head ∙ ap (λ n. second.front ++ head_tokens (lines n last)) same) ∙ sym (append_assoc first.front second.front _);
      words = λ whole e. map-append (word_of whole) first.front second.front ∙ ap (λ l. l ++ map (word_of whole) second.front) (first.words whole e)
          ∙ ap (λ l. ws ++ l) (second.words whole (sym (drop-drop first.count place whole) ∙ ap (drop first.count) e ∙ first.behind));
    }

-- a line that begins so is a directive of this kind
pub record IsDirective (kind : TokenKind) (head : List ℕ) : Type 0 where
  pub in_line : list_all is_in_line head ≡ true
  pub no_opening : (place : ℕ) (rest : List ℕ) → opens (record { place = place; bytes = head ++ rest }) ≡ false
  pub tokens : (place : ℕ) (rest : List ℕ) → line_tokens (record { place = place; bytes = head ++ rest }) ≡ directive_of kind (record { place = place; bytes = head ++ rest }) rest

-- a directive's line in front of others
pub passes_line : (kind : TokenKind) (head : List ℕ) (segment : List Piece) (more : List ℕ) (place : ℕ) → IsDirective kind head → AreLexed LineEnd true segment
    → Passes place (head ++ (text_in segment ++ 10 ∷ more)) more (record { kind = kind; bytes = head } ∷ words_in segment)
passes_line kind head segment more place is h =
    let line : List ℕ = head ++ text_in segment in
    let whole : head ++ (text_in segment ++ 10 ∷ more) ≡ line ++ 10 ∷ more = sym (append_assoc head (text_in segment) (10 ∷ more)) in
    let all : list_all is_in_line line ≡ true = list_all-append is_in_line head (text_in segment) ∙ and_from (list_all is_in_line head) (list_all is_in_line (text_in segment)) is.in_line (lexed-in_line true segment h) in
    let after : place + length line + 1 ≡ place + (length line + 1) = omega arith in
    let split : lines place (head ++ (text_in segment ++ 10 ∷ more)) ≡ record { place = place; bytes = line } ∷ lines (place + (length line + 1)) more =
    ap (lines place) whole ∙ line_front place line more all ∙ ap (λ n. record { place = place; bytes = line } ∷ lines n more) after in
    let no_opening : opens (record { place = place; bytes = line }) ≡ false = is.no_opening place (text_in segment) in
    let longer : length line + 1 ≡ length (line ++ 10 ∷ []) = omega (arith, length-append line (10 ∷ [])) in
    record {
      count = length line + 1;
      front = directive_of kind (record { place = place; bytes = line }) (text_in segment);
      behind = ap (drop (length line + 1)) (whole ∙ sym (append_assoc line (10 ∷ []) more)) ∙ ap (λ n. drop n ((line ++ 10 ∷ []) ++ more)) longer ∙ drop-append_seam (line ++ 10 ∷ []) more;
      opening = ap (find opens) split ∙ ap (λ b. cond b (Some (record { place = place; bytes = line })) (find opens (lines (place + (length line + 1)) more))) no_opening;
      head = ap head_tokens split ∙ ap (λ b. cond b [] (line_tokens (record { place = place; bytes = line }) ++ head_tokens (lines (place + (length line + 1)) more))) no_opening
          ∙ ap (λ ts. ts ++ head_tokens (lines (place + (length line + 1)) more)) (is.tokens place (text_in segment));
      words = λ text e.
          let long : length line - length (text_in segment) ≡ length head = omega (arith, length-append head (text_in segment)) in
          let first : take (length line - length (text_in segment)) (drop place text) ≡ head = ap (λ n. take n (drop place text)) long ∙ ap (take (length head)) e ∙ take-append_seam head (text_in segment ++ 10 ∷ more) in
          let behind : drop (place + (length line - length (text_in segment))) text ≡ text_in segment ++ 10 ∷ more = ap (λ n. drop (place + n) text) long ∙ drop_next place text head (text_in segment ++ 10 ∷ more) e in
          let later : List Token = drop 1 (directive_of kind (record { place = place; bytes = line }) (text_in segment)) in
          let spelled : map (word_of text) later ≡ words_in segment = rw (lexed_words true (10 ∷ more)) refl in
          ap (λ b. record { kind = kind; bytes = b } ∷ map (word_of text) later) first ∙ ap (λ ws. record { kind = kind; bytes = head } ∷ ws) spelled;
    }

-- ---- the lines of the program

-- a line that begins with a word doesn't close the program
safe_line : (b : ℕ) (bytes : List ℕ) → is_safe b ≡ true → reads_as closing_words (b ∷ bytes) ≡ false
safe_line b bytes h =
    let no_space : is_space b ≡ false = safe-not_space b h in
    let no_hash : (b == 35) ≡ false = safe-not_hash b h in
    rw (no_space, no_hash) refl

-- where a line that is begun stands, it begins with no `#`
abbrev pub IsBegun : Bool → List ℕ → Type 0
IsBegun true line = begins_so is_safe line ≡ true
IsBegun false line = line ≡ []

-- no line of the program closes it
line_closes : (inside : Bool) (line : List ℕ) → IsBegun inside line → reads_as closing_words line ≡ false
line_closes true [] begun = absurd cc
line_closes true (b ∷ line) begun = safe_line b line begun
line_closes false line begun = ap (reads_as closing_words) begun

-- a line goes on with a word
begun_more : (inside : Bool) (line bytes : List ℕ) → IsBegun inside line → begins_so is_safe bytes ≡ true → begins_so is_safe (line ++ bytes) ≡ true
begun_more true [] bytes begun h = absurd cc
begun_more true (b ∷ line) bytes begun h = begun
begun_more false [] bytes begun h = h
begun_more false (b ∷ line) bytes begun h = cc

-- a line goes on with a space
begun_space : (line : List ℕ) → begins_so is_safe line ≡ true → begins_so is_safe (line ++ 32 ∷ []) ≡ true
begun_space [] h = absurd cc
begun_space (b ∷ line) h = h

-- no line of the program closes it
pub none_closes : (inside : Bool) (line : List ℕ) (pieces : List Piece) (rest : List ℕ) (place : ℕ) → IsBegun inside line → list_all is_in_line line ≡ true → AreLexed End inside pieces
    → find closes (lines place (line ++ (text_in pieces ++ rest))) ≡ find closes (lines (place + length line + length (text_in pieces)) rest)
none_closes inside line [] rest place begun all h = absurd h
none_closes inside line (space ∷ pieces) rest place begun all h =
    let still : begins_so is_safe line ≡ true = subst (λ b. IsBegun b line) h.0 begun in
    let same : place + length (line ++ 32 ∷ []) + length (text_in pieces) ≡ place + length line + length (32 ∷ text_in pieces) = omega (arith, length-append line (32 ∷ [])) in
    ap (λ bytes. find closes (lines place bytes)) (sym (append_assoc line (32 ∷ []) (text_in pieces ++ rest)))
    ∙ none_closes true (line ++ 32 ∷ []) pieces rest place (begun_space line still) (list_all-append is_in_line line (32 ∷ []) ∙ and_from (list_all is_in_line line) true all refl) h.1
    ∙ ap (λ n. find closes (lines n rest)) same
none_closes inside line (newline ∷ pieces) rest place begun all h =
    let same : place + length line + 1 + 0 + length (text_in pieces) ≡ place + length line + length (10 ∷ text_in pieces) = omega arith in
    ap (find closes) (line_front place line (text_in pieces ++ rest) all)
    ∙ ap (λ b. cond b (Some (record { place = place; bytes = line })) (find closes (lines (place + length line + 1) (text_in pieces ++ rest)))) (line_closes inside line begun)
    ∙ none_closes false [] pieces rest (place + length line + 1) refl refl h.1
    ∙ ap (λ n. find closes (lines n rest)) same
none_closes inside line (word kind bytes ∷ pieces) rest place begun all h =
    let same : place + length (line ++ bytes) + length (text_in pieces) ≡ place + length line + length (bytes ++ text_in pieces) = omega (arith, length-append line bytes, length-append bytes (text_in pieces)) in
    ap (λ b. find closes (lines place (line ++ b))) (append_assoc bytes (text_in pieces) rest)
    ∙ ap (λ b. find closes (lines place b)) (sym (append_assoc line bytes (text_in pieces ++ rest)))
    ∙ none_closes true (line ++ bytes) pieces rest place (begun_more inside line bytes begun h.0.begins) (list_all-append is_in_line line bytes ∙ and_from (list_all is_in_line line) (list_all is_in_line bytes) all h.0.in_line) h.1
    ∙ ap (λ n. find closes (lines n rest)) same
none_closes inside line (end kind ∷ pieces) rest place begun all h =
    let begin : line ≡ [] = subst (λ b. IsBegun b line) (h.2 refl) begun in
    let same : place ≡ place + length line + length (text_in pieces) = omega (arith, ap length begin, ap (λ b. length (text_in b)) h.1) in
    ap (λ l. find closes (lines place (l ++ (text_in pieces ++ rest)))) begin ∙ ap (λ b. find closes (lines place (text_in b ++ rest))) h.1
    ∙ ap (λ n. find closes (lines n rest)) same

-- ---- a whole text

-- the words from the opening line's end to the closing line
scop_spelled : (text : List ℕ) (from to : ℕ) (pieces : List Piece) (rest : List ℕ) → drop from text ≡ text_in pieces ++ rest → to ≡ from + length (text_in pieces) → AreLexed End true pieces
    → map (word_of text) (scop_tokens text from (record { place = to; bytes = codes "#pragma endscop" })) ≡ words_in pieces
scop_spelled text from to pieces rest here there h =
    let long : to - from ≡ length (text_in pieces) = omega arith in
    let piece : part from to text ≡ text_in pieces = ap (λ n. take n (drop from text)) long ∙ ap (take (length (text_in pieces))) here ∙ take-append_seam (text_in pieces) rest in
    rw (piece, lexed_words true rest) refl

-- the words of a text are those of its lines before the program, and those of the program
whole_words : (text : List ℕ) (body : List Piece) (ws : List Word) → Passes 0 text (codes "#pragma scop" ++ 10 ∷ (text_in body ++ tail)) ws → AreLexed End false body → words_of text ≡ Some (ws ++ words_in body)
whole_words text body ws first h =
    let at : ℕ = 0 + first.count in
    let opened : find opens (lines_from text 0) ≡ Some (record { place = at; bytes = codes "#pragma scop" }) = first.opening ∙ ap (find opens) (line_front at (codes "#pragma scop") (text_in body ++ tail) refl) in
    let front : head_tokens (lines_from text 0) ≡ first.front = first.head ∙ ap (λ ts. first.front ++ ts) (ap head_tokens (line_front at (codes "#pragma scop") (text_in body ++ tail) refl)) ∙ append-nil first.front in
    let none : 0 + first.count ≡ first.count = omega arith in
    let from : ℕ = at + 12 in
    let line_rest : drop from text ≡ text_in (newline ∷ body) ++ tail = drop_next at text (codes "#pragma scop") (text_in (newline ∷ body) ++ tail) (ap (λ n. drop n text) none ∙ first.behind) in
    let body_rest : drop (from + 1) text ≡ text_in body ++ tail = drop_next from text (10 ∷ []) (text_in body ++ tail) line_rest in
    let to : ℕ = from + 1 + 0 + length (text_in body) in
    let closed : find closes (lines_from text (from + 1)) ≡ Some (record { place = to; bytes = codes "#pragma endscop" }) =
    ap (λ t. find closes (lines (from + 1) t)) body_rest ∙ none_closes false [] body tail (from + 1) refl refl h ∙ ap (find closes) (line_front to (codes "#pragma endscop") [] refl) in
    let scop : List Token = scop_tokens text from (record { place = to; bytes = codes "#pragma endscop" }) in
    let scop_words : map (word_of text) scop ≡ words_in body = scop_spelled text from to (newline ∷ body) tail line_rest (omega arith) (refl, h) in
    ap (λ o. option_map (map (word_of text)) (option_and_then (λ opening. tokens_behind text (behind_line opening)) o)) opened
    ∙ ap (λ o. option_map (map (word_of text)) (option_map (λ closing. head_tokens (lines_from text 0) ++ scop_tokens text from closing) o)) closed
    ∙ ap (λ ts. Some (map (word_of text) (ts ++ scop))) front
    ∙ ap Some (map-append (word_of text) first.front scop ∙ ap (λ l. l ++ map (word_of text) scop) (first.words text refl) ∙ ap (λ l. ws ++ l) scop_words)

-- ---- the lines before the program

-- the end of a directive
ends_line : Follows LineEnd [] (line_end ∷ [])
ends_line = record { ends = refl; lexes = record { pieces = end LineEnd ∷ []; text_is = refl; words_are = refl; lexed = (refl, refl, λ e. cc) } }

-- a line whose text behind its head lexes
line_passes : (kind : TokenKind) (head text more : List ℕ) (ws : List Word) (place : ℕ) → IsDirective kind head → Lexes LineEnd true text ws → Passes place (head ++ (text ++ 10 ∷ more)) more (record { kind = kind; bytes = head } ∷ ws)
line_passes kind head text more ws place is l =
    subst (λ vs. Passes place (head ++ (text ++ 10 ∷ more)) more (record { kind = kind; bytes = head } ∷ vs)) l.words_are
    (subst (λ t. Passes place (head ++ (t ++ 10 ∷ more)) more (record { kind = kind; bytes = head } ∷ words_in l.pieces)) l.text_is (passes_line kind head l.pieces more place is l.lexed))

-- the names of a directive
names_follow : (names : List (List ℕ)) → AllByRecursion IsName names → Follows LineEnd (flat_map (λ (n : List ℕ). codes " " ++ n) names) (map a_name names ++ (line_end ∷ []))
names_follow [] all = ends_line
names_follow (name ∷ names) all = space_then (name_lexes name all.0 (names_follow names all.1))

-- the line of parameters
passes_parameters : (place : ℕ) (names : List (List ℕ)) (more : List ℕ) → AllByRecursion IsName names → Passes place (parameters_text names ++ more) more (lines_words (parameters_tree names line_none))
passes_parameters place [] more all = passes_none place more
passes_parameters place (name ∷ names) more all =
    let line = line_passes Parameters (codes "#pragma iolb param") (flat_map (λ (n : List ℕ). codes " " ++ n) (name ∷ names)) more (map a_name (name ∷ names) ++ (line_end ∷ [])) place (record { in_line = refl; no_opening = λ place rest. refl; tokens = λ place rest. refl }) (names_follow (name ∷ names) all).lexes in
    let written : codes "#pragma iolb param" ++ (flat_map (λ (n : List ℕ). codes " " ++ n) (name ∷ names) ++ 10 ∷ more) ≡ parameters_text (name ∷ names) ++ more = simp append_assoc in
    subst (λ t. Passes place t more (lines_words (parameters_tree (name ∷ names) line_none))) written line

-- what stands behind an assumption's form
abbrev at_least_words : List Word
at_least_words = a_symbol (codes ">=") ∷ a_number (codes "0") ∷ line_end ∷ []

-- it lexes so
at_least_follows : Follows LineEnd (codes " >= 0") at_least_words
at_least_follows = space_then (word_then Symbol (codes ">=") (record { begins = refl; in_line = refl; long = λ region. refl; token = λ region place. refl }) (space_then (none_lexes ends_line)).lexes)

-- the head of a line that assumes
abbrev assumes : Word
assumes = record { kind = Assumptions; bytes = codes "#pragma iolb assume" }

-- an assumption's line
passes_assumption : (place : ℕ) (names : List (List ℕ)) (row : AffineForm) (more : List ℕ) → AreVariables names [] → IsSmallForm (length names) 0 row
    → Passes place (assumption_pragma names row ++ more) more (assumes ∷ (compares_words (assumption_tree names row) ++ (line_end ∷ [])))
passes_assumption place names row more are small =
    let none : names ++ [] ≡ names = append-nil names in
    let form = lexes_as (form_lexes {around = []} row are small at_least_follows) (ap (λ ns. form_text ns row ++ codes " >= 0") none) (ap (λ ns. affine_words (form_tree ns row) ++ at_least_words) none) in
    let line = line_passes Assumptions (codes "#pragma iolb assume") (32 ∷ (form_text names row ++ codes " >= 0")) more (affine_words (form_tree names row) ++ at_least_words) place (record { in_line = refl; no_opening = λ place rest. refl; tokens = λ place rest. refl }) (space_then form).lexes in
    let written : codes "#pragma iolb assume" ++ ((32 ∷ (form_text names row ++ codes " >= 0")) ++ 10 ∷ more) ≡ assumption_pragma names row ++ more = simp append_assoc in
    let said : affine_words (form_tree names row) ++ at_least_words ≡ compares_words (assumption_tree names row) ++ (line_end ∷ []) = simp append_assoc in
    subst (λ ws. Passes place (assumption_pragma names row ++ more) more (assumes ∷ ws)) said (subst (λ t. Passes place t more (assumes ∷ (affine_words (form_tree names row) ++ at_least_words))) written line)

-- the lines of the assumptions
passes_assumptions : (place : ℕ) (names : List (List ℕ)) (rows : List AffineForm) (more : List ℕ) → AreVariables names [] → AllByRecursion (IsSmallForm (length names) 0) rows
    → Passes place (flat_map (assumption_pragma names) rows ++ more) more (lines_words (assumptions_tree names rows))
passes_assumptions place names [] more are small = passes_none place more
passes_assumptions place names (row ∷ rows) more are small =
    let first = passes_assumption place names row (flat_map (assumption_pragma names) rows ++ more) are small.0 in
    let both = passes_both first (passes_assumptions (place + first.count) names rows more are small.1) in
    let words : List Word = (assumes ∷ (compares_words (assumption_tree names row) ++ (line_end ∷ []))) ++ lines_words (assumptions_tree names rows) in
    let said : words ≡ lines_words (assumptions_tree names (row ∷ rows)) = simp append_assoc in
    subst (λ ws. Passes place (flat_map (assumption_pragma names) (row ∷ rows) ++ more) more ws) said
    (subst (λ t. Passes place t more words) (sym (append_assoc (assumption_pragma names row) (flat_map (assumption_pragma names) rows) more)) both)

-- the line of parameters, and those behind it
parameters_words : (names params : List (List ℕ)) (rows : List AffineForm) → lines_words (parameters_tree names line_none) ++ lines_words (assumptions_tree params rows) ≡ lines_words (parameters_tree names (assumptions_tree params rows))
parameters_words [] params rows = refl
parameters_words (n ∷ ns) params rows = simp append_assoc

-- ---- the whole text

-- the words of a printed text
pub words_are : (p : AffineProgram) → HasRoles p → words_of (program_text p) ≡ Some (text_words (program_tree p))
words_are p is =
    let ps : List (List ℕ) = p.parameters in
    let are : AreVariables ps [] = are_variables p is [] tt (omega arith) in
    let ends : Lexes End false [] (program_end ∷ []) = record { pieces = end End ∷ []; text_is = refl; words_are = refl; lexed = (refl, refl, λ e. refl) } in
    let none : ps ++ [] ≡ ps = append-nil ps in
    let body = lexes_as (row_lexes p is [] are 0 0 p.tree refl is.tree ends) (ap (λ ns. row_text p ns p.tree ++ []) none ∙ append-nil (row_text p ps p.tree)) (ap (λ ns. items_words (row_tree p ns p.tree) ++ (program_end ∷ [])) none) in
    let scop : List ℕ = codes "#pragma scop" ++ 10 ∷ (text_in body.pieces ++ tail) in
    let first = passes_parameters 0 ps (flat_map (assumption_pragma ps) p.assumptions ++ scop) is.parameters in
    let passes = passes_both first (passes_assumptions (0 + first.count) ps p.assumptions scop are is.assumptions) in
    let whole : parameters_text ps ++ (flat_map (assumption_pragma ps) p.assumptions ++ (codes "#pragma scop" ++ 10 ∷ (row_text p ps p.tree ++ tail))) ≡ program_text p = simp append_assoc in
    let text_is = ap (λ t. parameters_text ps ++ (flat_map (assumption_pragma ps) p.assumptions ++ (codes "#pragma scop" ++ 10 ∷ (t ++ tail)))) body.text_is ∙ whole in
    ap words_of (sym text_is) ∙ whole_words _ body.pieces _ passes body.lexed
    ∙ ap (λ ws. Some ((lines_words (parameters_tree ps line_none) ++ lines_words (assumptions_tree ps p.assumptions)) ++ ws)) body.words_are
    ∙ ap (λ ls. Some (ls ++ (items_words (row_tree p ps p.tree) ++ (program_end ∷ [])))) (parameters_words ps ps p.assumptions)

-- the text that prints a program means the program
pub text_means_program : (p : AffineProgram) → HasRoles p → IsWellFormed p → Means (program_text p) p
text_means_program p is well = record { tree = program_tree p; spelled = words_are p is; meant = tree_means p is well }
