-- Whole texts that are read spell the grammar, and mean what was read.
use Rattle.std.proofs.Common.{◌≡◌, ℕ, suc, zero, List, [], ◌∷◌, ◌++◌, refl, ap, ◌∙◌, Option, Some, None, map, true, false}
use Rattle.std.specs.Prelude.{Ok, Err, option_map}
use Rattle.c_tokens.specs.declared.token.Token.{Token}
use Rattle.c_tokens.specs.declared.token.TokenKind.TheVariants as token
use Rattle.c_reading.specs.Input.{Input, kind, spelling, next, is_name_kind, left, Outcome}
use Rattle.c_reading.specs.Affine.{slot}
use Rattle.c_reading.specs.Compare.{Rows, most_brackets, most_rows, compares, all_compares}
use Rattle.c_reading.specs.Head as head_rule
use Rattle.c_reading.specs.Head.{Head, is_line_end, is_parameters, is_assumptions}
use Rattle.c_reading.specs.Items as rule
use Rattle.c_reading.specs.Items.{all_items}
use Rattle.c_reading.specs.Text as whole
use Rattle.c_reading.specs.Text.{Reading, start_of}
use Rattle.c_reading.specs.Tree.{Items, done}
use Rattle.c_grammar.specs.Words.{Word, a_name, word_of, line_end}
use Rattle.c_grammar.specs.Affine.{compares_words}
use Rattle.c_grammar.specs.Item.{items_words}
use Rattle.c_grammar.specs.Text as text_tree
use Rattle.c_grammar.specs.Text.{Text, lines_words, text_words}
use Rattle.c_grammar.specs.Meaning as mean
use Rattle.c_grammar.specs.Meaning.{parameters_mean, compares_mean, lines_mean, whole_means, text_means}
use Rattle.c_grammar.proofs.Steps.{words, bare, AreLexical, took_then, Reads, fails, gives, gives_if, reads_map, reads_then, reads_if, means_then, Spells, SpellsUpTo, took_none, same_ok, took_line_end, took_kind, parameters_is, assumptions_is}
use Rattle.c_grammar.proofs.SoundAffine.{slot_sound}
use Rattle.c_grammar.proofs.SoundValues.{compares_sound}
use Rattle.c_grammar.proofs.SoundItems.{items_sound}

-- a line's names that were read are spelled
parameter_names_sound : (n : ℕ) (i : Input) → AreLexical (words i) → Reads (head_rule.parameter_names n i) (SpellsUpTo line_end (map a_name) parameters_mean i)
unfolding head_rule.parameter_names parameters_mean next
parameter_names_sound zero i g = fails
parameter_names_sound (suc n) i g = reads_if (is_line_end (kind i)) (λ is. gives ([], i, took_none g, took_line_end i g is, refl)) (λ _.
    reads_if (is_name_kind (kind i)) (λ is. reads_then (slot i) _ (slot_sound i g is) (λ p s.
    reads_map (parameter_names_sound n p.1 s.0.lexical) (λ q r. (spelling i ∷ r.0, r.1, took_then s.0 r.2, r.3, means_then _ _ s.1 r.4)))) (λ _. fails))

-- a line's compares that were read are spelled
line_compares_sound : (rows : Rows) (i : Input) → AreLexical (words i) → Reads (head_rule.line_compares rows i) (SpellsUpTo line_end compares_words (compares_mean most_brackets most_rows rows) i)
unfolding head_rule.line_compares head_rule.closed_line all_compares next
line_compares_sound rows i g = reads_then (compares most_brackets most_rows (left i) rows i) _ (compares_sound most_brackets most_rows (left i) rows i g) (λ p c.
    gives_if (is_line_end (kind p.1)) _ _ (λ is. (c.0, p.1, c.1, took_line_end p.1 c.1.lexical is, c.2)))

-- the lines in front of a program that were read are spelled
directives_sound : (n : ℕ) (h : Head) (i : Input) → AreLexical (words i) → Reads (head_rule.directives n h i) (Spells lines_words (lines_mean h) i)
unfolding head_rule.directives head_rule.all_parameter_names lines_mean next
directives_sound zero h i g = fails
directives_sound (suc n) h i g = reads_if (is_parameters (kind i))
    (λ is.
    let t = took_kind token.Parameters i refl g (parameters_is (kind i) is) in
    reads_then (head_rule.parameter_names (left (next i)) (next i)) _ (parameter_names_sound (left (next i)) (next i) t.lexical) (λ p s.
    reads_map (directives_sound n h p.1 s.3.lexical) (λ q r. (text_tree.parameters (spelling i) s.0 r.0, took_then t (took_then s.2 (took_then s.3 r.1)), means_then _ _ s.4 r.2))))
    (λ _. reads_if (is_assumptions (kind i))
    (λ is.
    let t = took_kind token.Assumptions i refl g (assumptions_is (kind i) is) in
    reads_then (head_rule.line_compares h.rows (next i)) _ (line_compares_sound h.rows (next i) t.lexical) (λ p s.
    reads_map (directives_sound n (record { assumed = true; rows = p.0 }) p.1 s.3.lexical) (λ q r. (text_tree.assumptions (spelling i) s.0 r.0, took_then t (took_then s.2 (took_then s.3 r.1)), means_then _ _ s.4 r.2))))
    (λ _. gives (text_tree.line_none, took_none g, refl)))

-- a text's words that were read are spelled
text_rule_sound : (i : Input) → AreLexical (words i)
    → Reads (whole.text_rule i) (λ q. (t : Text) × (words i ≡ text_words t) × (whole_means t (bare i) ≡ Some (q.0, bare q.1)))
unfolding whole.text_rule head_rule.head whole_means all_items
text_rule_sound i g =
    let h : Head = record { assumed = false; rows = [] } in
    reads_then (head_rule.directives (left i) h i) _ (directives_sound (left i) h i g) (λ p ls.
    reads_then (rule.items (left p.1) done p.1) _ (items_sound (left p.1) done p.1 ls.1.lexical) (λ r ts. gives (
      record { lines = ls.0; items = ts.0 },
      ls.1.spelled ∙ ap (λ (ws : List Word). lines_words ls.0 ++ ws) (ts.1.spelled ∙ ap (λ (ws : List Word). items_words ts.0 ++ ws) ts.2),
      means_then _ _ ls.2 (means_then _ _ ts.3 refl),
    )))

-- a text that was read is spelled
reading_sound : (bytes : List ℕ) (tokens : List Token) (r : Reading) (o : Outcome (Head × Items)) → whole.text_rule (start_of bytes tokens) ≡ o → AreLexical (words (start_of bytes tokens)) → whole.reading_from o ≡ Ok r
    → (t : Text) × (words (start_of bytes tokens) ≡ text_words t) × (text_means t ≡ Some r)
unfolding whole.assumptions_of
reading_sound bytes tokens r (Err x) is g e = absurd cc
reading_sound bytes tokens r (Ok q) is g e =
    let t = (text_rule_sound (start_of bytes tokens) g).reads q is in
    (t.0, t.1, ap mean.reading_from t.2 ∙ ap Some (same_ok e))

-- what is accepted spells the grammar, where the words are lexical
pub accepted : (bytes : List ℕ) (r : Reading) (o : Option (List Token)) → ((tokens : List Token) → o ≡ Some tokens → AreLexical (map (word_of bytes) tokens)) → whole.reading_by bytes o ≡ Ok r
    → (tree : Text) × (option_map (map (word_of bytes)) o ≡ Some (text_words tree)) × (text_means tree ≡ Some r)
accepted bytes r None lexical e = absurd cc
accepted bytes r (Some tokens) lexical e =
    let t = reading_sound bytes tokens r _ refl (lexical tokens refl) e in
    (t.0, ap Some t.1, t.2)
