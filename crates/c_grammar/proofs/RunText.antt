-- Whole texts that are spelled within the limits are read, with their meaning.
use Rattle.std.proofs.Common.{◌≡◌, ℕ, zero, suc, true, false, List, [], ◌∷◌, ◌++◌, refl, sym, ap, ◌∙◌, Option, Some, None, subst, ◌≤◌, arith, map}
use Rattle.std.specs.Prelude.{Ok, option_map}
use Rattle.std.specs.List.{AllByRecursion}
use Rattle.std.proofs.lemmas.List.{append_assoc}
use Rattle.base_laws.proofs.Lists.{All-left}
use Rattle.c_tokens.specs.declared.token.Token.{Token}
use Rattle.c_reading.specs.Input.{Input, next, left}
use Rattle.c_reading.specs.Affine.{slot}
use Rattle.c_reading.specs.Compare.{Rows, most_brackets, most_rows, compares, all_compares}
use Rattle.c_reading.specs.Numbers.{most_loops, most_guards}
use Rattle.c_reading.specs.Items as rule
use Rattle.c_reading.specs.Tree.{Items, done}
use Rattle.c_reading.specs.Head as head_rule
use Rattle.c_reading.specs.Head.{Head, is_parameters, is_assumptions}
use Rattle.c_reading.specs.Text as whole
use Rattle.c_reading.specs.Text.{Reading, start_of}
use Rattle.c_grammar.specs.Words.{Word, a_name, word_of, line_end, program_end}
use Rattle.c_grammar.specs.Affine.{Compares, compares_words}
use Rattle.c_grammar.specs.Item as tree
use Rattle.c_grammar.specs.Item.{items_words}
use Rattle.c_grammar.specs.Text as text_tree
use Rattle.c_grammar.specs.Text.{Text, lines_words, text_words}
use Rattle.c_grammar.specs.Meaning as mean
use Rattle.c_grammar.specs.Meaning.{Names, items_means, parameters_mean, compares_mean, lines_mean, whole_means, text_means}
use Rattle.c_grammar.proofs.Steps.{bare, first, AreLexical, IsSpelled, all_spelled}
use Rattle.c_grammar.proofs.Spelled.{At, at_kind, at_next, at_assoc, Runs, runs_end, runs_then, runs_after, longer, fewer, some_left, same_some}
use Rattle.c_grammar.proofs.RunAffine.{slot_run}
use Rattle.c_grammar.proofs.RunValues.{compares_run}
use Rattle.c_grammar.proofs.RunItems.{items_run}

-- ---- lines that name parameters

-- a line's names are read
parameter_names_run : (names : List (List ℕ)) (n : ℕ) (rest : List Word) (i : Input) → At i (map a_name names ++ (line_end ∷ rest)) → left i ≤ n → Runs (λ a. a) (head_rule.parameter_names n i) rest (parameters_mean names (bare i))
unfolding parameters_mean head_rule.parameter_names next
parameter_names_run names zero rest i at few = let some = some_left at in absurd (omega arith)
parameter_names_run [] (suc n) rest i at few = rw (at_kind at) (runs_end (at_next at) refl)
parameter_names_run (name ∷ names) (suc n) rest i at few =
    rw (at_kind at) (runs_then (slot i) _ (mean.slot name (bare i)) _ (slot_run i name (map a_name names ++ (line_end ∷ rest)) at) (λ s at1.
    parameter_names_run names n rest s.1 at1 (fewer at at1 few (omega arith))))

-- ---- lines that assume

-- a line's compares are read
line_compares_run : (cs : Compares) (rows : Rows) (rest : List Word) (i : Input) → At i (compares_words cs ++ (line_end ∷ rest)) → Runs (λ a. a) (head_rule.line_compares rows i) rest (compares_mean most_brackets most_rows rows cs (bare i))
unfolding head_rule.line_compares head_rule.closed_line all_compares next
line_compares_run cs rows rest i at =
    runs_after (compares most_brackets most_rows (left i) rows i) _ (compares_run most_brackets most_rows cs (left i) rows line_end rest i at (record { ends = record { times = refl; plus = refl; minus = refl }; joins = refl }) (omega arith)) (λ r at1.
    rw (at_kind at1) (runs_end (at_next at1) refl))

-- ---- directives

-- no word that begins a directive
record NoDirective (ws : List Word) : Type 0 where
  parameters : is_parameters (first ws).kind ≡ false
  assumptions : is_assumptions (first ws).kind ≡ false

-- the lines in front of a program are read
directives_run : (ls : text_tree.Lines) (n : ℕ) (h : Head) (rest : List Word) (i : Input) → At i (lines_words ls ++ rest) → NoDirective rest → left i ≤ n → Runs (λ a. a) (head_rule.directives n h i) rest (lines_mean h ls (bare i))
unfolding lines_mean head_rule.directives head_rule.all_parameter_names next
directives_run ls zero h rest i at other few = let some = some_left at in absurd (omega arith)
directives_run text_tree.line_none (suc n) h rest i at other few =
    rw (ap is_parameters (at_kind at) ∙ other.parameters, ap is_assumptions (at_kind at) ∙ other.assumptions) (runs_end at refl)
directives_run (text_tree.parameters head names ls) (suc n) h rest i at other few =
    rw (at_kind at) (runs_then (head_rule.parameter_names (left (next i)) (next i)) _ (parameters_mean names (bare i)) _ (parameter_names_run names (left (next i)) (lines_words ls ++ rest) (next i) (at_assoc (map a_name names) (line_end ∷ lines_words ls) rest (at_next at)) (omega arith)) (λ r at1.
    directives_run ls n h rest r.1 at1 other (fewer at at1 few (omega (arith, longer (map a_name names) (line_end ∷ lines_words ls) rest)))))
directives_run (text_tree.assumptions head cs ls) (suc n) h rest i at other few =
    rw (at_kind at) (runs_then (head_rule.line_compares h.rows (next i)) _ (compares_mean most_brackets most_rows h.rows cs (bare i)) _ (line_compares_run cs h.rows (lines_words ls ++ rest) (next i) (at_assoc (compares_words cs) (line_end ∷ lines_words ls) rest (at_next at))) (λ r at1.
    directives_run ls n (record { assumed = true; rows = r.0 }) rest r.1 at1 other (fewer at at1 few (omega (arith, longer (compares_words cs) (line_end ∷ lines_words ls) rest)))))

-- ---- texts

-- no item begins a directive
no_directive : (ts : tree.Items) → NoDirective (items_words ts)
no_directive tree.item_end = record { parameters = refl; assumptions = refl }
no_directive (tree.item tree.nothing ts) = record { parameters = refl; assumptions = refl }
no_directive (tree.item _ ts) = record { parameters = refl; assumptions = refl }

-- a text's words are read
text_rule_run : (t : Text) (i : Input) → At i (lines_words t.lines ++ items_words t.items) → Runs (λ a. a) (whole.text_rule i) [] (whole_means t (bare i))
unfolding whole.text_rule head_rule.head whole_means rule.all_items
text_rule_run t i at =
    let h : Head = record { assumed = false; rows = [] } in
    runs_then (head_rule.directives (left i) h i) _ (lines_mean h t.lines (bare i)) _ (directives_run t.lines (left i) h (items_words t.items) i at (no_directive t.items) (omega arith)) (λ l at1.
    runs_then (rule.items (left l.1) done l.1) _ (items_means most_loops most_guards most_brackets done t.items (bare l.1)) _ (items_run done t.items (left l.1) l.1 at1 (omega arith)) (λ s at2. runs_end at2 refl))

-- what spells the grammar within the limits is accepted, where its words are lexical
pub spelled : (bytes : List ℕ) (t : Text) (r : Reading) (o : Option (List Token)) → ((tokens : List Token) → o ≡ Some tokens → AreLexical (map (word_of bytes) tokens))
    → option_map (map (word_of bytes)) o ≡ Some (text_words t) → text_means t ≡ Some r → whole.reading_by bytes o ≡ Ok r
unfolding whole.assumptions_of
spelled bytes t r None lexical e f = absurd cc
spelled bytes t r (Some tokens) lexical e f =
    let together : map (word_of bytes) tokens ≡ (lines_words t.lines ++ items_words t.items) ++ program_end ∷ [] = same_some e ∙ sym (append_assoc (lines_words t.lines) (items_words t.items) (program_end ∷ [])) in
    let all : AllByRecursion IsSpelled ((lines_words t.lines ++ items_words t.items) ++ program_end ∷ []) = subst (AllByRecursion IsSpelled) together (all_spelled _ (lexical tokens refl)) in
    read (whole_means t (start_of [] [])) refl f (record { are = together; spelled = All-left IsSpelled (lines_words t.lines ++ items_words t.items) (program_end ∷ []) all }) where
      read : (o : Option ((Head × Items) × Names)) → whole_means t (start_of [] []) ≡ o → mean.reading_from o ≡ Some r → At (start_of bytes tokens) (lines_words t.lines ++ items_words t.items) → whole.reading_from (whole.text_rule (start_of bytes tokens)) ≡ Ok r
      read None is f at = absurd cc
      read (Some x) is f at =
          let s = (text_rule_run t (start_of bytes tokens) at).run x is tt in
          let reading : (Head × Items) × Names → Reading = λ y. record { names = y.1.names; kinds = y.1.kinds; assumptions = whole.assumptions_of y.0.0 y.1; items = y.0.1 } in
          ap whole.reading_from s.1 ∙ ap (λ (y : (Head × Items) × Names). Ok (reading y)) s.3 ∙ ap (λ (r : Reading). Ok r) (same_some f)
