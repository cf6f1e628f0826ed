-- Statements, blocks, loops and guards that are read spell the grammar, and mean what was read.
use Rattle.std.proofs.Common.{◌≡◌, ℕ, suc, ◌-◌, ◌<◌, ◌≤◌, length, arith, Bool, true, List, [], ◌∷◌, refl, sym, ap, ◌∙◌, Option, Some, subst, zero, ◌+◌}
use Rattle.std.specs.Prelude.{Ok, codes, nat_le, Err}
use Rattle.c_tokens.specs.declared.token.TokenKind.TheVariants as token
use Rattle.c_reading.specs.declared.named.Kind.TheVariants.{OpenLoop}
use Rattle.c_reading.specs.Input.{Input, and_then, kind, spelling, next, sees, place, is_name_kind, Rule, left, Outcome, refuse}
use Rattle.c_reading.specs.Numbers.{most_loops, most_guards}
use Rattle.c_reading.specs.Affine.{kind_of, closed_by}
use Rattle.c_reading.specs.Values.{expect, value}
use Rattle.c_reading.specs.Items as rule
use Rattle.c_reading.specs.Guards as rule_guard
use Rattle.c_grammar.specs.Words.{a_symbol, program_end}
use Rattle.c_grammar.specs.Affine.{Compares}
use Rattle.c_grammar.specs.Item as tree
use Rattle.c_grammar.specs.Item.{assigner_word, assign_words, conditions_words, item_words, items_words}
use Rattle.c_grammar.specs.Meaning as mean
use Rattle.c_grammar.specs.Meaning.{Names, header_means, assign_means, statement_means, item_means, items_means, compares_mean}
use Rattle.c_grammar.proofs.Steps.{Passed, one_less, words, bare, spelled_kind, AreLexical, Took, took_then, took_symbol, took_word, took_as, Reads, fails, gives, gives_if, reads_map, reads_then, reads_if, bool_cases, means_then, Spells, SpellsUpTo, took_none, kind_is, end_is, end_words}
use Rattle.c_grammar.proofs.SoundAffine.{closed_by_sound}
use Rattle.c_grammar.proofs.SoundValues.{word_sound, value_sound, access_sound, compares_sound}
use Rattle.c_grammar.proofs.RowCounts.{compares_more}
use Rattle.c_reading.specs.Tree as read
use Rattle.c_reading.specs.Tree.{Items, done, with_item}
use Rattle.c_reading.specs.Refs.{access, with_kind}
use Rattle.c_reading.specs.Items.{most_statements, first_reads, is_array, is_end}
use Rattle.c_reading.specs.Compare.{Rows, compares, all_compares}
use Rattle.c_grammar.proofs.SoundHeaders.{HeaderSound, bracket_sound, header_sound}

-- ---- statements

-- an operator that was read is spelled
operator_sound : (i : Input) → AreLexical (words i) → Reads (rule.operator i) (Passed (λ (o : tree.Assigner). assigner_word o ∷ []) mean.updates i)
unfolding rule.operator next spelled_kind
operator_sound i g =
    reads_if (sees (codes "=") i) (λ is. gives (tree.sets, took_symbol (codes "=") refl i g is, refl, refl)) (λ _.
    bool_cases (sees (codes "+=") i) (λ is. rw is (gives (tree.adds, took_symbol (codes "+=") refl i g is, refl, refl))) (λ no1. rw no1 (
    bool_cases (sees (codes "-=") i) (λ is. rw is (gives (tree.subtracts, took_symbol (codes "-=") refl i g is, refl, refl))) (λ no2. rw no2 (
    bool_cases (sees (codes "*=") i) (λ is. rw is (gives (tree.multiplies, took_symbol (codes "*=") refl i g is, refl, refl))) (λ no3. rw no3 (
    gives_if (sees (codes "/=") i) _ _ (λ is. (tree.divides, took_symbol (codes "/=") refl i g is, refl, refl)))))))))

-- an assignment that was read is spelled
assign_sound : (b : ℕ) (i : Input) → AreLexical (words i) → is_name_kind (kind i) ≡ true
    → Reads (rule.assign b i) (λ q. (a : tree.Assign) × Took i (assign_words a) q.1 × (assign_means b a (bare i) ≡ Some (q.0, bare q.1)) × (a.target.name ≡ spelling i))
unfolding rule.assign assign_means
assign_sound b i g is =
    reads_then (access b i) _ (access_sound b i g is) (λ p w.
    reads_then (rule.operator p.1) _ (operator_sound p.1 w.1.lexical) (λ o t.
    reads_then (value b (first_reads o.0 p.0) o.1) _ (value_sound b (first_reads o.0 p.0) o.1 t.1.lexical) (λ r v. gives (
      record { target = w.0; assigner = t.0; value = v.0 },
      took_then w.1 (took_then t.1 v.1),
      means_then _ _ w.2 (means_then _ _ (ap (λ (u : Bool). mean.value_means b (first_reads u p.0) v.0 (bare p.1)) (sym t.3) ∙ ap (mean.value_means b (first_reads o.0 p.0) v.0) (sym t.2) ∙ v.2) refl),
      w.3,
    ))))

-- a statement that was read is an item
statement_sound : (more room b : ℕ) (before : Items) (i : Input) → AreLexical (words i) → is_name_kind (kind i) ≡ true → Reads (rule.statement b before i) (Spells item_words (item_means more room b before) i)
unfolding rule.statement rule.counted rule.count_statements item_means statement_means kind_of spelled_kind
statement_sound more room b before i g is =
    bool_cases (is_array (kind_of (spelling i) i)) (λ array. rw array (
    bool_cases (nat_le most_statements i.statements) (λ full. rw full fails) (λ few. rw few (
    reads_then (rule.assign b i) _ (assign_sound b i g is) (λ r a.
    let j : Input = record r.1 { statements = i.statements + 1 } in
    let front : Took i (assign_words a.0) j = took_as j refl a.1 in
    reads_then (expect (codes ";") j) _ (word_sound token.Symbol refl (codes ";") refl j front.lexical) (λ q c. gives (
      tree.statement a.0,
      took_then front c.0,
      rw (ap (λ (n : List ℕ). is_array (kind_of n (bare i))) a.3 ∙ array, few) (means_then _ _ a.2 (ap (λ (s : Names). Some (with_item before (read.assign r.0), s)) (sym c.1))),
    )))))))
    (λ other. rw other fails)

-- ---- loops and blocks

-- a loop means its header and its item, where a bracket may be opened
loop_is : (more room b d : ℕ) (before : Items) (h : tree.Header) (t : tree.Item) (s : Names) (o : Option (Items × Names)) → b ≡ suc d
    → mean.then_in (header_means d h s) (λ l. λ s. mean.then_in (mean.then_in (mean.begin (most_loops - 1 - more) l.name s) (λ _. item_means more room b done t)) (λ body. λ s. mean.then_in (mean.end l.name s) (λ _. mean.pure (with_item before (read.loop l body))))) ≡ o
    → item_means (suc more) room b before (tree.loop h t) s ≡ o
unfolding item_means
loop_is more room b d before h t s o is e = let f = rw is at e in rw is f

-- a loop that was read is an item
for_loop_sound : (more room b : ℕ) (item : Items → Rule Items) → ((before : Items) (i : Input) → AreLexical (words i) → Reads (item before i) (Spells item_words (item_means more room b before) i))
    → (before : Items) (i : Input) → AreLexical (words i) → sees (codes "for") i ≡ true → Reads (rule.for_loop item (most_loops - 1 - more) b before i) (Spells item_words (item_means (suc more) room b before) i)
unfolding rule.for_loop rule.opened rule.closed HeaderSound mean.begin mean.end with_kind
for_loop_sound more room b item below before i g seen =
    reads_then (rule.header b i) _ (header_sound b i g seen) (λ p h.
    let j : Input = with_kind p.0.name (OpenLoop (most_loops - 1 - more)) p.1 in
    reads_then (item done j) _ (below done j h.3.lexical) (λ r t.
    let inner : Took p.1 (item_words t.0) r.1 = record { spelled = t.1.spelled; lexical = t.1.lexical } in
    gives (tree.loop h.2 t.0, took_as _ refl (took_then h.3 inner), loop_is more room b h.0 before h.2 t.0 (bare i) _ h.1 (means_then _ _ h.4 (means_then _ _ t.2 refl)))))

-- items of a block that were read are spelled
block_items_sound : (more room b : ℕ) (item : Items → Rule Items) → ((before : Items) (i : Input) → AreLexical (words i) → Reads (item before i) (Spells item_words (item_means more room b before) i))
    → (n : ℕ) (before : Items) (i : Input) → AreLexical (words i) → Reads (rule.block_items item n before i) (SpellsUpTo (a_symbol (codes "}")) items_words (items_means more room b before) i)
unfolding rule.block_items items_means next spelled_kind
block_items_sound more room b item below zero before i g = fails
block_items_sound more room b item below (suc n) before i g = reads_if (sees (codes "}") i) (λ is. gives (tree.item_end, i, took_none g, took_symbol (codes "}") refl i g is, refl)) (λ _.
    reads_then (item before i) _ (below before i g) (λ p t.
    reads_map (block_items_sound more room b item below n p.0 p.1 t.1.lexical) (λ q r. (tree.item t.0 r.0, r.1, took_then t.1 r.2, r.3, means_then _ _ t.2 r.4))))

-- a fault stays one in an `if`
in_if_sound : {A : Type 0} (start : ℕ) (o : Outcome A) {Q : A × Input → Type 0} → Reads o Q → Reads (rule_guard.in_if start o) Q
in_if_sound start (Ok p) h = h
in_if_sound start (Err e) h = fails

-- what an `if` asks was taken, where one bracket more could be opened
unfoldable pub AskedSound : ℕ → ℕ → Input → Rows × Input → Type 0
AskedSound b room i q = (d : ℕ) × (b ≡ suc d) × (cs : Compares) × Took i (conditions_words cs) q.1 × (compares_mean d room [] cs (bare i) ≡ Some (q.0, bare q.1))

-- what an `if` asks is spelled
conditions_sound : (b room : ℕ) (i : Input) → AreLexical (words i) → sees (codes "if") i ≡ true → Reads (rule_guard.conditions b room i) (AskedSound b room i)
unfolding rule_guard.conditions rule_guard.asked all_compares AskedSound next spelled_kind
conditions_sound b room i g seen = reads_then (rule_guard.bracket_behind b i) _ (bracket_sound b i) (λ p o.
    let t = took_word (codes "if") token.Word refl refl i g seen in
    let u = took_symbol (codes "(") refl (next i) t.lexical o.3 in
    let less : b - 1 ≡ o.0 = ap (λ (n : ℕ). n - 1) o.1 ∙ one_less o.0 in
    rw (o.2, less) (in_if_sound (place i) _ (
    reads_then (compares o.0 room (left (next (next i))) [] (next (next i))) _ (compares_sound o.0 room (left (next (next i))) [] (next (next i)) u.lexical) (λ c cs.
    reads_then (closed_by (codes ")") c.0.last c.1) _ (closed_by_sound (codes ")") c.0.last c.1 refl cs.1.lexical) (λ q w. gives (
      o.0,
      o.1,
      cs.0,
      took_then t (took_then u (took_then cs.1 w.0)),
      cs.2 ∙ ap (λ (s : Names). Some (c.0.rows, s)) (sym w.2),
    ))))))

-- a guard means its compares and its item, where a bracket may be opened
guard_is : (more room b d : ℕ) (before : Items) (cs : Compares) (t : tree.Item) (s : Names) (o : Option (Items × Names)) → b ≡ suc d
    → mean.then_in (compares_mean d room [] cs s) (λ rows. λ s. mean.then_in (item_means more (room - length rows) b done t s) (λ body. mean.pure (with_item before (read.guard rows body)))) ≡ o
    → item_means more room b before (tree.guarded cs t) s ≡ o
unfolding item_means
guard_is more room b d before cs t s o is e = let f = rw is at e in rw is f

-- where no `else` stands, what follows is read
no_else_sound : {A : Type 0} (i : Input) (f : Rule A) {Q : A × Input → Type 0} → Reads (f i) Q → Reads (and_then (rule_guard.no_else i) (λ _. f)) Q
unfolding rule_guard.no_else
no_else_sound i f h = bool_cases (sees (codes "else") i) (λ is. rw is fails) (λ none. rw none h)

-- a guard that was read is an item, where its item is told how many rows were taken
guard_sound : (more room b : ℕ) (item : ℕ → ℕ → Items → Rule Items)
    → ((rows : Rows) (before : Items) (i : Input) → 0 < length rows → length rows ≤ room → AreLexical (words i) → Reads (item (length rows - 1) b before i) (Spells item_words (item_means more (room - length rows) b before) i))
    → (before : Items) (i : Input) → AreLexical (words i) → sees (codes "if") i ≡ true → Reads (rule.guard item room b before i) (Spells item_words (item_means more room b before) i)
unfolding rule.guard AskedSound
guard_sound more room b item below before i g seen =
    reads_then (rule_guard.conditions b room i) _ (conditions_sound b room i g seen) (λ p a.
    let some = compares_more a.0 room [] a.2 (bare i) (p.0, bare p.1) a.4 in
    reads_then (item (length p.0 - 1) b done p.1) _ (below p.0 done p.1 some.some some.few a.3.lexical) (λ r t.
    no_else_sound r.1 _ (gives (
      tree.guarded a.2 t.0,
      took_then a.3 t.1,
      guard_is more room b a.0 before a.2 t.0 (bare i) _ a.1 (means_then _ _ a.4 (means_then _ _ t.2 refl)),
    ))))

module _ (more room : ℕ) (loop guard : ℕ → Items → Rule Items)
    (loop_sound : (b : ℕ) (before : Items) (i : Input) → AreLexical (words i) → sees (codes "for") i ≡ true → Reads (loop b before i) (Spells item_words (item_means more room b before) i))
    (guards_sound : (b : ℕ) (before : Items) (i : Input) → AreLexical (words i) → sees (codes "if") i ≡ true → Reads (guard b before i) (Spells item_words (item_means more room b before) i)) where
  -- an item that was read is spelled, where blocks are
  item_by_sound : (b : ℕ) (block : Items → Rule Items) → ((before : Items) (i : Input) → AreLexical (words i) → sees (codes "{") i ≡ true → Reads (block before i) (Spells item_words (item_means more room b before) i))
      → (before : Items) (i : Input) → AreLexical (words i) → Reads (rule.item_by block (loop b) (guard b) b before i) (Spells item_words (item_means more room b before) i)
  unfolding rule.item_by item_means next spelled_kind
  item_by_sound b block below before i g = reads_if (sees (codes ";") i) (λ is. gives (tree.nothing, took_symbol (codes ";") refl i g is, refl)) (λ _.
      reads_if (sees (codes "{") i) (λ is. below before i g is) (λ _.
      reads_if (sees (codes "for") i) (λ is. loop_sound b before i g is) (λ _.
      reads_if (sees (codes "if") i) (λ is. guards_sound b before i g is) (λ _.
      reads_if (is_name_kind (kind i)) (λ is. statement_sound more room b before i g is) (λ _. fails)))))

  -- a block that was read is an item
  block_sound : (b : ℕ) (before : Items) (i : Input) → AreLexical (words i) → sees (codes "{") i ≡ true → Reads (rule.block loop guard b before i) (Spells item_words (item_means more room b before) i)
  unfolding rule.block rule.all_block_items item_means next spelled_kind
  block_sound zero before i g is = fails
  block_sound (suc b) before i g is =
      let t = took_symbol (codes "{") refl i g is in
      reads_map (block_items_sound more room b (rule.item_by (rule.block loop guard b) (loop b) (guard b) b) (item_by_sound b (rule.block loop guard b) (block_sound b)) (left (next i)) before (next i) t.lexical) (λ q r. (tree.block r.0, took_then t (took_then r.2 r.3), r.4))

  -- an item that was read is spelled
  item_over_sound : (b : ℕ) (before : Items) (i : Input) → AreLexical (words i) → Reads (rule.item_over loop guard b before i) (Spells item_words (item_means more room b before) i)
  unfolding rule.item_over
  item_over_sound b before i g = item_by_sound b (rule.block loop guard b) (block_sound b) before i g

module _ (more : ℕ) (loop : ℕ → ℕ → Items → Rule Items)
    (loop_sound : (room b : ℕ) (before : Items) (i : Input) → AreLexical (words i) → sees (codes "for") i ≡ true → Reads (loop room b before i) (Spells item_words (item_means more room b before) i)) where
  -- an item that was read is spelled, behind the rows that were taken
  item_behind_sound : (room taken b : ℕ) (before : Items) (i : Input) → AreLexical (words i) → Reads (rule.item_behind loop room taken b before i) (Spells item_words (item_means more (room - taken) b before) i)
  unfolding rule.item_behind
  item_behind_sound zero taken b before i g =
      let none : zero - taken ≡ zero = omega arith in
      rw none (item_over_sound more zero (loop 0) (rule.guard (λ rows brackets items. refuse) 0) (loop_sound zero) (λ b. guard_sound more zero b _ (λ rows before i some few g. absurd (omega arith))) b before i g)
  item_behind_sound (suc room) zero b before i g =
      let whole : suc room - zero ≡ suc room = omega arith in
      rw whole (item_over_sound more (suc room) (loop (suc room)) (rule.guard (rule.item_behind loop room) (suc room)) (loop_sound (suc room))
      (λ b. guard_sound more (suc room) b (rule.item_behind loop room) (λ rows before i some few g.
      let left_over : suc room - length rows ≡ room - (length rows - 1) = omega arith in
      rw left_over (item_behind_sound room (length rows - 1) b before i g))) b before i g)
  item_behind_sound (suc room) (suc taken) b before i g =
      let less : suc room - suc taken ≡ room - taken = omega arith in
      rw less (item_behind_sound room taken b before i g)

-- a loop that was read is an item, where so many may be opened
loops_sound : (more room b : ℕ) (before : Items) (i : Input) → AreLexical (words i) → sees (codes "for") i ≡ true → Reads (rule.loops more room b before i) (Spells item_words (item_means more room b before) i)
unfolding rule.loops
loops_sound zero room b before i g is = fails
loops_sound (suc more) room b before i g is =
    let whole : room - 0 ≡ room = omega arith in
    for_loop_sound more room b (rule.item_behind (rule.loops more) room 0 b) (λ before i g. subst (λ n. Reads (rule.item_behind (rule.loops more) room 0 b before i) (Spells item_words (item_means more n b before) i)) whole (item_behind_sound more (rule.loops more) (loops_sound more) room 0 b before i g)) before i g is

-- an item that was read is spelled
item_sound : (before : Items) (i : Input) → AreLexical (words i) → Reads (rule.item most_loops most_guards 64 before i) (Spells item_words (item_means most_loops most_guards 64 before) i)
unfolding rule.item
item_sound before i g = item_behind_sound most_loops (rule.loops most_loops) (loops_sound most_loops) most_guards 0 64 before i g

-- items that were read are spelled
pub items_sound : (n : ℕ) (before : Items) (i : Input) → AreLexical (words i)
    → Reads (rule.items n before i) (λ q. (ts : tree.Items) × Took i (items_words ts) q.1 × (words q.1 ≡ program_end ∷ []) × (items_means most_loops most_guards 64 before ts (bare i) ≡ Some (q.0, bare q.1)))
unfolding rule.items items_means
items_sound zero before i g = fails
items_sound (suc n) before i g = reads_if (is_end (kind i)) (λ is. gives (tree.item_end, took_none g, end_words (words i) g (sym (kind_is i) ∙ end_is (kind i) is), refl)) (λ _.
    reads_then (rule.item most_loops most_guards 64 before i) _ (item_sound before i g) (λ p t.
    reads_map (items_sound n p.0 p.1 t.1.lexical) (λ q r. (tree.item t.0 r.0, took_then t.1 r.1, r.2, means_then _ _ t.2 r.3))))
