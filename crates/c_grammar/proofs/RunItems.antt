-- Headers of loops, statements, blocks, loops and guards that are spelled within the limits are read, with their meaning.
use Rattle.std.proofs.Common.{◌≡◌, ℕ, suc, Bool, true, false, List, [], ◌∷◌, ◌++◌, refl, sym, ap, ◌∙◌, Option, Some, None, subst, zero, ◌+◌, ◌-◌, ◌≤◌, not, length, arith, append-nil}
use Rattle.std.specs.Prelude.{ℤ, pos, Ok, codes, ◌||◌, nat_le, if◌then◌else◌, bytes_eq}
use Rattle.base_laws.proofs.Lists.{All-right}
use Rattle.c_tokens.specs.declared.token.TokenKind.TheVariants as token
use Rattle.c_reading.specs.declared.named.Kind.{Kind}
use Rattle.c_reading.specs.declared.named.Kind.TheVariants.{OpenLoop, ClosedLoop}
use Rattle.c_reading.specs.Input.{Input, and_then, spelling, next, sees, place, Outcome, kind, left}
use Rattle.c_reading.specs.Numbers.{combined, zeros, most_loops, most_guards}
use Rattle.c_reading.specs.Affine.{kind_of, number_of, with_name, affine}
use Rattle.c_reading.specs.Items as rule
use Rattle.c_reading.specs.Guards as rule_guard
use Rattle.c_reading.proofs.Turns.{item_is, block_some, guards_read}
use Rattle.c_grammar.specs.Words.{Word, a_name, a_symbol}
use Rattle.c_grammar.specs.Affine.{affine_words, reference_words, Compares, compares_words}
use Rattle.c_grammar.specs.Item as tree
use Rattle.c_grammar.specs.Item.{twice_word, updating_word, sign_word, step_words, int_words, bound_word, bounds_words, header_words, assigner_word, assign_words, conditions_words, item_words, items_words}
use Rattle.c_grammar.specs.Meaning as mean
use Rattle.c_grammar.specs.Meaning.{Names, affine_means, header_means, reference_means, value_means, assign_means, statement_means, item_means, items_means, compares_mean}
use Rattle.c_grammar.proofs.Steps.{one_less, bare, spelled_kind, first, IsSpelled}
use Rattle.c_grammar.proofs.Spelled.{At, at_kind, at_spelling, at_sees, at_next, at_as, at_assoc, other_bytes, same_seen, name_not_keyword, then_ok, Runs, none_meant, runs_end, runs_then, runs_inside, runs_given, runs_when, at_name, fewer, some_left, name_not_symbol, runs_after, then_some}
use Rattle.c_grammar.proofs.RunAffine.{affine_read, closed_by_run}
use Rattle.c_grammar.proofs.RunValues.{expect_run, open_run, EndsValue, value_run, NoBracket, access_read, compares_run}
use Rattle.c_grammar.proofs.RowCounts.{AreMore, compares_more}
use Rattle.std.proofs.lemmas.List.{length-append, append_assoc}
use Rattle.c_reading.specs.Tree as read
use Rattle.c_reading.specs.Tree.{Items, done, with_item}
use Rattle.c_reading.specs.Refs.{access, with_kind}
use Rattle.c_reading.specs.Values.{Accesses, value}
use Rattle.c_reading.specs.Items.{most_statements, first_reads, is_array}
use Rattle.c_grammar.specs.Value.{value_words}
use Rattle.std.specs.List.{AllByRecursion}
use Rattle.c_reading.specs.Compare.{Rows, compares, all_compares}

-- the name of a loop that was left is taken
loop_again_run : (i : Input) (o : Option ℕ) (rest : List Word) → At i (a_name (spelling i) ∷ rest) → Runs (λ a. a) (rule.loop_again o i) rest (mean.loop_again o (bare i))
unfolding next
loop_again_run i None rest at = none_meant
loop_again_run i (Some n) rest at = runs_end (at_next at) refl

-- a loop's name is taken, by its kind
loop_by_run : (i : Input) (k : Option Kind) (rest : List Word) → At i (a_name (spelling i) ∷ rest) → Runs (λ a. a) (rule.loop_name_by (number_of (spelling i) i) k i) rest (mean.loop_by (spelling i) k (bare i))
unfolding rule.new_loop with_name next
loop_by_run i None rest at = runs_when _ _ (runs_end (at_as _ refl (at_next at)) refl)
loop_by_run i (Some ClosedLoop) rest at = loop_again_run i (number_of (spelling i) i) rest at
loop_by_run i (Some _) rest at = none_meant

-- a loop's name is read
loop_name_run : (i : Input) (name : List ℕ) (rest : List Word) → At i (a_name name ∷ rest) → Runs (λ a. a) (rule.loop_name i) rest (mean.loop_name name (bare i))
unfolding mean.loop_name kind_of rule.loop_name
loop_name_run i name rest at = at_name (λ n. mean.loop_by n (kind_of n (bare i)) (bare i)) at (λ named. rw (at_kind at) (loop_by_run i (kind_of (spelling i) i) rest named))

-- a bound's comparison is read
comparison_run : (falls excludes : Bool) (i : Input) (ws : List Word) → At i (bound_word falls excludes ∷ ws) → rule.comparison i ≡ Ok (record { down = falls; less = mean.excluded falls excludes }, next i)
unfolding rule.comparison
comparison_run false true i ws at = rw (at_sees (codes "<") at) refl
comparison_run false false i ws at = rw (at_sees (codes "<") at, at_sees (codes "<=") at) refl
comparison_run true true i ws at = rw (at_sees (codes "<") at, at_sees (codes "<=") at, at_sees (codes ">") at) refl
comparison_run true false i ws at = rw (at_sees (codes "<") at, at_sees (codes "<=") at, at_sees (codes ">") at, at_sees (codes ">=") at) refl

-- a word of a step is taken
in_step_run : (start : ℕ) (word : List ℕ) (i : Input) → sees word i ≡ true → rule.expect_in_step start word i ≡ Ok (tt, next i)
unfolding rule.expect_in_step
in_step_run start word i seen = rw seen refl

-- the symbol of a step by one is seen, and no name there
twice_seen : (falls : Bool) (i : Input) (ws : List Word) → At i (twice_word falls ∷ ws) → sees (rule.twice falls) i ≡ true
twice_seen false i ws at = at_sees (codes "++") at
twice_seen true i ws at = at_sees (codes "--") at

twice_not_name : (falls : Bool) (name : List ℕ) (i : Input) (ws : List Word) → token.Name ≡ spelled_kind name → At i (twice_word falls ∷ ws) → sees name i ≡ false
unfolding spelled_kind
twice_not_name false name i ws named at = at_sees name at ∙ other_bytes (codes "++") name token.Symbol refl (λ e. let no : token.Symbol ≡ token.Name = e ∙ sym named in absurd cc)
twice_not_name true name i ws named at = at_sees name at ∙ other_bytes (codes "--") name token.Symbol refl (λ e. let no : token.Symbol ≡ token.Name = e ∙ sym named in absurd cc)

-- that of a step by the number behind it
updating_seen : (falls : Bool) (i : Input) (ws : List Word) → At i (updating_word falls ∷ ws) → (sees (rule.twice falls) i ≡ false) × (sees (rule.updating falls) i ≡ true)
updating_seen false i ws at = (at_sees (codes "++") at, at_sees (codes "+=") at)
updating_seen true i ws at = (at_sees (codes "--") at, at_sees (codes "-=") at)

-- that of a step that names the loop again
setting_seen : (falls : Bool) (i : Input) (ws : List Word) → At i (a_symbol (codes "=") ∷ ws) → (sees (rule.twice falls) i ≡ false) × (sees (rule.updating falls) i ≡ false)
setting_seen false i ws at = (at_sees (codes "++") at, at_sees (codes "+=") at)
setting_seen true i ws at = (at_sees (codes "--") at, at_sees (codes "-=") at)

-- its sign
sign_seen : (falls : Bool) (i : Input) (ws : List Word) → At i (sign_word falls ∷ ws) → sees (rule.sign falls) i ≡ true
sign_seen false i ws at = at_sees (codes "+") at
sign_seen true i ws at = at_sees (codes "-") at

-- the name that a step begins with is taken
step_behind : (falls : Bool) (name : List ℕ) (i : Input) → sees name i ≡ true → rule.step falls name i ≡ rule.step_behind_name (place i) falls name (next i)
unfolding rule.step
step_behind falls name i seen = rw seen refl

-- a step is read
step_run : (falls : Bool) (name : List ℕ) (s : tree.Step) (rest : List Word) (i : Input) → token.Name ≡ spelled_kind name → At i (step_words falls name s ++ rest)
    → (q : Unit {0} × Input) × (rule.step falls name i ≡ Ok q) × At q.1 rest × (bare q.1 ≡ bare i)
unfolding rule.step rule.step_behind_name next
step_run falls name tree.name_plus_plus rest i named at =
    let one = at_next at in
    ((tt, next (next i)), step_behind falls name i (same_seen at) ∙ rw (twice_seen falls (next i) _ one) refl, at_next one, refl)
step_run falls name tree.plus_plus_name rest i named at =
    let one = at_next at in
    ((tt, next (next i)), rw (twice_not_name falls name i _ named at, twice_seen falls i _ at) (in_step_run (place i) name (next i) (same_seen one)), at_next one, refl)
step_run falls name tree.name_plus_one rest i named at =
    let one = at_next at in
    let two = at_next one in
    let seen = updating_seen falls (next i) _ one in
    ((tt, next (next (next i))), step_behind falls name i (same_seen at) ∙ rw (seen.0, seen.1) (in_step_run (place i) (codes "1") (next (next i)) (at_sees (codes "1") two)), at_next two, refl)
step_run falls name tree.name_is_name_plus_one rest i named at =
    let one = at_next at in
    let two = at_next one in
    let three = at_next two in
    let four = at_next three in
    let seen = setting_seen falls (next i) _ one in
    let c : sees (codes "=") (next i) ≡ true = at_sees (codes "=") one in (
      (tt, next (next (next (next (next i))))),
      step_behind falls name i (same_seen at) ∙ rw (seen.0, seen.1, c) (then_ok _ _ (then_ok _ _ (in_step_run (place i) name (next (next i)) (same_seen two)) (in_step_run (place i) (rule.sign falls) (next (next (next i))) (sign_seen falls _ _ three)))
          (in_step_run (place i) (codes "1") (next (next (next (next i)))) (at_sees (codes "1") four))),
      at_next four,
      refl,
    )

-- a bound with small numbers is given
bound_is : (start : ℕ) (less : ℤ) (numbers out : List ℤ) → combined (pos 1) less zeros numbers ≡ Some out → rule.bound start less numbers ≡ Ok out
unfolding rule.bound
bound_is start less numbers out e = rw e refl

-- what stands behind a header's bracket is read
header_of_run : (b : ℕ) (h : tree.Header) (rest : List Word) (i : Input) → At i (a_name h.name ∷ (bounds_words h ++ rest)) → Runs (λ a. a) (rule.header_of b h.name i) rest (header_means b h (bare i))
unfolding rule.header_of rule.first_bound rule.header_from rule.last_from header_means next
header_of_run b h rest i at =
    let last_part : List Word = a_symbol (codes ";") ∷ (step_words h.falls h.name h.step ++ (a_symbol (codes ")") ∷ [])) in
    let first_part : List Word = a_symbol (codes ";") ∷ a_name h.name ∷ bound_word h.falls h.excludes ∷ (affine_words h.last ++ last_part) in
    runs_then (rule.loop_name i) _ (mean.loop_name h.name (bare i)) _ (loop_name_run i h.name (bounds_words h ++ rest) at) (λ n at1.
    rw (expect_run (codes "=") n.1 (at_sees (codes "=") at1)) (runs_inside (affine b None (next n.1)) _ _ (
    runs_then (affine b None (next n.1)) _ (affine_means b h.first (bare n.1)) _ (affine_read b h.first (first_part ++ rest) (next n.1) (at_assoc (affine_words h.first) first_part rest (at_next at1)) (record { times = refl; plus = refl; minus = refl })) (λ l at2.
    let named = at_next at2 in
    let compared = at_next named in
    rw (closed_by_run (codes ";") l.0 l.1 (at_sees (codes ";") at2), expect_run h.name (next l.1) (same_seen named), comparison_run h.falls h.excludes (next (next l.1)) _ compared) (runs_inside (and_then (affine b None (next (next (next l.1)))) _) _ _ (runs_inside (affine b None (next (next (next l.1)))) _ _ (
    runs_then (affine b None (next (next (next l.1)))) _ (affine_means b h.last (bare l.1)) _ (affine_read b h.last (last_part ++ rest) (next (next (next l.1))) (at_assoc (affine_words h.last) last_part rest (at_next compared)) (record { times = refl; plus = refl; minus = refl })) (λ u at3.
    runs_given (mean.last_bound h.falls h.excludes u.0.numbers) (bare u.1) _ (λ numbers e.
    let s = step_run h.falls h.name h.step (a_symbol (codes ")") ∷ rest) (next u.1) at.spelled.0 (at_assoc (step_words h.falls h.name h.step) (a_symbol (codes ")") ∷ []) rest (at_next at3)) in
    rw (bound_is (place (next (next (next l.1)))) (mean.excluded h.falls h.excludes) u.0.numbers numbers e, closed_by_run (codes ";") u.0 u.1 (at_sees (codes ";") at3), s.1, expect_run (codes ")") s.0.1 (at_sees (codes ")") s.2)) (
    runs_end (at_next s.2) (ap (λ (names : Names). Some (rule.header_by n.0 h.falls l.0.numbers numbers, names)) (sym s.3))))))))))))

-- `int` is passed over
skip_run : (has_int : Bool) (name : List ℕ) (ws : List Word) (i : Input) → At i (int_words has_int ++ (a_name name ∷ ws)) → At (rule.skip_int i) (a_name name ∷ ws) × (bare (rule.skip_int i) ≡ bare i)
unfolding rule.skip_int next spelled_kind
skip_run true name ws i at = let is : sees (codes "int") i ≡ true = at_sees (codes "int") at in rw is (at_next at, refl)
skip_run false name ws i at = let other : sees (codes "int") i ≡ false = name_not_keyword (codes "int") refl at in rw other (at, refl)

-- a header is read
pub header_run : (b : ℕ) (h : tree.Header) (rest : List Word) (i : Input) → At i (header_words h ++ rest) → Runs (λ a. a) (rule.header (suc b) i) rest (header_means b h (bare i))
unfolding rule.header rule_guard.bracket_behind next
header_run b h rest i at =
    let one = at_next at in
    let seen : sees (codes "(") (next i) ≡ true = at_sees (codes "(") one in
    let s = skip_run h.has_int h.name (bounds_words h ++ rest) (next (next i)) (at_assoc (int_words h.has_int) (a_name h.name ∷ bounds_words h) rest (at_next one)) in
    rw (seen, open_run b (next i), one_less b, at_spelling s.0) (
    subst (λ (names : Names). Runs (λ a. a) (rule.header_of b h.name (rule.skip_int (next (next i)))) rest (header_means b h names)) s.1 (header_of_run b h rest (rule.skip_int (next (next i))) s.0))

-- ---- statements

-- an assignment's operator is taken
operator_run : (o : tree.Assigner) (i : Input) (ws : List Word) → At i (assigner_word o ∷ ws) → rule.operator i ≡ Ok (mean.updates o, next i)
unfolding rule.operator
operator_run tree.sets i ws at = rw (at_sees (codes "=") at) refl
operator_run tree.adds i ws at = rw (at_sees (codes "=") at, at_sees (codes "+=") at) refl
operator_run tree.subtracts i ws at = rw (at_sees (codes "=") at, at_sees (codes "+=") at, at_sees (codes "-=") at) refl
operator_run tree.multiplies i ws at = rw (at_sees (codes "=") at, at_sees (codes "+=") at, at_sees (codes "-=") at, at_sees (codes "*=") at) refl
operator_run tree.divides i ws at = rw (at_sees (codes "=") at, at_sees (codes "+=") at, at_sees (codes "-=") at, at_sees (codes "*=") at, at_sees (codes "/=") at) refl

-- no assignment's operator is a bracket
assigner_no_bracket : (o : tree.Assigner) (ws : List Word) → NoBracket (assigner_word o ∷ ws)
assigner_no_bracket tree.sets ws = refl
assigner_no_bracket _ ws = refl

-- an assignment is read
assign_run : (b : ℕ) (a : tree.Assign) (rest : List Word) (i : Input) → At i (assign_words a ++ rest) → EndsValue rest → Runs (λ a. a) (rule.assign b i) rest (assign_means b a (bare i))
unfolding rule.assign assign_means value next
assign_run b a rest i at ends =
    runs_then (access b i) _ (reference_means b a.target (bare i)) _
    (access_read b a.target (assigner_word a.assigner ∷ (value_words a.value ++ rest)) i (at_assoc (reference_words a.target) (assigner_word a.assigner ∷ value_words a.value) rest at) (assigner_no_bracket a.assigner (value_words a.value ++ rest))) (λ w at1.
    let before : Accesses = first_reads (mean.updates a.assigner) w.0 in
    rw (operator_run a.assigner w.1 _ at1) (
    runs_then (value b before (next w.1)) _ (value_means b before a.value (bare w.1)) _ (value_run b before a.value rest (next w.1) (at_next at1) ends) (λ v at2. runs_end at2 refl)))

-- two tests that fail, where else nothing is meant
unless_either : {A V : Type 0} {view : A → V} {o : Outcome A} {rest : List Word} {m : Option (V × Names)} (c d : Bool) (x y : Outcome A) → Runs view o rest m → Runs view (if c then x else (if d then y else o)) rest (if c || d then None else m)
unless_either false false x y h = h
unless_either _ _ x y h = none_meant

-- a statement is read
statement_run : (b : ℕ) (before : Items) (a : tree.Assign) (rest : List Word) (i : Input) → At i (assign_words a ++ (a_symbol (codes ";") ∷ rest)) → Runs (λ a. a) (rule.statement b before i) rest (statement_means b before a (bare i))
unfolding rule.statement rule.counted rule.count_statements statement_means kind_of next
statement_run b before a rest i at =
    rw (at_spelling at) (unless_either (not (is_array (kind_of a.target.name i))) (nat_le most_statements i.statements) _ _ (
    runs_then (rule.assign b i) _ (assign_means b a (bare i)) _ (assign_run b a (a_symbol (codes ";") ∷ rest) i at (record { plus = refl; minus = refl; times = refl; slash = refl; percent = refl; last = record { bracket = refl; paren = refl } })) (λ w at1.
    let counted : At (record w.1 { statements = i.statements + 1 }) (a_symbol (codes ";") ∷ rest) = at_as _ refl at1 in
    rw (expect_run (codes ";") (record w.1 { statements = i.statements + 1 }) (at_sees (codes ";") counted)) (runs_end (at_next counted) refl))))

-- ---- guards

-- a fault stays one in an `if`, and what is read stays read
in_if_run : {A V : Type 0} {view : A → V} (start : ℕ) (o : Outcome A) {rest : List Word} {m : Option (V × Names)} → Runs view o rest m → Runs view (rule_guard.in_if start o) rest m
in_if_run start o h = record { run = λ x e p. let r = h.run x e p in (r.0, ap (rule_guard.in_if start) r.1, r.2, r.3) }

-- what an `if` asks is read
conditions_run : (b room : ℕ) (cs : Compares) (rest : List Word) (i : Input) → At i (conditions_words cs ++ rest) → Runs (λ rows. rows) (rule_guard.conditions (suc b) room i) rest (compares_mean b room [] cs (bare i))
unfolding rule_guard.conditions rule_guard.bracket_behind rule_guard.asked all_compares next
conditions_run b room cs rest i at =
    let one = at_next at in
    let inside = at_assoc (compares_words cs) (a_symbol (codes ")") ∷ []) rest (at_next one) in
    let seen : sees (codes "(") (next i) ≡ true = at_sees (codes "(") one in
    rw (seen, open_run b (next i), one_less b) (in_if_run (place i) _ (
    runs_after (compares b room (left (next (next i))) [] (next (next i))) _
    (compares_run b room cs (left (next (next i))) [] (a_symbol (codes ")")) rest (next (next i)) inside (record { ends = record { times = refl; plus = refl; minus = refl }; joins = refl }) (omega arith)) (λ r at1.
    rw (closed_by_run (codes ")") r.0.last r.1 (at_sees (codes ")") at1)) (runs_end (at_next at1) refl))))

-- no `else` stands first
NoElse : List Word → Type 0
NoElse ws = bytes_eq (first ws).bytes (codes "else") ≡ false

-- none is behind the item of an `if`
no_else_run : (i : Input) (ws : List Word) → At i ws → NoElse ws → rule_guard.no_else i ≡ Ok (tt, i)
unfolding rule_guard.no_else NoElse
no_else_run i ws at none = rw (at_sees (codes "else") at ∙ none) refl

-- a guard is read, where its item is
guard_run : (more room b : ℕ) (before : Items) (cs : Compares) (t : tree.Item) (rest : List Word) (i : Input) → At i (conditions_words cs ++ (item_words t ++ rest)) → NoElse rest
    → ((rows : Rows) (j : Input) → At j (item_words t ++ rest) → Runs (λ a. a) (rule.item more (room - length rows) (suc b) done j) rest (item_means more (room - length rows) (suc b) done t (bare j)))
    → Runs (λ a. a) (rule.guards (rule.loops more) room (suc b) before i) rest (item_means more room (suc b) before (tree.guarded cs t) (bare i))
unfolding item_means
guard_run more room b before cs t rest i at none below = record {
  run = λ x e p.
      let f : Rows → mean.Meaning Items = λ rows. λ s. mean.then_in (item_means more (room - length rows) (suc b) done t s) (λ body. mean.pure (with_item before (read.guard rows body))) in
      then_some f (compares_mean b room [] cs (bare i)) e (λ q e1 e2.
      let c = (conditions_run b room cs (item_words t ++ rest) i at).run q e1 tt in
      let asked : AreMore room [] c.0.0 = subst (λ (y : Rows × Names). AreMore room [] y.0) (sym c.3) (compares_more b room [] cs (bare i) q e1) in
      let inner : Runs (λ a. a) (and_then (rule.item more (room - length c.0.0) (suc b) done c.0.1) (λ body k. and_then (rule_guard.no_else k) (λ _ l. Ok (with_item before (read.guard c.0.0 body), l)))) rest (f c.0.0 (bare c.0.1)) =
      runs_then (rule.item more (room - length c.0.0) (suc b) done c.0.1) _ (item_means more (room - length c.0.0) (suc b) done t (bare c.0.1)) _ (below c.0.0 c.0.1 c.2) (λ u at2. rw (no_else_run u.1 rest at2 none) (runs_end at2 refl)) in
      let r = inner.run x (ap (λ (y : Rows × Names). f y.0 y.1) c.3 ∙ e2) tt in
      (r.0, guards_read more room (suc b) before i c.0.1 c.0.0 c.1 asked.some asked.few ∙ r.1, r.2, r.3));
}

-- ---- loops and blocks

-- a loop reads its header, and its item with the loop's name open
loop_step : (more room b : ℕ) (before : Items) (i : Input)
    → rule.loops (suc more) room b before i ≡ and_then (rule.header b i) (λ l j. and_then (rule.item more room b done (with_kind l.name (OpenLoop (most_loops - 1 - more)) j)) (λ body k. Ok (with_item before (read.loop l body), with_kind l.name ClosedLoop k)))
unfolding rule.loops rule.for_loop rule.item rule.opened rule.closed
loop_step more room b before i = refl

-- a block reads its items
block_step : (more room b : ℕ) (before : Items) (i : Input) → rule.block (rule.loops more room) (rule.guards (rule.loops more) room) (suc b) before i ≡ rule.all_block_items (rule.item more room b) before (next i)
block_step more room b before i = block_some more room before i (suc b) (omega arith) ∙ ap (λ n. rule.all_block_items (rule.item more room n) before (next i)) (one_less b)

-- no item begins with the bracket that closes a block
opens_item : (i : Input) (t : tree.Item) (rest : List Word) → At i (item_words t ++ rest) → sees (codes "}") i ≡ false
unfolding spelled_kind
opens_item i (tree.statement a) rest at = name_not_symbol (codes "}") refl at
opens_item i _ rest at = at_sees (codes "}") at

-- an item has a word
some_word : (t : tree.Item) → 1 ≤ length (item_words t)
some_word tree.nothing = omega arith
some_word _ = omega arith

-- no item begins with `else`
item_no_else : (t : tree.Item) (ws : List Word) → AllByRecursion IsSpelled (item_words t ++ ws) → NoElse (item_words t ++ ws)
unfolding NoElse spelled_kind
item_no_else (tree.statement a) ws h = other_bytes a.target.name (codes "else") token.Name h.0 (λ e. let no : token.Name ≡ token.Word = e in absurd cc)
item_no_else _ ws h = refl

-- no items in front of such words
items_no_else : (ts : tree.Items) (ws : List Word) → AllByRecursion IsSpelled (items_words ts ++ ws) → NoElse ws → NoElse (items_words ts ++ ws)
items_no_else tree.item_end ws h none = none
items_no_else (tree.item t ts) ws h none =
    let same = append_assoc (item_words t) (items_words ts) ws in
    subst NoElse (sym same) (item_no_else t (items_words ts ++ ws) (subst (AllByRecursion IsSpelled) same h))

-- the words behind those that were taken have their kinds
behind_spelled : {i : Input} (xs ys : List Word) → At i (xs ++ ys) → AllByRecursion IsSpelled ys
behind_spelled xs ys at = All-right IsSpelled xs ys at.spelled

-- the bracket that closes a block is none
bracket_no_else : (ws : List Word) → NoElse (a_symbol (codes "}") ∷ ws)
unfolding NoElse
bracket_no_else ws = refl

mutual
  unfolding item_means items_means mean.begin mean.end rule.item_over rule.item_by rule.block_items rule.all_block_items with_kind next spelled_kind

  item_run : (more room b : ℕ) (before : Items) (t : tree.Item) (rest : List Word) (i : Input) → At i (item_words t ++ rest) → NoElse rest → Runs (λ a. a) (rule.item more room b before i) rest (item_means more room b before t (bare i))
  item_run more room b before tree.nothing rest i at none = rw (item_is more room b before i, at_sees (codes ";") at) (runs_end (at_next at) refl)
  item_run more room (suc b) before (tree.block ts) rest i at none =
      rw (item_is more room (suc b) before i, at_sees (codes ";") at, at_sees (codes "{") at, block_step more room b before i) (block_run more room b before ts (left (next i)) rest (next i) (at_assoc (items_words ts) (a_symbol (codes "}") ∷ []) rest (at_next at)) (omega arith))
  item_run (suc more) room (suc b) before (tree.loop h t) rest i at none =
      rw (item_is (suc more) room (suc b) before i, at_sees (codes ";") at, at_sees (codes "{") at, at_sees (codes "for") at, loop_step more room (suc b) before i) (
      runs_then (rule.header (suc b) i) _ (header_means b h (bare i)) _ (header_run b h (item_words t ++ rest) i (at_assoc (header_words h) (item_words t) rest at)) (λ l at1.
      let j : Input = with_kind l.0.name (OpenLoop (most_loops - 1 - more)) l.1 in
      runs_then (rule.item more room (suc b) done j) _ (item_means more room (suc b) done t (bare j)) _ (item_run more room (suc b) done t rest j (at_as _ refl at1) none) (λ u at2. runs_end (at_as _ refl at2) refl)))
  item_run more room (suc b) before (tree.guarded cs t) rest i at none =
      rw (item_is more room (suc b) before i, at_sees (codes ";") at, at_sees (codes "{") at, at_sees (codes "for") at, at_sees (codes "if") at) (
      guard_run more room b before cs t rest i (at_assoc (conditions_words cs) (item_words t) rest at) none (λ rows j at1. item_run more (room - length rows) (suc b) done t rest j at1 none))
  item_run more room b before (tree.statement a) rest i at none =
      rw (item_is more room b before i, name_not_symbol (codes ";") refl at, name_not_symbol (codes "{") refl at, name_not_keyword (codes "for") refl at, name_not_keyword (codes "if") refl at, at_kind at) (
      statement_run b before a rest i (at_assoc (assign_words a) (a_symbol (codes ";") ∷ []) rest at))
  item_run _ _ _ before _ rest i at none = none_meant

  block_run : (more room b : ℕ) (before : Items) (ts : tree.Items) (n : ℕ) (rest : List Word) (i : Input) → At i (items_words ts ++ (a_symbol (codes "}") ∷ rest)) → left i ≤ n
      → Runs (λ a. a) (rule.block_items (rule.item more room b) n before i) rest (items_means more room b before ts (bare i))
  block_run more room b before ts zero rest i at few = let some = some_left at in absurd (omega arith)
  block_run more room b before tree.item_end (suc n) rest i at few = rw (at_sees (codes "}") at) (runs_end (at_next at) refl)
  block_run more room b before (tree.item t ts) (suc n) rest i at few =
      let behind : List Word = items_words ts ++ (a_symbol (codes "}") ∷ rest) in
      let front = at_assoc (item_words t) (items_words ts) (a_symbol (codes "}") ∷ rest) at in
      let none = items_no_else ts (a_symbol (codes "}") ∷ rest) (behind_spelled (item_words t) behind front) (bracket_no_else rest) in
      rw (opens_item i t _ front) (runs_then (rule.item more room b before i) _ (item_means more room b before t (bare i)) _ (item_run more room b before t behind i front none) (λ u at1.
      block_run more room b u.0 ts n rest u.1 at1 (fewer front at1 few (omega (arith, length-append (item_words t) behind, some_word t)))))

-- an item isn't the end
not_end : (i : Input) (t : tree.Item) (rest : List Word) → At i (item_words t ++ rest) → rule.is_end (kind i) ≡ false
not_end i tree.nothing rest at = ap rule.is_end (at_kind at)
not_end i _ rest at = ap rule.is_end (at_kind at)

-- the end of the program is none
end_no_else : NoElse []
unfolding NoElse
end_no_else = refl

-- the items of a program are read
pub items_run : (before : Items) (ts : tree.Items) (n : ℕ) (i : Input) → At i (items_words ts) → left i ≤ n → Runs (λ a. a) (rule.items n before i) [] (items_means most_loops most_guards 64 before ts (bare i))
unfolding items_means rule.items
items_run before ts zero i at few = let some = some_left at in absurd (omega arith)
items_run before tree.item_end (suc n) i at few = rw (ap rule.is_end (at_kind at)) (runs_end at refl)
items_run before (tree.item t ts) (suc n) i at few =
    let nothing : items_words ts ++ [] ≡ items_words ts = append-nil (items_words ts) in
    let none : NoElse (items_words ts) = subst NoElse nothing (items_no_else ts [] (subst (AllByRecursion IsSpelled) (sym nothing) (behind_spelled (item_words t) (items_words ts) at)) end_no_else) in
    rw (not_end i t _ at) (runs_then (rule.item most_loops most_guards 64 before i) _ (item_means most_loops most_guards 64 before t (bare i)) _ (item_run most_loops most_guards 64 before t (items_words ts) i at none) (λ u at1.
    items_run u.0 ts n u.1 at1 (fewer at at1 few (omega (arith, length-append (item_words t) (items_words ts), some_word t)))))
