-- The tokens give what the grammar's functions give, turn by turn.
use Rattle.std.proofs.Common.{◌≡◌, ◌-◌, ◌<◌, [], ◌∷◌, ◌++◌, length, drop, Some, None, string_bytes, sym, ap, ap₂, ◌∙◌, arith, rules}
use Rattle.std.proofs.Math.Seq.{drop-append_seam}
use Rattle.std.proofs.lemmas.List.{append_assoc}
use Rattle.json.specs.Token.{Token}
use Rattle.json.specs.Json.{parse_map, after_end_array, read_key, items, members, value}
use Rattle.json.specs.Reads.{token_of}
use Rattle.json.proofs.Grammar.{value_is, value-begin_array, value-begin_object, read_key-shorter}
use Rattle.serde_json.specs.Data.{null, boolean, number, string, array, object, no_members, put}
use Rattle.serde_json.specs.Read.{of_json, of_items, of_members, converted}
use Rattle.serde_json.specs.View.{number_view}
use Rattle.json_values.specs.Puts.{put_all}
use Rattle.json_values.specs.View.{json_data, items_data}
use Rattle.json_values.specs.declared.value.Json.{String, Number, Bool, Null, the_lemmas}
use Rattle.json_values.proofs.Members.{Entry, data-array, data-object}
use Rattle.json_values.proofs.InOrder.{put-more}
use Rattle.json_values.proofs.Turns.{array-data, before-none, items-over, items_before, members-over, no-item, no-key, no-member, object-data, one-item, one-member, one-more}
use Rattle.json_values.proofs.reading.+next_value.Goals as goal

pub next_value-returns-in_err-token-clause-none : goal.next_value-returns-in_err-token-clause-none
next_value-returns-in_err-token-clause-none t c refused =
    let empty : c.args.reader.now ≡ [] = grind arith in
    ap (converted of_json) (ap (value c.args.depth) empty ∙ value_is c.args.depth [])

pub next_value-returns-then-depth-eq0-clause-none : goal.next_value-returns-then-depth-eq0-clause-none
unfolding value
next_value-returns-then-depth-eq0-clause-none t c never =
    let first : c.args.reader.now ≡ token_of c.in_ok-token.token ∷ c.next.new.self = grind arith in
    let none : c.args.depth ≡ 0 = omega arith in
    ap (converted of_json) (ap₂ value none (first ∙ ap (λ k. token_of k ∷ c.next.new.self) c.in-BeginArray.is))

pub next_value-returns-then-depth-eq0-2-clause-none : goal.next_value-returns-then-depth-eq0-2-clause-none
unfolding value
next_value-returns-then-depth-eq0-2-clause-none t c never =
    let first : c.args.reader.now ≡ token_of c.in_ok-token.token ∷ c.next.new.self = grind arith in
    let none : c.args.depth ≡ 0 = omega arith in
    ap (converted of_json) (ap₂ value none (first ∙ ap (λ k. token_of k ∷ c.next.new.self) c.in-BeginObject.is))

pub next_value-returns-in_err-next_items-in-BeginArray-clause-none : goal.next_value-returns-in_err-next_items-in-BeginArray-clause-none
next_value-returns-in_err-next_items-in-BeginArray-clause-none t c refused =
    let first : c.args.reader.now ≡ token_of c.in_ok-token.token ∷ c.next.new.self = grind arith in
    let opened = ap (converted of_json) (ap (value c.args.depth) (first ∙ ap (λ k. token_of k ∷ c.next.new.self) c.in-BeginArray.is) ∙ value-begin_array c.args.depth c.next.new.self (omega arith)) ∙ array-data (items (value (c.args.depth - 1)) (length c.next.new.self) c.next.new.self) in
    opened ∙ ap (parse_map array) (c.next_items.ensures.none (grind arith))

pub next_value-returns-in_err-next_members-in-BeginObject-clause-none : goal.next_value-returns-in_err-next_members-in-BeginObject-clause-none
next_value-returns-in_err-next_members-in-BeginObject-clause-none t c refused =
    let first : c.args.reader.now ≡ token_of c.in_ok-token.token ∷ c.next.new.self = grind arith in
    let opened = ap (converted of_json) (ap (value c.args.depth) (first ∙ ap (λ k. token_of k ∷ c.next.new.self) c.in-BeginObject.is) ∙ value-begin_object c.args.depth c.next.new.self (omega arith)) ∙ object-data (members (value (c.args.depth - 1)) (length c.next.new.self) c.next.new.self) in
    opened ∙ ap (parse_map object) (c.next_members.ensures.none (grind arith))

pub next_value-returns-in_ok-from_str-in-String-clause-value : goal.next_value-returns-in_ok-from_str-in-String-clause-value
next_value-returns-in_ok-from_str-in-String-clause-value t c =
    let first : c.args.reader.now ≡ token_of c.in_ok-token.token ∷ c.next.new.self = grind arith in
    let is : c.args.reader.now ≡ Token.string c.in-String.text.now ∷ c.next.new.self = grind (arith, first) in
    let seen : json_data (String c.in_ok-from_str-in-String.field-0) ≡ string c.in-String.text.now = search (rules, the_lemmas) in
    ap (converted of_json) (ap (value c.args.depth) is ∙ value_is c.args.depth _) ∙ ap (λ d. Some (d, c.next.new.self)) (sym seen)

pub next_value-returns-in-Bool-clause-value : goal.next_value-returns-in-Bool-clause-value
next_value-returns-in-Bool-clause-value t c =
    let first : c.args.reader.now ≡ token_of c.in_ok-token.token ∷ c.next.new.self = grind arith in
    let is : c.args.reader.now ≡ Token.boolean c.in-Bool.b ∷ c.next.new.self = grind (arith, first) in
    let seen : json_data (Bool c.in-Bool.b) ≡ boolean c.in-Bool.b = search (rules, the_lemmas) in
    ap (converted of_json) (ap (value c.args.depth) is ∙ value_is c.args.depth _) ∙ ap (λ d. Some (d, c.next.new.self)) (sym seen)

pub next_value-returns-in-Null-clause-value : goal.next_value-returns-in-Null-clause-value
next_value-returns-in-Null-clause-value t c =
    let first : c.args.reader.now ≡ token_of c.in_ok-token.token ∷ c.next.new.self = grind arith in
    let is : c.args.reader.now ≡ Token.null ∷ c.next.new.self = grind (arith, first) in
    let seen : json_data (Null) ≡ null = search (rules, the_lemmas) in
    ap (converted of_json) (ap (value c.args.depth) is ∙ value_is c.args.depth _) ∙ ap (λ d. Some (d, c.next.new.self)) (sym seen)

pub next_value-returns-in-Some-clause-value : goal.next_value-returns-in-Some-clause-value
next_value-returns-in-Some-clause-value t c =
    let first : c.args.reader.now ≡ token_of c.in_ok-token.token ∷ c.next.new.self = grind arith in
    let is : c.args.reader.now ≡ Token.number c.in-Number.text.now ∷ c.next.new.self = grind (arith, first) in
    let seen : json_data (Number c.in-Some.number) ≡ number (number_view c.in-Some.number) = search (rules, the_lemmas) in
    ap (converted of_json) (ap (value c.args.depth) is ∙ value_is c.args.depth _) ∙ rw (← c.in-Some.ensures, seen)

pub next_value-returns-in-None-clause-none : goal.next_value-returns-in-None-clause-none
next_value-returns-in-None-clause-none t c refused =
    let first : c.args.reader.now ≡ token_of c.in_ok-token.token ∷ c.next.new.self = grind arith in
    let is : c.args.reader.now ≡ Token.number c.in-Number.text.now ∷ c.next.new.self = grind (arith, first) in
    ap (converted of_json) (ap (value c.args.depth) is ∙ value_is c.args.depth _) ∙ rw (← c.in-None.ensures)

pub next_value-returns-in-EndObject-clause-none : goal.next_value-returns-in-EndObject-clause-none
next_value-returns-in-EndObject-clause-none t c refused =
    let first : c.args.reader.now ≡ token_of c.in_ok-token.token ∷ c.next.new.self = grind arith in
    let none : value c.args.depth c.args.reader.now ≡ None = rw (value_is c.args.depth c.args.reader.now, first) (grind arith) in
    ap (converted of_json) none

pub next_value-returns-in_ok-next_items-in-BeginArray-clause-value : goal.next_value-returns-in_ok-next_items-in-BeginArray-clause-value
next_value-returns-in_ok-next_items-in-BeginArray-clause-value t c =
    let first : c.args.reader.now ≡ token_of c.in_ok-token.token ∷ c.next.new.self = grind arith in
    let opened = ap (converted of_json) (ap (value c.args.depth) (first ∙ ap (λ k. token_of k ∷ c.next.new.self) c.in-BeginArray.is) ∙ value-begin_array c.args.depth c.next.new.self (omega arith)) ∙ array-data (items (value (c.args.depth - 1)) (length c.next.new.self) c.next.new.self) in
    let found = c.in_ok-next_items-in-BeginArray in
    opened ∙ ap (parse_map array) found.ensures.value ∙ ap (λ d. Some (d, c.next_items.new.reader)) (sym (data-array found.field-0))

pub next_value-returns-in_ok-next_members-in-BeginObject-clause-value : goal.next_value-returns-in_ok-next_members-in-BeginObject-clause-value
next_value-returns-in_ok-next_members-in-BeginObject-clause-value t c =
    let first : c.args.reader.now ≡ token_of c.in_ok-token.token ∷ c.next.new.self = grind arith in
    let opened = ap (converted of_json) (ap (value c.args.depth) (first ∙ ap (λ k. token_of k ∷ c.next.new.self) c.in-BeginObject.is) ∙ value-begin_object c.args.depth c.next.new.self (omega arith)) ∙ object-data (members (value (c.args.depth - 1)) (length c.next.new.self) c.next.new.self) in
    let found = c.in_ok-next_members-in-BeginObject in
    opened ∙ ap (parse_map object) found.ensures.value ∙ ap (λ d. Some (d, c.next_members.new.reader)) (sym (data-object found.field-0))

pub next_items-returns-in_err-item-clause-none : goal.next_items-returns-in_err-item-clause-none
next_items-returns-in_err-item-clause-none t c refused =
    let p = value c.args.depth in
    let l = c.items in
    let so_far = l.invariant in
    let going : (after_end_array l.reader ≡ None) × (c.take_end_array.new.self ≡ l.reader) = grind arith in
    so_far.left ∙ ap (parse_map (items_before so_far.found)) (no-item p so_far.turns l.reader going.0 (rw (← going.1) (c.next_value.ensures.none (grind arith))))

pub next_items-items-preserved : goal.next_items-items-preserved
next_items-items-preserved t c =
    let p = value c.args.depth in
    let l = c.items in
    let so_far = l.invariant in
    let going : (after_end_array l.reader ≡ None) × (c.take_end_array.new.self ≡ l.reader) = grind arith in
    let done = c.in_ok-item.ensures in
    let v = c.in_ok-item.item in
    let r = c.next_value.new.reader in
    let less : length r < length l.reader = rw (← going.1) done.shorter in
    let turn = one-item p so_far.turns l.reader r (json_data v) (omega (arith, so_far.enough)) going.0 (rw (← going.1) done.value) in record {
      turns = so_far.turns - 1;
      found = so_far.found ++ v ∷ [];
      enough = omega (arith, so_far.enough);
      left = so_far.left ∙ ap (parse_map (items_before so_far.found)) turn ∙ one-more so_far.found v (converted of_items (items p (so_far.turns - 1) r));
      shorter = omega (arith, so_far.shorter);
      first = so_far.first;
      items = c.in_ok-push.ensures.items ∙ ap (λ vs. vs ++ v ∷ []) (done.items_stay ∙ so_far.items) ∙ append_assoc c.args.pending.now.items.items so_far.found (v ∷ []);
      members = done.members_stay ∙ so_far.members;
    }

pub next_items-returns-clause-value : goal.next_items-returns-clause-value
next_items-returns-clause-value t c =
    let p = value c.args.depth in
    let l = c.items in
    let so_far = l.invariant in
    let r = c.take_end_array.new.self in
    let behind : c.in_ok-taken.field-0.items ≡ so_far.found = c.in_ok-taken.ensures.taken ∙ ap₂ drop so_far.first so_far.items ∙ drop-append_seam c.args.pending.now.items.items so_far.found in
    so_far.left ∙ ap (parse_map (items_before so_far.found)) (items-over p so_far.turns l.reader r so_far.enough (grind arith))
    ∙ ap (λ ds. Some (ds, r)) (before-none so_far.found ∙ ap items_data (sym behind))

pub next_members-returns-in_err-name-clause-none : goal.next_members-returns-in_err-name-clause-none
next_members-returns-in_err-name-clause-none t c refused =
    let p = value c.args.depth in
    let l = c.members in
    let so_far = l.invariant in
    so_far.left ∙ no-key p (put_all so_far.found no_members) so_far.turns l.reader c.in_err-name.ensures.value

pub next_members-returns-in_err-member-clause-none : goal.next_members-returns-in_err-member-clause-none
next_members-returns-in_err-member-clause-none t c refused =
    let p = value c.args.depth in
    let l = c.members in
    let so_far = l.invariant in
    let k = c.in-Some.name.now in
    let s = c.next_key.new.self in
    let named : read_key l.reader ≡ Some (Some k, s) = grind arith in
    so_far.left ∙ no-member p (put_all so_far.found no_members) so_far.turns k l.reader s named (c.next_value.ensures.none (grind arith))

pub next_members-members-preserved : goal.next_members-members-preserved
next_members-members-preserved t c =
    let p = value c.args.depth in
    let l = c.members in
    let so_far = l.invariant in
    let old = put_all so_far.found no_members in
    let k = c.in-Some.name.now in
    let s = c.next_key.new.self in
    let named : read_key l.reader ≡ Some (Some k, s) = grind arith in
    let done = c.in_ok-member.ensures in
    let v = c.in_ok-member.member in
    let m : Entry = (c.in_ok-name-2.name, v) in
    let r = c.next_value.new.reader in
    let less = read_key-shorter l.reader (Some k) s named in
    let lesser = done.shorter in
    let copied : string_bytes c.in_ok-name-2.name ≡ k = search rules in
    let more : put_all (so_far.found ++ m ∷ []) no_members ≡ put k (json_data v) old =
    put-more so_far.found m no_members ∙ ap (λ name. put name (json_data v) old) copied in record {
      turns = so_far.turns - 1;
      found = so_far.found ++ m ∷ [];
      enough = omega (arith, so_far.enough);
      left = so_far.left ∙ one-member p old so_far.turns k l.reader s r (json_data v) (omega (arith, so_far.enough)) named done.value
          ∙ ap (λ found. converted (λ ms. of_members ms found) (members p (so_far.turns - 1) r)) (sym more);
      shorter = omega (arith, so_far.shorter);
      first = so_far.first;
      items = done.items_stay ∙ so_far.items;
      members = c.in_ok-push.ensures.items ∙ ap (λ ms. ms ++ m ∷ []) (done.members_stay ∙ so_far.members) ∙ append_assoc c.args.pending.now.members.items so_far.found (m ∷ []);
    }

pub next_members-returns-clause-value : goal.next_members-returns-clause-value
next_members-returns-clause-value t c =
    let p = value c.args.depth in
    let l = c.members in
    let so_far = l.invariant in
    let r = c.next_key.new.self in
    let behind : c.in_ok-found.found.items ≡ so_far.found = c.in_ok-found.ensures.taken ∙ ap₂ drop so_far.first so_far.members ∙ drop-append_seam c.args.pending.now.members.items so_far.found in
    so_far.left ∙ members-over p (put_all so_far.found no_members) so_far.turns l.reader r so_far.enough (grind arith)
    ∙ ap (λ ms. Some (ms, r)) (sym (c.in_ok-members_in_key_order.ensures ∙ ap (λ found. put_all found no_members) behind))
