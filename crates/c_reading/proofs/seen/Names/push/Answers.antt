use Rattle.std.proofs.Common.{◌≡◌, position, bytes_eq, true, false, is_some, length, arith, sym, ◌∙◌, subst}
use Rattle.c_reading.proofs.Numbered.{numbers_same, numbers_insert, from_ok, none_from_not_some}
use Rattle.std.specs.Prelude.{Some}
use Rattle.std.specs.BTreeMap.{UpdatesBy}
use Rattle.std.specs.Cmp.Lexicographic.{slice_cmp}
use Rattle.std.specs.Ordering.{nat_cmp}
use Rattle.c_reading.proofs.seen.Names.push.Goals as goal

pub invariant_of-self-then-seen : goal.invariant_of-self-then-seen
invariant_of-self-then-seen c = λ name.
    let there : is_some (position (bytes_eq c.args.name.now) c.self.inside.list.items) ≡ true = rw (c.self.view_is, ← c.number_of.ensures, ← c.is_some-seen.ensures) c.if-seen.true in
    rw (c.in_ok-push.ensures.items, c.new-owned.ensures, c.in_ok-from_slice.ensures.items) (c.self.invariant name ∙ sym (numbers_same c.self.inside.list.items c.args.name.now there name))

pub invariant_of-self-else-is_err : goal.invariant_of-self-else-is_err
invariant_of-self-else-is_err c = λ name.
    let missing : is_some (position (bytes_eq c.args.name.now) c.self.inside.list.items) ≡ false = rw (c.self.view_is, ← c.number_of.ensures, ← c.is_some-seen.ensures) c.if-seen.false in
    let at : c.len-at.result ≡ length c.self.inside.list.items = omega (arith, c.len-at.ensures, c.self.inside.list.ok.0) in
    let inserted = from_ok c.insert.result (sym c.is_err.ensures.value ∙ c.if-is_err.false) c.insert.ensures.updates in
    rw (c.in_ok-push.ensures.items, c.new-owned.ensures, c.in_ok-from_slice.ensures.items)
    (numbers_insert c.self.inside.numbers c.insert.new.self c.self.inside.list.items c.args.name.now c.self.invariant (none_from_not_some _ missing)
    (subst (λ n. UpdatesBy (λ x y. slice_cmp nat_cmp x.now y.now) (λ key. slice_cmp nat_cmp c.args.name.now key.now) c.self.inside.numbers c.insert.new.self (Some n)) at inserted) name)
