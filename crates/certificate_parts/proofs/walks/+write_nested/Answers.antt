use Rattle.std.proofs.Common.{◌≡◌, ◌-◌, ℕ, Ok, sym, subst}
use Rattle.certificate_fit.specs.Limits.{IsNestedWalk}
use Rattle.reuse_paths.specs.declared.walk.Walk.{Walk}
use Rattle.reuse_paths.specs.Walks.{tree_of_walk}
use Rattle.certificate_parts.specs.Nested.{reads_nested}
use Rattle.certificate_parts.specs.Walks.{walks_branch, walk_data}
use Rattle.certificate_parts.proofs.NestedTrees.{test_read}
use Rattle.certificate_parts.proofs.ReadTrees.{walk_test_some, leaves_fit, take_read}
use Rattle.certificate_parts.proofs.walks.+write_nested.Goals as goal

abbrev IsRead : ℕ → Walk → Type 0
IsRead n walk = reads_nested walks_branch n (walk_data (tree_of_walk walk)) ≡ Ok (tree_of_walk walk)

pub returns-in_ok-value-in-Test-clause-read : goal.returns-in_ok-value-in-Test-clause-read
returns-in_ok-value-in-Test-clause-read t c =
    let n = c.args.left in
    let small = subst (λ (walk : Walk). IsNestedWalk n (tree_of_walk walk)) c.in-Test.is c.requires in
    subst (IsRead n) (sym c.in-Test.is)
    (test_read walks_branch n c.in-Test.form (tree_of_walk c.in-Test.yes.value) (tree_of_walk c.in-Test.no.value) (walk_data (tree_of_walk c.in-Test.no.value)) (walk_data (tree_of_walk c.in-Test.yes.value))
    (walk_test_some n c.in-Test.form (tree_of_walk c.in-Test.yes.value) (tree_of_walk c.in-Test.no.value) small) c.in_ok-value-in-Test.ensures.read
    (subst (IsRead (n - 1)) c.deref.ensures c.in_ok-below-in-Test.ensures.read) (subst (IsRead (n - 1)) c.deref-in-Test.ensures c.in_ok-above-in-Test.ensures.read))

pub write_object-requires-clause-fit : goal.write_object-requires-clause-fit
write_object-requires-clause-fit t c =
    let small = subst (λ (walk : Walk). IsNestedWalk c.args.left (tree_of_walk walk)) c.in-Take.is c.requires in
    rw c.put_part-all.ensures.value (leaves_fit c.in-Take.leaves.items small, (tt, tt))

pub returns-in_ok-value-in-Take-clause-read : goal.returns-in_ok-value-in-Take-clause-read
returns-in_ok-value-in-Take-clause-read t c = subst (IsRead c.args.left) (sym c.in-Take.is)
    (take_read c.args.left _ c.in-Take.read (rw (← c.put_part-all.ensures.value, ← c.put_part-rest.ensures.value, ← c.put_part-all.ensures.rest) c.in_ok-value-in-Take.ensures.read))
