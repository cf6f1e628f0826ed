use Rattle.std.proofs.Common.{◌≡◌, ◌++◌, take}
use Rattle.claims.proofs.lists.followed_by.Given as goal

abbrev pub invariant-loop-form : goal.invariant-loop-form
invariant-loop-form l = l.all.items ≡ l.fn.forms.items ++ take l.form-index l.more
