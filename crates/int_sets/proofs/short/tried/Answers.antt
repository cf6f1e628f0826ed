use Rattle.std.proofs.Common.{◌≡◌, ℕ, ◌+ℤ◌, sym, ◌∙◌, ap, subst, refl, ◌++◌, List}
use Rattle.affine_form.specs.Multipliers.{FarkasMultipliers, RowsRise}
use Rattle.affine_form.specs.Shown.{Shows}
use Rattle.int_sets.specs.ShortList.{IsShort}
use Rattle.int_sets.specs.Halves.{weights_of}
use Rattle.int_sets.proofs.Joined.{joins-constant, small-weights, halves-few, halves-taken, rising-different, same-rest}
use Rattle.int_sets.proofs.short.tried.Goals as goal

-- multipliers with another number and other rows that are the same
shown_is : (shown : FarkasMultipliers) (r rest : ℕ) (ws vs : List (ℕ × ℕ)) → shown ≡ record { scale = 1; rest = r; weights = ws } → rest ≡ r → ws ≡ vs
    → shown ≡ record { scale = 1; rest = rest; weights = vs }
shown_is shown r rest ws vs is same alike = is ∙ ap (λ (n : ℕ). record { scale = 1; rest = n; weights = ws }) (sym same) ∙ ap (λ (us : List (ℕ × ℕ)). record { scale = 1; rest = rest; weights = us }) alike

pub returns-in_default-clause-none : goal.returns-in_default-clause-none
returns-in_default-clause-none c = c.in_default.ensures.none

pub new-shown-requires-clause-small : goal.new-shown-requires-clause-small
new-shown-requires-clause-small c =
    small-weights c.in_ok-rows.rows.items (halves-taken c.args.system.now.rows c.args.first.now c.args.second.now c.in_ok-rows.rows.items c.requires.first c.requires.second c.in_ok-rows.ensures)

pub returns-then-not-entails-clause-none : goal.returns-then-not-entails-clause-none
returns-then-not-entails-clause-none c = λ rest joins.
    let same : rest ≡ c.in-Some.rest = same-rest c.args.goal.now.constant (c.args.first.now.constant +ℤ c.args.second.now.constant) rest c.in-Some.rest
    (joins-constant c.args.system.now c.args.goal.now c.args.first.now c.args.second.now rest c.requires.first c.requires.second joins) c.in-Some.ensures.some.1 in
    let shown : c.new-shown.result ≡ record { scale = 1; rest = rest; weights = weights_of c.args.first.now ++ weights_of c.args.second.now }
    = shown_is c.new-shown.result c.in-Some.rest rest c.in_ok-rows.rows.items (weights_of c.args.first.now ++ weights_of c.args.second.now) c.new-shown.ensures same c.in_ok-rows.ensures in
    let yes = c.if-not-entails.ensures.exact.1 (subst (Shows c.args.system.now c.args.goal.now) (sym shown) joins.shows) in
    absurd cc

pub returns-clause-some : goal.returns-clause-some
returns-clause-some c = (
  subst IsShort (sym c.new-shown.ensures) (record {
    scale = refl;
    rest = c.in-Some.ensures.some.0;
    few = halves-few c.args.system.now.rows c.args.first.now c.args.second.now c.in_ok-rows.rows.items c.requires.first c.requires.second c.in_ok-rows.ensures;
    taken = halves-taken c.args.system.now.rows c.args.first.now c.args.second.now c.in_ok-rows.rows.items c.requires.first c.requires.second c.in_ok-rows.ensures;
    different = rising-different c.in_ok-rows.rows.items (subst RowsRise c.as_slice.ensures.value (c.rises.ensures.0 c.if-not-rises.false));
  }),
  c.entails.ensures.exact.0 c.if-not-entails.false,
)
