-- Forms at points: what they read of a point, and whether rows are met.
use Rattle.std.proofs.Common.{◌≡◌, refl, sym, ap, subst, ◌≤◌, true, false, Bool, List, [], ◌∷◌, ◌++◌, length, T, arith}
use Rattle.std.specs.Prelude.{int_le}
use Rattle.std.specs.Int.Signed.{le_z_yes}
use Rattle.std.specs.List.{AllByRecursion}
use Rattle.std.proofs.Math.IntN.{ℤ, pos, ◌+ℤ◌, ◌*ℤ◌}
use Rattle.std.proofs.lemmas.Bool.{and_from, and_parts}
use lib.Signed.{◌≤ℤ◌}
use Rattle.iolb_model.specs.Form.{AffineForm, dot, form_value, AreMet, are_met}
use Rattle.iolb_model.specs.Program.{IsOver}

-- a form over the first of a point's values has the same value further on
dot-front : (cs front rest : List ℤ) → length cs ≤ length front → dot cs (front ++ rest) ≡ dot cs front
dot-front [] front rest h = refl
dot-front (c ∷ cs) [] rest h = absurd (omega arith)
dot-front (c ∷ cs) (x ∷ front) rest h = ap (λ (z : ℤ). (c *ℤ x) +ℤ z) (dot-front cs front rest (omega arith))

pub form_value-front : (form : AffineForm) (front rest : List ℤ) → length form.coefficients ≤ length front → form_value form (front ++ rest) ≡ form_value form front
form_value-front form front rest h = ap (λ (z : ℤ). z +ℤ form.constant) (dot-front form.coefficients front rest h)

-- rows over the first of a point's values that are met there are met further on
pub met-onward : (rows : List AffineForm) (front rest : List ℤ) → AllByRecursion (IsOver (length front)) rows → AreMet rows front → AreMet rows (front ++ rest)
met-onward [] front rest over met = tt
met-onward (row ∷ rows) front rest over met =
    (subst (λ (z : ℤ). pos 0 ≤ℤ z) (sym (form_value-front row front rest (omega (arith, over.0)))) met.0, met-onward rows front rest over.1 met.1)

-- and those that are met further on are met there
pub met-back : (rows : List AffineForm) (front rest : List ℤ) → AllByRecursion (IsOver (length front)) rows → AreMet rows (front ++ rest) → AreMet rows front
met-back [] front rest over met = tt
met-back (row ∷ rows) front rest over met =
    (subst (λ (z : ℤ). pos 0 ≤ℤ z) (form_value-front row front rest (omega (arith, over.0))) met.0, met-back rows front rest over.1 met.1)

is_true : (b : Bool) → T b → b ≡ true
is_true true h = refl
is_true false h = absurd h

-- the test says whether rows are met
pub are_met-says : (rows : List AffineForm) (point : List ℤ) → are_met rows point ≡ true → AreMet rows point
are_met-says [] point e = tt
are_met-says (row ∷ rows) point e =
    let parts = and_parts (int_le (pos 0) (form_value row point)) (are_met rows point) e in (le_z_yes (subst T (sym parts.0) tt), are_met-says rows point parts.1)

pub are_met-from : (rows : List AffineForm) (point : List ℤ) → AreMet rows point → are_met rows point ≡ true
are_met-from [] point met = refl
are_met-from (row ∷ rows) point met =
    and_from (int_le (pos 0) (form_value row point)) (are_met rows point) (is_true (int_le (pos 0) (form_value row point)) met.0.le) (are_met-from rows point met.1)
