-- What is gathered on a way that begins with a step.
use Rattle.std.proofs.Common.{◌≡◌, refl, List, ◌∷◌, ◌++◌}
use Rattle.std.specs.Prelude.{Option, Some, None, option_map}
use Rattle.iolb_model.specs.Form.{AffineForm}
use Rattle.iolb_model.specs.Path.{PathStep, bounded, guarded, first_of}
use Rattle.affine_c.specs.Built.{gathered}

-- the bounds of loops and the rows of guards
abbrev pub Gathered : Type 0
Gathered = List (AffineForm × AffineForm) × List AffineForm

-- with one loop more, and with one guard more
abbrev pub in_loop : AffineForm → AffineForm → Gathered → Gathered
in_loop lower upper found = ((lower, upper) ∷ found.0, found.1)

abbrev pub in_guard : List AffineForm → Gathered → Gathered
in_guard rows found = (found.0, rows ++ found.1)

pub through_loop : (lower upper : AffineForm) (way : Option (List PathStep)) → option_map gathered (option_map (λ path. bounded lower upper ∷ path) way) ≡ option_map (in_loop lower upper) (option_map gathered way)
through_loop lower upper None = refl
through_loop lower upper (Some path) = refl

pub through_guard : (rows : List AffineForm) (way : Option (List PathStep)) → option_map gathered (option_map (λ path. guarded rows ∷ path) way) ≡ option_map (in_guard rows) (option_map gathered way)
through_guard rows None = refl
through_guard rows (Some path) = refl

-- where nothing was gathered there is no way
pub no_way : (way : Option (List PathStep)) → None ≡ option_map gathered way → way ≡ None
no_way None e = refl
no_way (Some path) e = absurd cc

-- the first way that there is
pub first_way : (found : Gathered) (first second : Option (List PathStep)) → Some found ≡ option_map gathered first → Some found ≡ option_map gathered (first_of first second)
first_way found None second e = absurd cc
first_way found (Some path) second e = e
