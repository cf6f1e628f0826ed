-- Fingerprints of forms: values at one fixed point. (Freivalds 1977: what is equal has equal values; what differs mostly has not.)
use Rattle.std.specs.Prelude.{ℕ, ◌^◌, ℤ}
use Rattle.iolb_model.specs.Form.{AffineForm, dot}
use Rattle.int_sets.specs.declared.fingerprint.TheConstants.{POINT}

-- a form's value at the fixed point, without its constant
abbrev pub value_at_point : AffineForm → ℤ
value_at_point form = dot form.coefficients POINT

-- what the size of a legal form's value stays below
abbrev pub VALUE_LIMIT : ℕ
VALUE_LIMIT = 2 ^ 107
