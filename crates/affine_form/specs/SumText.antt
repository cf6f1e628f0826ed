-- The text of a sum that is printed term by term.
use Rattle.std.specs.Prelude.{ℕ, ℤ, List, [], ◌++◌, Bool, if◌then◌else◌, codes}
use Rattle.iolb_model.specs.Printed.{is_below_zero, terms_text, later_terms_text, nonzero}

-- what is printed so far, and whether a term is
pub record SumText : Type 0 where
  pub text : List ℕ
  pub started : Bool

-- the whole text, if these terms follow; those of coefficient 0 are left out
abbrev pub followed_by : SumText → List (ℤ × List ℕ) → List ℕ
followed_by sum terms = sum.text ++ (if sum.started then later_terms_text (nonzero terms) else terms_text (nonzero terms))

-- what stands before a term's size
abbrev pub sign_text : Bool → ℤ → List ℕ
sign_text started coefficient =
    if started then (if is_below_zero coefficient then codes " - " else codes " + ")
    else (if is_below_zero coefficient then codes "-" else [])
