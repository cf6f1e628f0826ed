-- What the check of a wavefront term's edge asks of its parts.
use Rattle.std.specs.Prelude.{◌≡◌, ℕ, ◌*◌, ⊤, List, [], ◌∷◌, length, Option, Some, None}
use Rattle.std.specs.List.{AllByRecursion}
use Rattle.iolb_model.specs.Form.{AffineForm}
use Rattle.affine_form.specs.Rows.{IsSmallOver}
use Rattle.affine_form.specs.System.{AllOver}
use Rattle.reuse_paths.specs.LeafClaims.{LeafClaim, no_point, stops, is_credited, goes_on, arrives}
use Rattle.dep_quast.specs.OpenLeaves.{LeafOrigin, written, as_input, unknown, OpenLeaf}
use Rattle.reuse_paths.specs.Walks.{SpotForms}

-- An instance's loop values, as forms over so many variables of the reader, can be compared with a spot's, as forms over so many
-- variables: there are as many, and two multipliers for each.
pub record IsComparable (vars reading : ℕ) (spot : SpotForms) (values : List AffineForm) (count : ℕ) : Type 0 where
  pub one_each : length values ≡ length spot.point
  pub enough : count ≡ 2 * length spot.point
  pub values_over : AllByRecursion (IsSmallOver reading) values
  pub point_over : AllByRecursion (IsSmallOver vars) spot.point

-- so can those of the instance that a leaf says, where the term says one of the same statement
abbrev pub EqualFits : ℕ → ℕ → Option SpotForms → LeafOrigin → ℕ → Type 0
EqualFits vars reading None origin count = ⊤
EqualFits vars reading (Some spot) (written statement values) count = statement ≡ spot.statement → IsComparable vars reading spot values count
EqualFits vars reading (Some spot) as_input count = ⊤
EqualFits vars reading (Some spot) unknown count = ⊤

abbrev pub EntryFits : ℕ → ℕ → Option SpotForms → LeafOrigin → LeafClaim → Type 0
EntryFits vars reading source origin (no_point shown) = ⊤
EntryFits vars reading source origin (stops label) = ⊤
EntryFits vars reading source origin (is_credited credit rows label) = ⊤
EntryFits vars reading source origin (goes_on rows label) = ⊤
EntryFits vars reading source origin (arrives equal) = EqualFits vars reading source origin (length equal)

-- leaves and entries, one for each, fit
abbrev pub AreFit : ℕ → ℕ → Option SpotForms → List OpenLeaf → List LeafClaim → Type 0
AreFit vars reading source [] [] = ⊤
AreFit vars reading source [] (entry ∷ entries) = ⊥
AreFit vars reading source (l ∷ leaves) [] = ⊥
AreFit vars reading source (l ∷ leaves) (entry ∷ entries) =
    (AllOver vars l.tests × EntryFits vars reading source l.origin entry) × AreFit vars reading source leaves entries
