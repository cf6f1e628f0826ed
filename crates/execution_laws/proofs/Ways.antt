-- Values on a way, and what holds of a way that is there.
use Rattle.std.proofs.Common.{◌≡◌, refl, ap, suc, List, [], ◌∷◌, ◌++◌, length}
use Rattle.std.specs.Prelude.{Option, Some, None, IsSomeAnd, unwrap_or}
use Rattle.std.proofs.Math.IntN.{ℤ}
use Rattle.iolb_model.specs.Form.{AffineForm}
use Rattle.iolb_model.specs.Path.{PathStep}
use Rattle.iolb_model.specs.Domain.{IsWithin}

-- values within the bounds of loops are one for each loop
pub within-length : (bounds : List (AffineForm × AffineForm)) (point values : List ℤ) → IsWithin bounds point values → length values ≡ length bounds
within-length [] point [] h = refl
within-length [] point (v ∷ values) h = absurd h
within-length (b ∷ bounds) point [] h = absurd h
within-length (b ∷ bounds) point (v ∷ values) h = ap suc (within-length bounds (point ++ v ∷ []) values h.2)

-- a way that is there, and what holds of it
pub there-holds : (o : Option (List PathStep)) (P : List PathStep → Type 0) → IsSomeAnd o P → P (unwrap_or o [])
there-holds None P h = absurd h
there-holds (Some path) P h = h

pub holds-there : (o : Option (List PathStep)) (P : List PathStep → Type 0) → IsSomeAnd o (λ path. Unit {0}) → P (unwrap_or o []) → IsSomeAnd o P
holds-there None P there h = absurd there
holds-there (Some path) P there h = h
