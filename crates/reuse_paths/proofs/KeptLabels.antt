-- Labels of words: a label that is shown to be the reader's has its value, at the point of the reader.
use Rattle.std.proofs.Common.{◌≡◌, refl, subst, ℕ, zero, suc, ◌*◌, List, [], ◌∷◌, ◌++◌, length, arith}
use Rattle.std.specs.Prelude.{Option, Some, None, option_map}
use Rattle.std.proofs.Math.IntN.{ℤ}
use Rattle.iolb_model.specs.Form.{AffineForm}
use Rattle.iolb_model.specs.Program.{Array, AffineProgram}
use Rattle.claims.specs.Claims.{AllHold}
use Rattle.claims.specs.declared.place.Step.{Step}
use Rattle.claims.specs.declared.place.Step.TheVariants.{Key}
use Rattle.affine_form.specs.Multipliers.{FarkasMultipliers}
use Rattle.affine_form.specs.Substitution.{values_at}
use Rattle.affine_form.specs.System.{AffineSystem, IsMet}
use Rattle.affine_form.specs.Rows.{equality_rows}
use Rattle.affine_form.proofs.Meaning.{equality_rows-say}
use Rattle.claims.proofs.Systems.{goals-met}
use Rattle.dep_quast.proofs.Fits.{equality_rows-few}
use Rattle.reuse_paths.specs.EntryClaims.{label_claims}
use Rattle.reuse_paths.specs.Families.{label_at}
use Rattle.reuse_paths.specs.WalkFits.{AreInstanceLabels, AreCellLabels}

-- a label in a list has as many forms as all of them
pub instance-label-many : (program : AffineProgram) (size first s : ℕ) (labels : List (Option (List AffineForm))) (label : List AffineForm)
    → AreInstanceLabels program size first labels → label_at labels s ≡ Some label → length label ≡ size
instance-label-many program size first s [] label fits e = absurd cc
instance-label-many program size first zero (None ∷ labels) label fits e = absurd cc
instance-label-many program size first zero (Some l ∷ labels) label fits e = subst (λ (m : List AffineForm). length m ≡ size) (same l label e) fits.0.each where
  same : (l m : List AffineForm) → Some l ≡ Some m → l ≡ m
  same l m p = cc
instance-label-many program size first (suc s) (l ∷ labels) label fits e = instance-label-many program size (suc first) s labels label fits.1 e

pub cell-label-many : (program : AffineProgram) (size array : ℕ) (arrays : List Array) (labels : List (Option (List AffineForm))) (label : List AffineForm)
    → AreCellLabels program size arrays labels → label_at labels array ≡ Some label → length label ≡ size
cell-label-many program size array [] [] label fits e = absurd cc
cell-label-many program size array [] (l ∷ labels) label fits e = absurd fits
cell-label-many program size array (a ∷ arrays) [] label fits e = absurd fits
cell-label-many program size zero (a ∷ arrays) (None ∷ labels) label fits e = absurd cc
cell-label-many program size zero (a ∷ arrays) (Some l ∷ labels) label fits e = subst (λ (m : List AffineForm). length m ≡ size) (same l label e) fits.0.each where
  same : (l m : List AffineForm) → Some l ≡ Some m → l ≡ m
  same l m p = cc
cell-label-many program size (suc array) (a ∷ arrays) (l ∷ labels) label fits e = cell-label-many program size array arrays labels label fits.1 e

-- There is a label, by forms put in for the variables of one in a list, and it has the reader's value.
pub label-shown : (reader : List AffineForm) (put : List AffineForm → List AffineForm) (found : Option (List AffineForm)) (place : List Step) (key : List ℕ) (system : AffineSystem) (shown : List FarkasMultipliers) (point : List ℤ)
    → ((label : List AffineForm) → found ≡ Some label → length (put label) ≡ length reader) → length shown ≡ 2 * length reader
    → AllHold (label_claims reader place key system (option_map put found) shown) → IsMet system.rows point
    → (label : List AffineForm) × ((found ≡ Some label) × (values_at (put label) point ≡ values_at reader point))
label-shown reader put None place key system shown point many enough h met = absurd h.0
label-shown reader put (Some label) place key system shown point many enough h met =
    let goals : List AffineForm = equality_rows system.vars (put label) reader in (
      label,
      (
        refl,
        equality_rows-say system.vars (put label) reader point (many label refl)
            (goals-met 14 (place ++ Key key ∷ []) system 0 goals shown point (omega (arith, enough, equality_rows-few system.vars (put label) reader)) h met),
      ),
    )
