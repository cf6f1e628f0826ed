-- The labels that a family's walks keep: what is looked up, that it fits, and what is found in the claims of a label.
use Rattle.std.proofs.Common.{◌≡◌, sym, ◌∙◌, subst, ℕ, zero, suc, ◌+◌, ◌≤◌, List, [], ◌∷◌, ◌++◌, length, map, arith, lit<}
use Rattle.std.specs.Prelude.{Option, Some, slice_get, IsSomeAnd}
use Rattle.std.specs.List.{AllByRecursion}
use Rattle.std.proofs.Math.IntN.{pos}
use Rattle.std.proofs.lemmas.List.{length-append}
use Rattle.std.proofs.lemmas.Option.{get_or_from_slice_get, slice_get_within}
use Rattle.std.proofs.Math.Nat.{add-zero}
use Rattle.base_laws.proofs.Lists.{All-append, All-at, All-replicate, All-weaken}
use Rattle.iolb_model.specs.Form.{AffineForm}
use Rattle.iolb_model.specs.Program.{Array, AccessFits, AffineProgram, IsWellFormed, no_statement, statement_at}
use Rattle.claims.proofs.Members.{suc-moved}
use Rattle.affine_form.specs.Form.{variables, IsSmall, IsSmallForm}
use Rattle.affine_form.specs.Rows.{variables_from, IsSmallOver}
use Rattle.affine_form.specs.Substitution.{substitution}
use Rattle.affine_form.specs.System.{AllOver}
use Rattle.affine_form.proofs.RowLemmas.{length-variables, length-widened, small-substitution, small-wider, variables-over, variables-substitution}
use Rattle.affine_program.specs.Domain.{depth_of}
use Rattle.affine_program.specs.Parts.{ProgramParts, IsProgram, array_of, meaning}
use Rattle.dep_quast.specs.Context.{ReadOf, reference_of}
use Rattle.dep_quast.specs.Truth.{ReadFits}
use Rattle.dep_quast.proofs.Fits.{fits-at}
use Rattle.reuse_paths.specs.Families.{CreditedNest, label_at}
use Rattle.reuse_paths.specs.WalkFits.{AimFits, AreCellLabels, AreInstanceLabels, CreditFits, IsLabel, IsLabelIf, LabelsFit, ReaderFits}
use Rattle.reuse_paths.specs.WalkSettings.{KeptLabels, keeps, WalkSetting, forms_behind, region_variables, spot_variables}
use Rattle.reuse_paths.specs.WalkViews.{ReadingFits}
use Rattle.iolb_model.specs.declared.limits.TheConstants.{PUT_SIZE, SUBSCRIPTS}

module _ (program : AffineProgram) (size : ℕ) where
  -- the label of a statement's instances fits
  pub instance-label : (first s : ℕ) (labels : List (Option (List AffineForm))) (label : List AffineForm) → AreInstanceLabels program size first labels → label_at labels s ≡ Some label
      → IsLabel size (length program.parameters + depth_of program (first + s)) label
  instance-label first s [] label fit e = absurd cc
  instance-label first zero (here ∷ labels) label fit e =
      subst (λ (n : ℕ). IsLabel size (length program.parameters + depth_of program n) label) (sym (add-zero first)) (subst (IsLabelIf size (length program.parameters + depth_of program first)) e fit.0)
  instance-label first (suc s) (here ∷ labels) label fit e =
      subst (λ (n : ℕ). IsLabel size (length program.parameters + depth_of program n) label) (suc-moved first s) (instance-label (suc first) s labels label fit.1 e)

  -- and that of an array's cells, which have as many subscripts as it has
  pub cell-label : (number many : ℕ) (arrays : List Array) (labels : List (Option (List AffineForm))) (label : List AffineForm) → AreCellLabels program size arrays labels
      → label_at labels number ≡ Some label → IsSomeAnd (slice_get arrays number) (λ array. many ≡ array.rank) → IsLabel size (length program.parameters + many) label
  cell-label number many [] [] label fit e rank = absurd cc
  cell-label number many [] (here ∷ labels) label fit e rank = absurd fit
  cell-label number many (array ∷ arrays) [] label fit e rank = absurd fit
  cell-label zero many (array ∷ arrays) (here ∷ labels) label fit e rank =
      subst (λ (n : ℕ). IsLabel size (length program.parameters + n) label) (sym rank) (subst (IsLabelIf size (length program.parameters + array.rank)) e fit.0)
  cell-label (suc number) many (array ∷ arrays) (here ∷ labels) label fit e rank = cell-label number many arrays labels label fit.1 e rank

-- a reference that is read has as many subscripts as its array
pub read-rank : (program : AffineProgram) (reader : ReadOf) → IsWellFormed program → ReadFits program reader
    → IsSomeAnd (slice_get program.arrays (reference_of program reader).array) (λ array. length (reference_of program reader).subscripts ≡ array.rank)
read-rank program reader well fits =
    (All-at (AccessFits program (length program.parameters + depth_of program reader.statement)) (statement_at program reader.statement).reads reader.read no_statement.writes
    (fits-at program reader.statement well fits.statement).reads fits.read).rank

pub ranks-few : (ranked : List (List ℕ × ℕ)) (number many : ℕ) → AllByRecursion (λ (array : List ℕ × ℕ). array.1 ≤ SUBSCRIPTS) ranked
    → IsSomeAnd (slice_get (map array_of ranked) number) (λ (array : Array). many ≡ array.rank) → many ≤ SUBSCRIPTS
ranks-few [] number many few is = absurd is
ranks-few (array ∷ ranked) zero many few is = omega (arith, few.0, is)
ranks-few (array ∷ ranked) (suc number) many few is = ranks-few ranked number many few.1 is

-- which are few
pub read-few : (parts : ProgramParts) (reader : ReadOf) → IsProgram parts → ReadFits (meaning parts) reader → length (reference_of (meaning parts) reader).subscripts ≤ SUBSCRIPTS
read-few parts reader is fits =
    let cell = reference_of (meaning parts) reader in
    ranks-few parts.arrays cell.array (length cell.subscripts) is.limits.ranks (read-rank (meaning parts) reader is.well_formed fits)

-- a credit that is there fits
pub credit-fits : (program : AffineProgram) (credits : List CreditedNest) (number : ℕ) (credit : CreditedNest) → AllByRecursion (CreditFits program) credits
    → slice_get credits number ≡ Some credit → CreditFits program credit
credit-fits program credits number credit fit e =
    subst (CreditFits program) (get_or_from_slice_get credits number credit credit e) (All-at (CreditFits program) credits number credit fit (slice_get_within credits number credit e))

-- what is asked of walks that keep labels fits
module _ (walk : WalkSetting) (statement : ℕ) (kept : KeptLabels) (aim : walk.aim ≡ keeps kept) (fits : ReadingFits walk statement) where
  ends : AimFits walk (keeps kept)
  ends = subst (AimFits walk) aim fits.setting.ends.aim

  pub own-over : AllOver (region_variables walk statement) kept.reader × AllByRecursion (IsSmallForm PUT_SIZE) kept.reader
  own-over = subst (ReaderFits walk statement) aim fits.reader

  pub labels-fit : LabelsFit walk.program (length kept.reader) kept
  labels-fit = ends.1

  pub spot-flat : spot_variables walk ≡ length walk.program.parameters
  spot-flat = omega (arith, ends.0)

-- ---- labels with forms put in

module _ (walk : WalkSetting) (vars : ℕ) (values : List AffineForm) (few : spot_variables walk + length values ≤ 24) (over : AllByRecursion (IsSmallOver vars) values) where
  abbrev behind : List AffineForm
  behind = variables_from vars 0 (spot_variables walk) ++ values

  behind-many : length behind ≡ spot_variables walk + length values
  behind-many = omega (arith, length-append (variables_from vars 0 (spot_variables walk)) values, length-variables vars 0 (spot_variables walk))

  behind-over : AllByRecursion (IsSmallOver vars) behind
  behind-over = All-append (IsSmallOver vars) (variables_from vars 0 (spot_variables walk)) values (variables-over vars 0 (spot_variables walk)) over

  -- they are over all variables, and their numbers aren't large
  pub behind-within : (forms : List AffineForm) → AllByRecursion (IsSmallOver (spot_variables walk + length values)) forms
      → AllByRecursion (λ (form : AffineForm). variables form ≤ vars) (forms_behind walk vars values forms)
  behind-within [] h = tt
  behind-within (form ∷ forms) h =
      let put : variables (substitution form behind) ≤ vars = variables-substitution form behind vars (behind-many ∙ sym h.0.over) behind-over in
      (omega (arith, length-widened vars (substitution form behind) put), behind-within forms h.1)

  pub behind-small : (forms : List AffineForm) → AllByRecursion (IsSmallOver (spot_variables walk + length values)) forms → AllByRecursion (IsSmallForm PUT_SIZE) (forms_behind walk vars values forms)
  behind-small [] h = tt
  behind-small (form ∷ forms) h =
      let put : IsSmallForm PUT_SIZE (substitution form behind) =
      small-substitution form behind vars (omega (arith, few, behind-many)) (subst (λ (n : ℕ). IsSmallOver n form) (sym behind-many) h.0) behind-over in
      ((All-append (IsSmall PUT_SIZE) (substitution form behind).coefficients _ put.0 (All-replicate (IsSmall PUT_SIZE) _ (pos 0) (lit< tt)), put.1), behind-small forms h.1)

-- so are those of a reader's label
pub own-within : (vars : ℕ) (forms : List AffineForm) → AllOver vars forms → AllByRecursion (λ (form : AffineForm). variables form ≤ vars) forms
own-within vars forms h = All-weaken (λ (form : AffineForm). variables form ≡ vars) (λ (form : AffineForm). variables form ≤ vars) forms (λ form g. omega (arith, g)) h

-- a label of a certificate is a reader's
pub own-reads : (vars : ℕ) (forms : List AffineForm) → AllByRecursion (IsSmallOver vars) forms → AllOver vars forms × AllByRecursion (IsSmallForm PUT_SIZE) forms
own-reads vars forms h = (
  All-weaken (IsSmallOver vars) (λ (form : AffineForm). variables form ≡ vars) forms (λ form g. g.over) h,
  All-weaken (IsSmallOver vars) (IsSmallForm PUT_SIZE) forms (λ form g. small-wider form g.small) h,
)
