-- Loops around a statement that run from 0 to below parameters, of which some are named: the nest of these, and its rows.
use Rattle.std.proofs.Common.{◌≡◌, ◌≢◌, refl, sym, ◌∙◌, ap, subst, ℕ, zero, suc, ◌+◌, ◌<◌, ◌≤◌, Bool, List, [], ◌∷◌, length, map, get_or, arith}
use Rattle.std.specs.Prelude.{if◌then◌else◌}
use Rattle.std.specs.List.{AllByRecursion, range_with_len}
use Rattle.std.proofs.lemmas.Bool.{eq-eqb}
use Rattle.std.proofs.lemmas.List.{length-append, length-map}
use Rattle.std.proofs.lemmas.List.FromFn.{length-range_with_len}
use Rattle.base_laws.proofs.Lists.{All-append, All-at, All-weaken}
use Rattle.iolb_model.specs.Form.{AffineForm}
use Rattle.iolb_model.specs.Program.{AffineProgram}
use Rattle.affine_form.specs.Form.{variables}
use Rattle.affine_form.specs.Rows.{BoundsFit, IsSmallOver, variable, variables_from, widened, within_rows}
use Rattle.affine_form.specs.System.{AffineSystem, AllOver}
use Rattle.affine_form.proofs.Meaning.{length-within_rows}
use Rattle.affine_form.proofs.RowLemmas.{length-variables, variables-over, within_rows-over}
use Rattle.affine_program.specs.Domain.{depth_of}
use Rattle.claims.proofs.Rows.{widened-over}
use Rattle.domain_count.specs.Count.{rows_before}
use Rattle.find_terms.specs.Openings.{AreRising}
use Rattle.projective.specs.Products.{AreAssumed, RunBelow}
use Rattle.projective.proofs.Runs.{run-assumed, run-many}
use Rattle.projective_bounds.specs.Loops.{parameters_of}
use Rattle.projective_bounds.specs.Outline.{nest_below, value_among}
use Rattle.projective_bounds.proofs.Held.{run-fits}
use Rattle.projective_bounds.proofs.LoopValues.{values-fit}
use Rattle.projective_bounds.proofs.Nests.{chosen-assumed, nest-many, nest-runs}
use Rattle.projective_bounds.proofs.Unequal.{differs}
use Rattle.find_terms.specs.InputReads.{LoopsRunBelow}
use Rattle.iolb_model.specs.declared.limits.TheConstants.{ASSUMPTIONS, LOOPS, PARAMETERS}

-- What is asked of a program's sizes at a statement: its parameters, assumptions and loops are within the limits of programs.
pub record HasRoom (program : AffineProgram) (statement : ℕ) : Type 0 where
  pub parameters : length program.parameters ≤ PARAMETERS
  pub assumptions : length program.assumptions ≤ ASSUMPTIONS
  pub assumed : AllByRecursion (IsSmallOver (length program.parameters)) program.assumptions
  pub depth : depth_of program statement ≤ LOOPS

-- The loops that are named, outermost first, and the parameters below which all loops run.
pub record NamedLoops : Type 0 where
  pub program : AffineProgram
  pub statement : ℕ
  pub below : List ℕ
  pub run : LoopsRunBelow program statement below
  pub room : HasRoom program statement
  pub loops : List ℕ
  pub rising : AreRising loops
  pub there : AllByRecursion (λ (loop : ℕ). loop < depth_of program statement) loops
  pub few : length loops ≤ depth_of program statement

-- a loop at a place among some that rise has the variable of that place
pub rising-value : (vars place : ℕ) (loops : List ℕ) (k : ℕ) → AreRising loops → k < length loops → value_among vars place loops (get_or loops k 0) ≡ variable vars (place + k)
rising-value vars place [] k rising below = absurd (omega arith)
rising-value vars place (l ∷ loops) zero rising below =
    ap (λ (b : Bool). if b then variable vars place else value_among vars (suc place) loops l) (eq-eqb l l refl) ∙ ap (variable vars) (none place) where
      none : (n : ℕ) → n ≡ n + 0
      none n = omega arith
rising-value vars place (l ∷ loops) (suc k) rising below =
    ap (λ (b : Bool). if b then variable vars place else value_among vars (suc place) loops (get_or loops k 0)) (differs l (get_or loops k 0) other)
    ∙ rising-value vars (suc place) loops k rising.1 (omega arith) ∙ ap (variable vars) (moved place k) where
      other : l ≢ get_or loops k 0
      other e = let after = All-at (λ (later : ℕ). l < later) loops k 0 rising.0 (omega arith) in omega (arith, after, e)

      moved : (m n : ℕ) → suc m + n ≡ m + suc n
      moved m n = omega arith

module _ (r : NamedLoops) where
  abbrev pub p : ℕ
  p = length r.program.parameters

  abbrev pub d : ℕ
  d = depth_of r.program r.statement

  abbrev pub way : List (AffineForm × AffineForm)
  way = r.run.bounds

  abbrev pub ps : List ℕ
  ps = parameters_of r.below r.loops

  abbrev pub nest : List (AffineForm × AffineForm)
  nest = nest_below p ps

  abbrev pub vars : ℕ
  vars = p + length nest

  abbrev pub values : List AffineForm
  values = map (value_among vars p r.loops) (range_with_len 0 d)

  -- ---- the nest

  pub ps-many : length ps ≡ length r.loops
  ps-many = length-map r.loops (λ level. get_or r.below level 0)

  pub size : length nest ≡ length r.loops
  size = nest-many p ps ∙ ps-many

  pub way-many : length r.run.bounds ≡ d
  way-many = ap length r.run.around

  pub below-many : length r.below ≡ d
  below-many = run-many r.program p r.run.bounds r.below r.run.run ∙ way-many

  pub assumed : AreAssumed r.program ps
  assumed =
      chosen-assumed r.program r.below r.loops (run-assumed r.program p r.run.bounds r.below r.run.run)
      (All-weaken (λ (level : ℕ). level < d) (λ (level : ℕ). level < length r.below) r.loops (λ level h. omega (arith, h, below-many)) r.there)

  pub runs : RunBelow r.program p nest ps
  runs = nest-runs r.program p ps assumed

  pub bounds-fit : BoundsFit p nest
  bounds-fit = run-fits r.program p nest ps runs

  -- ---- its rows

  abbrev pub system : AffineSystem
  system = rows_before r.program nest

  abbrev wide : List AffineForm
  wide = map (widened vars) r.program.assumptions

  abbrev inner : List AffineForm
  inner = within_rows vars nest (variables_from vars 0 p) (variables_from vars p (length nest))

  pub rows-over : AllOver vars system.rows
  rows-over =
      All-append (λ row. variables row ≡ vars) wide inner
      (widened-over p vars r.program.assumptions (omega arith) (All-weaken (IsSmallOver p) (λ (row : AffineForm). variables row ≡ p) r.program.assumptions (λ row h. h.over) r.room.assumed))
      (within_rows-over vars nest (variables_from vars 0 p) (variables_from vars p (length nest)) (subst (λ (n : ℕ). BoundsFit n nest) (sym (length-variables vars 0 p)) bounds-fit)
      (variables-over vars 0 p) (variables-over vars p (length nest)))

  pub rows-few : length system.rows ≤ 44
  rows-few =
      omega (
        arith,
        length-append wide inner,
        length-map r.program.assumptions (widened vars),
        r.room.assumptions,
        length-within_rows vars nest (variables_from vars 0 p) (variables_from vars p (length nest)) (length-variables vars p (length nest)),
        size,
        r.few,
        r.room.depth,
      )

  -- ---- the values

  pub values-many : length values ≡ d
  values-many = length-map (range_with_len 0 d) (value_among vars p r.loops) ∙ length-range_with_len 0 d

  pub values-small : AllByRecursion (IsSmallOver vars) values
  values-small = values-fit vars p r.loops (range_with_len 0 d)

  -- the rows of the domain are over the nest's variables
  pub goals-over : AllOver vars (within_rows vars way (variables_from vars 0 p) values)
  goals-over =
      within_rows-over vars r.run.bounds (variables_from vars 0 p) values
      (subst (λ (n : ℕ). BoundsFit n r.run.bounds) (sym (length-variables vars 0 p)) (run-fits r.program p r.run.bounds r.below r.run.run)) (variables-over vars 0 p) values-small
