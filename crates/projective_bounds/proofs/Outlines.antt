-- The outline of a read's cold term: what it is made of, and that it fits.
use Rattle.std.proofs.Common.{◌≡◌, refl, sym, ◌∙◌, ap, subst, ℕ, ◌+◌, ◌<◌, ◌≤◌, List, length, map, get_or, arith, lit≤}
use Rattle.std.specs.List.{AllByRecursion, range_with_len}
use Rattle.std.proofs.lemmas.List.{length-append, length-map}
use Rattle.std.proofs.lemmas.List.FromFn.{length-range_with_len}
use Rattle.base_laws.proofs.Lists.{All-append, All-at, All-weaken}
use Rattle.iolb_model.specs.Form.{AffineForm}
use Rattle.iolb_model.specs.Program.{AffineProgram, no_statement, read_at, statement_at}
use Rattle.affine_form.specs.Form.{variables}
use Rattle.affine_form.specs.Rows.{BoundsFit, IsSmallOver, variables_from, widened, within_rows}
use Rattle.affine_form.specs.System.{AffineSystem, AllOver}
use Rattle.affine_form.proofs.Meaning.{length-within_rows}
use Rattle.affine_form.proofs.RowLemmas.{length-variables, variables-over, within_rows-over}
use Rattle.affine_program.specs.Domain.{depth_of}
use Rattle.affine_program.specs.Parts.{ProgramParts, IsProgram, meaning, statement_of}
use Rattle.cold_terms.specs.Outline.{ColdOutline, OutlineFits, bare}
use Rattle.dep_quast.specs.Truth.{ReadFits}
use Rattle.dep_quast.proofs.Fits.{depth-few}
use Rattle.claims.proofs.Rows.{widened-over}
use Rattle.projective.specs.Products.{AreAssumed, RunBelow}
use Rattle.projective.proofs.Runs.{run-assumed, run-many}
use Rattle.projective.specs.Projective.{AreDifferent, IsProjection, IsProjective}
use Rattle.projective.specs.SourceTrees.{read_number}
use Rattle.reuse_paths.proofs.FamilyLabels.{read-few}
use Rattle.wavefront.specs.Term.{nest_system}
use Rattle.projective_bounds.specs.Families.{loop_form, loops_label}
use Rattle.projective_bounds.specs.Whole.{identity_matrix}
use Rattle.projective_bounds.proofs.Held.{run-fits}
use Rattle.projective_bounds.specs.Loops.{AreLoopsOf, RunLoops, parameters_of}
use Rattle.projective_bounds.specs.Outline.{IsReadOutline, nest_below, read_values, value_among}
use Rattle.projective_bounds.proofs.Nests.{chosen-assumed, nest-many, nest-runs}
use Rattle.projective_bounds.proofs.LoopValues.{values-fit}

-- the outline for these loops, where all loops run below these parameters
abbrev pub read_outline : AffineProgram → ℕ → List ℕ → List ℕ → ColdOutline
read_outline program read loops below =
    let nest = nest_below (length program.parameters) (parameters_of below loops) in record {
      reader = read_number read;
      nest = nest;
      point = read_values program (length program.parameters + length nest) loops;
      matrix = identity_matrix (length nest);
      scale = 1;
    }

pub outline-is : (program : AffineProgram) (read : ℕ) (outline : ColdOutline) (h : IsReadOutline program read outline) → outline ≡ read_outline program read h.loops h.below
outline-is program read outline h =
    λ i. record {
      reader = h.reader i;
      nest = h.nest i;
      point = (h.point ∙ ap (λ (nest : List (AffineForm × AffineForm)). read_values program (length program.parameters + length nest) h.loops) h.nest) i;
      matrix = (h.matrix ∙ ap (λ (nest : List (AffineForm × AffineForm)). identity_matrix (length nest)) h.nest) i;
      scale = h.scale i;
    }

-- A read of a projective program, the loops that its subscripts are, and the parameters below which loops run.
pub record ColdRead : Type 0 where
  pub parts : ProgramParts
  pub is : IsProgram parts
  pub projective : IsProjective (meaning parts)
  pub read : ℕ
  pub fits : ReadFits (meaning parts) (read_number read)
  pub loops : List ℕ
  pub are : AreLoopsOf (meaning parts) read loops
  pub below : List ℕ
  pub run : RunLoops (meaning parts) below

module _ (r : ColdRead) where
  abbrev pub program : AffineProgram
  program = meaning r.parts

  abbrev pub p : ℕ
  p = length program.parameters

  abbrev pub d : ℕ
  d = depth_of program 0

  abbrev pub ps : List ℕ
  ps = parameters_of r.below r.loops

  abbrev pub nest : List (AffineForm × AffineForm)
  nest = nest_below p ps

  abbrev pub vars : ℕ
  vars = p + length nest

  abbrev pub values : List AffineForm
  values = read_values program vars r.loops

  abbrev pub outline : ColdOutline
  outline = read_outline program r.read r.loops r.below

  pub some : 0 < length r.parts.statements
  some = omega (arith, length-map r.parts.statements statement_of, r.projective.one)

  pub deep : d ≤ 6
  deep = depth-few r.parts r.is 0 some

  -- ---- the loops that stand in the reference

  abbrev subscripts : List AffineForm
  subscripts = (read_at program 0 r.read).subscripts

  projection : IsProjection p d (read_at program 0 r.read)
  projection = All-at (IsProjection p d) (statement_at program 0).reads r.read no_statement.writes r.projective.projects.projections r.fits.read

  pub different : AreDifferent (loops_label program r.loops)
  different = subst AreDifferent r.are.subscripts projection.different

  pub as-many : length subscripts ≡ length r.loops
  as-many = ap length r.are.subscripts ∙ length-map r.loops (loop_form program)

  pub loops-few : length r.loops ≤ 4
  loops-few = omega (arith, as-many, read-few r.parts (read_number r.read) r.is r.fits)

  -- ---- the nest

  pub size : length nest ≡ length r.loops
  size = nest-many p ps ∙ length-map r.loops (λ level. get_or r.below level 0)

  pub below-many : length r.below ≡ d
  below-many = run-many program p r.run.nest r.below r.run.run ∙ ap length r.run.around

  pub assumed : AreAssumed program ps
  assumed =
      chosen-assumed program r.below r.loops (run-assumed program p r.run.nest r.below r.run.run)
      (All-weaken (λ (level : ℕ). level < d) (λ (level : ℕ). level < length r.below) r.loops (λ level h. omega (arith, h, below-many)) r.are.there)

  pub runs : RunBelow program p nest ps
  runs = nest-runs program p ps assumed

  -- ---- its rows

  abbrev pub system : AffineSystem
  system = nest_system program (bare outline)

  abbrev wide : List AffineForm
  wide = map (widened vars) program.assumptions

  abbrev inner : List AffineForm
  inner = within_rows vars nest (variables_from vars 0 p) (variables_from vars p (length nest))

  pub rows-over : AllOver vars system.rows
  rows-over =
      All-append (λ row. variables row ≡ vars) wide inner (widened-over p vars program.assumptions (omega arith) r.is.well_formed.assumptions)
      (within_rows-over vars nest (variables_from vars 0 p) (variables_from vars p (length nest)) (subst (λ (n : ℕ). BoundsFit n nest) (sym (length-variables vars 0 p)) (run-fits program p nest ps runs))
      (variables-over vars 0 p) (variables-over vars p (length nest)))

  pub rows-few : length system.rows ≤ 44
  rows-few =
      omega (
        arith,
        length-append wide inner,
        length-map program.assumptions (widened vars),
        r.is.limits.assumptions,
        length-within_rows vars nest (variables_from vars 0 p) (variables_from vars p (length nest)) (length-variables vars p (length nest)),
        size,
        loops-few,
      )

  -- ---- the values

  pub values-many : length values ≡ d
  values-many = length-map (range_with_len 0 d) (value_among vars p r.loops) ∙ length-range_with_len 0 d

  pub values-small : AllByRecursion (IsSmallOver vars) values
  values-small = values-fit vars p r.loops (range_with_len 0 d)

  -- ---- it fits

  pub outline-fits : OutlineFits program outline
  outline-fits = record {
    read = r.fits;
    few = omega (arith, size, loops-few);
    bounds = run-fits program p nest ps runs;
    point = values-many;
    forms = values-small;
    rows = refl;
    columns = λ one. size ∙ sym as-many;
    some_scale = lit≤ tt;
    scale = lit≤ tt;
  }
