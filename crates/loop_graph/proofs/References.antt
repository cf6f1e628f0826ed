-- The references of a run's statement are over the values of its point.
use Rattle.std.proofs.Common.{◌≡◌, sym, ◌∙◌, ap, subst, ℕ, zero, suc, ◌<◌, ◌≤◌, List, [], ◌∷◌, length, map, get_or, arith}
use Rattle.std.specs.List.{AllByRecursion}
use Rattle.std.proofs.lemmas.List.{length-map, get_or-map}
use Rattle.std.proofs.lemmas.Simd.{map-map}
use Rattle.std.specs.Prelude.{IsSomeAnd, slice_get}
use Rattle.iolb_model.specs.Source.{cell_of}
use Rattle.execution_laws.proofs.Domains.{way-there}
use Rattle.execution_laws.proofs.Ways.{there-holds}
use Rattle.iolb_model.specs.Path.{row_path}
use Rattle.iolb_model.specs.Program.{Access, AccessFits, Statement as ModelStatement, StatementFits, statement_at, no_statement}
use Rattle.iolb_model.specs.declared.limits.TheConstants.{READS, SUBSCRIPTS}
use Rattle.affine_program.specs.declared.reference.Reference.{Reference}
use Rattle.affine_program.specs.declared.statement.Statement.{Statement}
use Rattle.affine_program.specs.Parts.{ProgramParts, IsProgram, access_of, array_of, statement_of, meaning}
use Rattle.affine_program.specs.Tree.{row_of}
use Rattle.affine_program.proofs.Bounds.{StandsAt, row-stands, limits-at}
use Rattle.loop_graph.specs.declared.listed.Run.{Run}
use Rattle.loop_graph.specs.Runs.{IsRun, run_of}
use Rattle.loop_graph.specs.Cells.{Fits, cells_read}

-- a reference of a program has few subscripts
few-subscripts : (parts : ProgramParts) (variables : ℕ) (reference : Reference) → IsProgram parts → AccessFits (meaning parts) variables (access_of reference) → length reference.subs.items ≤ SUBSCRIPTS
few-subscripts parts variables reference is fits = by parts.arrays reference.array is.limits.ranks fits.rank where
  by : (arrays : List (List ℕ × ℕ)) (k : ℕ) → AllByRecursion (λ (array : List ℕ × ℕ). array.1 ≤ SUBSCRIPTS) arrays
      → IsSomeAnd (slice_get (map array_of arrays) k) (λ array. length reference.subs.items ≡ array.rank) → length reference.subs.items ≤ SUBSCRIPTS
  by [] k h at = absurd at
  by (array ∷ arrays) zero h at = omega (arith, h.0, at)
  by (array ∷ arrays) (suc k) h at = by arrays k h.1 at

fits-one : (parts : ProgramParts) (variables : ℕ) (reference : Reference) → IsProgram parts → AccessFits (meaning parts) variables (access_of reference) → Fits variables reference
fits-one parts variables reference is fits = record { over = fits.subscripts; few = few-subscripts parts variables reference is fits }

fits-all : (parts : ProgramParts) (variables : ℕ) (references : List Reference) → IsProgram parts → AllByRecursion (AccessFits (meaning parts) variables) (map access_of references) → AllByRecursion (Fits variables) references
fits-all parts variables [] is h = tt
fits-all parts variables (reference ∷ references) is h = (fits-one parts variables reference is h.0, fits-all parts variables references is h.1)

-- a run's statement is there
pub there : (parts : ProgramParts) (table : List Statement) (run : Run) → table ≡ parts.statements → IsRun (meaning parts) run → run.statement < length table
there parts table run same runs = omega (arith, runs.there, length-map parts.statements statement_of, ap length same)

-- and was read from the program's table
module _ (parts : ProgramParts) (run : Run) (at : Statement) (is : IsProgram parts) (runs : IsRun (meaning parts) run) (read : at ≡ get_or parts.statements run.statement at) where
  below : run.statement < length parts.statements
  below = omega (arith, runs.there, length-map parts.statements statement_of)

  -- is the one that the definitions have there
  pub statement-is : statement_at (meaning parts) run.statement ≡ statement_of at
  statement-is = get_or-map statement_of parts.statements run.statement at no_statement below ∙ ap statement_of (sym read)

  fits : StatementFits (meaning parts) (length run.point.items) run.statement
  fits =
      subst (λ (n : ℕ). StatementFits (meaning parts) n run.statement) (sym runs.values)
      (there-holds (row_path (row_of parts.tree) run.statement) (StandsAt (meaning parts) (length parts.params) run.statement)
      (row-stands (meaning parts) (length parts.params) (row_of parts.tree) run.statement is.well_formed.tree
      (way-there (meaning parts) run.statement is.well_formed runs.there))).1

  pub written-fits : Fits (length run.point.items) at.writes
  written-fits =
      fits-one parts (length run.point.items) at.writes is
      (subst (λ (s : ModelStatement). AccessFits (meaning parts) (length run.point.items) s.writes) statement-is fits.writes)

  pub read-fit : AllByRecursion (Fits (length run.point.items)) at.reads.items
  read-fit =
      fits-all parts (length run.point.items) at.reads.items is
      (subst (λ (s : ModelStatement). AllByRecursion (AccessFits (meaning parts) (length run.point.items)) s.reads) statement-is fits.reads)

  pub read-few : length at.reads.items ≤ READS
  read-few = (limits-at parts run.statement at is below read).reads

  -- the cells that the run reads
  pub read-cells : map (λ reference. cell_of (access_of reference) run.point.items) at.reads.items ≡ cells_read (meaning parts) (run_of run)
  read-cells =
      sym (map-map (λ (access : Access). cell_of access run.point.items) access_of at.reads.items)
      ∙ sym (ap (λ (s : ModelStatement). map (λ (access : Access). cell_of access run.point.items) s.reads) statement-is)
