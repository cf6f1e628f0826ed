-- What holds of each instance that is executed.
use Rattle.std.proofs.Common.{◌≡◌, sym, ap, ◌∙◌, subst, ℕ, suc, ◌+◌, ◌≤◌, List, [], ◌∷◌, ◌++◌, map, length, Bool, true, false}
use Rattle.std.specs.Prelude.{if◌then◌else◌, flat_map}
use Rattle.std.specs.List.{AllByRecursion}
use Rattle.std.proofs.Math.IntN.{ℤ}
use Rattle.std.proofs.lemmas.List.{length-append}
use Rattle.base_laws.proofs.Lists.{All-append}
use Rattle.execution_laws.proofs.Domains.{row_runs-within, statements-rise, way-below}
use Rattle.execution_laws.proofs.Members.{Member}
use Rattle.execution_laws.proofs.Ordered.{All-from, All-member}
use Rattle.execution_laws.proofs.Ways.{within-length, there-holds}
use Rattle.affine_form.specs.Form.{IsSmall}
use Rattle.affine_program.specs.Domain.{bounds_at, depth_of}
use Rattle.iolb_model.specs.Domain.{LeadAlong}
use Rattle.iolb_model.specs.Form.{form_value, are_met}
use Rattle.iolb_model.specs.Path.{row_path}
use Rattle.iolb_model.specs.Program.{Item, assign, loop, guard, Row, done, next, AffineProgram, IsWellFormed}
use Rattle.iolb_model.specs.Execution.{Instance, loop_values, at_value, item_runs, row_runs, execution}
use Rattle.loop_graph.specs.Turns.{item_turns, row_turns, turns}
use Rattle.loop_graph.specs.Runs.{with_point, run_of, IsRun}
use Rattle.loop_graph.specs.declared.listed.Run.{Run}
use Rattle.loop_graph.proofs.Walks.{All-both, turns_at, runs_at}
use Rattle.iolb_model.specs.declared.limits.TheConstants.{VALUE_SIZE}

-- ---- what holds of all turns holds of the loop values of each instance

abbrev HasAll : (ℤ → Type 0) → Instance → Type 0
HasAll P instance = AllByRecursion P instance.values

longer : (P : ℤ → Type 0) (value : ℤ) (runs : List Instance) → P value → AllByRecursion (HasAll P) runs → AllByRecursion (HasAll P) (map (at_value value) runs)
longer P value [] p h = tt
longer P value (run ∷ runs) p h = ((p, h.0), longer P value runs p h.1)

body_values : (P : ℤ → Type 0) (body : Row) (point : List ℤ) → ((value : ℤ) → AllByRecursion P (row_turns body (point ++ value ∷ [])) → AllByRecursion (HasAll P) (row_runs body (point ++ value ∷ [])))
    → (values : List ℤ) → AllByRecursion P (flat_map (turns_at body point) values) → AllByRecursion (HasAll P) (flat_map (runs_at body point) values)
body_values P body point inner [] h = tt
body_values P body point inner (value ∷ values) h =
    let both = All-both P (turns_at body point value) (flat_map (turns_at body point) values) h in
    All-append (HasAll P) (runs_at body point value) (flat_map (runs_at body point) values)
    (longer P value (row_runs body (point ++ value ∷ [])) both.0.0 (inner value both.0.1)) (body_values P body point inner values both.1)

mutual
  item_values : (P : ℤ → Type 0) (item : Item) (point : List ℤ) → AllByRecursion P (item_turns item point) → AllByRecursion (HasAll P) (item_runs item point)
  item_values P (assign statement) point h = (tt, tt)
  item_values P (loop name direction lower upper body) point h =
      body_values P body point (λ value turns. row_values P body (point ++ value ∷ []) turns) (loop_values direction (form_value lower point) (form_value upper point)) h
  item_values P (guard rows body) point h = tested (are_met rows point) (λ turns. row_values P body point turns) h where
    tested : (b : Bool) → (AllByRecursion P (row_turns body point) → AllByRecursion (HasAll P) (row_runs body point))
        → AllByRecursion P (if b then row_turns body point else []) → AllByRecursion (HasAll P) (if b then row_runs body point else [])
    tested true inner turns = inner turns
    tested false inner turns = tt

  pub row_values : (P : ℤ → Type 0) (row : Row) (point : List ℤ) → AllByRecursion P (row_turns row point) → AllByRecursion (HasAll P) (row_runs row point)
  row_values P done point h = tt
  row_values P (next item row) point h =
      let both = All-both P (item_turns item point) (row_turns row point) h in
      All-append (HasAll P) (item_runs item point) (row_runs row point) (item_values P item point both.0) (row_values P row point both.1)

-- ---- an instance has a value for each loop around its statement

-- an instance of the program, where its loop values are of size below 2^40
pub record IsInstance (program : AffineProgram) (instance : Instance) : Type 0 where
  pub there : suc instance.statement ≤ length program.statements
  pub values : length instance.values ≡ depth_of program instance.statement
  pub small : HasAll (IsSmall VALUE_SIZE) instance

pub instances : (program : AffineProgram) (parameters : List ℤ) → IsWellFormed program → AllByRecursion (IsSmall VALUE_SIZE) (turns program parameters) → AllByRecursion (IsInstance program) (execution program parameters)
instances program parameters well small = All-from (IsInstance program) (execution program parameters) (λ instance m. one instance m) where
  one : (instance : Instance) → Member instance (execution program parameters) → IsInstance program instance
  one instance m =
      let within = row_runs-within program.tree parameters instance.statement instance.values (statements-rise program well) m in record {
        there = way-below program instance.statement (λ path. LeadAlong path parameters instance.values) well within;
        values = within-length (bounds_at program instance.statement) parameters instance.values
            (there-holds (row_path program.tree instance.statement) (λ path. LeadAlong path parameters instance.values) within).0;
        small = All-member (HasAll (IsSmall VALUE_SIZE)) (execution program parameters) instance (row_values (IsSmall VALUE_SIZE) program.tree parameters small) m;
      }

pub runs-are : (program : AffineProgram) (parameters : List ℤ) (runs : List Run) (list : List Instance) → length parameters ≡ length program.parameters → AllByRecursion (IsSmall VALUE_SIZE) parameters
    → map run_of runs ≡ map (with_point parameters) list → AllByRecursion (IsInstance program) list → AllByRecursion (IsRun program) runs
runs-are program parameters [] list all small is h = tt
runs-are program parameters (run ∷ runs) [] all small is h = absurd cc
runs-are program parameters (run ∷ runs) (instance ∷ list) all small is h =
    let same : run_of run ≡ with_point parameters instance = cc in
    let statement : run.statement ≡ instance.statement = ap (λ (p : ℕ × List ℤ). p.0) same in
    let point : run.point.items ≡ parameters ++ instance.values = ap (λ (p : ℕ × List ℤ). p.1) same in
    let rest : map run_of runs ≡ map (with_point parameters) list = cc in (
      record {
        there = subst (λ n. suc n ≤ length program.statements) (sym statement) h.0.there;
        values = ap length point ∙ length-append parameters instance.values ∙ ap (λ n. n + length instance.values) all ∙ ap (λ n. length program.parameters + n) (h.0.values ∙ ap (depth_of program) (sym statement));
        small = subst (AllByRecursion (IsSmall VALUE_SIZE)) (sym point) (All-append (IsSmall VALUE_SIZE) parameters instance.values small h.0.small);
      },
      runs-are program parameters runs list all small rest h.1,
    )
