use Rattle.std.proofs.Common.{◌≡◌, ◌+◌, ℕ, sym, ◌∙◌, ap, subst, length, map, arith}
use Rattle.std.specs.Prelude.{Some, option_map}
use Rattle.std.specs.List.{AllByRecursion}
use Rattle.std.proofs.lemmas.List.{length-map}
use Rattle.iolb_model.specs.Path.{row_path}
use Rattle.affine_form.specs.Form.{IsSmallForm}
use Rattle.affine_form.specs.Rows.{widened}
use Rattle.iolb_model.specs.declared.limits.TheConstants.{NUMBER_SIZE}
use Rattle.affine_program.specs.Parts.{access_of}
use Rattle.affine_program.specs.Tree.{row_of}
use Rattle.c_grammar.specs.Program.{narrowed_access}
use Rattle.affine_c.specs.Built.{gathered}
use Rattle.affine_c.proofs.Made.{gathered-short, widened-all_small, same_length}
use Rattle.affine_c.proofs.statements.statement_at.Goals as goal

pub returns-clause-limits : goal.returns-clause-limits
returns-clause-limits c =
    let w = c.in-Some.way in
    let path : Some (w.bounds.items, w.guards.items) ≡ option_map gathered (row_path (row_of c.args.tree.now) c.args.number) =
    sym (ap (option_map (λ way. (way.bounds.items, way.guards.items))) c.in-Some.is) ∙ c.in_ok-way.ensures.gathered in
    let short = gathered-short c.args.parameters w.bounds.items w.guards.items (row_path (row_of c.args.tree.now) c.args.number) path c.requires.short in
    let many = same_length access_of (narrowed_access c.args.parameters c.args.depth) c.in_ok-reads.reads.items c.reads.result.now c.in_ok-reads.ensures.references in
    let vars : ℕ = c.args.parameters + length c.as_slice.result.now in
    let guards : c.in_ok-guards.guards.items ≡ map (widened vars) w.guards.items = c.in_ok-guards.ensures ∙ ap (map (widened vars)) c.as_slice-2.ensures.value in
    record {
      depth = short.few_bounds;
      bounds = short.small_bounds;
      guards = omega (arith, short.few_rows, ap length guards, length-map w.guards.items (widened vars));
      guarded = subst (AllByRecursion (IsSmallForm NUMBER_SIZE)) (sym guards) (widened-all_small vars w.guards.items short.small_rows);
      written = c.in_ok-writes.ensures.small;
      reads = omega (arith, many, ap length c.reads.ensures, c.requires.few_reads);
      read = c.in_ok-reads.ensures.small;
    }
