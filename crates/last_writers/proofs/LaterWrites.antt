-- Where the later writes of an output's cell are shown to have no point, no later instance writes it.
use Rattle.std.proofs.Common.{◌≡◌, refl, sym, ◌∙◌, ap, subst, ℕ, zero, suc, ◌+◌, ◌<◌, ◌≤◌, Bool, true, false, List, [], ◌∷◌, ◌++◌, length, map, get_or, arith}
use Rattle.std.proofs.Math.IntN.{ℤ, pos}
use lib.Signed.{◌≤ℤ◌}
use Rattle.std.proofs.lemmas.List.{append_assoc, length-append, length-map, map-append}
use Rattle.base_laws.proofs.Lists.{All-append}
use Rattle.iolb_model.specs.Form.{AffineForm, form_value}
use Rattle.iolb_model.specs.Path.{row_path}
use Rattle.iolb_model.specs.Program.{AffineProgram, Direction, IsWellFormed, Statement, statement_at}
use Rattle.iolb_model.specs.Bound.{IsAdmitted}
use Rattle.iolb_model.specs.Execution.{Instance}
use Rattle.iolb_model.specs.Source.{Cell, written_cell}
use Rattle.iolb_model.specs.Domain.{IsAt, IsInDomain, IsWithin, LeadAlong}
use Rattle.iolb_model.specs.Order.{Precedes, common_loops}
use Rattle.execution_laws.proofs.Members.{Member, Member-flat_map, Member-map}
use Rattle.execution_laws.proofs.Domains.{domains_executed, way-below}
use Rattle.execution_laws.proofs.Orders.{order_by_levels}
use Rattle.execution_laws.proofs.Ways.{there-holds, within-length}
use Rattle.affine_form.specs.Substitution.{values_at}
use Rattle.affine_form.specs.System.{AffineSystem, IsMet}
use Rattle.affine_form.specs.Rows.{equality_rows, order_rows, widened}
use Rattle.affine_form.proofs.RowLemmas.{length-variables}
use Rattle.affine_form.proofs.Meaning.{equality_rows-met, order_rows-met, values-end, values-front, values_at-front, values_at-put_in, widened-stay}
use Rattle.affine_program.specs.Domain.{bounds_at, depth_of, path_of, domain_rows}
use Rattle.dep_quast.specs.Context.{parameter_point}
use Rattle.dep_quast.specs.Levels.{levels, writers}
use Rattle.reuse_paths.proofs.NestPoints.{nest-met-before}
use Rattle.store_terms.specs.Claims.{OutputClaim}
use Rattle.dep_quast.proofs.LastSources.{Member-levels, Member-writers}
use Rattle.last_writers.specs.OutputClaims.{later_values, later_write, later_writes, output_system, output_variables, variables_with, write_rows, written_forms}
use Rattle.last_writers.specs.Fitting.{OutputFits}
use Rattle.last_writers.specs.Outputs.{output_instance}
use Rattle.affine_program.proofs.Domains.{domain_rows-met}

module _ (program : AffineProgram) (output : OutputClaim) (well : IsWellFormed program) (fits : OutputFits program output) (parameters u : List ℤ)
    (admitted : IsAdmitted program parameters) (within : IsWithin output.nest parameters u) where
  abbrev here : Instance
  here = output_instance output parameters u

  point-count : output_variables program output ≡ length (parameters ++ u)
  point-count = omega (arith, length-append parameters u, admitted.each, within-length output.nest parameters u within)

  parameters-at : (vars : ℕ) (rest : List ℤ) → length program.parameters ≤ vars → values_at (parameter_point program vars) ((parameters ++ u) ++ rest) ≡ parameters
  parameters-at vars rest h =
      subst (λ (q : List ℤ). values_at (parameter_point program vars) q ≡ parameters) (sym (append_assoc parameters u rest))
      (values-front vars (length program.parameters) parameters (u ++ rest) (sym admitted.each) h)

  module _ (w : ℕ) (z : List ℤ) (k : ℕ) (writes : IsAt program parameters k (record { statement = w; values = z })) where
    abbrev writer : Instance
    writer = record { statement = w; values = z }

    abbrev point : List ℤ
    point = (parameters ++ u) ++ z

    abbrev vars : ℕ
    vars = variables_with program output w

    abbrev zs : List AffineForm
    zs = later_values program output w

    writer-domain : IsInDomain program parameters writer
    writer-domain = (domains_executed program parameters writer well).0 (k, writes)

    writer-within : LeadAlong (path_of program w) parameters z
    writer-within = there-holds (row_path program.tree w) (λ path. LeadAlong path parameters z) writer-domain

    count : depth_of program w ≡ length z
    count = sym (within-length (bounds_at program w) parameters z writer-within.0)

    writer-values : values_at zs point ≡ z
    writer-values = values-end vars (output_variables program output) (depth_of program w) (parameters ++ u) z point-count count (omega arith)

    here-values : values_at output.point point ≡ here.values
    here-values = values_at-front (output_variables program output) output.point (parameters ++ u) z fits.forms point-count

    -- what a statement's instance writes, where its forms are over so many variables
    written-values : (many statement : ℕ) (forms : List AffineForm) (values : List ℤ) → length program.parameters ≤ many → values_at forms point ≡ values
        → values_at (written_forms program many statement forms) point ≡ values_at (statement_at program statement).writes.subscripts (parameters ++ values)
    written-values many statement forms values room is =
        values_at-put_in (parameter_point program many ++ forms) (statement_at program statement).writes.subscripts point
        ∙ ap (values_at (statement_at program statement).writes.subscripts)
        (map-append (λ form. form_value form point) (parameter_point program many) forms ∙ ap (λ (q : List ℤ). q ++ values_at forms point) (parameters-at many z room) ∙ ap (λ (q : List ℤ). parameters ++ q) is)

    -- the rows of a write are met by an instance that writes the cell
    write-met : written_cell program parameters writer ≡ written_cell program parameters here → IsMet (write_rows program output w) point
    write-met same =
        let params : List AffineForm = parameter_point program vars in
        let nest : List AffineForm = map (widened vars) (output_system program output).rows in
        let domain : List AffineForm = domain_rows program w vars params zs in
        let mine : List AffineForm = written_forms program (output_variables program output) output.statement output.point in
        let its : List AffineForm = written_forms program vars w zs in
        let at_point : AffineForm → Type 0 = λ row. pos 0 ≤ℤ form_value row point in
        let nest_met : IsMet nest point = widened-stay vars (output_system program output).rows point (nest-met-before program output.nest parameters u z well admitted within) in
        let domain_met : IsMet domain point =
        domain_rows-met program w vars params zs point well (length-variables vars 0 (length program.parameters))
        (subst (λ (q : List ℤ). LeadAlong (path_of program w) q (values_at zs point)) (sym (parameters-at vars z (omega arith)))
        (subst (λ (q : List ℤ). LeadAlong (path_of program w) parameters q) (sym writer-values) writer-within)) in
        let cell_met : IsMet (equality_rows vars mine its) point =
        equality_rows-met vars mine its point
        (written-values (output_variables program output) output.statement output.point here.values (omega arith) here-values
        ∙ sym (ap (λ (c : Cell). c.subscripts) same) ∙ sym (written-values vars w zs z (omega arith) writer-values)) in
        All-append at_point (nest ++ domain) (equality_rows vars mine its) (All-append at_point nest domain nest_met domain_met) cell_met

    -- a write that comes later has a level, and meets the rows of the order
    later-met : (at : ℕ) → IsAt program parameters at here → at < k
        → (level : ℕ) × (Member level (levels program output.statement w)
        × IsMet (order_rows vars (common_loops program output.statement w) level output.point zs) point)
    later-met at stands less =
        let loops : List Direction = common_loops program output.statement w in
        let level = (order_by_levels program parameters at k here writer well stands writes).0 less in
        let precedes : Precedes loops level.0 output.statement w (values_at output.point point) (values_at zs point) =
        subst (λ (ys : List ℤ). Precedes loops level.0 output.statement w ys (values_at zs point)) (sym here-values)
        (subst (λ (xs : List ℤ). Precedes loops level.0 output.statement w here.values xs) (sym writer-values) level.1) in
        let met = order_rows-met vars loops level.0 output.statement w output.point zs point precedes in
        (level.0, (Member-levels program output.statement w level.0 met.0, met.1))

    writer-member : written_cell program parameters writer ≡ written_cell program parameters here → Member w (writers program (statement_at program output.statement).writes.array)
    writer-member same =
        let below : w < length program.statements = way-below program w (λ path. LeadAlong path parameters z) well writer-domain in
        subst (λ (n : ℕ). Member n (writers program (statement_at program output.statement).writes.array)) (none w)
        (Member-writers 0 program.statements (statement_at program output.statement).writes.array w below (ap (λ (c : Cell). c.array) same)) where
          none : (n : ℕ) → 0 + n ≡ n
          none n = omega arith

    -- so it isn't there, where the later writes are shown to have no point
    no-later : ((system : AffineSystem) → Member system (later_writes program output) → (p : List ℤ) → IsMet system.rows p → ⊥)
        → (at : ℕ) → IsAt program parameters at here → at < k → written_cell program parameters writer ≡ written_cell program parameters here → ⊥
    no-later none at stands less same =
        let later = later-met at stands less in
        none (later_write program output w later.0)
        (Member-flat_map (λ (t : ℕ). map (later_write program output t) (levels program output.statement t)) w (writers program (statement_at program output.statement).writes.array)
        (later_write program output w later.0) (writer-member same) (Member-map (later_write program output w) later.0 (levels program output.statement w) later.1.0))
        point
        (All-append (λ row. pos 0 ≤ℤ form_value row point) (write_rows program output w) (order_rows vars (common_loops program output.statement w) later.0 output.point zs)
        (write-met same) later.1.1)

  -- no later instance writes the cell
  pub none-later : ((system : AffineSystem) → Member system (later_writes program output) → (p : List ℤ) → IsMet system.rows p → ⊥)
      → (at k : ℕ) (other : Instance) → IsAt program parameters at here → IsAt program parameters k other → at < k
      → written_cell program parameters other ≡ written_cell program parameters here → ⊥
  none-later none at k other stands writes less same = no-later other.statement other.values k writes none at stands less same
