-- What a source tree's claims say of an instance of the reader: its sources, and the writes before it.
use Rattle.std.proofs.Common.{◌≡◌, refl, sym, ◌∙◌, ap, subst, inl, inr, ℕ, zero, suc, ◌+◌, ◌<◌, ◌≤◌, Bool, true, false, List, [], ◌∷◌, ◌++◌, length, map, get_or, arith}
use Rattle.std.specs.Prelude.{◌⊎◌, ◌==◌, nat_lt, if◌then◌else◌, Option, flat_map}
use Rattle.std.specs.List.{AllByRecursion}
use Rattle.std.proofs.Math.IntN.{ℤ, pos}
use lib.Signed.{◌≤ℤ◌}
use Rattle.std.proofs.lemmas.Bool.{eq-eqb, lt-ltb}
use Rattle.std.proofs.lemmas.List.{append_assoc, append-nil, length-append, length-map, map-append}
use Rattle.base_laws.proofs.Lists.{All-append}
use Rattle.iolb_model.specs.Form.{AffineForm, form_value}
use Rattle.iolb_model.specs.Path.{bounds_on, row_path}
use Rattle.iolb_model.specs.Program.{Direction, Statement, AffineProgram, IsWellFormed, statement_at, no_statement}
use Rattle.iolb_model.specs.Bound.{IsAdmitted}
use Rattle.iolb_model.specs.Execution.{Instance, execution}
use Rattle.iolb_model.specs.Source.{written_at, input as input_source, Cell, written_cell, source_or, read_cell}
use Rattle.iolb_model.specs.Domain.{LeadAlong, IsInDomain, IsAt}
use Rattle.iolb_model.specs.Order.{common_loops, Precedes}
use Rattle.execution_laws.proofs.Members.{Member, Member-map, Member-flat_map}
use Rattle.execution_laws.proofs.Domains.{domains_executed, way-there, way-below, statements-rise, counted-has}
use Rattle.execution_laws.proofs.Orders.{order_by_levels, row_common-within, row_common-turn}
use Rattle.affine_form.specs.Substitution.{values_at, substitution}
use Rattle.affine_form.specs.System.{AffineSystem, IsMet}
use Rattle.affine_form.specs.Rows.{widened, equality_rows, put_in, order_rows, IsSmallOver}
use Rattle.affine_form.proofs.RowLemmas.{length-variables}
use Rattle.affine_form.proofs.Meaning.{HasLevel, equality_rows-met, equality_rows-say, order_rows-met, order_rows-say, values-end, values-front, values-middle, values_at-front, values_at-put_in, widened-met, widened-stay}
use Rattle.affine_program.specs.Domain.{path_of, bounds_at, depth_of, domain_of, domain_rows}
use Rattle.dep_quast.specs.Tree.{SourceClaim}
use Rattle.dep_quast.specs.Levels.{level_count, levels, writers, writers_from}
use Rattle.dep_quast.specs.Context.{ReadOf, reference_of, variables_at, context, reader_point, parameter_point, reader_values, writer_values, variables_with, write_rows, earlier_write, earlier_writes, write_between, writes_between}
use Rattle.dep_quast.specs.Claims.{inside_goals, cell_goals, before_goals}
use Rattle.dep_quast.specs.Truth.{IsLevel, source_at}
use Rattle.dep_quast.proofs.LastWrites.{writer-at, writes-from, no_last, is_last}
use Rattle.execution_laws.proofs.Ways.{within-length, there-holds, holds-there}
use Rattle.affine_program.proofs.Domains.{domain_rows-met, domain_rows-says}

-- a statement that writes the array is one of its writers
pub Member-writers : (first : ℕ) (statements : List Statement) (array w : ℕ) → w < length statements → (get_or statements w no_statement).writes.array ≡ array
    → Member (first + w) (writers_from first statements array)
Member-writers first [] array w below e = absurd (omega arith)
Member-writers first (s ∷ statements) array zero below e = by (s.writes.array == array) (eq-eqb s.writes.array array e) where
  by : (b : Bool) → b ≡ true → Member (first + 0) (if b then first ∷ writers_from (suc first) statements array else writers_from (suc first) statements array)
  by true h = inl (omega arith)
  by false h = absurd cc
Member-writers first (s ∷ statements) array (suc w) below e =
    by (s.writes.array == array) (subst (λ (n : ℕ). Member n (writers_from (suc first) statements array)) (omega arith) (Member-writers (suc first) statements array w (omega arith) e)) where
      by : (b : Bool) → Member (first + suc w) (writers_from (suc first) statements array)
          → Member (first + suc w) (if b then first ∷ writers_from (suc first) statements array else writers_from (suc first) statements array)
      by true m = inr m
      by false m = m

-- a level that there is is one of the levels
pub level-cases : (loops : List Direction) (level t s : ℕ) → HasLevel loops level t s → (level < length loops) ⊎ ((level ≡ length loops) × (t < s))
level-cases [] zero t s h = inr (refl, h)
level-cases [] (suc level) t s h = absurd h
level-cases (d ∷ loops) zero t s h = inl (omega arith)
level-cases (d ∷ loops) (suc level) t s h = elim (level-cases loops level t s h) [ inl less ↦ inl (omega arith) | inr last ↦ inr (ap suc last.0, last.1) ]

level-from : (loops : List Direction) (level t s : ℕ) → (level < length loops) ⊎ ((level ≡ length loops) × (t < s)) → HasLevel loops level t s
level-from [] zero t s (inl less) = absurd (omega arith)
level-from [] zero t s (inr last) = last.1
level-from [] (suc level) t s (inl less) = absurd (omega arith)
level-from [] (suc level) t s (inr last) = absurd (omega (arith, last.0))
level-from (d ∷ loops) zero t s h = tt
level-from (d ∷ loops) (suc level) t s (inl less) = level-from loops level t s (inl (omega arith))
level-from (d ∷ loops) (suc level) t s (inr last) = level-from loops level t s (inr (omega (arith, last.0), last.1))

pub Member-levels : (program : AffineProgram) (t s level : ℕ) → HasLevel (common_loops program t s) level t s → Member level (levels program t s)
Member-levels program t s level h = counted-has 0 (level_count program t s) level (omega arith) (below (nat_lt t s) refl (level-cases (common_loops program t s) level t s h)) where
  below : (b : Bool) → b ≡ nat_lt t s → (level < length (common_loops program t s)) ⊎ ((level ≡ length (common_loops program t s)) × (t < s))
      → level < 0 + (length (common_loops program t s) + (if b then 1 else 0))
  below true e (inl less) = omega arith
  below true e (inr last) = omega (arith, last.0)
  below false e (inl less) = omega arith
  below false e (inr last) = absurd (let true_test : nat_lt t s ≡ true = lt-ltb t s last.1 in cc)

module _ (program : AffineProgram) (reader : ReadOf) (parameters : List ℤ) (place : ℕ) (values : List ℤ) (well : IsWellFormed program)
    (admitted : IsAdmitted program parameters) (reader-there : reader.statement < length program.statements) (here : IsAt program parameters place (record { statement = reader.statement; values = values })) where
  reader-within : LeadAlong (path_of program reader.statement) parameters values
  reader-within = there-holds (row_path program.tree reader.statement) (λ path. LeadAlong path parameters values)
      ((domains_executed program parameters (record { statement = reader.statement; values = values }) well).0 (place, here))

  reader-count : depth_of program reader.statement ≡ length values
  reader-count = sym (within-length (bounds_at program reader.statement) parameters values reader-within.0)

  pub point-count : variables_at program reader ≡ length (parameters ++ values)
  point-count = omega (arith, length-append parameters values, admitted.each, reader-count)

  parameters-at : (vars : ℕ) (rest : List ℤ) → length program.parameters ≤ vars → values_at (parameter_point program vars) ((parameters ++ values) ++ rest) ≡ parameters
  parameters-at vars rest h =
      subst (λ (q : List ℤ). values_at (parameter_point program vars) q ≡ parameters) (sym (append_assoc parameters values rest))
      (values-front vars (length program.parameters) parameters (values ++ rest) (sym admitted.each) h)

  values-are : (vars : ℕ) (rest : List ℤ) → variables_at program reader ≤ vars → values_at (reader_values program reader vars) ((parameters ++ values) ++ rest) ≡ values
  values-are vars rest h = values-middle vars (length program.parameters) (depth_of program reader.statement) parameters values rest (sym admitted.each) reader-count h

  reader-at : (vars : ℕ) (rest : List ℤ) → variables_at program reader ≤ vars → values_at (reader_point program reader vars) ((parameters ++ values) ++ rest) ≡ parameters ++ values
  reader-at vars rest h = values-front vars (variables_at program reader) (parameters ++ values) rest point-count h

  writer-values : (writer : ℕ) (z : List ℤ) → depth_of program writer ≡ length z
      → values_at (writer_values program reader writer (variables_with program reader writer)) ((parameters ++ values) ++ z) ≡ z
  writer-values writer z e = values-end (variables_with program reader writer) (variables_at program reader) (depth_of program writer) (parameters ++ values) z point-count e (omega arith)

  -- the rows of a leaf are met at the reader's point, whatever values follow
  pub context-met : (tests : List AffineForm) → ((rest : List ℤ) → IsMet tests ((parameters ++ values) ++ rest)) → (rest : List ℤ)
      → IsMet (context program reader tests) ((parameters ++ values) ++ rest)
  context-met tests met rest =
      let point : List ℤ = (parameters ++ values) ++ rest in
      let vars : ℕ = variables_at program reader in
      let assumptions : IsMet (map (widened vars) program.assumptions) point =
      subst (IsMet (map (widened vars) program.assumptions)) (sym (append_assoc parameters values rest))
      (widened-met vars (length program.parameters) program.assumptions parameters (values ++ rest) well.assumptions (sym admitted.each) admitted.met) in
      let domain : IsMet (domain_of program reader.statement).rows point =
      domain_rows-met program reader.statement vars (parameter_point program vars) (reader_values program reader vars) point well (length-variables vars 0 (length program.parameters))
      (subst (λ (q : List ℤ). LeadAlong (path_of program reader.statement) q (values_at (reader_values program reader vars) point)) (sym (parameters-at vars rest (omega arith)))
      (subst (λ (q : List ℤ). LeadAlong (path_of program reader.statement) parameters q) (sym (values-are vars rest (omega arith))) reader-within)) in
      let at_point : AffineForm → Type 0 = λ row. pos 0 ≤ℤ form_value row point in
      All-append at_point (map (widened vars) program.assumptions ++ (domain_of program reader.statement).rows) tests
      (All-append at_point (map (widened vars) program.assumptions) (domain_of program reader.statement).rows assumptions domain) (met rest)

  -- the rows of a write are met by an instance that writes the cell
  write_rows-met : (tests : List AffineForm) → ((rest : List ℤ) → IsMet tests ((parameters ++ values) ++ rest)) → (writer : ℕ) (z : List ℤ)
      → LeadAlong (path_of program writer) parameters z
      → written_cell program parameters (record { statement = writer; values = z }) ≡ read_cell program parameters reader.statement reader.read values
      → IsMet (write_rows program reader (context program reader tests) writer) ((parameters ++ values) ++ z)
  write_rows-met tests met writer z within same_cells =
      let point : List ℤ = (parameters ++ values) ++ z in
      let vars : ℕ = variables_with program reader writer in
      let params : List AffineForm = parameter_point program vars in
      let zs : List AffineForm = writer_values program reader writer vars in
      let written : List AffineForm = (statement_at program writer).writes.subscripts in
      let read : List AffineForm = (reference_of program reader).subscripts in
      let count : depth_of program writer ≡ length z = sym (within-length (bounds_at program writer) parameters z within.0) in
      let is_params : values_at params point ≡ parameters = parameters-at vars z (omega arith) in
      let is_z : values_at zs point ≡ z = writer-values writer z count in
      let rows : IsMet (map (widened vars) (context program reader tests)) point = widened-stay vars (context program reader tests) point (context-met tests met z) in
      let domain : IsMet (domain_rows program writer vars params zs) point =
      domain_rows-met program writer vars params zs point well (length-variables vars 0 (length program.parameters))
      (subst (λ (q : List ℤ). LeadAlong (path_of program writer) q (values_at zs point)) (sym is_params)
      (subst (λ (q : List ℤ). LeadAlong (path_of program writer) parameters q) (sym is_z) within)) in
      let left : values_at (put_in (params ++ zs) written) point ≡ values_at written (parameters ++ z) =
      values_at-put_in (params ++ zs) written point ∙ ap (values_at written) (map-append (λ form. form_value form point) params zs ∙ ap (λ (q : List ℤ). q ++ values_at zs point) is_params ∙ ap (λ (q : List ℤ). parameters ++ q) is_z) in
      let right : values_at (put_in (reader_point program reader vars) read) point ≡ values_at read (parameters ++ values) =
      values_at-put_in (reader_point program reader vars) read point ∙ ap (values_at read) (reader-at vars z (omega arith)) in
      let cells : values_at written (parameters ++ z) ≡ values_at read (parameters ++ values) = ap (λ (c : Cell). c.subscripts) same_cells in
      let equal : IsMet (equality_rows vars (put_in (params ++ zs) written) (put_in (reader_point program reader vars) read)) point =
      equality_rows-met vars (put_in (params ++ zs) written) (put_in (reader_point program reader vars) read) point (left ∙ cells ∙ sym right) in
      let at_point : AffineForm → Type 0 = λ row. pos 0 ≤ℤ form_value row point in
      All-append at_point (map (widened vars) (context program reader tests) ++ domain_rows program writer vars params zs) (equality_rows vars (put_in (params ++ zs) written) (put_in (reader_point program reader vars) read))
      (All-append at_point (map (widened vars) (context program reader tests)) (domain_rows program writer vars params zs) rows domain) equal

  -- the writer of the cell that is read is one of the array's writers
  writer-member : (writer : ℕ) (z : List ℤ) (k : ℕ) → IsAt program parameters k (record { statement = writer; values = z })
      → written_cell program parameters (record { statement = writer; values = z }) ≡ read_cell program parameters reader.statement reader.read values
      → Member writer (writers program (reference_of program reader).array)
  writer-member writer z k at same_cells =
      let domain : IsInDomain program parameters (record { statement = writer; values = z }) = (domains_executed program parameters (record { statement = writer; values = z }) well).0 (k, at) in
      let below : writer < length program.statements = way-below program writer (λ path. LeadAlong path parameters z) well domain in
      subst (λ (n : ℕ). Member n (writers program (reference_of program reader).array)) (none writer)
      (Member-writers 0 program.statements (reference_of program reader).array writer below (ap (λ (c : Cell). c.array) same_cells)) where
        none : (n : ℕ) → 0 + n ≡ n
        none n = omega arith

  writer-within : (writer : ℕ) (z : List ℤ) (k : ℕ) → IsAt program parameters k (record { statement = writer; values = z }) → LeadAlong (path_of program writer) parameters z
  writer-within writer z k at =
      there-holds (row_path program.tree writer) (λ path. LeadAlong path parameters z) ((domains_executed program parameters (record { statement = writer; values = z }) well).0 (k, at))

  -- a write before the reader has a level, and meets the rows of the order
  before-reader : (writer : ℕ) (z : List ℤ) (k : ℕ) → IsAt program parameters k (record { statement = writer; values = z }) → k < place
      → (level : ℕ) × (Member level (levels program writer reader.statement)
      × IsMet (order_rows (variables_with program reader writer) (common_loops program writer reader.statement) level (writer_values program reader writer (variables_with program reader writer))
      (reader_values program reader (variables_with program reader writer))) ((parameters ++ values) ++ z))
  before-reader writer z k at less =
      let point : List ℤ = (parameters ++ values) ++ z in
      let vars : ℕ = variables_with program reader writer in
      let loops : List Direction = common_loops program writer reader.statement in
      let count : depth_of program writer ≡ length z = sym (within-length (bounds_at program writer) parameters z (writer-within writer z k at).0) in
      let level = (order_by_levels program parameters k place (record { statement = writer; values = z }) (record { statement = reader.statement; values = values }) well at here).0 less in
      let precedes : Precedes loops level.0 writer reader.statement (values_at (writer_values program reader writer vars) point) (values_at (reader_values program reader vars) point) =
      subst (λ (ys : List ℤ). Precedes loops level.0 writer reader.statement ys (values_at (reader_values program reader vars) point)) (sym (writer-values writer z count))
      (subst (λ (xs : List ℤ). Precedes loops level.0 writer reader.statement z xs) (sym (values-are vars z (omega arith))) level.1) in
      let met = order_rows-met vars loops level.0 writer reader.statement (writer_values program reader writer vars) (reader_values program reader vars) point precedes in
      (level.0, (Member-levels program writer reader.statement level.0 met.0, met.1))

  -- where the earlier writes are shown to have no point, no earlier instance writes the cell
  pub no_earlier : (tests : List AffineForm) → ((rest : List ℤ) → IsMet tests ((parameters ++ values) ++ rest))
      → ((system : AffineSystem) → Member system (earlier_writes program reader (context program reader tests)) → (point : List ℤ) → IsMet system.rows point → ⊥)
      → source_at program parameters reader place values ≡ input_source (read_cell program parameters reader.statement reader.read values)
  no_earlier tests met none =
      ap (λ (o : Option ℕ). source_or o (read_cell program parameters reader.statement reader.read values))
      (no_last program parameters (execution program parameters) (read_cell program parameters reader.statement reader.read values) place
      (λ k less writes.
      let found = writer-at program parameters (execution program parameters) (read_cell program parameters reader.statement reader.read values) k writes in
      let w : ℕ = found.0.statement in
      let z : List ℤ = found.0.values in
      let before = before-reader w z k found.1.0 less in
      let order : List AffineForm = order_rows (variables_with program reader w) (common_loops program w reader.statement) before.0 (writer_values program reader w (variables_with program reader w)) (reader_values program reader (variables_with program reader w)) in
      none (earlier_write program reader (context program reader tests) w before.0)
      (Member-flat_map (λ writer. map (earlier_write program reader (context program reader tests) writer) (levels program writer reader.statement)) w (writers program (reference_of program reader).array) (earlier_write program reader (context program reader tests) w before.0)
      (writer-member w z k found.1.0 found.1.1) (Member-map (earlier_write program reader (context program reader tests) w) before.0 (levels program w reader.statement) before.1.0))
      ((parameters ++ values) ++ z)
      (All-append (λ row. pos 0 ≤ℤ form_value row ((parameters ++ values) ++ z)) (write_rows program reader (context program reader tests) w) order
      (write_rows-met tests met w z (writer-within w z k found.1.0) found.1.1) before.1.1)))

  -- the source that is shown to be in its domain is executed, at some place
  pub source-place : (claim : SourceClaim) → claim.statement < length program.statements → length claim.point ≡ depth_of program claim.statement
      → IsMet (inside_goals program reader claim) (parameters ++ values)
      → (at : ℕ) × IsAt program parameters at (record { statement = claim.statement; values = values_at claim.point (parameters ++ values) })
  source-place claim below count met =
      let point : List ℤ = parameters ++ values in
      let vars : ℕ = variables_at program reader in
      let is_params : values_at (parameter_point program vars) point ≡ parameters = values-front vars (length program.parameters) parameters values (sym admitted.each) (omega arith) in
      let within : LeadAlong (path_of program claim.statement) parameters (values_at claim.point point) =
      subst (λ (q : List ℤ). LeadAlong (path_of program claim.statement) q (values_at claim.point point)) is_params
      (domain_rows-says program claim.statement vars (parameter_point program vars) claim.point point well (length-variables vars 0 (length program.parameters)) count met) in
      (domains_executed program parameters (record { statement = claim.statement; values = values_at claim.point point }) well).1
      (holds-there (row_path program.tree claim.statement) (λ path. LeadAlong path parameters (values_at claim.point point)) (way-there program claim.statement well below) within)

  -- the source that is shown to write the cell writes it
  pub source-cell : (claim : SourceClaim) → length (statement_at program claim.statement).writes.subscripts ≡ length (reference_of program reader).subscripts
      → (statement_at program claim.statement).writes.array ≡ (reference_of program reader).array
      → IsMet (cell_goals program reader claim) (parameters ++ values)
      → written_cell program parameters (record { statement = claim.statement; values = values_at claim.point (parameters ++ values) })
      ≡ read_cell program parameters reader.statement reader.read values
  source-cell claim ranks arrays met =
      let point : List ℤ = parameters ++ values in
      let vars : ℕ = variables_at program reader in
      let params : List AffineForm = parameter_point program vars in
      let written : List AffineForm = (statement_at program claim.statement).writes.subscripts in
      let read : List AffineForm = (reference_of program reader).subscripts in
      let is_params : values_at params point ≡ parameters = values-front vars (length program.parameters) parameters values (sym admitted.each) (omega arith) in
      let is_reader : values_at (reader_point program reader vars) point ≡ point =
      subst (λ (q : List ℤ). values_at (reader_point program reader vars) q ≡ point) (append-nil point) (reader-at vars [] (omega arith)) in
      let equal : values_at (put_in (params ++ claim.point) written) point ≡ values_at (put_in (reader_point program reader vars) read) point =
      equality_rows-say vars (put_in (params ++ claim.point) written) (put_in (reader_point program reader vars) read) point
      (length-map written (λ form. substitution form (params ++ claim.point)) ∙ ranks ∙ sym (length-map read (λ form. substitution form (reader_point program reader vars)))) met in
      let left : values_at (put_in (params ++ claim.point) written) point ≡ values_at written (parameters ++ values_at claim.point point) =
      values_at-put_in (params ++ claim.point) written point ∙ ap (values_at written) (map-append (λ form. form_value form point) params claim.point ∙ ap (λ (q : List ℤ). q ++ values_at claim.point point) is_params) in
      let right : values_at (put_in (reader_point program reader vars) read) point ≡ values_at read point =
      values_at-put_in (reader_point program reader vars) read point ∙ ap (values_at read) is_reader in
      let cells : values_at written (parameters ++ values_at claim.point point) ≡ values_at read point = sym left ∙ equal ∙ right in
      ap (λ (a : ℕ). record { array = a; subscripts = values_at written (parameters ++ values_at claim.point point) }) arrays
      ∙ ap (λ (q : List ℤ). record { array = (reference_of program reader).array; subscripts = q }) cells

  -- the source that is shown to come before the reader does
  pub source-before : (claim : SourceClaim) (at : ℕ) → claim.statement < length program.statements → IsLevel program claim.statement reader.statement claim.level
      → length claim.point ≡ depth_of program claim.statement → IsMet (before_goals program reader claim) (parameters ++ values)
      → IsAt program parameters at (record { statement = claim.statement; values = values_at claim.point (parameters ++ values) }) → at < place
  source-before claim at below level count met stands =
      let point : List ℤ = parameters ++ values in
      let vars : ℕ = variables_at program reader in
      let loops : List Direction = common_loops program claim.statement reader.statement in
      let ys_enough : length loops ≤ length claim.point =
      subst (λ (n : ℕ). length loops ≤ n) (sym count)
      (there-holds (row_path program.tree claim.statement) (λ path. length loops ≤ length (bounds_on path))
      (row_common-within program.tree claim.statement reader.statement (statements-rise program well) (way-there program claim.statement well below))) in
      let turned : length (common_loops program reader.statement claim.statement) ≤ depth_of program reader.statement =
      there-holds (row_path program.tree reader.statement) (λ path. length (common_loops program reader.statement claim.statement) ≤ length (bounds_on path))
      (row_common-within program.tree reader.statement claim.statement (statements-rise program well) (way-there program reader.statement well reader-there)) in
      let xs_enough : length loops ≤ length (reader_values program reader vars) =
      omega (arith, turned, ap length (row_common-turn program.tree claim.statement reader.statement), length-variables vars (length program.parameters) (depth_of program reader.statement)) in
      let says : Precedes loops claim.level claim.statement reader.statement (values_at claim.point point) (values_at (reader_values program reader vars) point) =
      order_rows-say vars loops claim.level claim.statement reader.statement claim.point (reader_values program reader vars) point (level-from loops claim.level claim.statement reader.statement level) ys_enough xs_enough met in
      let is_values : values_at (reader_values program reader vars) point ≡ values =
      subst (λ (q : List ℤ). values_at (reader_values program reader vars) q ≡ values) (append-nil point) (values-are vars [] (omega arith)) in
      (order_by_levels program parameters at place (record { statement = claim.statement; values = values_at claim.point point }) (record { statement = reader.statement; values = values }) well stands here).1
      (claim.level, subst (λ (xs : List ℤ). Precedes loops claim.level claim.statement reader.statement (values_at claim.point point) xs) is_values says)

  -- a write after the source has a level, and meets the rows of the order
  after-source : (claim : SourceClaim) (at k : ℕ) (w : ℕ) (z : List ℤ) → AllByRecursion (IsSmallOver (variables_at program reader)) claim.point
      → IsAt program parameters at (record { statement = claim.statement; values = values_at claim.point (parameters ++ values) })
      → IsAt program parameters k (record { statement = w; values = z }) → at < k
      → (level : ℕ) × (Member level (levels program claim.statement w)
      × IsMet (order_rows (variables_with program reader w) (common_loops program claim.statement w) level claim.point (writer_values program reader w (variables_with program reader w))) ((parameters ++ values) ++ z))
  after-source claim at k w z forms stands writes less =
      let point : List ℤ = (parameters ++ values) ++ z in
      let vars : ℕ = variables_with program reader w in
      let loops : List Direction = common_loops program claim.statement w in
      let count : depth_of program w ≡ length z = sym (within-length (bounds_at program w) parameters z (writer-within w z k writes).0) in
      let level = (order_by_levels program parameters at k (record { statement = claim.statement; values = values_at claim.point (parameters ++ values) }) (record { statement = w; values = z }) well stands writes).0 less in
      let precedes : Precedes loops level.0 claim.statement w (values_at claim.point point) (values_at (writer_values program reader w vars) point) =
      subst (λ (ys : List ℤ). Precedes loops level.0 claim.statement w ys (values_at (writer_values program reader w vars) point)) (sym (values_at-front (variables_at program reader) claim.point (parameters ++ values) z forms point-count))
      (subst (λ (xs : List ℤ). Precedes loops level.0 claim.statement w (values_at claim.point (parameters ++ values)) xs) (sym (writer-values w z count)) level.1) in
      let met = order_rows-met vars loops level.0 claim.statement w claim.point (writer_values program reader w vars) point precedes in
      (level.0, (Member-levels program claim.statement w level.0 met.0, met.1))

  -- where the writes between are shown to have no point, the source is the last write
  pub source-last : (tests : List AffineForm) (claim : SourceClaim) (at : ℕ) → ((rest : List ℤ) → IsMet tests ((parameters ++ values) ++ rest))
      → AllByRecursion (IsSmallOver (variables_at program reader)) claim.point
      → ((system : AffineSystem) → Member system (writes_between program reader (context program reader tests) claim) → (point : List ℤ) → IsMet system.rows point → ⊥)
      → IsAt program parameters at (record { statement = claim.statement; values = values_at claim.point (parameters ++ values) }) → at < place
      → written_cell program parameters (record { statement = claim.statement; values = values_at claim.point (parameters ++ values) }) ≡ read_cell program parameters reader.statement reader.read values
      → source_at program parameters reader place values ≡ written_at at
  source-last tests claim at met forms none stands less same_cells =
      let cell : Cell = read_cell program parameters reader.statement reader.read values in
      let runs : List Instance = execution program parameters in
      ap (λ (o : Option ℕ). source_or o cell)
      (is_last program parameters runs cell at place less (writes-from program parameters runs cell at (record { statement = claim.statement; values = values_at claim.point (parameters ++ values) }) stands same_cells)
      (λ k later earlier writes.
      let found = writer-at program parameters runs cell k writes in
      let w : ℕ = found.0.statement in
      let z : List ℤ = found.0.values in
      let vars : ℕ = variables_with program reader w in
      let after = after-source claim at k w z forms stands found.1.0 later in
      let before = before-reader w z k found.1.0 earlier in
      let first : List AffineForm = order_rows vars (common_loops program claim.statement w) after.0 claim.point (writer_values program reader w vars) in
      let second : List AffineForm = order_rows vars (common_loops program w reader.statement) before.0 (writer_values program reader w vars) (reader_values program reader vars) in
      let at_point : AffineForm → Type 0 = λ row. pos 0 ≤ℤ form_value row ((parameters ++ values) ++ z) in
      none (write_between program reader (context program reader tests) claim w after.0 before.0)
      (Member-flat_map (λ writer. flat_map (λ after. map (write_between program reader (context program reader tests) claim writer after) (levels program writer reader.statement)) (levels program claim.statement writer)) w
      (writers program (reference_of program reader).array) (write_between program reader (context program reader tests) claim w after.0 before.0) (writer-member w z k found.1.0 found.1.1)
      (Member-flat_map (λ after. map (write_between program reader (context program reader tests) claim w after) (levels program w reader.statement)) after.0 (levels program claim.statement w) (write_between program reader (context program reader tests) claim w after.0 before.0)
      after.1.0 (Member-map (write_between program reader (context program reader tests) claim w after.0) before.0 (levels program w reader.statement) before.1.0)))
      ((parameters ++ values) ++ z)
      (All-append at_point (write_rows program reader (context program reader tests) w ++ first) second
      (All-append at_point (write_rows program reader (context program reader tests) w) first (write_rows-met tests met w z (writer-within w z k found.1.0) found.1.1) after.1.1) before.1.1)))
