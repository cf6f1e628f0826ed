use Rattle.std.proofs.Common.{◌≡◌, sym, ◌∙◌, ap, ℕ, List, ◌∷◌, ◌+◌, ◌-◌, ◌<◌, length, map, drop, filter, not, get_or, arith}
use Rattle.base_laws.proofs.Lists.{rest_at}
use Rattle.iolb_model.specs.Source.{Cell as ModelCell, same_cell}
use Rattle.iolb_model.specs.Graph.{distinct}
use Rattle.plain_graph.specs.declared.cells.Cell.{Cell}
use Rattle.plain_graph.specs.Views.{cell_view}
use Rattle.plain_graph.proofs.sources.distinct_cells.Goals as goal

-- a cell in front of those that are apart from it
in-front : (cells : List Cell) (k past : ℕ) (first second copy : Cell) (found apart : List Cell) → k + 1 ≡ past → k < length cells → first ≡ get_or cells k first → second ≡ get_or cells k second
    → cell_view copy ≡ cell_view second → map cell_view found ≡ distinct same_cell (map cell_view (drop past cells))
    → map cell_view apart ≡ filter (λ other. not (same_cell (cell_view first) other)) (map cell_view found)
    → map cell_view (copy ∷ apart) ≡ distinct same_cell (map cell_view (drop k cells))
in-front cells k past first second copy found apart next below one two copied so_far rest =
    let same : second ≡ first = ap (λ (l : List Cell). get_or l 0 first) (sym (rest_at cells k second below two) ∙ rest_at cells k first below one) in
    ap (λ (x : ModelCell). x ∷ map cell_view apart) (copied ∙ ap cell_view same)
    ∙ ap (λ (l : List ModelCell). cell_view first ∷ l)
    (rest ∙ ap (filter (λ other. not (same_cell (cell_view first) other))) (so_far ∙ ap (λ (n : ℕ). distinct same_cell (map cell_view (drop n cells))) (sym next)))
    ∙ ap (λ (l : List Cell). distinct same_cell (map cell_view l)) (sym (rest_at cells k first below one))

pub loop-k-preserved : goal.loop-k-preserved
loop-k-preserved c =
    let made = in-front c.args.cells.now (c.loop-k.k - 1) c.loop-k.k c.index-cells-k.result c.index-cells-k-in-loop-k.result c.in_ok-try_clone.field-0 c.loop-k.found.items c.in_ok-rest.rest.items
    (omega (arith, c.loop-k-test.true)) (omega (arith, c.loop-k-test.true, c.loop-k.invariant.within)) c.index-cells-k.is c.index-cells-k-in-loop-k.is c.in_ok-try_clone.ensures c.loop-k.invariant.so_far
    (c.in_ok-rest.ensures ∙ ap (λ (l : List Cell). filter (λ other. not (same_cell (cell_view c.index-cells-k.result) other)) (map cell_view l)) c.as_slice.ensures.value) in
    record {
      within = omega (arith, c.loop-k.invariant.within);
      so_far = ap (map cell_view) c.in_ok-insert.ensures.items ∙ made;
    }
