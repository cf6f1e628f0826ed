use Rattle.std.proofs.Common.{◌≡◌, ◌∙◌, sym, ap, ℕ, ◌+◌, List, [], ◌∷◌, ◌++◌, map, append_assoc, arith, Bool, Vec}
use Rattle.std.specs.Prelude.{ℤ, pos, if◌then◌else◌}
use Rattle.std.specs.Global.{Global}
use Rattle.std.specs.List.{range_with_len}
use Rattle.std.proofs.lemmas.Bool.{eq-eqb}
use Rattle.std.proofs.lemmas.List.FromFn.{map-range_with_len_more}
use Rattle.execution_laws.specs.Inverse.{scaled_entry}
use Rattle.projective_bounds.proofs.Unequal.{differs}
use Rattle.projective_bounds.proofs.matrices.with_row.Goals as goal
use Rattle.projective_bounds.proofs.matrices.with_row.Goals.{then-row-column+in_ok-push, else-row-column+in_ok-push-2}

-- one entry more
entry-more : (cells all more : List ℤ) (row column : ℕ) (x : ℤ) → all ≡ cells ++ map (scaled_entry 1 row) (range_with_len 0 column) → x ≡ scaled_entry 1 row column → more ≡ all ++ x ∷ []
    → more ≡ cells ++ map (scaled_entry 1 row) (range_with_len 0 (column + 1))
entry-more cells all more row column x h is pushed =
    pushed ∙ ap (λ (xs : List ℤ). xs ++ x ∷ []) h ∙ append_assoc cells (map (scaled_entry 1 row) (range_with_len 0 column)) (x ∷ [])
    ∙ ap (λ (y : ℤ). cells ++ (map (scaled_entry 1 row) (range_with_len 0 column) ++ y ∷ [])) is ∙ ap (λ (xs : List ℤ). cells ++ xs) (sym (map-range_with_len_more (scaled_entry 1 row) 0 column column (omega arith)))

pub loop-column-preserved : goal.loop-column-preserved
loop-column-preserved c =
    elim c.if-row-column.branch [
      | then-row-column+in_ok-push w ↦
          entry-more c.args.cells.items c.loop-column.all.items c.if-row-column.all.items c.args.row c.loop-column.column (pos 1) c.loop-column.invariant
          (sym (ap (λ (b : Bool). if b then pos 1 else pos 0) (eq-eqb c.args.row c.loop-column.column w.if-row-column.true)))
          (ap (λ (v : Vec ℤ Global). v.items) w.all-is ∙ w.in_ok-push.ensures.items)
      | else-row-column+in_ok-push-2 w ↦
          entry-more c.args.cells.items c.loop-column.all.items c.if-row-column.all.items c.args.row c.loop-column.column (pos 0) c.loop-column.invariant
          (sym (ap (λ (b : Bool). if b then pos 1 else pos 0) (differs c.args.row c.loop-column.column w.if-row-column.false)))
          (ap (λ (v : Vec ℤ Global). v.items) w.all-is ∙ w.in_ok-push-2.ensures.items)
    ]
