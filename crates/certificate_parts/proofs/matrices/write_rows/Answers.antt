use Rattle.std.proofs.Common.{◌≡◌, ℕ, suc, ◌+◌, ◌-◌, ◌*◌, List, [], ◌∷◌, ◌++◌, length, map, take, drop, append_assoc, arith, sym, ◌∙◌, ap}
use Rattle.std.specs.Prelude.{ℤ}
use Rattle.std.proofs.lemmas.List.{map-append}
use Rattle.serde_json.specs.Data.{Data}
use Rattle.serde_json.specs.View.{view}
use Rattle.serde_json.specs.declared.value.Value.{Value}
use Rattle.certificate_parts.specs.Matrices.{row_data, rows_of}
use Rattle.certificate_parts.proofs.matrices.write_rows.Goals as goal

-- one row of those left
one : (old new : List Value) (value : Value) (n m columns : ℕ) (front rest more : List ℤ) (all : List Data) → n ≡ suc m → new ≡ old ++ value ∷ [] → view value ≡ row_data front → front ≡ take columns rest → more ≡ drop columns rest
    → map view old ++ map row_data (rows_of n columns rest) ≡ all → map view new ++ map row_data (rows_of m columns more) ≡ all
one old new value n m columns front rest more all count pushed is first others whole =
    ap (λ (l : List Value). map view l ++ map row_data (rows_of m columns more)) pushed
    ∙ ap (λ (l : List Data). l ++ map row_data (rows_of m columns more)) (map-append view old (value ∷ []))
    ∙ append_assoc (map view old) (view value ∷ []) (map row_data (rows_of m columns more))
    ∙ ap (λ (d : Data). map view old ++ (d ∷ map row_data (rows_of m columns more))) (is ∙ ap row_data first)
    ∙ ap (λ (l : List ℤ). map view old ++ (row_data (take columns rest) ∷ map row_data (rows_of m columns l))) others
    ∙ ap (λ (k : ℕ). map view old ++ map row_data (rows_of k columns rest)) (sym count) ∙ whole

-- and so many cells fewer
fewer : (n m columns cells left : ℕ) → n ≡ suc m → left + columns ≡ cells → cells ≡ n * columns → left ≡ m * columns
fewer n m columns cells left count both full = omega (arith, both, full, ap (λ (k : ℕ). k * columns) count)

pub loop-preserved : goal.loop-preserved
loop-preserved c =
    let count : c.args.count - c.loop.counter ≡ suc (c.args.count - (c.loop.counter + 1)) = omega (arith, c.loop-test.true) in (
      one c.loop.items.items c.push.new.self.items c.in_ok-write_row.field-0 (c.args.count - c.loop.counter) (c.args.count - (c.loop.counter + 1)) c.args.columns
          c.split_at.result.0.now c.loop.rest.now c.split_at.result.1.now (map row_data (rows_of c.args.count c.args.columns c.args.cells.now)) count
          c.in_ok-push.ensures.items c.in_ok-write_row.ensures c.split_at.ensures.front c.split_at.ensures.back c.loop.invariant.0,
      fewer (c.args.count - c.loop.counter) (c.args.count - (c.loop.counter + 1)) c.args.columns (length c.loop.rest.now) (length c.split_at.result.1.now) count c.split_at.ensures.back_len c.loop.invariant.1,
    )
