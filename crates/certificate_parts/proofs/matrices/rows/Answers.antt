use Rattle.std.proofs.Common.{◌≡◌, [], ◌∷◌, ◌++◌, map}
use Rattle.std.proofs.lemmas.List.{map_push}
use Rattle.json_parts.specs.Json.{each}
use Rattle.certificate_parts.specs.Matrices.{reads_row, row_items, IsRow}
use Rattle.base_laws.proofs.Lists.{All-push}
use Rattle.json_values.specs.View.{json_data}
use Rattle.json_parts.proofs.Loop.{goes_on, ends, is_done}
use Rattle.certificate_parts.proofs.matrices.rows.Goals as goal

pub returns-in-Err-clause-read : goal.returns-in-Err-clause-read
returns-in-Err-clause-read c =
    ends (reads_row c.args.columns) (map row_items c.loop-i.rows.items) c.args.values.now c.loop-i.i c.loop-i.i c.index-values-i.result c.in-Err.error c.under.result (each (reads_row c.args.columns) 0 (map json_data c.args.values.now))
    c.loop-i-test.true c.index-values-i.is c.in-Err.ensures.read c.under.ensures c.loop-i.invariant.read

pub loop-i-preserved : goal.loop-i-preserved
loop-i-preserved c =
    let front : map row_items c.push.new.self.items ≡ map row_items c.loop-i.rows.items ++ row_items c.in-Ok.row ∷ [] = rw c.in_ok-push-in-Ok.ensures.items (map_push row_items c.loop-i.rows.items c.in-Ok.row) in
    record {
      read = rw front (goes_on (reads_row c.args.columns) (map row_items c.loop-i.rows.items) c.args.values.now c.loop-i.i c.loop-i.i c.index-values-i.result (row_items c.in-Ok.row) (each (reads_row c.args.columns) 0 (map json_data c.args.values.now))
          c.loop-i-test.true c.index-values-i.is c.in-Ok.ensures.read c.loop-i.invariant.read);
      shape = rw c.in_ok-push-in-Ok.ensures.items (All-push (IsRow c.args.columns) c.loop-i.rows.items c.in-Ok.row c.loop-i.invariant.shape c.in-Ok.ensures.shape);
    }

pub returns-clause-read : goal.returns-clause-read
returns-clause-read c =
    is_done (reads_row c.args.columns) (map row_items c.loop-i.rows.items) c.args.values.now c.loop-i.i c.loop-i.i (each (reads_row c.args.columns) 0 (map json_data c.args.values.now)) c.loop-i-test.false c.loop-i.invariant.read
