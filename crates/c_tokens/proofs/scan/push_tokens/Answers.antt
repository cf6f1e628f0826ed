use Rattle.std.proofs.Common.{ap, sym, ◌∙◌, arith, length-drop, length, ◌+◌, ◌++◌}
use Rattle.c_tokens.specs.Tokens.{tokens_in}
use Rattle.c_tokens.proofs.Scanned.{kept, piece_length-within}
use Rattle.c_tokens.proofs.scan.push_tokens.Goals as goal

-- a piece's token is added, and its bytes are passed
pub loop-rest-preserved : goal.loop-rest-preserved
loop-rest-preserved c =
    let length_is = sym c.piece_length.ensures ∙ c.in-Some.is in
    let bounds = piece_length-within c.first_piece-piece.result (length c.loop-rest.rest.now) c.in-Some.length c.first_piece-piece.ensures.within length_is in
    record {
      ahead = omega (arith, ap length c.behind-rest.ensures ∙ length-drop c.in-Some.length c.loop-rest.rest.now, bounds.0, bounds.1);
      same = ap (λ bytes. c.push_piece.new.tokens.items ++ tokens_in c.args.region 0 (c.loop-rest.place + c.in-Some.length) bytes) c.behind-rest.ensures
          ∙ kept c.args.region c.loop-rest.place c.in-Some.length c.loop-rest.tokens.items c.push_piece.new.tokens.items _ c.loop-rest.rest.now c.first_piece-piece.result c.first_piece-piece.ensures.piece c.first_piece-piece.ensures.within length_is c.in_ok-push_piece.ensures c.loop-rest.invariant.same;
    }
