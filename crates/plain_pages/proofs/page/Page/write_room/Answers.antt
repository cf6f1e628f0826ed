use Rattle.plain_pages.specs.Caret.{room_of}
use Rattle.plain_pages.proofs.Lines.{filter_map-take_more}
use Rattle.plain_pages.proofs.page.Page.write_room.Goals as goal

pub loop-byte-preserved : goal.loop-byte-preserved
loop-byte-preserved c =
    filter_map-take_more room_of c.args.bytes.now c.args.self.now c.loop-byte.self c.put.new.self c.loop-byte.byte-index c.room_byte.result
    c.loop-byte-test.true c.loop-byte.invariant c.room_byte.ensures c.in_ok-put.ensures
