use Rattle.plain_pages.specs.Caret.{printable}
use Rattle.plain_pages.proofs.Lines.{filter_map-take_more}
use Rattle.plain_pages.proofs.page.Page.write_source.Goals as goal

pub loop-byte-preserved : goal.loop-byte-preserved
loop-byte-preserved c =
    filter_map-take_more printable c.args.bytes.now c.args.self.now c.loop-byte.self c.put.new.self c.loop-byte.byte-index c.printable_byte.result
    c.loop-byte-test.true c.loop-byte.invariant c.printable_byte.ensures c.in_ok-put.ensures
