use Rattle.std.proofs.Common.{◌≡◌, ◌++◌, take}
use Rattle.std.specs.List.{filter_map}
use Rattle.plain_pages.specs.Caret.{printable}
use Rattle.plain_pages.proofs.page.Page.write_source.Given as goal

abbrev pub invariant-loop-byte : goal.invariant-loop-byte
invariant-loop-byte l = l.self ≡ l.initial.self ++ filter_map printable (take l.byte-index l.bytes)
