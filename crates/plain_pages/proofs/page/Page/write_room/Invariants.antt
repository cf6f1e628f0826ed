use Rattle.std.proofs.Common.{◌≡◌, ◌++◌, take}
use Rattle.std.specs.List.{filter_map}
use Rattle.plain_pages.specs.Caret.{room_of}
use Rattle.plain_pages.proofs.page.Page.write_room.Given as goal

abbrev pub invariant-loop-byte : goal.invariant-loop-byte
invariant-loop-byte l = l.self ≡ l.initial.self ++ filter_map room_of (take l.byte-index l.bytes)
