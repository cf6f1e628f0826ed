use Rattle.std.proofs.Common.{◌≡◌, ◌≤◌, ◌+◌, drop}
use Rattle.plain_pages.specs.Position.{column_behind, line_behind}
use Rattle.plain_pages.proofs.position.position_behind.Given as goal

abbrev pub invariant-loop-byte : goal.invariant-loop-byte
invariant-loop-byte l = (l.line ≤ l.byte-index + 1) × (l.column ≤ l.byte-index + 1)
    × (line_behind (drop l.byte-index l.before) l.line ≡ line_behind l.before 1)
    × (column_behind (drop l.byte-index l.before) l.column ≡ column_behind l.before 1)
