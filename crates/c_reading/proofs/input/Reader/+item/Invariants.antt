use Rattle.std.proofs.Common.{◌≡◌, ◌+◌, ◌*◌}
use Rattle.c_reading.specs.Items.{item, block_items, all_block_items}
use Rattle.c_reading.proofs.Turns.{by_turns}
use Rattle.c_reading.proofs.input.Reader.+item.Given as goal

-- the loops, the rows of guards and the brackets that may still be opened, then how far down the grammar the rule stands
abbrev pub decreases-block : goal.decreases-block
decreases-block l = 4 * (l.loops + l.room + l.brackets)

abbrev pub decreases-block_items : goal.decreases-block_items
decreases-block_items l = 4 * (l.loops + l.room + l.brackets) + 3

abbrev pub decreases-for_loop : goal.decreases-for_loop
decreases-for_loop l = 4 * (l.loops + l.room + l.brackets)

abbrev pub decreases-guard : goal.decreases-guard
decreases-guard l = 4 * (l.loops + l.room + l.brackets)

abbrev pub decreases-item : goal.decreases-item
decreases-item l = 4 * (l.loops + l.room + l.brackets) + 2

abbrev pub invariant-block_items-loop-turn : goal.invariant-block_items-loop-turn
invariant-block_items-loop-turn l = all_block_items (item l.loops l.room l.brackets) l.fn.items l.fn.self ≡ by_turns (λ turns. block_items (item l.loops l.room l.brackets) turns l.items l.self) l._turn-end l._turn
