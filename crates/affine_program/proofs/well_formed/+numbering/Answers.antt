use Rattle.std.proofs.Common.{◌≡◌, sym, ◌∙◌, ap, ℕ, ◌+◌, ◌<◌, List, ◌++◌, length, get_or, drop}
use Rattle.std.proofs.lemmas.List.{append_assoc}
use Rattle.base_laws.proofs.Lists.{rest_at}
use Rattle.iolb_model.specs.Program.{item_statements, row_statements}
use Rattle.affine_program.specs.declared.item.Item.{Item}
use Rattle.affine_program.specs.Tree.{item_of, row_of}
use Rattle.affine_program.proofs.well_formed.+numbering.Goals as goal

-- the numbers of one item more
numbers-more : (items : List Item) (i : ℕ) (item : Item) (old new whole : List ℕ) → i < length items → item ≡ get_or items i item → new ≡ old ++ item_statements (item_of item)
    → old ++ row_statements (row_of (drop i items)) ≡ whole → new ++ row_statements (row_of (drop (i + 1) items)) ≡ whole
numbers-more items i item old new whole below read is h =
    let rest : List ℕ = row_statements (row_of (drop (i + 1) items)) in
    ap (λ (ns : List ℕ). ns ++ rest) is ∙ append_assoc old (item_statements (item_of item)) rest ∙ ap (λ (xs : List Item). old ++ row_statements (row_of xs)) (sym (rest_at items i item below read)) ∙ h

pub push_numbers-loop-item-preserved : goal.push_numbers-loop-item-preserved
push_numbers-loop-item-preserved t c =
    numbers-more c.args.items.now c.loop-item.item-index c.item-item.result c.loop-item.numbers.items c.push_item_numbers.new.numbers.items
    (c.args.numbers.now.items ++ row_statements (row_of c.args.items.now)) c.loop-item-test.true c.item-item.is c.in_ok-push_item_numbers.ensures c.loop-item.invariant
