-- The queue of vertices that wait, each with what is left of the order from its next use on.
use Rattle.std.specs.Prelude.{◌≡◌, ℕ, suc, nat_eq, Bool, true, false, ◌&&◌, cond, List, [], ◌∷◌, map, Option, Some, None, slice_index_or}
use Rattle.std.specs.List.{list_any}
use Rattle.std.specs.BTreeMap.{is_at}
use Rattle.std.specs.BinaryHeap.{IsHeap}
use Rattle.std.specs.Ordering.{nat_cmp, ordering_then}
use Rattle.std.specs.declared.cmp.Ordering.{Ordering}
use Rattle.std.specs.declared.cmp.Reverse.{Reverse}

-- the order of keys: by how many instances stand from the next use on, then by the vertex
abbrev pub pair_cmp : ℕ × ℕ → ℕ × ℕ → Ordering
pair_cmp x y = ordering_then (nat_cmp x.0 y.0) (nat_cmp x.1 y.1)

-- the keys of the vertices that wait
pub record Waiting : Type 0 where
  pub keys : List (ℕ × ℕ)

-- whether a mark is this number
abbrev pub has : Option ℕ → ℕ → Bool
has None left = false
has (Some mark) left = nat_eq mark left

-- whether a vertex waits with this, by the marks of the vertices
abbrev pub waits_with : List (Option ℕ) → ℕ × ℕ → Bool
waits_with marks key = has (slice_index_or marks key.1 None) key.0

-- the same key of the next vertex
abbrev pub next_vertex : ℕ × ℕ → ℕ × ℕ
next_vertex key = (key.0, suc key.1)

-- the keys of those that wait, by the marks of the vertices
abbrev pub keys_of : List (Option ℕ) → List (ℕ × ℕ)
keys_of [] = []
keys_of (None ∷ marks) = map next_vertex (keys_of marks)
keys_of (Some left ∷ marks) = (left, 0) ∷ map next_vertex (keys_of marks)

-- keys by how late they go
abbrev pub earlier : Reverse (ℕ × ℕ) → Reverse (ℕ × ℕ) → Ordering
earlier x y = pair_cmp y.0 x.0

abbrev pub is_key : ℕ × ℕ → Reverse (ℕ × ℕ) → Bool
is_key key entry = nat_eq key.0 entry.0.0 && nat_eq key.1 entry.0.1

-- the heap has the keys of all vertices that wait, and maybe others
pub record IsCovered (marks : List (Option ℕ)) (heap : List (Reverse (ℕ × ℕ))) : Type 0 where
  pub ordered : IsHeap earlier heap
  pub covers : (key : ℕ × ℕ) → waits_with marks key ≡ true → list_any (is_key key) heap ≡ true

-- a key was put into some keys (true) or taken out of them (false), and nothing else changed
abbrev pub IsSwitched : List (ℕ × ℕ) → List (ℕ × ℕ) → ℕ × ℕ → Bool → Type 0
IsSwitched keys new k b = (q : ℕ × ℕ) → list_any (is_at (pair_cmp q)) new ≡ cond (is_at (pair_cmp k) q) b (list_any (is_at (pair_cmp q)) keys)
