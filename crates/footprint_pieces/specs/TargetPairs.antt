-- Pairs of pieces with one target, by the targets alone.
use Rattle.std.specs.Prelude.{List, [], ◌∷◌, ◌++◌, flat_map, filter, Vec}
use Rattle.std.specs.Global.{Global}
use Rattle.footprint_pieces.specs.declared.piece.Target.{Target}
use Rattle.footprint_pieces.specs.DisjointClaims.{same_target}

-- for each target of a first list those of a second that are the same
abbrev pub same_targets : List Target → List Target → List Target
same_targets first second = flat_map (λ target. filter (same_target target) second) first

-- and those of several lists
abbrev pub same_in_lists : List Target → List (List Target) → List Target
same_in_lists first lists = flat_map (same_targets first) lists

-- for each target of each list those of later lists that are the same: one for each pair of pieces that has to be shown
-- to have no vertex in common
abbrev pub pairwise_targets : List (List Target) → List Target
pairwise_targets [] = []
pairwise_targets (targets ∷ lists) = same_in_lists targets lists ++ pairwise_targets lists

-- the targets that a vector holds
abbrev pub items_of : Vec Target Global → List Target
items_of targets = targets.items
