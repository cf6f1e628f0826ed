-- What shows that walks arrive, written and read.
use Rattle.std.proofs.Common.{◌≡◌, List, [], ◌∷◌, map, true, None, Some, refl, Global}
use Rattle.std.specs.Prelude.{Box, Option, IfSome, option_map}
use Rattle.std.specs.List.{AllByRecursion}
use Rattle.affine_form.specs.Multipliers.{FarkasMultipliers}
use Rattle.certificate_fit.specs.Limits.{IsSmallRegion, IsSmallNode}
use Rattle.reuse_paths.specs.declared.walk.Region.{Region}
use Rattle.reuse_paths.specs.Walks.{WalkRegion, boxed_region, same, walked}
use Rattle.json_parts.specs.Fields.{object_shape}
use Rattle.json_parts.specs.Json.{has_keys}
use Rattle.json_parts.specs.Shape.{IsReadBack}
use Rattle.certificate_parts.specs.Reaches.{region_shape, same_fields, walked_fields, reads_reach, reach_shape}

-- a region that may be missing, as it is written
abbrev pub IsSmallOption : Option (Box Region Global) → Type 0
IsSmallOption one = IfSome one (λ (region : Box Region Global). IsSmallRegion (boxed_region region) × (region_shape.is_present ≡ true))

pub node_fits : (node : Option (Box Region Global)) → IsSmallNode (option_map boxed_region node) → IsSmallOption node
unfolding region_shape
node_fits None h = tt
node_fits (Some region) h = (h, refl)

pub nodes_fit : (nodes : List (Option (Box Region Global))) → AllByRecursion IsSmallNode (map (option_map boxed_region) nodes) → AllByRecursion IsSmallOption nodes
nodes_fit [] h = tt
nodes_fit (node ∷ nodes) h = (node_fits node h.0, nodes_fit nodes h.1)

pub same_read : (equal : List FarkasMultipliers) → IsReadBack (object_shape same_fields) (equal, tt) → IsReadBack reach_shape (same equal)
unfolding reads_reach has_keys
same_read equal h = rw h refl

pub walked_read : (start : List FarkasMultipliers) (nodes : List (Option WalkRegion)) → IsReadBack (object_shape walked_fields) (nodes, (start, tt)) → IsReadBack reach_shape (walked start nodes)
unfolding reads_reach has_keys
walked_read start nodes h = rw h refl
