use Rattle.std.proofs.Common.{Vec, Global, sym, subst}
use Rattle.std.specs.Prelude.{Box, Option, option_map, map}
use Rattle.std.specs.List.{AllByRecursion}
use Rattle.affine_form.specs.Multipliers.{FarkasMultipliers}
use Rattle.certificate_fit.specs.Limits.{NamesRows, IsSmallReach}
use Rattle.reuse_paths.specs.declared.reach.Reach.{Reach}
use Rattle.reuse_paths.specs.declared.walk.Region.{Region}
use Rattle.reuse_paths.specs.Walks.{reach_of, boxed_region}
use Rattle.json_parts.specs.Fields.{object_shape}
use Rattle.json_parts.specs.Shape.{IsReadBack}
use Rattle.certificate_parts.specs.Reaches.{same_fields, walked_fields, reach_shape}
use Rattle.certificate_parts.proofs.ReadReaches.{IsSmallOption, nodes_fit, same_read, walked_read}
use Rattle.certificate_parts.proofs.reaches.OfReachPart.write.Goals as goal

pub write_object-requires-in-Walked-clause-fit : goal.write_object-requires-in-Walked-clause-fit
write_object-requires-in-Walked-clause-fit c =
    let small = subst (λ (reach : Reach). IsSmallReach (reach_of reach)) c.in-Walked.is c.requires in (
      subst (λ (nodes : Vec (Option (Box Region Global)) Global). AllByRecursion IsSmallOption nodes.items) (sym c.put_part-all-in-Walked.ensures.value) (nodes_fit c.in-Walked.nodes.items small.1),
      (
        subst (λ rest. AllByRecursion NamesRows rest.value.now.items) (sym c.put_part-all-in-Walked.ensures.rest)
            (subst (λ (shown : Vec FarkasMultipliers Global). AllByRecursion NamesRows shown.items) (sym c.put_part-rest.ensures.value) small.0),
        tt,
      ),
    )

pub returns-in_ok-value-in-Same-clause-read : goal.returns-in_ok-value-in-Same-clause-read
returns-in_ok-value-in-Same-clause-read c =
    subst (λ (reach : Reach). IsReadBack reach_shape (reach_of reach)) (sym c.in-Same.is)
    (same_read c.in-Same.equal.items
    (subst (λ (shown : Vec FarkasMultipliers Global). IsReadBack (object_shape same_fields) (shown.items, tt)) c.put_part-all.ensures.value c.in_ok-value-in-Same.ensures.read))

pub returns-in_ok-value-in-Walked-clause-read : goal.returns-in_ok-value-in-Walked-clause-read
returns-in_ok-value-in-Walked-clause-read c =
    let back = subst (λ rest. IsReadBack (object_shape walked_fields) (map (option_map boxed_region) c.put_part-all-in-Walked.result.value.now.items, (rest.value.now.items, tt))) c.put_part-all-in-Walked.ensures.rest c.in_ok-value-in-Walked.ensures.read in
    let back = subst (λ (nodes : Vec (Option (Box Region Global)) Global). IsReadBack (object_shape walked_fields) (map (option_map boxed_region) nodes.items, (c.put_part-rest.result.value.now.items, tt))) c.put_part-all-in-Walked.ensures.value back in
    subst (λ (reach : Reach). IsReadBack reach_shape (reach_of reach)) (sym c.in-Walked.is)
    (walked_read c.in-Walked.start.items (map (option_map boxed_region) c.in-Walked.nodes.items)
    (subst (λ (shown : Vec FarkasMultipliers Global). IsReadBack (object_shape walked_fields) (map (option_map boxed_region) c.in-Walked.nodes.items, (shown.items, tt))) c.put_part-rest.ensures.value back))
