use Rattle.std.proofs.Common.{map, subst}
use Rattle.std.specs.Prelude.{option_map}
use Rattle.base_laws.proofs.Lists.{All-every}
use Rattle.reuse_paths.specs.Families.{boxed_forms, boxed_node, family_of}
use Rattle.reuse_paths.specs.Walks.{tree_of_walk}
use Rattle.json_parts.specs.Fields.{object_shape}
use Rattle.json_parts.specs.Shape.{IsReadBack}
use Rattle.certificate_parts.specs.Families.{family_fields}
use Rattle.certificate_parts.proofs.ReadRecords.{family_read, labels_fit, family_nodes_fit}
use Rattle.certificate_parts.proofs.families.OfFamilyPart.write.Goals as goal

pub write_object-requires-clause-fit : goal.write_object-requires-clause-fit
write_object-requires-clause-fit c =
    let small = c.requires in
    rw (
      c.put_part-all.ensures.value,
      c.put_part-all.ensures.rest,
      c.put_part-rest-2.ensures.value,
      c.put_part-rest-2.ensures.rest,
      c.put_part-rest.ensures.value,
      c.put_part-rest.ensures.rest,
      c.put_list-rest.ensures.values,
      c.put_list-rest.ensures.rest,
      c.put_part.ensures.value,
      c.as_slice.ensures.value,
      c.coords.ensures,
    ) (
      labels_fit c.args.part.now.inputs.items small.inputs,
      (
        family_nodes_fit c.args.part.now.nodes.items small.nodes,
        ((small.some_scale, small.scale), (All-every (λ n. Unit {0}) (λ n. tt) c.args.part.now.set, ((small.start_label, small.start), ((small.some_weight, small.weight), tt)))),
      ),
    )

pub returns-clause-read : goal.returns-clause-read
returns-clause-read c =
    let inputs = map (option_map boxed_forms) c.put_part-all.result.value.now.items in
    let nodes = map (option_map boxed_node) c.put_part-rest-2.result.value.now.items in
    family_read (family_of c.args.part.now)
    (rw (
      ← c.put_part-all.ensures.value,
      ← c.put_part-rest-2.ensures.value,
      ← c.put_part-rest.ensures.value,
      ← c.coords.ensures,
      ← c.put_list-rest.ensures.values,
      ← c.as_slice.ensures.value,
      ← c.put_part.ensures.value,
    ) (subst (λ start. IsReadBack (object_shape family_fields) (inputs, (nodes, (c.put_part-rest.result.value.now, (c.put_list-rest.result.values.now, ((start.label.now, tree_of_walk start.tree.now), (start.rest.value.now, tt)))))))
    c.put_list-rest.ensures.rest
    (rw (← c.put_part-rest.ensures.rest, ← c.put_part-rest-2.ensures.rest, ← c.put_part-all.ensures.rest) c.in_ok-value.ensures.read)))
