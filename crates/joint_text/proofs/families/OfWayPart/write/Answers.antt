use Rattle.std.proofs.Common.{Vec, Global, sym, subst}
use Rattle.std.specs.Prelude.{Box, Option}
use Rattle.std.specs.List.{AllByRecursion}
use Rattle.reuse_paths.specs.declared.walk.Region.{Region}
use Rattle.certificate_parts.proofs.ReadReaches.{IsSmallOption, nodes_fit}
use Rattle.joint_text.proofs.families.OfWayPart.write.Goals as goal

pub write_object-requires-clause-fit : goal.write_object-requires-clause-fit
write_object-requires-clause-fit c = (
  tt,
  (
    subst (λ rest. AllByRecursion IsSmallOption rest.value.now.items) (sym c.put_part-all.ensures.rest)
        (subst (λ (regions : Vec (Option (Box Region Global)) Global). AllByRecursion IsSmallOption regions.items) (sym c.put_part-rest.ensures.value) (nodes_fit c.args.part.now.regions.items c.requires)),
    tt,
  ),
)
