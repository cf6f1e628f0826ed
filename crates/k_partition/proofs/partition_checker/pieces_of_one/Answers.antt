use Rattle.std.proofs.Common.{subst, []}
use Rattle.affine_program.specs.Parts.{meaning}
use Rattle.claims.specs.Claims.{IsRefusal}
use Rattle.claims.specs.declared.refused.Refused.{Refused}
use Rattle.claims.proofs.Laws.{accepted-stand}
use Rattle.reuse_paths.specs.Families.{family_of}
use Rattle.reuse_paths.specs.FewContexts.{few_contexts}
use Rattle.dep_quast.specs.Quasts.{trees_of}
use Rattle.k_partition.proofs.partition_checker.pieces_of_one.Goals as goal

pub unreachable-requires : goal.unreachable-requires
unreachable-requires c =
    let claims = few_contexts (meaning c.args.program.now) (trees_of c.args.quasts.now) c.args.statement c.args.nest.now (family_of c.args.family.now) [] in
    accepted-stand claims c.in-Err-Failed.field-0-0 c.requires.few (subst (λ (r : Refused). IsRefusal claims r) c.in-Err-Failed.field-0-is c.in-Err-Failed.ensures.refused)
