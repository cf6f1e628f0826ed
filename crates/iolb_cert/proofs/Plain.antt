-- How deep the values nest that are written, and that they have no floats.
use Rattle.std.proofs.Common.{List, [], ◌∷◌, map, Vec, Global, refl, arith}
use Rattle.std.specs.List.{AllByRecursion}
use Rattle.dep_quast.specs.Tree.{tree_of}
use Rattle.dep_quast.specs.declared.quast.Quast.{Quast}
use Rattle.certificate_fit.specs.Limits.{IsSmallTree}
use Rattle.iolb_check.specs.Limits.{CertificateParts}
use Rattle.dep_quast.specs.Quasts.{row_trees}
use Rattle.certificate_parts.specs.Families.{families_shape}
use Rattle.certificate_parts.specs.Leaves.{leaf_data}
use Rattle.certificate_parts.specs.Polynomials.{polynomial_data}
use Rattle.certificate_parts.specs.Trees.{trees_shape}
use Rattle.certificate_parts.proofs.Plain.{IsPlain, more, plain-all, plain-inverse, plain-list, plain-map, plain-none, plain-member, plain-object, plain-one, plain-natural, plain-forms, plain-all_multipliers, plain-matrix, plain-nest, plain-polynomial, plain-leaf, plain-trees}
use Rattle.certificate_parts.proofs.PlainFamilies.{plain-families, plain-credits}
use Rattle.certificate_parts.proofs.PlainWalks.{plain-reach, plain-way, plain-spot, plain-source}
use Rattle.certificate_parts.proofs.ReadTrees.{quasts_small}
use Rattle.iolb_cert.specs.Certificates.{certificate_shape, certificate_data}
use Rattle.iolb_cert.specs.ColdTexts.{cold_shape}
use Rattle.iolb_cert.specs.FrontTexts.{front_shape}
use Rattle.iolb_cert.specs.PartitionTexts.{members_shape, partition_shape}
use Rattle.iolb_cert.specs.Read.{WrittenCold, WrittenPartition, WrittenFront, WrittenTerm, as_cold, as_partition, as_front, as_joint, WrittenBranch}
use Rattle.joint_text.proofs.Plain.{plain-joint}
use Rattle.iolb_cert.specs.Terms.{term_shape, branch_shape}
use Rattle.iolb_cert.specs.Written.{written_branch, written_of}
use Rattle.iolb_cert.proofs.Limits.{small-way}

plain-cold : (cold : WrittenCold) → IsPlain 5 (cold_shape.data_of cold)
unfolding cold_shape
plain-cold cold =
    plain-object 4 _ (plain-member 2 4 _ _ _ (omega arith) (plain-all_multipliers cold.claim.inside)
    (plain-member 3 4 _ _ _ (omega arith) (plain-inverse (cold.claim.matrix, cold.claim.scale))
    (plain-member 4 4 _ _ _ (omega arith) (plain-map 3 leaf_data cold.claim.leaves plain-leaf)
    (plain-member 3 4 _ _ _ (omega arith) (plain-nest cold.claim.nest)
    (plain-member 2 4 _ _ _ (omega arith) (plain-forms cold.claim.point)
    (plain-member 0 4 _ _ _ (omega arith) (plain-natural cold.claim.read)
    (plain-member 2 4 _ _ _ (omega arith) (plain-all_multipliers cold.claim.shown)
    (plain-member 0 4 _ _ _ (omega arith) (plain-natural cold.claim.statement)
    (plain-member 4 4 _ _ _ (omega arith) (plain-map 3 polynomial_data cold.sums plain-polynomial) (plain-none 4))))))))))

plain-front : (front : WrittenFront) → front_shape.IsWithin front → IsPlain 25 (front_shape.data_of front)
unfolding front_shape
plain-front front small =
    plain-object 24 _ (plain-member 24 24 _ _ _ (omega arith) (plain-reach front.claim.back small.0)
    (plain-member 4 24 _ _ _ (omega arith) (plain-map 3 leaf_data front.claim.edge plain-leaf)
    (plain-member 2 24 _ _ _ (omega arith) (plain-all_multipliers front.claim.inside)
    (plain-member 3 24 _ _ _ (omega arith) (plain-inverse (front.claim.matrix, front.claim.scale))
    (plain-member 3 24 _ _ _ (omega arith) (plain-nest front.claim.nest)
    (plain-member 0 24 _ _ _ (omega arith) (plain-natural front.claim.outer)
    (plain-member 4 24 _ _ _ (omega arith) (plain-map 3 polynomial_data front.outer_sums plain-polynomial)
    (plain-member 24 24 _ _ _ (omega arith) (plain-way front.claim.reach (small-way front.claim.reach small.1.1.1.1.1.1.1.0))
    (plain-member 0 24 _ _ _ (omega arith) (plain-natural front.claim.read)
    (plain-member 2 24 _ _ _ (omega arith) (plain-all_multipliers front.claim.shown)
    (plain-member 3 24 _ _ _ (omega arith) (plain-source front.claim.source)
    (plain-member 4 24 _ _ _ (omega arith) (plain-map 3 polynomial_data front.sums plain-polynomial)
    (plain-member 3 24 _ _ _ (omega arith) (plain-spot front.claim.user)
    (plain-member 3 24 _ _ _ (omega arith) (plain-spot front.claim.vertex) (plain-none 24)))))))))))))))

plain-partition : (partition : WrittenPartition) → partition_shape.IsWithin partition → IsPlain 27 (partition_shape.data_of partition)
unfolding partition_shape members_shape families_shape
plain-partition partition small =
    plain-object 26 _ (plain-member 0 26 _ _ _ (omega arith) (plain-natural partition.claim.a)
    (plain-member 2 26 _ _ _ (omega arith) (plain-all_multipliers partition.claim.apart)
    (plain-member 0 26 _ _ _ (omega arith) (plain-natural partition.claim.b)
    (plain-member 6 26 _ _ _ (omega arith) (plain-credits partition.credits)
    (plain-member 26 26 _ _ _ (omega arith) (plain-families partition.claim.families small.0.1.1.1.1.0.all)
    (plain-member 2 26 _ _ _ (omega arith) (plain-all_multipliers partition.claim.inside)
    (plain-member 2 26 _ _ _ (omega arith) (plain-matrix partition.claim.inverse)
    (plain-member 2 26 _ _ _ (omega arith) (plain-matrix partition.claim.matrix)
    (plain-member 3 26 _ _ _ (omega arith) (plain-nest partition.claim.nest)
    (plain-member 0 26 _ _ _ (omega arith) (plain-natural partition.claim.q)
    (plain-member 0 26 _ _ _ (omega arith) (record { deep = omega arith; exact = refl })
    (plain-member 2 26 _ _ _ (omega arith) (plain-all_multipliers partition.claim.shown)
    (plain-member 0 26 _ _ _ (omega arith) (plain-natural partition.claim.statement)
    (plain-member 4 26 _ _ _ (omega arith) (plain-map 3 polynomial_data partition.sums plain-polynomial) (plain-none 26)))))))))))))))

plain-term : (term : WrittenTerm) → term_shape.IsWithin term → IsPlain 29 (term_shape.data_of term)
plain-term (as_cold cold) small = more 6 29 (term_shape.data_of (as_cold cold)) (omega arith) (plain-one 5 _ _ (plain-cold cold))
plain-term (as_partition partition) small = more 28 29 (term_shape.data_of (as_partition partition)) (omega arith) (plain-one 27 _ _ (plain-partition partition small))
plain-term (as_front front) small = more 26 29 (term_shape.data_of (as_front front)) (omega arith) (plain-one 25 _ _ (plain-front front small))
plain-term (as_joint joint) small = plain-one 28 _ _ (plain-joint joint small)

pub plain-branch : (branch : WrittenBranch) → branch_shape.IsWithin branch → IsPlain 31 (branch_shape.data_of branch)
unfolding branch_shape
plain-branch branch small =
    plain-object 30 _ (plain-member 2 30 _ _ _ (omega arith) (plain-all_multipliers branch.disjoint)
    (plain-member 30 30 _ _ _ (omega arith) (plain-list 29 (map term_shape.data_of branch.terms) (plain-all 29 term_shape plain-term branch.terms small.1.0.0)) (plain-none 30)))

plain-rows : (rows : List (Vec Quast Global)) → AllByRecursion (λ (row : Vec Quast Global). AllByRecursion (λ (quast : Quast). IsSmallTree (tree_of quast)) row.items) rows
    → AllByRecursion (IsPlain 20) (map trees_shape.data_of (map row_trees rows))
plain-rows [] h = tt
plain-rows (row ∷ rows) h = (plain-trees row.items h.0, plain-rows rows h.1)

pub plain : (parts : CertificateParts) → certificate_shape.IsWithin (written_of parts) → IsPlain 33 (certificate_data (written_of parts))
unfolding certificate_shape
plain parts small =
    let branches = map written_branch parts.branches in
    plain-object 32 _ (plain-member 32 32 _ _ _ (omega arith) (plain-list 31 (map branch_shape.data_of branches) (plain-all 31 branch_shape plain-branch branches small.0.0))
    (plain-member 21 32 _ _ _ (omega arith) (plain-list 20 (map trees_shape.data_of (map row_trees parts.quasts.rows.items)) (plain-rows parts.quasts.rows.items (quasts_small (map row_trees parts.quasts.rows.items) parts.quasts refl small.1.0)))
    (plain-member 0 32 _ _ _ (omega arith) (plain-natural 1) (plain-none 32))))
