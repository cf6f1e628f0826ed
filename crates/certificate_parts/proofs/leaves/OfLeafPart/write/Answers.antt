use Rattle.std.proofs.Common.{sym, subst}
use Rattle.reuse_paths.specs.declared.leaf.Leaf.{Leaf}
use Rattle.reuse_paths.specs.LeafClaims.{claim_of}
use Rattle.json_parts.specs.Shape.{IsReadBack}
use Rattle.certificate_parts.specs.Leaves.{leaf_shape}
use Rattle.certificate_parts.proofs.ReadTrees.{credit_read}
use Rattle.certificate_parts.proofs.leaves.OfLeafPart.write.Goals as goal

pub returns-in_ok-value-in-Credit-clause-read : goal.returns-in_ok-value-in-Credit-clause-read
returns-in_ok-value-in-Credit-clause-read c =
    subst (λ (leaf : Leaf). IsReadBack leaf_shape (claim_of leaf)) (sym c.in-Credit.is)
    (credit_read c.in-Credit.credit c.in-Credit.rows.items c.in-Credit.label.items
    (rw (
      ← c.put_part-all-in-Credit.ensures.value,
      ← c.put_part-rest-in-Credit.ensures.value,
      ← c.put_part-rest.ensures.value,
      ← c.put_part-rest-in-Credit.ensures.rest,
      ← c.put_part-all-in-Credit.ensures.rest,
    ) c.in_ok-value-in-Credit.ensures.read))
