use Rattle.std.proofs.Common.{sym}
use Rattle.json_values.specs.View.{json_data}
use Rattle.iolb_cert.specs.Read.{as_cold, as_partition, as_front, as_joint}
use Rattle.iolb_cert.proofs.ReadTerms.{cold_told, partition_told, front_told, joint_told}
use Rattle.iolb_cert.proofs.terms.OfTermPart.read.Goals as goal

pub returns-then-has_keys : goal.returns-then-has_keys
returns-then-has_keys c = let said = c.in_ok-cold.ensures in (as_cold said.0.0, cold_told (json_data c.args.value.now) said.0 (sym c.if-has_keys.ensures) said.1, said.2.0)

pub returns-then-has_keys-2 : goal.returns-then-has_keys-2
returns-then-has_keys-2 c = let said = c.in_ok-partition.ensures in (as_partition said.0.0, partition_told (json_data c.args.value.now) said.0 (sym c.if-has_keys.ensures) (sym c.if-has_keys-2.ensures) said.1, said.2.0)

pub returns-then-has_keys-3 : goal.returns-then-has_keys-3
returns-then-has_keys-3 c =
    let said = c.in_ok-front.ensures in (as_front said.0.0, front_told (json_data c.args.value.now) said.0 (sym c.if-has_keys.ensures) (sym c.if-has_keys-2.ensures) (sym c.if-has_keys-3.ensures) said.1, said.2.0)

pub returns-then-has_keys-4 : goal.returns-then-has_keys-4
returns-then-has_keys-4 c =
    let said = c.in_ok-joint.ensures in (as_joint said.0.0, joint_told (json_data c.args.value.now) said.0 (sym c.if-has_keys.ensures) (sym c.if-has_keys-2.ensures) (sym c.if-has_keys-3.ensures) (sym c.if-has_keys-4.ensures) said.1, said.2.0)
