use Rattle.std.proofs.Common.{◌≤◌, ap, length, arith, length-append}
use Rattle.std.specs.Prelude.{decimal}
use Rattle.std.proofs.lemmas.Fmt.{length-decimal-le}
use Rattle.affine_c.proofs.matrix_products.matrix_name.Goals as goal

pub new-requires-clause-few : goal.new-requires-clause-few
new-requires-clause-few c =
    let few : length (decimal c.args.product) ≤ 20 = length-decimal-le 20 c.args.product (omega arith) (omega arith) (omega arith) in
    omega (
      arith,
      ap length c.in_ok-extend_from_slice.ensures.items,
      length-append c.in_ok-name.name.items c.as_bytes.result.now,
      ap length c.in_ok-name.ensures.items,
      ap length c.as_bytes.ensures.value,
      ap length c.in_ok-number.ensures.ok,
      c.requires,
      few,
    )
