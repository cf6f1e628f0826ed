use Rattle.std.proofs.Common.{ap, length, arith}
use Rattle.affine_form.specs.Rows.{put_in}
use Rattle.joint_partition.proofs.RowCounts.{equalities-few}
use Rattle.joint_partition.proofs.distinct_shown.image_rows.Goals as goal

pub returns-clause-many : goal.returns-clause-many
returns-clause-many c =
    omega (
      arith,
      ap length c.as_slice-image.ensures.value,
      equalities-few c.two_variables-vars.result c.as_slice.result.now c.as_slice-image.result.now (put_in c.as_slice-2.result.now c.as_slice-others.result.now) c.in_ok-rows.rows.items c.in_ok-rows.ensures.rows,
    )
