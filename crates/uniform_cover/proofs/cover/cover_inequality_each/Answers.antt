use Rattle.std.specs.Prelude.{nat_eq}
use Rattle.std.specs.Cmp.Lexicographic.{pointwise}
use Rattle.std.specs.Ordering.{int_eq}
use Rattle.std.proofs.lemmas.Bool.Decides.{Decides-eqb, Decides-int_eq}
use Rattle.uniform_cover.proofs.ProjectionLemmas.{point_decides}
use Rattle.uniform_cover.proofs.WeightLemmas.{cover_inequality_each as powers_law, cover_bound_each as points_law}
use Rattle.uniform_cover.proofs.cover.cover_inequality_each.Goals as goal

pub returns : goal.returns
returns c = record {
  powers = powers_law nat_eq Decides-eqb int_eq Decides-int_eq (pointwise int_eq) point_decides;
  points = points_law nat_eq Decides-eqb int_eq Decides-int_eq (pointwise int_eq) point_decides;
}
