use Rattle.std.proofs.Common.{◌*◌, ◌≤◌, ℕ, subst, sym}
use Rattle.std.specs.Prelude.{sum}
use Rattle.cover_lp.proofs.Duality.{dual}
use Rattle.projective.proofs.law.least_covers_have_least_exponents.Goals as goal

pub returns : goal.returns
returns c sets d q weights packing least other others some covers =
    subst (λ (total : ℕ). total * other ≤ q * sum others) (sym least.is_pair.equal) (dual sets d other q others packing covers least.is_pair.packs)
