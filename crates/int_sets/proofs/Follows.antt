-- What short lists show.
use Rattle.std.proofs.Common.{ℕ, ◌≤◌, subst, sym, lit≤}
use Rattle.iolb_model.specs.Form.{AffineForm}
use Rattle.affine_form.specs.Multipliers.{FarkasMultipliers}
use Rattle.affine_form.specs.Shown.{Follows, Shows}
use Rattle.affine_form.specs.System.{AffineSystem}
use Rattle.affine_form.proofs.ShownLemmas.{Shows-follows}
use Rattle.int_sets.specs.ShortList.{IsShort}

-- a short list has scale 1, so the goal follows
pub short-follows : (system : AffineSystem) (goal : AffineForm) (shown : FarkasMultipliers) → IsShort shown → Shows system goal shown → Follows system goal
short-follows system goal shown short shows = Shows-follows system goal shown (subst (λ (n : ℕ). 1 ≤ n) (sym short.scale) (lit≤ tt)) shows
