use Rattle.std.proofs.Common.{◌≡◌, ◌++◌, drop, map}
use Rattle.footprint_pieces.specs.DisjointClaims.{moved}
use Rattle.footprint_pieces.proofs.shared.all_moved.Given as goal

abbrev pub invariant-loop-form : goal.invariant-loop-form
invariant-loop-form l = l.all.items ++ map (moved l.place l.more) (drop l.form-index l.forms) ≡ map (moved l.place l.more) l.forms
