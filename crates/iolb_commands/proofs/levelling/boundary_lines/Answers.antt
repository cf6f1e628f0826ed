use Rattle.std.proofs.Common.{ap, ℕ, List, ◌+◌, drop}
use Rattle.std.proofs.lemmas.List.{drop_more}
use Rattle.iolb_commands.specs.Values.{boundary_lines}
use Rattle.iolb_commands.proofs.Values.{line-more}
use Rattle.iolb_commands.proofs.levelling.boundary_lines.Goals as goal

pub loop-place-preserved : goal.loop-place-preserved
loop-place-preserved c =
    let values = c.args.values.now in
    let i = c.loop-place.place in
    line-more _ _ _ (boundary_lines (i + 1 + 1) (drop (i + 1) values)) _ _ c.in_ok-push_boundary.ensures
    (ap (λ (l : List ℕ). boundary_lines (i + 1) l) (drop_more values i 0 c.loop-place-test.true)) c.loop-place.invariant
