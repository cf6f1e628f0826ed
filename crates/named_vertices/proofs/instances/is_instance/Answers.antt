use Rattle.std.proofs.Common.{◌≡◌, ◌∙◌, sym, ap, List, length, drop, take, ◌-◌, arith, length-drop}
use Rattle.std.specs.Prelude.{ℤ}
use Rattle.std.proofs.lemmas.Bool.Decides.{Decides-int_eq}
use Rattle.std.proofs.lemmas.List.{take_all}
use Rattle.std.proofs.lemmas.Slice.Eq.{slice_eq-Decides}
use Rattle.named_vertices.proofs.instances.is_instance.Goals as goal

pub returns-then-run-statement-clause-loops : goal.returns-then-run-statement-clause-loops
returns-then-run-statement-clause-loops c =
    let point : List ℤ = c.as_slice.result.now in
    let same = slice_eq-Decides Decides-int_eq c.in-Some.found.now c.args.loops.now c.eq.result c.eq.ensures in
    let whole : take (length point - c.args.params) (drop c.args.params point) ≡ drop c.args.params point = take_all (length point - c.args.params) (drop c.args.params point) (omega (arith, length-drop c.args.params point)) in
    λ yes. sym (c.in-Some.ensures.lookup.0.2 ∙ whole ∙ ap (drop c.args.params) c.as_slice.ensures.value) ∙ same.0 yes
