use Rattle.std.proofs.Common.{◌≡◌, ◌∙◌, sym, ap, ℕ, length, false, nat_eq, refl}
use Rattle.std.specs.Prelude.{not}
use Rattle.json_parts.proofs.Failing.{fails_fault}
use Rattle.json_parts.specs.OneToMost.{has_some}
use Rattle.json_parts.proofs.Related.{many}
use Rattle.json_parts.proofs.one_to_most.OneToMostPart.read.Goals as goal

pub returns-then-is_empty : goal.returns-then-is_empty
returns-then-is_empty g c =
    let said = c.in_ok-all.ensures in
    let none : has_some said.0 ≡ false =
    ap (λ (n : ℕ). not (nat_eq n 0)) (many g.S.Part.link said.0 c.in_ok-all.all.items said.2 ∙ ap length (sym c.as_slice.ensures.value)) ∙ ap not (sym c.is_empty.ensures ∙ c.if-is_empty.true) in
    fails_fault 3 c.fault.result _ c.fault.ensures (rw (said.1, none) refl)
