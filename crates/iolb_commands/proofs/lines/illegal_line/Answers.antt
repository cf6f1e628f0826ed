use Rattle.std.proofs.Common.{refl, ◌∙◌, ap, ℕ, append_assoc, ◌++◌}
use Rattle.std.specs.Prelude.{codes, decimal}
use Rattle.iolb_commands.proofs.lines.illegal_line.Goals as goal

pub returns : goal.returns
returns c =
    c.in_ok-from_slice.ensures.items ∙ c.as_bytes.ensures.value ∙ c.in_ok-text.ensures.ok
    ∙ ap (λ (n : ℕ). codes "illegal move " ++ (decimal n ++ (codes " at line " ++ (decimal c.args.line ++ codes "\n")))) c.number-number.ensures ∙ simp append_assoc refl
