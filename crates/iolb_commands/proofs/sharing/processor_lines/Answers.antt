use Rattle.std.proofs.Common.{refl, ◌∙◌, append_assoc}
use Rattle.iolb_commands.proofs.sharing.processor_lines.Goals as goal

pub returns : goal.returns
returns c = c.in_ok-from_slice.ensures.items ∙ c.as_bytes.ensures.value ∙ c.in_ok-text.ensures.ok ∙ simp append_assoc refl
