use Rattle.std.proofs.Common.{◌≡◌, drop, map}
use Rattle.std.specs.Prelude.{string_bytes}
use Rattle.std.specs.List.{list_any}
use Rattle.command_words.specs.Requests.{begins_with_dash}
use Rattle.command_words.proofs.command.has_option.Given as goal

abbrev pub invariant-loop-word : goal.invariant-loop-word
invariant-loop-word l = list_any begins_with_dash (map (λ word. string_bytes word) (drop l.word-index l.words)) ≡ list_any begins_with_dash (map (λ word. string_bytes word) l.words)
