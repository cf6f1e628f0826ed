-- The words that a call is made with.
use Rattle.std.proofs.Common.{◌≡◌, sym, ◌∙◌, ap, List, map, String, Global}
use Rattle.std.specs.Prelude.{Option, string_bytes}
use Rattle.command_words.specs.Requests.{Request, request_of}

-- what words ask for that are those of a call
pub words_are : {given words : List (String Global)} {request : Option Request} → given ≡ words → request_of (map (λ word. string_bytes word) given) ≡ request
    → request_of (map (λ word. string_bytes word) words) ≡ request
words_are e f = ap (λ (ws : List (String Global)). request_of (map (λ word. string_bytes word) ws)) (sym e) ∙ f
