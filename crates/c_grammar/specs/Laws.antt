-- The texts that are read are those that the grammar spells within the limits.
use Rattle.std.specs.Prelude.{◌≡◌, ℕ, List, Some, Ok}
use Rattle.c_reading.specs.Text.{Reading, reading_of}
use Rattle.c_grammar.specs.Words.{words_of}
use Rattle.c_grammar.specs.Text.{Text, text_words}
use Rattle.c_grammar.specs.Meaning.{text_means}

-- what is accepted spells the grammar, and says what it means
abbrev pub AcceptedSpells : Type 0
AcceptedSpells = (bytes : List ℕ) (r : Reading) → reading_of bytes ≡ Ok r
    → (tree : Text) × (words_of bytes ≡ Some (text_words tree)) × (text_means tree ≡ Some r)

-- what spells the grammar, and means something within the limits, is accepted with that meaning
abbrev pub SpelledIsAccepted : Type 0
SpelledIsAccepted = (bytes : List ℕ) (tree : Text) (r : Reading) → words_of bytes ≡ Some (text_words tree) → text_means tree ≡ Some r
    → reading_of bytes ≡ Ok r
