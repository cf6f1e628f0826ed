-- Names (the C standard, ISO/IEC 9899, 6.4.2).
use Rattle.std.specs.Prelude.{◌≡◌, ℕ, ◌≤◌, Bool, true, false, List, [], ◌∷◌, length}
use Rattle.std.specs.List.{list_all}
use Rattle.iolb_model.specs.declared.limits.TheConstants.{NAME_BYTES}
use Rattle.c_tokens.specs.Bytes.{is_name_start, is_name_byte}
use Rattle.c_tokens.specs.Pieces.{is_keyword}

-- whether bytes begin as a name does
abbrev pub begins_name : List ℕ → Bool
begins_name [] = false
begins_name (b ∷ bytes) = is_name_start b

-- a word that is a name: a letter or `_`, then letters, digits and `_`, and none that C keeps for itself
pub record IsWord (bytes : List ℕ) : Type 0 where
  pub begins : begins_name bytes ≡ true
  pub name : list_all is_name_byte bytes ≡ true
  pub no_word : is_keyword bytes ≡ false

-- a name of a text, which is short
pub record IsName (name : List ℕ) : Type 0 where
  pub begins : begins_name name ≡ true
  pub bytes : list_all is_name_byte name ≡ true
  pub few : length name ≤ NAME_BYTES
  pub no_word : is_keyword name ≡ false
