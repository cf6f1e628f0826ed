-- A text has one value.
use Rattle.std.proofs.Common.{◌≡◌, ℕ, List, Some, sym, ◌∙◌}
use Rattle.serde_json.specs.Data.{Data}
use Rattle.json_parts.specs.Texts.{HasValue}

pub same-value : (bytes : List ℕ) (d e : Data) → HasValue bytes d → HasValue bytes e → d ≡ e
same-value bytes d e p q = one d e (sym p.reads ∙ q.reads) where
  one : (x y : Data) → Some x ≡ Some y → x ≡ y
  one x y is = cc
