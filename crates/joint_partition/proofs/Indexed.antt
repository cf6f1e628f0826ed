-- A member of a list that the code holds, by its number.
use Rattle.std.proofs.Common.{◌≡◌, ◌∙◌, ℕ, ◌<◌, List, length, map, get_or}
use Rattle.std.specs.Prelude.{slice_index_or}
use Rattle.std.proofs.lemmas.List.{get_or_default}
use Rattle.k_partition.proofs.Members.{member-of}

pub indexed : {X Y : Type 0} (f : X → Y) (held xs : List X) (i : ℕ) (x : X) (d : Y) → held ≡ xs → i < length held → x ≡ get_or held i x → f x ≡ slice_index_or (map f xs) i d
indexed f held xs i x d same below is =
    let found = member-of f held xs i x same below is in found.1 ∙ get_or_default (map f xs) i (f x) d found.0
