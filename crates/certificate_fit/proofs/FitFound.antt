-- What is claimed of each member of a list, by what a function gives of it, member by member.
use Rattle.std.proofs.Common.{◌≡◌, sym, ◌∙◌, ap, subst, ℕ, ◌+◌, ◌<◌, List, [], ◌++◌, length, map, get_or, drop}
use Rattle.std.specs.Prelude.{Result}
use Rattle.base_laws.proofs.Lists.{rest_at, add-one}
use Rattle.claims.specs.declared.refused.Refused.{Refused}
use Rattle.claims.specs.Claims.{Claim, AllHold, Decides, IsRefusal, numbered}
use Rattle.claims.proofs.Found.{refused-first, decides-later}

module _ {X Y : Type 0} (f : X → Y) (each : ℕ → Y → List Claim) (xs : List X) (i : ℕ) (x : X) (below : i < length xs) (is : x ≡ get_or xs i x) where
  -- the claims from an index on: those of the member there, and those from the next index on
  pub mapped-from : numbered each i (map f (drop i xs)) ≡ each i (f x) ++ numbered each (i + 1) (map f (drop (i + 1) xs))
  mapped-from =
      ap (λ (ys : List X). numbered each i (map f ys)) (rest_at xs i x below is)
      ∙ ap (λ (n : ℕ). each i (f x) ++ numbered each n (map f (drop (i + 1) xs))) (add-one i)

  -- the member there doesn't fit
  pub mapped-stop : (r : Refused) → IsRefusal (each i (f x)) r → IsRefusal (numbered each i (map f (drop i xs))) r
  mapped-stop r m =
      subst (λ (claims : List Claim). IsRefusal claims r) (sym mapped-from) (refused-first (each i (f x)) (numbered each (i + 1) (map f (drop (i + 1) xs))) r m)

  -- it fits
  pub mapped-next : (answer : Result (Unit {0}) Refused) → AllHold (each i (f x)) → Decides (numbered each (i + 1) (map f (drop (i + 1) xs))) answer → Decides (numbered each i (map f (drop i xs))) answer
  mapped-next answer h k =
      subst (λ (claims : List Claim). Decides claims answer) (sym mapped-from) (decides-later (each i (f x)) (numbered each (i + 1) (map f (drop (i + 1) xs))) answer h k)

-- no member is left
pub mapped-ended : {X Y : Type 0} (f : X → Y) (each : ℕ → Y → List Claim) (xs : List X) (i : ℕ) → drop i xs ≡ [] → AllHold (numbered each i (map f (drop i xs)))
mapped-ended {X = X} f each xs i e = subst (λ (rest : List X). AllHold (numbered each i (map f rest))) (sym e) tt
