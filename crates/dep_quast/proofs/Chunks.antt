-- Claims on the systems of levels and writers, which stand one after another in a list, part by part.
use Rattle.std.proofs.Common.{◌≡◌, sym, ◌∙◌, ap, subst, ℕ, zero, suc, ◌+◌, ◌-◌, ◌*◌, ◌<◌, ◌≤◌, List, [], ◌∷◌, ◌++◌, length, map, get_or, drop, arith}
use Rattle.std.specs.Prelude.{Result, Ok, Err, flat_map}
use Rattle.std.specs.List.{range_with_len}
use Rattle.std.proofs.lemmas.List.{drop_more, drop_all, length-append}
use Rattle.std.proofs.lemmas.List.FromFn.{length-map-range_with_len}
use Rattle.iolb_model.specs.Form.{AffineForm}
use Rattle.affine_form.proofs.Steps.{below-more}
use Rattle.claims.specs.declared.place.Step.{Step}
use Rattle.claims.specs.declared.place.Step.TheVariants.{Index}
use Rattle.claims.specs.declared.refused.Refused.{Refused}
use Rattle.affine_form.specs.Multipliers.{FarkasMultipliers}
use Rattle.affine_form.specs.System.{AffineSystem}
use Rattle.claims.specs.Shown.{IsFew, IsPointless}
use Rattle.claims.specs.Claims.{Claim, AllHold, Decides, IsRefusal}
use Rattle.claims.proofs.Pointless.{claims_from, claims_on, chunk-stop, chunk-go, one-from}

pub range-map : (f : ℕ → AffineSystem) (n i : ℕ) → i < n → map f (range_with_len i (n - i)) ≡ (f i ∷ []) ++ map f (range_with_len (i + 1) (n - (i + 1)))
range-map f n i h = ap (λ (k : ℕ). map f (range_with_len i k)) (below-more n i h)

pub range-flat : (f : ℕ → List AffineSystem) (n i : ℕ) → i < n → flat_map f (range_with_len i (n - i)) ≡ f i ++ flat_map f (range_with_len (i + 1) (n - (i + 1)))
range-flat f n i h = ap (λ (k : ℕ). flat_map f (range_with_len i k)) (below-more n i h)

pub list-flat : (f : ℕ → List AffineSystem) (xs : List ℕ) (i : ℕ) → i < length xs → flat_map f (drop i xs) ≡ f (get_or xs i 0) ++ flat_map f (drop (i + 1) xs)
list-flat f xs i below = ap (flat_map f) (drop_more xs i 0 below)

-- what is found of one system is found of its claims
pub same-system : (condition : ℕ) (place member : List Step) (at vars : ℕ) (rows : List AffineForm) (system : AffineSystem) (m : FarkasMultipliers) (found : Result (Unit {0}) Refused)
    → member ≡ place ++ Index at ∷ [] → vars ≡ system.vars → rows ≡ system.rows
    → Decides (record { condition = 2; place = member; statement = IsFew (length rows) } ∷ record { condition = condition; place = member; statement = IsPointless (record { vars = vars; rows = rows }) m } ∷ []) found
    → Decides (claims_on condition place at system m) found
same-system condition place member at vars rows system m found e p q h =
    subst (λ (zs : List AffineForm). Decides (claims_on condition place at (record { vars = system.vars; rows = zs }) m) found) q
    (subst (λ (n : ℕ). Decides (claims_on condition place at (record { vars = n; rows = rows }) m) found) p
    (subst (λ (s : List Step). Decides (record { condition = 2; place = s; statement = IsFew (length rows) } ∷ record { condition = condition; place = s; statement = IsPointless (record { vars = vars; rows = rows }) m } ∷ []) found) e h))

module _ (f : ℕ → AffineSystem) (condition : ℕ) (place member : List Step) (first level n : ℕ) (shown : List FarkasMultipliers) (m : FarkasMultipliers) (vars : ℕ) (rows : List AffineForm)
    (below : level < n) (enough : first + n ≤ length shown) (is : m ≡ get_or shown (first + level) m) (at : member ≡ place ++ Index (first + level) ∷ []) (p : vars ≡ (f level).vars) (q : rows ≡ (f level).rows) where
  abbrev pub here : List Claim
  here = record { condition = 2; place = member; statement = IsFew (length rows) } ∷ record { condition = condition; place = member; statement = IsPointless (record { vars = vars; rows = rows }) m } ∷ []

  level-found : (found : Result (Unit {0}) Refused) → Decides here found → Decides (claims_from condition place (first + level) (f level ∷ []) shown) found
  level-found found h = one-from condition place (first + level) (f level) shown m found (omega arith) is (same-system condition place member (first + level) vars rows (f level) m found at p q h)

  -- a level at which a claim fails
  pub levels-stop : (r : Refused) → IsRefusal here r → IsRefusal (claims_from condition place (first + level) (map f (range_with_len level (n - level))) shown) r
  levels-stop r h =
      subst (λ (xs : List AffineSystem). IsRefusal (claims_from condition place (first + level) xs shown) r) (sym (range-map f n level below))
      (chunk-stop condition place (first + level) (f level ∷ []) (map f (range_with_len (level + 1) (n - (level + 1)))) shown r (omega arith) (level-found (Err r) h))

  -- a level at which they hold
  pub levels-go : (later : Result (Unit {0}) Refused) → AllHold here → Decides (claims_from condition place (first + (level + 1)) (map f (range_with_len (level + 1) (n - (level + 1)))) shown) later
      → Decides (claims_from condition place (first + level) (map f (range_with_len level (n - level))) shown) later
  levels-go later h g =
      subst (λ (xs : List AffineSystem). Decides (claims_from condition place (first + level) xs shown) later) (sym (range-map f n level below))
      (chunk-go condition place (first + level) (first + (level + 1)) (f level ∷ []) (map f (range_with_len (level + 1) (n - (level + 1)))) shown later (omega arith) (omega arith) (level-found (Ok tt) h) g)

-- no level is left
pub levels-end : (f : ℕ → AffineSystem) (condition : ℕ) (place : List Step) (at level n : ℕ) (shown : List FarkasMultipliers) → n ≤ level → AllHold (claims_from condition place at (map f (range_with_len level (n - level))) shown)
levels-end f condition place at level n shown past = subst (λ (k : ℕ). AllHold (claims_from condition place at (map f (range_with_len level k)) shown)) (sym none) tt where
  none : n - level ≡ 0
  none = omega arith

-- systems of one writer, level by level after a source: so many at each
module _ (g : ℕ → List AffineSystem) (many : ℕ) (each : (k : ℕ) → length (g k) ≡ many) where
  pub flat-many : (first n : ℕ) → length (flat_map g (range_with_len first n)) ≡ n * many
  flat-many first zero = omega arith
  flat-many first (suc n) = omega (arith, length-append (g first) (flat_map g (range_with_len (first + 1) n)), each first, flat-many (first + 1) n)

  pub levels-room : (after n at total : ℕ) → after < n → at + (n - after) * many ≤ total → (at + many) + (n - (after + 1)) * many ≤ total
  levels-room after n at total below enough =
      let step : (n - after) * many ≡ many + (n - (after + 1)) * many = ap (λ (k : ℕ). k * many) (below-more n after below) ∙ omega arith in
      omega (arith, step, enough)

  module _ (condition : ℕ) (place : List Step) (after n at : ℕ) (shown : List FarkasMultipliers) (below : after < n) (enough : at + (n - after) * many ≤ length shown) where
    room : at + length (g after) ≤ length shown
    room = omega (arith, levels-room after n at (length shown) below enough, each after)

    -- a level at which a claim fails
    pub afters-stop : (r : Refused) → IsRefusal (claims_from condition place at (g after) shown) r → IsRefusal (claims_from condition place at (flat_map g (range_with_len after (n - after))) shown) r
    afters-stop r h =
        subst (λ (xs : List AffineSystem). IsRefusal (claims_from condition place at xs shown) r) (sym (range-flat g n after below))
        (chunk-stop condition place at (g after) (flat_map g (range_with_len (after + 1) (n - (after + 1)))) shown r room h)

    -- a level at which they hold
    pub afters-go : (later : Result (Unit {0}) Refused) → AllHold (claims_from condition place at (g after) shown)
        → Decides (claims_from condition place (at + many) (flat_map g (range_with_len (after + 1) (n - (after + 1)))) shown) later
        → Decides (claims_from condition place at (flat_map g (range_with_len after (n - after))) shown) later
    afters-go later h more =
        subst (λ (xs : List AffineSystem). Decides (claims_from condition place at xs shown) later) (sym (range-flat g n after below))
        (chunk-go condition place at (at + many) (g after) (flat_map g (range_with_len (after + 1) (n - (after + 1)))) shown later room (omega (arith, each after)) h more)

pub afters-end : (g : ℕ → List AffineSystem) (condition : ℕ) (place : List Step) (at after n : ℕ) (shown : List FarkasMultipliers) → n ≤ after → AllHold (claims_from condition place at (flat_map g (range_with_len after (n - after))) shown)
afters-end g condition place at after n shown past = subst (λ (k : ℕ). AllHold (claims_from condition place at (flat_map g (range_with_len after k)) shown)) (sym none) tt where
  none : n - after ≡ 0
  none = omega arith

-- systems of several writers
module _ (g : ℕ → List AffineSystem) (xs : List ℕ) (condition : ℕ) (place : List Step) (i at many : ℕ) (shown : List FarkasMultipliers) (below : i < length xs)
    (each : many ≡ length (g (get_or xs i 0))) (enough : at + length (flat_map g (drop i xs)) ≤ length shown) where
  length-rest : length (flat_map g (drop i xs)) ≡ length (g (get_or xs i 0)) + length (flat_map g (drop (i + 1) xs))
  length-rest = ap length (list-flat g xs i below) ∙ length-append (g (get_or xs i 0)) (flat_map g (drop (i + 1) xs))

  pub writers-room : (at + many) + length (flat_map g (drop (i + 1) xs)) ≤ length shown
  writers-room = omega (arith, length-rest, each, enough)

  pub writers-first : at + length (g (get_or xs i 0)) ≤ length shown
  writers-first = omega (arith, length-rest, enough)

  pub writers-stop : (r : Refused) → IsRefusal (claims_from condition place at (g (get_or xs i 0)) shown) r → IsRefusal (claims_from condition place at (flat_map g (drop i xs)) shown) r
  writers-stop r h =
      subst (λ (zs : List AffineSystem). IsRefusal (claims_from condition place at zs shown) r) (sym (list-flat g xs i below))
      (chunk-stop condition place at (g (get_or xs i 0)) (flat_map g (drop (i + 1) xs)) shown r writers-first h)

  pub writers-go : (later : Result (Unit {0}) Refused) → AllHold (claims_from condition place at (g (get_or xs i 0)) shown)
      → Decides (claims_from condition place (at + many) (flat_map g (drop (i + 1) xs)) shown) later → Decides (claims_from condition place at (flat_map g (drop i xs)) shown) later
  writers-go later h more =
      subst (λ (zs : List AffineSystem). Decides (claims_from condition place at zs shown) later) (sym (list-flat g xs i below))
      (chunk-go condition place at (at + many) (g (get_or xs i 0)) (flat_map g (drop (i + 1) xs)) shown later writers-first (omega (arith, each)) h more)

pub writers-end : (g : ℕ → List AffineSystem) (xs : List ℕ) (condition : ℕ) (place : List Step) (i at : ℕ) (shown : List FarkasMultipliers) → length xs ≤ i → AllHold (claims_from condition place at (flat_map g (drop i xs)) shown)
writers-end g xs condition place i at shown past = subst (λ (zs : List ℕ). AllHold (claims_from condition place at (flat_map g zs) shown)) (sym (drop_all i xs past)) tt

-- at how many levels a writer may come before the reader
pub length-levels : (f : ℕ → AffineSystem) (n : ℕ) → length (map f (range_with_len 0 n)) ≡ n
length-levels f n = length-map-range_with_len f 0 n
