-- Lists of uses that share one list of all uses.
use Rattle.std.proofs.Common.{◌≡◌, refl, sym, ◌∙◌, ap, subst, ℕ, zero, suc, ◌+◌, ◌-◌, ◌<◌, ◌≤◌, List, [], ◌∷◌, ◌++◌, length, map, replicate, drop, set, get_or, arith}
use Rattle.std.proofs.lemmas.List.{map-set, get_or-map, get_or_append_left, get_or_default, length-map}
use Rattle.pebble_replay.specs.Chains.{chain, uses_from, AreLinked}
use Rattle.pebble_replay.specs.Uses.{first_or_zero}

-- ---- chains

-- so many or more, as long as the number allows, are all
enough : (all : List (ℕ × ℕ)) → ((i : ℕ) → (get_or all i (0, 0)).1 ≤ i) → (most more number : ℕ) → number ≤ most → number ≤ more → chain most all number ≡ chain more all number
enough all before zero zero zero a b = refl
enough all before zero (suc more) zero a b = refl
enough all before (suc most) zero zero a b = refl
enough all before (suc most) (suc more) zero a b = refl
enough all before zero more (suc i) a b = absurd (omega (arith, a))
enough all before (suc most) zero (suc i) a b = absurd (omega (arith, b))
enough all before (suc most) (suc more) (suc i) a b =
    let low : (get_or all i (0, 0)).1 ≤ i = before i in
    ap (λ (rest : List ℕ). (get_or all i (0, 0)).0 ∷ rest) (enough all before most more (get_or all i (0, 0)).1 (omega (arith, low, a)) (omega (arith, low, b)))

-- an element more changes none of the lists that are there
longer : (all : List (ℕ × ℕ)) (e : ℕ × ℕ) → ((i : ℕ) → (get_or all i (0, 0)).1 ≤ i) → (most number : ℕ) → number ≤ length all → chain most (all ++ e ∷ []) number ≡ chain most all number
longer all e before zero number below = refl
longer all e before (suc most) zero below = refl
longer all e before (suc most) (suc i) below =
    let same : get_or (all ++ e ∷ []) i (0, 0) ≡ get_or all i (0, 0) = get_or_append_left all (e ∷ []) (0, 0) i (omega (arith, below)) in
    let low : (get_or all i (0, 0)).1 ≤ i = before i in
    ap (λ (x : ℕ × ℕ). x.0 ∷ chain most (all ++ e ∷ []) x.1) same
    ∙ ap (λ (rest : List ℕ). (get_or all i (0, 0)).0 ∷ rest) (longer all e before most (get_or all i (0, 0)).1 (omega (arith, low, below)))

all-longer : (all : List (ℕ × ℕ)) (e : ℕ × ℕ) (firsts : List ℕ) → ((i : ℕ) → (get_or all i (0, 0)).1 ≤ i) → ((u : ℕ) → get_or firsts u 0 ≤ length all)
    → map (uses_from (all ++ e ∷ [])) firsts ≡ map (uses_from all) firsts
all-longer all e [] before there = refl
all-longer all e (first ∷ firsts) before there =
    ap (λ (l : List ℕ). l ∷ map (uses_from (all ++ e ∷ [])) firsts) (longer all e before first first (there 0))
    ∙ ap (λ (l : List (List ℕ)). uses_from all first ∷ l) (all-longer all e firsts before (λ u. there (suc u)))

-- the element that was put at the end
last : (all : List (ℕ × ℕ)) (e : ℕ × ℕ) → get_or (all ++ e ∷ []) (length all) (0, 0) ≡ e
last [] e = refl
last (x ∷ all) e = last all e

-- ---- lists of vertices

at : (all : List (ℕ × ℕ)) (firsts : List ℕ) (whole : List (List ℕ)) (u : ℕ) → map (uses_from all) firsts ≡ whole → u < length whole → get_or whole u [] ≡ uses_from all (get_or firsts u 0)
at all firsts whole u e below =
    let inside : u < length firsts = omega (arith, ap length e, length-map firsts (uses_from all)) in
    sym (ap (λ (w : List (List ℕ)). get_or w u []) e) ∙ get_or-map (uses_from all) firsts u 0 [] inside

-- no uses of so many vertices
pub no-uses : (count : ℕ) → map (uses_from []) (replicate count 0) ≡ replicate count []
no-uses zero = refl
no-uses (suc count) = ap (λ (l : List (List ℕ)). [] ∷ l) (no-uses count)

-- ---- lists of which the first element of one was read

module _ (all : List (ℕ × ℕ)) (firsts : List ℕ) (whole : List (List ℕ)) (u first : ℕ) (linked : AreLinked all firsts) (e : map (uses_from all) firsts ≡ whole) (below : u < length whole)
    (is : first ≡ get_or firsts u first) where
  read : get_or firsts u 0 ≡ first
  read = get_or_default firsts u 0 first (omega (arith, ap length e, length-map firsts (uses_from all), below)) ∙ sym is

  own : get_or whole u [] ≡ uses_from all first
  own = at all firsts whole u e below ∙ ap (uses_from all) read

  there : first ≤ length all
  there = let low : get_or firsts u 0 ≤ length all = linked.there u in omega (arith, low, read)

  -- a use is put before the others
  pub use-pushed : (left : ℕ) → map (uses_from (all ++ (left, first) ∷ [])) (set firsts u (length all + 1)) ≡ set whole u (left ∷ get_or whole u [])
  use-pushed left =
      map-set (uses_from more) firsts u (length all + 1)
      ∙ ap (λ (l : List (List ℕ)). set l u (uses_from more (length all + 1))) (all-longer all (left, first) firsts linked.before linked.there ∙ e)
      ∙ ap (λ (l : List ℕ). set whole u l) (ap (uses_from more) one ∙ pushed) where
        more : List (ℕ × ℕ)
        more = all ++ (left, first) ∷ []

        one : length all + 1 ≡ suc (length all)
        one = omega arith

        pushed : uses_from more (suc (length all)) ≡ left ∷ get_or whole u []
        pushed =
            ap (λ (x : ℕ × ℕ). x.0 ∷ chain (length all) more x.1) (last all (left, first))
            ∙ ap (λ (l : List ℕ). left ∷ l) (longer all (left, first) linked.before (length all) first there
            ∙ enough all linked.before (length all) first first there (omega arith) ∙ sym own)

  -- one with a next use
  module _ (entry : ℕ × ℕ) (some : first ≡ suc (first - 1)) (here : entry ≡ get_or all (first - 1) entry) where
    found : get_or all (first - 1) (0, 0) ≡ entry
    found = get_or_default all (first - 1) (0, 0) entry (omega (arith, there, some)) ∙ sym here

    chained : get_or whole u [] ≡ entry.0 ∷ chain (first - 1) all entry.1
    chained = own ∙ ap (uses_from all) some ∙ ap (λ (x : ℕ × ℕ). x.0 ∷ chain (first - 1) all x.1) found

    low : entry.1 ≤ first - 1
    low = subst (λ (x : ℕ × ℕ). x.1 ≤ first - 1) found (linked.before (first - 1))

    pub next-use : entry.0 ≡ first_or_zero (get_or whole u [])
    next-use = sym (ap first_or_zero chained)

    pub use-popped : map (uses_from all) (set firsts u entry.1) ≡ set whole u (drop 1 (get_or whole u []))
    use-popped =
        map-set (uses_from all) firsts u entry.1 ∙ ap (λ (l : List (List ℕ)). set l u (uses_from all entry.1)) e
        ∙ ap (λ (l : List ℕ). set whole u l) (enough all linked.before entry.1 (first - 1) entry.1 (omega arith) low ∙ sym (ap (drop 1) chained))
