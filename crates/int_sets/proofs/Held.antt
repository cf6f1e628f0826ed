-- Which lists of rows halves hold.
use Rattle.std.proofs.Common.{◌≡◌, refl, sym, subst, ◌∙◌, ap, ℕ, zero, suc, ◌+◌, ◌<◌, ◌≤◌, List, [], ◌∷◌, ◌++◌, length, take, get_or, arith, ◌⊎◌, inl, inr, take_all, below_more}
use Rattle.std.specs.List.{AllByRecursion}
use Rattle.std.proofs.lemmas.List.{take_more}
use Rattle.iolb_model.specs.Form.{AffineForm}
use Rattle.base_laws.proofs.Lists.{All-push, All-weaken}
use Rattle.int_sets.specs.Halves.{Holds, HoldUpTo, PairsWith, weights_of}
use Rattle.int_sets.specs.ShortList.{IsOnceOrTwice}
use Rattle.int_sets.specs.declared.half.Half.{Half}

-- what is held is so with more halves behind
pub Holds-append : (halves more : List Half) (ws : List (ℕ × ℕ)) → Holds halves ws → Holds (halves ++ more) ws
Holds-append [] more ws h = absurd h
Holds-append (half ∷ halves) more ws (inl h) = inl h
Holds-append (half ∷ halves) more ws (inr h) = inr (Holds-append halves more ws h)

-- a half that is put at the end is held
pub Holds-push : (halves : List Half) (half : Half) (ws : List (ℕ × ℕ)) → weights_of half ≡ ws → Holds (halves ++ half ∷ []) ws
Holds-push [] half ws e = inl e
Holds-push (first ∷ halves) half ws e = inr (Holds-push halves half ws e)

-- what is held then is the half's, or was held before
pub Holds-cases : (halves : List Half) (half : Half) (ws : List (ℕ × ℕ)) → Holds (halves ++ half ∷ []) ws → Holds halves ws ⊎ (weights_of half ≡ ws)
Holds-cases [] half ws (inl e) = inr e
Holds-cases [] half ws (inr h) = absurd h
Holds-cases (first ∷ halves) half ws (inl e) = inl (inl e)
Holds-cases (first ∷ halves) half ws (inr h) = elim (Holds-cases halves half ws h) [ inl held ↦ inl (inr held) | inr e ↦ inr e ]

-- what is held among the first so many halves and one more
pub Holds-more : (halves : List Half) (k : ℕ) (d : Half) (ws : List (ℕ × ℕ)) → k < length halves
    → Holds (take (k + 1) halves) ws → Holds (take k halves) ws ⊎ (weights_of (get_or halves k d) ≡ ws)
Holds-more halves k d ws below h =
    Holds-cases (take k halves) (get_or halves k d) ws (subst (λ (hs : List Half). Holds hs ws) (take_more halves k d below) h)

-- what is held is a member's
pub Holds-with : (P : Half → Type 0) (halves : List Half) (ws : List (ℕ × ℕ)) → AllByRecursion P halves → Holds halves ws
    → (half : Half) × (weights_of half ≡ ws) × P half
Holds-with P [] ws all h = absurd h
Holds-with P (half ∷ halves) ws all (inl e) = (half, e, all.0)
Holds-with P (half ∷ halves) ws all (inr h) = Holds-with P halves ws all.1 h

-- a half whose rows are a single one has it first
pub one-counted : (half : Half) (v : ℕ × ℕ) → length half.rows ≡ 2 → weights_of half ≡ v ∷ [] → (half.count ≡ 1) × (get_or half.rows 0 (0, 0) ≡ v)
one-counted half v two e = taken half.count half.rows two e where
  taken : (n : ℕ) (xs : List (ℕ × ℕ)) → length xs ≡ 2 → take n xs ≡ v ∷ [] → (n ≡ 1) × (get_or xs 0 (0, 0) ≡ v)
  taken n [] two e = absurd (omega arith)
  taken zero (x ∷ xs) two e = absurd cc
  taken (suc zero) (x ∷ xs) two e = (refl, cc)
  taken (suc (suc n)) (x ∷ []) two e = absurd (omega arith)
  taken (suc (suc n)) (x ∷ y ∷ ys) two e = absurd (omega (arith, ap length e))

-- one more that makes a pair
pub pairs-push : (first : Half) (small halves : List Half) (k : ℕ) (d pair : Half) → k < length small
    → weights_of pair ≡ weights_of first ++ weights_of (get_or small k d) → PairsWith first (take k small) halves → PairsWith first (take (k + 1) small) (halves ++ pair ∷ [])
pairs-push first small halves k d pair below whole pairs v w e less held =
    elim (Holds-more small k d (w ∷ []) below held) [
      | inl before ↦ Holds-append halves (pair ∷ []) (v ∷ w ∷ []) (pairs v w e less before)
      | inr alone ↦ Holds-push halves pair (v ∷ w ∷ []) (whole ∙ ap (λ (us : List (ℕ × ℕ)). us ++ weights_of (get_or small k d)) e ∙ ap (λ (us : List (ℕ × ℕ)). (v ∷ []) ++ us) alone)
    ]

-- one more that doesn't
pub pairs-skip : (first : Half) (small halves : List Half) (k : ℕ) (d : Half) → k < length small
    → length first.rows ≡ 2 → length (get_or small k d).rows ≡ 2
    → ((get_or small k d).count ≡ 1 → (get_or first.rows 0 (0, 0)).0 < (get_or (get_or small k d).rows 0 (0, 0)).0 → ⊥)
    → PairsWith first (take k small) halves → PairsWith first (take (k + 1) small) halves
pairs-skip first small halves k d below two other apart pairs v w e less held =
    elim (Holds-more small k d (w ∷ []) below held) [
      | inl before ↦ pairs v w e less before
      | inr alone ↦
          let one = one-counted first v two e in
          let single = one-counted (get_or small k d) w other alone in
          absurd (apart single.0 (subst (λ (x : ℕ × ℕ). x.0 < (get_or (get_or small k d).rows 0 (0, 0)).0) (sym one.1) (subst (λ (x : ℕ × ℕ). v.0 < x.0) (sym single.1) less)))
    ]

-- one half more whose pairs are held
pub pairs-more : (small old new : List Half) (k : ℕ) (d : Half) → k < length small → ((ws : List (ℕ × ℕ)) → Holds old ws → Holds new ws)
    → PairsWith (get_or small k d) small new → AllByRecursion (λ (first : Half). PairsWith first small old) (take k small)
    → AllByRecursion (λ (first : Half). PairsWith first small new) (take (k + 1) small)
pairs-more small old new k d below kept pairs all =
    subst (AllByRecursion (λ (first : Half). PairsWith first small new)) (sym (take_more small k d below))
    (All-push (λ (first : Half). PairsWith first small new) (take k small) (get_or small k d)
    (All-weaken (λ (first : Half). PairsWith first small old) (λ (first : Half). PairsWith first small new) (take k small)
    (λ first old_pairs v w e less held. kept (v ∷ w ∷ []) (old_pairs v w e less held)) all)
    pairs)

-- where the pairs of all are held, all lists of two are
pub two-held : (rows : List AffineForm) (small halves : List Half) (k : ℕ) → HoldUpTo 1 rows small → ((ws : List (ℕ × ℕ)) → Holds small ws → Holds halves ws)
    → AllByRecursion (λ (first : Half). PairsWith first small halves) (take k small) → length small ≤ k → HoldUpTo 2 rows halves
two-held rows small halves k all kept pairs past [] few named taken rise = kept [] (all [] (omega arith) named taken rise)
two-held rows small halves k all kept pairs past (v ∷ []) few named taken rise = kept (v ∷ []) (all (v ∷ []) (omega arith) named taken rise)
two-held rows small halves k all kept pairs past (v ∷ w ∷ []) few named taken rise =
    let whole : AllByRecursion (λ (first : Half). PairsWith first small halves) small = subst (AllByRecursion (λ (first : Half). PairsWith first small halves)) (take_all k small past) pairs in
    let first = Holds-with (λ (half : Half). PairsWith half small halves) small (v ∷ []) whole (all (v ∷ []) (omega arith) (named.0, tt) (taken.0, tt) (tt, tt)) in
    first.2 v w first.1 rise.0.0 (all (w ∷ []) (omega arith) (named.1.0, tt) (taken.1.0, tt) (tt, tt))
two-held rows small halves k all kept pairs past (v ∷ w ∷ u ∷ us) few named taken rise = absurd (omega arith)

-- a row's halves that are put at the end are held
pub row-held : (halves : List Half) (row : ℕ) (once twice : Half) → weights_of once ≡ (row, 1) ∷ [] → weights_of twice ≡ (row, 2) ∷ []
    → (times : ℕ) → IsOnceOrTwice (row, times) → Holds ((halves ++ once ∷ []) ++ twice ∷ []) ((row, times) ∷ [])
row-held halves row once twice one two zero right = absurd (omega (arith, right.0))
row-held halves row once twice one two (suc zero) right = Holds-append (halves ++ once ∷ []) (twice ∷ []) ((row, 1) ∷ []) (Holds-push halves once ((row, 1) ∷ []) one)
row-held halves row once twice one two (suc (suc zero)) right = Holds-push (halves ++ once ∷ []) twice ((row, 2) ∷ []) two
row-held halves row once twice one two (suc (suc (suc n))) right = absurd (omega (arith, right.1))

-- a row more, once and twice
pub row-more : (old new : List Half) (i : ℕ) → ((ws : List (ℕ × ℕ)) → Holds old ws → Holds new ws)
    → ((times : ℕ) → IsOnceOrTwice (i, times) → Holds new ((i, times) ∷ [])) → ((w : ℕ × ℕ) → w.0 < i → IsOnceOrTwice w → Holds old (w ∷ []))
    → (w : ℕ × ℕ) → w.0 < i + 1 → IsOnceOrTwice w → Holds new (w ∷ [])
row-more old new i kept here held w below taken =
    below_more (λ (row : ℕ). (times : ℕ) → IsOnceOrTwice (row, times) → Holds new ((row, times) ∷ [])) i
    (λ row less times right. kept ((row, times) ∷ []) (held (row, times) less right)) here w.0 below w.1 taken

-- all rows and none
pub one-held : (rows : List AffineForm) (halves : List Half) (none : Half) (k : ℕ) → weights_of none ≡ [] → length rows ≤ k
    → ((w : ℕ × ℕ) → w.0 < k → IsOnceOrTwice w → Holds halves (w ∷ [])) → HoldUpTo 1 rows (halves ++ none ∷ [])
one-held rows halves none k e past held [] few named taken rise = Holds-push halves none [] e
one-held rows halves none k e past held (w ∷ []) few named taken rise = Holds-append halves (none ∷ []) (w ∷ []) (held w (omega (arith, named.0)) taken.0)
one-held rows halves none k e past held (v ∷ w ∷ ws) few named taken rise = absurd (omega arith)
