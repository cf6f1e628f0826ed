-- Counts of what crosses each boundary.
use Rattle.std.proofs.Common.{◌≡◌, ◌≢◌, refl, sym, ◌∙◌, ap, ℕ, zero, suc, ◌+◌, ◌<◌, ◌≤◌, Bool, true, false, cond, List, [], ◌∷◌, ◌++◌, length, map, get_or, count_by, slice_set, slice_index_or, ◌^◌, replicate, arith}
use Rattle.std.specs.List.{range_with_len}
use Rattle.std.proofs.lemmas.Bool.{eq-eqb, ne_eqb}
use Rattle.std.proofs.lemmas.List.{length-set}
use Rattle.std.proofs.lemmas.List.Sums.{count_by-le-length, sum_by-append}
use Rattle.iolb_model.specs.Tower.{brings, is_bring, is_send, sends}
use Rattle.iolb_model.specs.declared.tower.TowerMove.{TowerMove}
use Rattle.iolb_model.specs.declared.tower.TowerMove.TheVariants.{Bring, Send}
use Rattle.memory_levels.specs.Climbs.{AreCrossings, crossing, crossings}
use Rattle.memory_levels.specs.declared.climbs.Crossed.{Crossed}

-- ---- one move more

count-more : {X : Type 0} (test : X → Bool) (xs : List X) (x : X) → count_by test (xs ++ x ∷ []) ≡ cond (test x) (count_by test xs + 1) (count_by test xs)
count-more {X} test xs x = sum_by-append (λ (y : X). cond (test y) 1 0) xs (x ∷ []) ∙ by (test x) (count_by test xs) where
  by : (b : Bool) (n : ℕ) → n + (0 + cond b 1 0) ≡ cond b (n + 1) n
  by true n = omega arith
  by false n = omega arith

-- what crosses a boundary with one move more
one-more : (steps : List TowerMove) (step : TowerMove) (boundary b s : ℕ) → b ≡ cond (is_bring boundary step) (brings boundary steps + 1) (brings boundary steps)
    → s ≡ cond (is_send boundary step) (sends boundary steps + 1) (sends boundary steps) → crossing (steps ++ step ∷ []) boundary ≡ record { brings = b; sends = s }
one-more steps step boundary b s p q =
    ap (λ (x : ℕ). record { brings = x; sends = sends boundary (steps ++ step ∷ []) }) (count-more (is_bring boundary) steps step ∙ sym p)
    ∙ ap (λ (x : ℕ). record { brings = b; sends = x }) (count-more (is_send boundary) steps step ∙ sym q)

-- ---- the others are as they were

map-same : (f g : ℕ → Crossed) (a n : ℕ) → ((b : ℕ) → a ≤ b → b < a + n → f b ≡ g b) → map f (range_with_len a n) ≡ map g (range_with_len a n)
map-same f g a zero same = refl
map-same f g a (suc n) same =
    ap (λ (x : Crossed). x ∷ map f (range_with_len (a + 1) n)) (same a (omega arith) (omega arith))
    ∙ ap (λ (l : List Crossed). g a ∷ l) (map-same f g (a + 1) n (λ b low high. same b (omega (arith, low)) (omega (arith, high))))

map-but-one : (f g : ℕ → Crossed) (a n i : ℕ) (x : Crossed) → i < n → x ≡ g (a + i) → ((b : ℕ) → b ≢ a + i → f b ≡ g b)
    → slice_set (map f (range_with_len a n)) i x ≡ map g (range_with_len a n)
map-but-one f g a zero i x below e same = absurd (omega (arith, below))
map-but-one f g a (suc n) zero x below e same =
    ap (λ (y : Crossed). y ∷ map f (range_with_len (a + 1) n)) (e ∙ ap g (none a))
    ∙ ap (λ (l : List Crossed). g a ∷ l) (map-same f g (a + 1) n (λ b low high. same b (λ is. omega (arith, is, low)))) where
      none : (m : ℕ) → m + 0 ≡ m
      none m = omega arith
map-but-one f g a (suc n) (suc i) x below e same =
    ap (λ (y : Crossed). y ∷ slice_set (map f (range_with_len (a + 1) n)) i x) (same a (λ is. omega (arith, is)))
    ∙ ap (λ (l : List Crossed). g a ∷ l)
    (map-but-one f g (a + 1) n i x (omega (arith, below)) (e ∙ ap g (next a i)) (λ b apart. same b (λ is. apart (is ∙ next a i)))) where
      next : (m k : ℕ) → m + suc k ≡ m + 1 + k
      next m k = omega arith

crossing-at : (f : ℕ → Crossed) (a n i : ℕ) (d : Crossed) → i < n → get_or (map f (range_with_len a n)) i d ≡ f (a + i)
crossing-at f a zero i d below = absurd (omega (arith, below))
crossing-at f a (suc n) zero d below = ap f (none a) where
  none : (m : ℕ) → m ≡ m + 0
  none m = omega arith
crossing-at f a (suc n) (suc i) d below = crossing-at f (a + 1) n i d (omega (arith, below)) ∙ ap f (next a i) where
  next : (m k : ℕ) → m + 1 + k ≡ m + suc k
  next m k = omega arith

-- ---- one move more at its boundary, and at none

put-crossing : (crossed : List Crossed) (steps : List TowerMove) (step : TowerMove) (place : ℕ) (x : Crossed) → AreCrossings crossed steps → place < length crossed
    → x ≡ crossing (steps ++ step ∷ []) (1 + place) → ((b : ℕ) → b ≢ 1 + place → crossing steps b ≡ crossing (steps ++ step ∷ []) b)
    → AreCrossings (slice_set crossed place x) (steps ++ step ∷ [])
put-crossing crossed steps step place x e below is same =
    ap (λ (l : List Crossed). slice_set l place x) e
    ∙ map-but-one (crossing steps) (crossing (steps ++ step ∷ [])) 1 (length crossed) place x below is same
    ∙ ap (λ (n : ℕ). crossings n (steps ++ step ∷ [])) (sym (length-set crossed place x))

unchanged : (steps : List TowerMove) (step : TowerMove) (b : ℕ) → is_bring b step ≡ false → is_send b step ≡ false → crossing steps b ≡ crossing (steps ++ step ∷ []) b
unchanged steps step b p q =
    sym (one-more steps step b (brings b steps) (sends b steps)
    (ap (λ (t : Bool). cond t (brings b steps + 1) (brings b steps)) (sym p))
    (ap (λ (t : Bool). cond t (sends b steps + 1) (sends b steps)) (sym q)))

crossed-at : (crossed : List Crossed) (steps : List TowerMove) (place : ℕ) (d : Crossed) → AreCrossings crossed steps → place < length crossed
    → slice_index_or crossed place d ≡ crossing steps (1 + place)
crossed-at crossed steps place d e below =
    ap (λ (l : List Crossed). slice_index_or l place d) e ∙ crossing-at (crossing steps) 1 (length crossed) place d below

pub brings-more : (crossed : List Crossed) (steps : List TowerMove) (step : TowerMove) (i v place : ℕ) (d : Crossed) → step ≡ Bring i v → place < length crossed → i ≡ place + 1
    → AreCrossings crossed steps
    → AreCrossings (slice_set crossed place (record { brings = (slice_index_or crossed place d).brings + 1; sends = (slice_index_or crossed place d).sends })) (steps ++ step ∷ [])
brings-more crossed steps step i v place d is below here e =
    let at = crossed-at crossed steps place d e below in
    let hit : is_bring (1 + place) step ≡ true = ap (is_bring (1 + place)) is ∙ eq-eqb i (1 + place) (omega (arith, here)) in
    let off : is_send (1 + place) step ≡ false = ap (is_send (1 + place)) is in
    put-crossing crossed steps step place (record { brings = (slice_index_or crossed place d).brings + 1; sends = (slice_index_or crossed place d).sends }) e below
    (sym (one-more steps step (1 + place) ((slice_index_or crossed place d).brings + 1) (slice_index_or crossed place d).sends
    (ap (λ (x : Crossed). x.brings + 1) at ∙ ap (λ (t : Bool). cond t (brings (1 + place) steps + 1) (brings (1 + place) steps)) (sym hit))
    (ap (λ (x : Crossed). x.sends) at ∙ ap (λ (t : Bool). cond t (sends (1 + place) steps + 1) (sends (1 + place) steps)) (sym off))))
    (λ b apart. unchanged steps step b (ap (is_bring b) is ∙ ne_eqb i b (λ same. apart (omega (arith, same, here)))) (ap (is_send b) is))

pub sends-more : (crossed : List Crossed) (steps : List TowerMove) (step : TowerMove) (i v place : ℕ) (d : Crossed) → step ≡ Send i v → place < length crossed → i ≡ place + 1
    → AreCrossings crossed steps
    → AreCrossings (slice_set crossed place (record { brings = (slice_index_or crossed place d).brings; sends = (slice_index_or crossed place d).sends + 1 })) (steps ++ step ∷ [])
sends-more crossed steps step i v place d is below here e =
    let at = crossed-at crossed steps place d e below in
    let off : is_bring (1 + place) step ≡ false = ap (is_bring (1 + place)) is in
    let hit : is_send (1 + place) step ≡ true = ap (is_send (1 + place)) is ∙ eq-eqb i (1 + place) (omega (arith, here)) in
    put-crossing crossed steps step place (record { brings = (slice_index_or crossed place d).brings; sends = (slice_index_or crossed place d).sends + 1 }) e below
    (sym (one-more steps step (1 + place) (slice_index_or crossed place d).brings ((slice_index_or crossed place d).sends + 1)
    (ap (λ (x : Crossed). x.brings) at ∙ ap (λ (t : Bool). cond t (brings (1 + place) steps + 1) (brings (1 + place) steps)) (sym off))
    (ap (λ (x : Crossed). x.sends + 1) at ∙ ap (λ (t : Bool). cond t (sends (1 + place) steps + 1) (sends (1 + place) steps)) (sym hit))))
    (λ b apart. unchanged steps step b (ap (is_bring b) is) (ap (is_send b) is ∙ ne_eqb i b (λ same. apart (omega (arith, same, here)))))

-- a move that carries no word over these boundaries
crossings-same : (crossed : List Crossed) (steps : List TowerMove) (step : TowerMove) → ((b : ℕ) → 1 ≤ b → b < 1 + length crossed → (is_bring b step ≡ false) × (is_send b step ≡ false))
    → AreCrossings crossed steps → AreCrossings crossed (steps ++ step ∷ [])
crossings-same crossed steps step off e =
    e ∙ map-same (crossing steps) (crossing (steps ++ step ∷ [])) 1 (length crossed) (λ b low high. unchanged steps step b (off b low high).0 (off b low high).1)

apart : (i n b : ℕ) → ((place : ℕ) → place < n → i ≢ place + 1) → 1 ≤ b → b < 1 + n → i ≢ b
apart i n zero none low high same = omega (arith, low)
apart i n (suc b) none low high same = none b (omega (arith, high)) (omega (arith, same))

pub bring-elsewhere : (crossed : List Crossed) (steps : List TowerMove) (step : TowerMove) (i v : ℕ) → step ≡ Bring i v → ((place : ℕ) → place < length crossed → i ≢ place + 1)
    → AreCrossings crossed steps → AreCrossings crossed (steps ++ step ∷ [])
bring-elsewhere crossed steps step i v is none =
    crossings-same crossed steps step (λ b low high. (ap (is_bring b) is ∙ ne_eqb i b (apart i (length crossed) b none low high), ap (is_send b) is))

pub send-elsewhere : (crossed : List Crossed) (steps : List TowerMove) (step : TowerMove) (i v : ℕ) → step ≡ Send i v → ((place : ℕ) → place < length crossed → i ≢ place + 1)
    → AreCrossings crossed steps → AreCrossings crossed (steps ++ step ∷ [])
send-elsewhere crossed steps step i v is none =
    crossings-same crossed steps step (λ b low high. (ap (is_bring b) is, ap (is_send b) is ∙ ne_eqb i b (apart i (length crossed) b none low high)))

-- ---- counts are small

pub crossed-small : (crossed : List Crossed) (steps : List TowerMove) (place : ℕ) (d : Crossed) → AreCrossings crossed steps → place < length crossed → length steps < 2 ^ 63
    → ((slice_index_or crossed place d).brings < 2 ^ 63) × ((slice_index_or crossed place d).sends < 2 ^ 63)
crossed-small crossed steps place d e below few =
    let at = crossed-at crossed steps place d e below in
    (omega (arith, ap (λ (x : Crossed). x.brings) at, count_by-le-length (is_bring (1 + place)) steps, few), omega (arith, ap (λ (x : Crossed). x.sends) at, count_by-le-length (is_send (1 + place)) steps, few))

-- ---- no moves

pub none-crossed : (fast : ℕ) → replicate fast (record { brings = 0; sends = 0 }) ≡ crossings fast []
none-crossed fast = from 1 fast where
  from : (a n : ℕ) → replicate n (record { brings = 0; sends = 0 }) ≡ map (crossing []) (range_with_len a n)
  from a zero = refl
  from a (suc n) = ap (λ (l : List Crossed). record { brings = 0; sends = 0 } ∷ l) (from (a + 1) n)
