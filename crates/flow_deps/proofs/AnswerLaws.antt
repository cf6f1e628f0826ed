-- What answers say of claims, and what claims say of answers.
use Rattle.std.proofs.Common.{◌≡◌, refl, sym, ap, subst, ℕ, zero, suc, ◌+◌, ◌<◌, ◌≤◌, List, [], ◌∷◌, ◌++◌, ◌∙◌, length, map, take, get_or, arith}
use Rattle.std.specs.Prelude.{flat_map, Option, Some, None, IfSome, MatchOption}
use Rattle.std.specs.List.{AllByRecursion, range_with_len}
use Rattle.std.proofs.lemmas.List.{map-append, take_more, append-nil}
use Rattle.std.proofs.lemmas.Grind.{flat_map-append}
use Rattle.std.proofs.lemmas.List.FromFn.{length-range_with_len, get_or-range_with_len, map-range_with_len_more}
use Rattle.base_laws.proofs.Lists.{All-append, All-at, All-weaken, All-map, All-left, All-right}
use Rattle.iolb_model.specs.Form.{AffineForm}
use Rattle.iolb_model.specs.declared.limits.TheConstants.{ROWS}
use Rattle.affine_form.specs.Multipliers.{FarkasMultipliers}
use Rattle.affine_form.specs.System.{AffineSystem}
use Rattle.claims.specs.Claims.{AllHold}
use Rattle.claims.specs.declared.place.Step.{Step}
use Rattle.int_sets.specs.ShortList.{IsShort}
use Rattle.claims.specs.Shown.{IsFew, follow_claims, pointless_claims}
use Rattle.flow_deps.specs.declared.wanted.Wanted.{Wanted}
use Rattle.certificate_fit.specs.Limits.{NamesRows, NameRows}
use Rattle.flow_deps.specs.Answers.{Question, IsAnswered, AreAnswered, following, pointless, HasShortAnswer, IsAsShort, Answers, HasNoShort}

-- ---- lists

All-unmap : {X Y : Type 0} (P : Y → Type 0) (f : X → Y) (xs : List X) → AllByRecursion P (map f xs) → AllByRecursion (λ x. P (f x)) xs
All-unmap P f [] h = tt
All-unmap P f (x ∷ xs) h = (h.0, All-unmap P f xs h.1)

All-flat-at : {X : Type 0} (P : X → Type 0) (g : ℕ → List X) (ws : List ℕ) (k : ℕ) → AllByRecursion P (flat_map g ws) → k < length ws → AllByRecursion P (g (get_or ws k 0))
All-flat-at P g [] k h below = absurd (omega arith)
All-flat-at P g (w ∷ ws) zero h below = All-left P (g w) (flat_map g ws) h
All-flat-at P g (w ∷ ws) (suc k) h below = All-flat-at P g ws k (All-right P (g w) (flat_map g ws) h) (omega arith)

-- ---- answers that stand together

AreAnswered-append : (xs ys : List Question) (ms ns : List FarkasMultipliers) → AreAnswered xs ms → AreAnswered ys ns → AreAnswered (xs ++ ys) (ms ++ ns)
AreAnswered-append [] ys [] ns p q = q
AreAnswered-append [] ys (m ∷ ms) ns p q = absurd p
AreAnswered-append (x ∷ xs) ys [] ns p q = absurd p
AreAnswered-append (x ∷ xs) ys (m ∷ ms) ns p q = (p.0, AreAnswered-append xs ys ms ns p.1 q)

pub Answers-append : (wanted : Wanted) (xs ys : List Question) (ms ns : List FarkasMultipliers) → Answers wanted xs ms → Answers wanted ys ns → Answers wanted (xs ++ ys) (ms ++ ns)
Answers-append wanted xs ys ms ns p q =
    record { each = AreAnswered-append xs ys ms ns p.each q.each; as_short = All-append (IsAsShort wanted) ms ns p.as_short q.as_short }

pub Answers-one : (wanted : Wanted) (question : Question) (m : FarkasMultipliers) → IsAnswered question m × IsAsShort wanted m → Answers wanted (question ∷ []) (m ∷ [])
Answers-one wanted question m h = record { each = (h.0, tt); as_short = (h.1, tt) }

pub AreAnswered-length : (questions : List Question) (ms : List FarkasMultipliers) → AreAnswered questions ms → length ms ≡ length questions
AreAnswered-length [] [] h = refl
AreAnswered-length [] (m ∷ ms) h = absurd h
AreAnswered-length (q ∷ qs) [] h = absurd h
AreAnswered-length (q ∷ qs) (m ∷ ms) h = ap suc (AreAnswered-length qs ms h.1)

-- one goal more
pub goals-more : (wanted : Wanted) (system : AffineSystem) (goals : List AffineForm) (i : ℕ) (goal : AffineForm) (all more : List FarkasMultipliers) (m : FarkasMultipliers)
    → i < length goals → goal ≡ get_or goals i goal → Answers wanted (following system (take i goals)) all → IsAnswered (record { system = system; goal = goal }) m × IsAsShort wanted m
    → more ≡ all ++ m ∷ [] → Answers wanted (following system (take (i + 1) goals)) more
goals-more wanted system goals i goal all more m below is h one e =
    let asks : AffineForm → Question = λ g. record { system = system; goal = g } in
    let next : take (i + 1) goals ≡ take i goals ++ goal ∷ [] = take_more goals i goal below ∙ ap (λ g. take i goals ++ g ∷ []) (sym is) in
    subst (Answers wanted (map asks (take (i + 1) goals))) (sym e)
    (subst (λ (questions : List Question). Answers wanted questions (all ++ m ∷ [])) (sym (ap (map asks) next ∙ map-append asks (take i goals) (goal ∷ [])))
    (Answers-append wanted (map asks (take i goals)) (asks goal ∷ []) all (m ∷ []) h (Answers-one wanted (asks goal) m one)))

-- more systems
pub systems-more : (wanted : Wanted) (xs ys zs : List AffineSystem) (all some more : List FarkasMultipliers) → Answers wanted (map pointless xs) all → Answers wanted (map pointless ys) some
    → zs ≡ xs ++ ys → more ≡ all ++ some → Answers wanted (map pointless zs) more
systems-more wanted xs ys zs all some more h g e d =
    subst (Answers wanted (map pointless zs)) (sym d)
    (subst (λ (questions : List Question). Answers wanted questions (all ++ some)) (sym (ap (map pointless) e ∙ map-append pointless xs ys))
    (Answers-append wanted (map pointless xs) (map pointless ys) all some h g))

-- the same system, by its parts
pub system-is : (vars : ℕ) (rows : List AffineForm) (system : AffineSystem) → vars ≡ system.vars → rows ≡ system.rows → record { vars = vars; rows = rows } ≡ system
system-is vars rows system p q = λ i. record { vars = p i; rows = q i }

-- one level more
pub levels-more : (wanted : Wanted) (f : ℕ → AffineSystem) (k : ℕ) (system : AffineSystem) (all more : List FarkasMultipliers) (m : FarkasMultipliers)
    → system ≡ f k → Answers wanted (map pointless (map f (range_with_len 0 k))) all → IsAnswered (pointless system) m × IsAsShort wanted m → more ≡ all ++ m ∷ []
    → Answers wanted (map pointless (map f (range_with_len 0 (k + 1)))) more
levels-more wanted f k system all more m is h one e =
    let one_more : IsAnswered (pointless (f k)) m × IsAsShort wanted m = subst (λ (s : AffineSystem). IsAnswered (pointless s) m × IsAsShort wanted m) is one in
    systems-more wanted (map f (range_with_len 0 k)) (f k ∷ []) (map f (range_with_len 0 (k + 1))) all (m ∷ []) more h (Answers-one wanted (pointless (f k)) m one_more)
    (map-range_with_len_more f 0 k k (omega arith)) e

pub flat-take-more : {X : Type 0} (g : ℕ → List X) (ws : List ℕ) (i w : ℕ) → i < length ws → w ≡ get_or ws i 0 → flat_map g (take (i + 1) ws) ≡ flat_map g (take i ws) ++ g w
flat-take-more g ws i w below is =
    ap (flat_map g) (take_more ws i 0 below ∙ ap (λ (n : ℕ). take i ws ++ n ∷ []) (sym is))
    ∙ flat_map-append g (take i ws) (w ∷ []) ∙ ap (λ xs. flat_map g (take i ws) ++ xs) (append-nil (g w))

-- what a search found
pub found-none : {X : Type 0} (o : Option X) (P : Type 0) (Q : X → Type 0) → o ≡ None → MatchOption o P Q → P
found-none {X = X} o P Q e h = let M : Option X → Type 0 = λ x. MatchOption x P Q in subst M e h

pub found-some : {X : Type 0} (o : Option X) (x : X) (P : Type 0) (Q : X → Type 0) → o ≡ Some x → MatchOption o P Q → Q x
found-some {X = X} o x P Q e h = let M : Option X → Type 0 = λ y. MatchOption y P Q in subst M e h

pub some-has : {X : Type 0} (o : Option X) (x : X) (Q : X → Type 0) → o ≡ Some x → IfSome o Q → Q x
some-has {X = X} o x Q e h = let M : Option X → Type 0 = λ y. IfSome y Q in subst M e h

-- ---- what isn't answered

-- one goal of many
pub none-goal : (system : AffineSystem) (goals : List AffineForm) (k : ℕ) (goal : AffineForm) → k < length goals → goal ≡ get_or goals k goal
    → ¬ HasShortAnswer (record { system = system; goal = goal }) → HasNoShort (following system goals)
none-goal system goals k goal below is none all =
    let P : AffineForm → Type 0 = λ g. HasShortAnswer (record { system = system; goal = g }) in
    none (subst P (sym is) (All-at P goals k goal (All-unmap HasShortAnswer (λ g. record { system = system; goal = g }) goals all) below))

-- the systems of one of many numbers
pub none-among : (g : ℕ → List AffineSystem) (ws : List ℕ) (k w : ℕ) → k < length ws → w ≡ get_or ws k 0 → HasNoShort (map pointless (g w)) → HasNoShort (map pointless (flat_map g ws))
none-among g ws k w below is none all =
    let P : AffineSystem → Type 0 = λ s. HasShortAnswer (pointless s) in
    let all_of : AllByRecursion P (flat_map g ws) = All-unmap HasShortAnswer pointless (flat_map g ws) all in
    let here : AllByRecursion P (g w) = subst (λ (n : ℕ). AllByRecursion P (g n)) (sym is) (All-flat-at P g ws k all_of below) in
    none (All-map HasShortAnswer pointless (g w) here)

pub none-level : (f : ℕ → AffineSystem) (n k : ℕ) → k < n → ¬ HasShortAnswer (pointless (f k)) → HasNoShort (map pointless (map f (range_with_len 0 n)))
none-level f n k below none all =
    let P : AffineSystem → Type 0 = λ s. HasShortAnswer (pointless s) in
    let levels : AllByRecursion (λ (i : ℕ). P (f i)) (range_with_len 0 n) =
    All-unmap P f (range_with_len 0 n) (All-unmap HasShortAnswer pointless (map f (range_with_len 0 n)) all) in
    let room : k < length (range_with_len 0 n) = omega (arith, length-range_with_len 0 n) in
    let at : get_or (range_with_len 0 n) k 0 ≡ k = omega (arith, get_or-range_with_len 0 n k 0 below) in
    none (subst (λ (i : ℕ). P (f i)) at (All-at (λ (i : ℕ). P (f i)) (range_with_len 0 n) k 0 levels room))

pub none-after : (g : ℕ → List AffineSystem) (n k : ℕ) → k < n → HasNoShort (map pointless (g k)) → HasNoShort (map pointless (flat_map g (range_with_len 0 n)))
none-after g n k below none =
    none-among g (range_with_len 0 n) k k (omega (arith, length-range_with_len 0 n)) (omega (arith, get_or-range_with_len 0 n k 0 below)) none

-- ---- claims

pub follow-hold : (condition : ℕ) (place : List Step) (system : AffineSystem) (index : ℕ) (goals : List AffineForm) (ms : List FarkasMultipliers)
    → AreAnswered (following system goals) ms → AllHold (follow_claims condition place system index goals ms)
follow-hold condition place system index [] ms h = tt
follow-hold condition place system index (g ∷ gs) [] h = absurd h
follow-hold condition place system index (g ∷ gs) (m ∷ ms) h = (h.0.1, follow-hold condition place system (suc index) gs ms h.1)

pub follow-short : (condition : ℕ) (place : List Step) (system : AffineSystem) (index : ℕ) (goals : List AffineForm) (ms : List FarkasMultipliers)
    → IsFew (length system.rows) → length ms ≡ length goals → AllHold (follow_claims condition place system index goals ms) → AllByRecursion IsShort ms
    → AllByRecursion HasShortAnswer (following system goals)
follow-short condition place system index [] ms few e h short = tt
follow-short condition place system index (g ∷ gs) [] few e h short = absurd (omega arith)
follow-short condition place system index (g ∷ gs) (m ∷ ms) few e h short =
    ((few, (m, short.0, h.0.1)), follow-short condition place system (suc index) gs ms few (omega arith) h.1 short.1)

pub pointless-hold : (condition : ℕ) (place : List Step) (index : ℕ) (systems : List AffineSystem) (ms : List FarkasMultipliers)
    → AreAnswered (map pointless systems) ms → AllHold (pointless_claims condition place index systems ms)
pointless-hold condition place index [] ms h = tt
pointless-hold condition place index (s ∷ ss) [] h = absurd h
pointless-hold condition place index (s ∷ ss) (m ∷ ms) h = (h.0.0, (h.0.1, pointless-hold condition place (suc index) ss ms h.1))

pub pointless-short : (condition : ℕ) (place : List Step) (index : ℕ) (systems : List AffineSystem) (ms : List FarkasMultipliers)
    → length ms ≡ length systems → AllHold (pointless_claims condition place index systems ms) → AllByRecursion IsShort ms → AllByRecursion HasShortAnswer (map pointless systems)
pointless-short condition place index [] ms e h short = tt
pointless-short condition place index (s ∷ ss) [] e h short = absurd (omega arith)
pointless-short condition place index (s ∷ ss) (m ∷ ms) e h short =
    ((h.0, (m, short.0, h.1.0.1)), pointless-short condition place (suc index) ss ms (omega arith) h.1.1 short.1)

-- ---- rows that answers name

pub answer-names : (question : Question) (m : FarkasMultipliers) → IsAnswered question m → NamesRows m
answer-names question m h =
    let few : length question.system.rows ≤ ROWS = h.0 in
    All-weaken (λ (weight : ℕ × ℕ). weight.0 < length question.system.rows) (λ (weight : ℕ × ℕ). weight.0 < ROWS) m.weights (λ weight below. omega (arith, few, below)) h.1.1.named

pub answers-name : (questions : List Question) (ms : List FarkasMultipliers) → AreAnswered questions ms → NameRows ms
answers-name [] [] h = tt
answers-name [] (m ∷ ms) h = absurd h
answers-name (q ∷ qs) [] h = absurd h
answers-name (q ∷ qs) (m ∷ ms) h = (answer-names q m h.0, answers-name qs ms h.1)
