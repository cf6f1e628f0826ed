-- Lines of moves, and what they say.
use Rattle.std.proofs.Common.{◌≡◌, ◌≢◌, refl, sym, ◌∙◌, ap, subst, inl, inr, ℕ, zero, suc, ◌+◌, ◌-◌, ◌*◌, ◌<◌, ◌≤◌, ◌^◌, ◌==◌, Bool, true, false, cond, List, [], ◌∷◌, ◌++◌, length, get_or, take, drop, codes, decimal, Some, None, min, arith}
use Rattle.std.specs.Prelude.{IsTrue, MatchBool, nat_eq}
use Rattle.std.specs.List.{AllByRecursion}
use Rattle.std.specs.Char.{IsAsciiDigit, IsNotAsciiDigit}
use Rattle.std.specs.Str.Parse.{AllDigits, digits_value}
use Rattle.std.proofs.lemmas.Bool.{eqb-true, ne_eqb, eq-eqb}
use Rattle.std.proofs.lemmas.List.{append_assoc, append_cancel_left, get_or-take, length-append, length-take, length-take-le, take-append-drop, take-take}
use Rattle.std.proofs.lemmas.Fmt.{decimal_is_IsNumeral, decimal_digit, decimal_injective, decimal_nonempty, first_decimal, decimal-digits_value, length-decimal-le}
use Rattle.std.proofs.lemmas.Int.Digits.{digits_more, digits_value_more}
use Rattle.std.proofs.lemmas.Str.{digit_value_digit}
use Rattle.std.proofs.lemmas.Str.Parse.{digit_from_value, digits_value_short, numerals_by_value, tells_digits}
use Rattle.iolb_model.specs.declared.tower.TowerMove.{TowerMove}
use Rattle.iolb_model.specs.declared.tower.TowerMove.TheVariants.{Bring, Send, Compute, Drop}
use Rattle.memory_levels.specs.MovesText.{AreDigitsInFront, BeginsWithMove, CanBeWritten, MovesOrFault, TextsHaveOneFault, TextsHaveOneList, behind, move_line, move_words, moves_text, place_words}

head-of : (xs ys : List ℕ) → xs ≡ ys → get_or xs 0 0 ≡ get_or ys 0 0
head-of xs ys e = ap (λ (l : List ℕ). get_or l 0 0) e

-- ---- digits

pub digit-range : {b : ℕ} (tested : Bool) → MatchBool tested (IsAsciiDigit b) (IsNotAsciiDigit b) → IsTrue tested → (48 ≤ b) × (b ≤ 57)
digit-range true is told = is
digit-range false is told = absurd cc

pub no-digit : {b : ℕ} {A : Type 0} (tested : Bool) → MatchBool tested (IsAsciiDigit b) (IsNotAsciiDigit b) → tested ≡ false → 48 ≤ b → b ≤ 57 → A
no-digit true is told low high = absurd cc
no-digit false (inl h) told low high = absurd (omega (arith, h, low))
no-digit false (inr h) told low high = absurd (omega (arith, h, high))

-- ---- numbers

-- digits write it, but for a leading 0
pub number-is : (ds : List ℕ) → AllDigits 10 ds → 0 < length ds → (get_or ds 0 0 ≡ 48 → length ds ≡ 1) → digits_value 10 ds < 2 ^ 32 → ds ≡ decimal (digits_value 10 ds)
number-is ds digits some lead small = sym (decimal-digits_value (numerals_by_value _ tells_digits) ds digits some lead (omega (arith, small)))

pub number-some : (ds : List ℕ) (v : ℕ) → v < 2 ^ 32 → ds ≡ decimal v → 0 < length ds
number-some ds v small e = omega (arith, decimal_nonempty v (omega (arith, small)), ap length e)

-- no number writes a 0 in front of another digit
pub number-lead : (x v : ℕ) (ds : List ℕ) → v < 2 ^ 32 → 48 ∷ x ∷ ds ≡ decimal v → ⊥
number-lead x zero ds small e = omega (arith, ap length e, ap length (decimal_digit 0 (omega arith)))
number-lead x (suc v) ds small e = omega (arith, first_decimal (suc v) (omega arith) (omega (arith, small)), ap (λ (l : List ℕ). get_or l 0 0) e)

-- ten digits fit
pub ten-digits : (bytes : List ℕ) (i value : ℕ) → i < length bytes → length bytes ≤ 11 → AllDigits 10 (take i bytes) → value ≡ digits_value 10 (take i bytes) → value < 10 ^ 10
ten-digits bytes i value below few digits e =
    omega (arith, e, digits_value_short (numerals_by_value _ tells_digits) (take i bytes) 10 digits (omega (arith, length-take-le i bytes (omega (arith, below)), below, few)))

-- one digit more
pub digit-more : (bytes : List ℕ) (i value : ℕ) → i < length bytes → AllDigits 10 (take i bytes) → value ≡ digits_value 10 (take i bytes)
    → 48 ≤ get_or bytes i 0 → get_or bytes i 0 ≤ 57 → AllDigits 10 (take (i + 1) bytes) × (value * 10 + (get_or bytes i 0 - 48) ≡ digits_value 10 (take (i + 1) bytes))
digit-more bytes i value below digits e low high =
    let digit = digit_value_digit (get_or bytes i 0) (low, high) in
    (digits_more 10 bytes i below digits (omega (arith, digit, high)), omega (arith, digits_value_more 10 bytes i below, digit, e))

-- ---- words in front

-- a line that is shorter than the word
pub behind-short : (word line : List ℕ) → length line < length word → behind word line ≡ None
behind-short [] line short = absurd (omega (arith, short))
behind-short (w ∷ word) [] short = refl
behind-short (w ∷ word) (b ∷ line) short = by (b == w) (behind-short word line (omega (arith, short))) where
  by : (same : Bool) → behind word line ≡ None → cond same (behind word line) None ≡ None
  by true e = e
  by false e = refl

-- ---- places

pub place-is : (i v : ℕ) → i < 10 → place_words i v ≡ (48 + i) ∷ 32 ∷ decimal v
place-is i v small = ap (λ (l : List ℕ). l ++ 32 ∷ decimal v) (decimal_digit i small)

pub place-same : (i v j w : ℕ) → i < 10 → v < 2 ^ 32 → j < 10 → w < 2 ^ 32 → place_words i v ≡ place_words j w → (i ≡ j) × (v ≡ w)
place-same i v j w is vs js ws e =
    let f : (48 + i) ∷ 32 ∷ decimal v ≡ (48 + j) ∷ 32 ∷ decimal w = sym (place-is i v is) ∙ e ∙ place-is j w js in
    (omega (arith, ap (λ (l : List ℕ). get_or l 0 0) f), decimal_injective v w (omega (arith, vs)) (omega (arith, ws)) (ap (drop 2) f))

line-place : (bytes : List ℕ) (i v : ℕ) (later : List ℕ) → i < 10 → bytes ≡ place_words i v ++ 10 ∷ later → bytes ≡ (48 + i) ∷ 32 ∷ decimal v ++ 10 ∷ later
line-place bytes i v later is e = e ∙ ap (λ (l : List ℕ). l ++ 10 ∷ later) (place-is i v is)

pub place-long : (bytes : List ℕ) (i v : ℕ) (later : List ℕ) → i < 10 → bytes ≡ place_words i v ++ 10 ∷ later → 2 ≤ length bytes
place-long bytes i v later is e = omega (arith, ap length (line-place bytes i v later is e))

pub place-digit : (bytes : List ℕ) (i v : ℕ) (later : List ℕ) → i < 10 → bytes ≡ place_words i v ++ 10 ∷ later → get_or bytes 0 0 ≡ 48 + i
place-digit bytes i v later is e = ap (λ (l : List ℕ). get_or l 0 0) (line-place bytes i v later is e)

pub place-space : (bytes : List ℕ) (i v : ℕ) (later : List ℕ) → i < 10 → bytes ≡ place_words i v ++ 10 ∷ later → get_or bytes 1 0 ≡ 32
place-space bytes i v later is e = ap (λ (l : List ℕ). get_or l 1 0) (line-place bytes i v later is e)

pub place-vertex : (bytes : List ℕ) (i v : ℕ) (later : List ℕ) → i < 10 → bytes ≡ place_words i v ++ 10 ∷ later → drop 2 bytes ≡ decimal v ++ 10 ∷ later
place-vertex bytes i v later is e = ap (drop 2) (line-place bytes i v later is e)

pub place-read : (bytes : List ℕ) (v : ℕ) (later : List ℕ) → 2 ≤ length bytes → 48 ≤ get_or bytes 0 0 → get_or bytes 0 0 ≤ 57 → get_or bytes 1 0 ≡ 32
    → drop 2 bytes ≡ decimal v ++ 10 ∷ later → bytes ≡ place_words (get_or bytes 0 0 - 48) v ++ 10 ∷ later
place-read [] v later long low high space e = absurd (omega (arith, long))
place-read (a ∷ []) v later long low high space e = absurd (omega (arith, long))
place-read (a ∷ b ∷ bytes) v later long low high space e =
    let digit : a ≡ 48 + (a - 48) = omega (arith, low) in
    ap (λ (c : ℕ). a ∷ c ∷ bytes) space ∙ ap (λ (l : List ℕ). a ∷ 32 ∷ l) e ∙ ap (λ (c : ℕ). c ∷ 32 ∷ decimal v ++ 10 ∷ later) digit
    ∙ ap (λ (l : List ℕ). l ++ 10 ∷ later) (sym (place-is (a - 48) v (omega (arith, low, high))))

-- a number that has a leading 0 and more
pub number-led : (bytes : List ℕ) (v : ℕ) → v < 2 ^ 32 → get_or bytes 0 0 ≡ 48 → length bytes ≢ 1 → bytes ≡ decimal v → ⊥
number-led [] v small lead more e = omega (arith, number-some [] v small e)
number-led (a ∷ []) v small lead more e = more refl
number-led (a ∷ b ∷ bytes) v small lead more e = number-lead b v bytes small (ap (λ (c : ℕ). c ∷ b ∷ bytes) (sym lead) ∙ e)

-- what digits say
pub value-some : (bytes : List ℕ) (v : ℕ) → AllDigits 10 bytes → v ≡ digits_value 10 bytes → v < 2 ^ 32 → 0 < length bytes → (get_or bytes 0 0 ≡ 48 → length bytes ≡ 1) → bytes ≡ decimal v
value-some bytes v digits e small some lead = number-is bytes digits some lead (omega (arith, e, small)) ∙ ap decimal (sym e)

-- ---- a line has no newline but its last byte

abbrev pub IsClean : List ℕ → Type 0
IsClean bytes = AllByRecursion (λ b. nat_eq b 10 ≡ false) bytes

clean-append : (xs ys : List ℕ) → IsClean xs → IsClean ys → IsClean (xs ++ ys)
clean-append [] ys h k = k
clean-append (x ∷ xs) ys h k = (h.0, clean-append xs ys h.1 k)

digits-clean : (ds : List ℕ) → AllDigits 10 ds → IsClean ds
digits-clean [] h = tt
digits-clean (c ∷ cs) h = let range = digit_from_value c h.0 in (ne_eqb c 10 (λ e. omega (arith, range, e)), digits-clean cs h.1)

decimal-clean : (v : ℕ) → v < 2 ^ 32 → IsClean (decimal v)
decimal-clean v small = digits-clean (decimal v) (decimal_is_IsNumeral v (omega (arith, small))).0.1

place-clean : (i v : ℕ) → i < 10 → v < 2 ^ 32 → IsClean (place_words i v)
place-clean i v is vs = clean-append (decimal i) (32 ∷ decimal v) (decimal-clean i (omega (arith, is))) (refl, decimal-clean v vs)

words-clean : (move : TowerMove) → CanBeWritten move → IsClean (move_words move)
words-clean (Bring i v) h = (refl, (refl, (refl, (refl, (refl, (refl, place-clean i v h.0 h.1))))))
words-clean (Send i v) h = (refl, (refl, (refl, (refl, (refl, place-clean i v h.0 h.1)))))
words-clean (Compute v) h = (refl, (refl, (refl, (refl, (refl, (refl, (refl, (refl, decimal-clean v h))))))))
words-clean (Drop i v) h = (refl, (refl, (refl, (refl, (refl, place-clean i v h.0 h.1)))))

-- what stands before the first newline is one
pub split-one : (xs ys as_ bs : List ℕ) → IsClean xs → IsClean ys → xs ++ 10 ∷ as_ ≡ ys ++ 10 ∷ bs → (xs ≡ ys) × (as_ ≡ bs)
split-one [] [] as_ bs h k e = (refl, ap (drop 1) e)
split-one [] (y ∷ ys) as_ bs h k e = let f : nat_eq y 10 ≡ true = eq-eqb y 10 (sym (ap (λ (l : List ℕ). get_or l 0 0) e)) in absurd cc
split-one (x ∷ xs) [] as_ bs h k e = let f : nat_eq x 10 ≡ true = eq-eqb x 10 (ap (λ (l : List ℕ). get_or l 0 0) e) in absurd cc
split-one (x ∷ xs) (y ∷ ys) as_ bs h k e =
    let head : x ≡ y = ap (λ (l : List ℕ). get_or l 0 0) e in
    let rest = split-one xs ys as_ bs h.1 k.1 (ap (drop 1) e) in
    let tail = rest.0 in (cc, rest.1)

split-at : (bytes : List ℕ) (end : ℕ) → end < length bytes → bytes ≡ take end bytes ++ get_or bytes end 0 ∷ drop (end + 1) bytes
split-at [] end below = absurd (omega (arith, below))
split-at (b ∷ bytes) zero below = refl
split-at (b ∷ bytes) (suc end) below = ap (λ (l : List ℕ). b ∷ l) (split-at bytes end (omega (arith, below))) ∙ ap (λ (n : ℕ). b ∷ take end bytes ++ get_or bytes end 0 ∷ drop n (b ∷ bytes)) (next end) where
  next : (n : ℕ) → suc (n + 1) ≡ suc n + 1
  next n = omega arith

line-is : (move : TowerMove) (later : List ℕ) → move_line move ++ later ≡ move_words move ++ 10 ∷ later
line-is move later = append_assoc (move_words move) (10 ∷ []) later

line-some : (move : TowerMove) → 1 ≤ length (move_line move)
line-some move = omega (arith, length-append (move_words move) (10 ∷ []))

-- ---- what a line says is one

words-same : (a b : TowerMove) → CanBeWritten a → CanBeWritten b → move_words a ≡ move_words b → a ≡ b
words-same (Bring i v) (Bring j w) h k e = let same = place-same i v j w h.0 h.1 k.0 k.1 (append_cancel_left (codes "bring ") (place_words i v) (place_words j w) e) in let one = same.0 in let two = same.1 in cc
words-same (Send i v) (Send j w) h k e = let same = place-same i v j w h.0 h.1 k.0 k.1 (append_cancel_left (codes "send ") (place_words i v) (place_words j w) e) in let one = same.0 in let two = same.1 in cc
words-same (Compute v) (Compute w) h k e = ap Compute (decimal_injective v w (omega (arith, h)) (omega (arith, k)) (append_cancel_left (codes "compute ") (decimal v) (decimal w) e))
words-same (Drop i v) (Drop j w) h k e = let same = place-same i v j w h.0 h.1 k.0 k.1 (append_cancel_left (codes "drop ") (place_words i v) (place_words j w) e) in let one = same.0 in let two = same.1 in cc
words-same (Bring i v) (Send j w) h k e = absurd (omega (arith, head-of (move_words (Bring i v)) (move_words (Send j w)) e))
words-same (Bring i v) (Compute w) h k e = absurd (omega (arith, head-of (move_words (Bring i v)) (move_words (Compute w)) e))
words-same (Bring i v) (Drop j w) h k e = absurd (omega (arith, head-of (move_words (Bring i v)) (move_words (Drop j w)) e))
words-same (Send i v) (Bring j w) h k e = absurd (omega (arith, head-of (move_words (Send i v)) (move_words (Bring j w)) e))
words-same (Send i v) (Compute w) h k e = absurd (omega (arith, head-of (move_words (Send i v)) (move_words (Compute w)) e))
words-same (Send i v) (Drop j w) h k e = absurd (omega (arith, head-of (move_words (Send i v)) (move_words (Drop j w)) e))
words-same (Compute v) (Bring j w) h k e = absurd (omega (arith, head-of (move_words (Compute v)) (move_words (Bring j w)) e))
words-same (Compute v) (Send j w) h k e = absurd (omega (arith, head-of (move_words (Compute v)) (move_words (Send j w)) e))
words-same (Compute v) (Drop j w) h k e = absurd (omega (arith, head-of (move_words (Compute v)) (move_words (Drop j w)) e))
words-same (Drop i v) (Bring j w) h k e = absurd (omega (arith, head-of (move_words (Drop i v)) (move_words (Bring j w)) e))
words-same (Drop i v) (Send j w) h k e = absurd (omega (arith, head-of (move_words (Drop i v)) (move_words (Send j w)) e))
words-same (Drop i v) (Compute w) h k e = absurd (omega (arith, head-of (move_words (Drop i v)) (move_words (Compute w)) e))

lines-same : (a b : TowerMove) (as_ bs : List ℕ) → CanBeWritten a → CanBeWritten b → move_line a ++ as_ ≡ move_line b ++ bs → (a ≡ b) × (as_ ≡ bs)
lines-same a b as_ bs h k e =
    let parts = split-one (move_words a) (move_words b) as_ bs (words-clean a h) (words-clean b k) (sym (line-is a as_) ∙ e ∙ line-is b bs) in
    (words-same a b h k parts.0, parts.1)

-- ---- texts

texts-same : (one two : List TowerMove) → AllByRecursion CanBeWritten one → AllByRecursion CanBeWritten two → moves_text one ≡ moves_text two → one ≡ two
texts-same [] [] h k e = refl
texts-same [] (b ∷ two) h k e = absurd (omega (arith, ap length e, length-append (move_line b) (moves_text two), line-some b))
texts-same (a ∷ one) [] h k e = absurd (omega (arith, ap length e, length-append (move_line a) (moves_text one), line-some a))
texts-same (a ∷ one) (b ∷ two) h k e =
    let parts = lines-same a b (moves_text one) (moves_text two) h.0 k.0 e in
    let head = parts.0 in let tail = texts-same one two h.1 k.1 parts.1 in cc

pub texts_have_one_list : TextsHaveOneList
texts_have_one_list bytes one two h k = texts-same one two h.each k.each (sym h.text ∙ k.text)

faults-same : (one two : List TowerMove) (as_ bs : List ℕ) → AllByRecursion CanBeWritten one → AllByRecursion CanBeWritten two
    → ¬ BeginsWithMove as_ → ¬ BeginsWithMove bs → moves_text one ++ as_ ≡ moves_text two ++ bs → length (moves_text one) ≡ length (moves_text two)
faults-same [] [] as_ bs h k p q e = refl
faults-same [] (b ∷ two) as_ bs h k p q e =
    absurd (p (record { move = b; written = k.0; later = moves_text two ++ bs; text = e ∙ append_assoc (move_line b) (moves_text two) bs }))
faults-same (a ∷ one) [] as_ bs h k p q e =
    absurd (q (record { move = a; written = h.0; later = moves_text one ++ as_; text = sym e ∙ append_assoc (move_line a) (moves_text one) as_ }))
faults-same (a ∷ one) (b ∷ two) as_ bs h k p q e =
    let parts = lines-same a b (moves_text one ++ as_) (moves_text two ++ bs) h.0 k.0 (sym (append_assoc (move_line a) (moves_text one) as_) ∙ e ∙ append_assoc (move_line b) (moves_text two) bs) in
    let rest = faults-same one two as_ bs h.1 k.1 p q parts.1 in
    omega (arith, length-append (move_line a) (moves_text one), length-append (move_line b) (moves_text two), rest, ap (λ (m : TowerMove). length (move_line m)) parts.0)

pub texts_have_one_fault : TextsHaveOneFault
texts_have_one_fault bytes one two h k =
    h.place_is ∙ faults-same h.before k.before h.left k.left h.each k.each h.bad k.bad (sym h.text ∙ k.text) ∙ sym k.place_is

never-both : (moves before : List TowerMove) (left : List ℕ) → AllByRecursion CanBeWritten moves → AllByRecursion CanBeWritten before → 1 ≤ length left
    → ¬ BeginsWithMove left → moves_text moves ≡ moves_text before ++ left → ⊥
never-both [] [] left h k some bad e = omega (arith, some, ap length e)
never-both [] (b ∷ before) left h k some bad e =
    omega (arith, ap length e, length-append (move_line b ++ moves_text before) left, length-append (move_line b) (moves_text before), line-some b)
never-both (a ∷ moves) [] left h k some bad e = bad (record { move = a; written = h.0; later = moves_text moves; text = sym e })
never-both (a ∷ moves) (b ∷ before) left h k some bad e =
    let parts = lines-same a b (moves_text moves) (moves_text before ++ left) h.0 k.0 (e ∙ append_assoc (move_line b) (moves_text before) left) in
    never-both moves before left h.1 k.1 some bad parts.1

pub moves_or_fault : MovesOrFault
moves_or_fault bytes moves place h k = never-both moves k.before k.left h.each k.each k.some k.bad (sym h.text ∙ k.text)

-- ---- a number up to the end of its line

pub ended-number : (bytes : List ℕ) (end v : ℕ) → end < length bytes → get_or bytes end 0 ≡ 10 → take end bytes ≡ decimal v
    → bytes ≡ decimal v ++ 10 ∷ drop (end + 1) bytes
ended-number bytes end v below newline e =
    split-at bytes end below ∙ ap (λ (b : ℕ). take end bytes ++ b ∷ drop (end + 1) bytes) newline ∙ ap (λ (l : List ℕ). l ++ 10 ∷ drop (end + 1) bytes) e

-- digits in front of a newline reach to it at most
digits-stop : (ds ys rest later : List ℕ) → AllDigits 10 ds → ds ++ rest ≡ ys ++ 10 ∷ later → length ds ≤ length ys
digits-stop [] ys rest later h e = omega arith
digits-stop (d ∷ ds) [] rest later h e = omega (arith, digit_from_value d h.0, head-of (d ∷ ds ++ rest) (10 ∷ later) e)
digits-stop (d ∷ ds) (y ∷ ys) rest later h e = omega (arith, digits-stop ds ys rest later h.1 (ap (drop 1) e))

-- all digits in front of it are one number
digits-same : (ds ys : List ℕ) (b : ℕ) (rest later : List ℕ) → AllDigits 10 ds → AllDigits 10 ys → IsNotAsciiDigit b → ds ++ b ∷ rest ≡ ys ++ 10 ∷ later
    → (ds ≡ ys) × (b ≡ 10)
digits-same [] [] b rest later h k other e = (refl, head-of (b ∷ rest) (10 ∷ later) e)
digits-same [] (y ∷ ys) b rest later h k other e = absurd (omega (arith, digit_from_value y k.0, other, head-of (b ∷ rest) (y ∷ ys ++ 10 ∷ later) e))
digits-same (d ∷ ds) [] b rest later h k other e = absurd (omega (arith, digit_from_value d h.0, head-of (d ∷ ds ++ b ∷ rest) (10 ∷ later) e))
digits-same (d ∷ ds) (y ∷ ys) b rest later h k other e =
    let head : d ≡ y = head-of (d ∷ ds ++ b ∷ rest) (y ∷ ys ++ 10 ∷ later) e in
    let same = digits-same ds ys b rest later h.1 k.1 other (ap (drop 1) e) in
    let tail : ds ≡ ys = same.0 in (cc, same.1)

-- Where digits stand in front of eleven bytes at most, with none behind them, a number up to a newline is these digits.
pub number-in-front : (bytes : List ℕ) (most many value : ℕ) → most ≡ min (length bytes) 11 → AreDigitsInFront (take most bytes) many value → (v : ℕ) (later : List ℕ) → v < 2 ^ 32
    → bytes ≡ decimal v ++ 10 ∷ later → (many < length bytes) × (get_or bytes many 0 ≡ 10) × (take many bytes ≡ decimal v) × (value ≡ v)
number-in-front bytes most many value is_most front v later small e =
    let is = decimal_is_IsNumeral v (omega (arith, small)) in
    let room : many ≤ most = omega (arith, front.within, length-take most bytes) in
    let same : take many (take most bytes) ≡ take many bytes = take-take many most bytes room in
    let digits : AllDigits 10 (take many bytes) = subst (λ (l : List ℕ). AllDigits 10 l) same front.digits in
    let stop : length (take many bytes) ≤ length (decimal v) = digits-stop (take many bytes) (decimal v) (drop many bytes) later digits (take-append-drop many bytes ∙ e) in
    let short : many ≤ length (decimal v) = omega (arith, stop, length-take-le many bytes (omega (arith, room))) in
    let ten : length (decimal v) ≤ 10 = length-decimal-le 10 v (omega arith) (omega (arith, small)) (omega (arith, small)) in
    let long : length (decimal v) < length bytes = omega (arith, ap length e, length-append (decimal v) (10 ∷ later)) in
    let below : many < most = omega (arith, short, ten, long) in
    let other : IsNotAsciiDigit (get_or bytes many 0) = subst (λ (b : ℕ). IsNotAsciiDigit b) (get_or-take most bytes many 0 below) (front.ends (omega (arith, below, length-take most bytes))) in
    let both = digits-same (take many bytes) (decimal v) (get_or bytes many 0) (drop (many + 1) bytes) later digits is.0.1 other (sym (split-at bytes many (omega (arith, below))) ∙ e) in (
      omega (arith, below),
      both.1,
      both.0,
      front.value_is ∙ ap (digits_value 10) (same ∙ both.0) ∙ is.1,
    )

-- what is read of them
pub number-read : (bytes : List ℕ) (most many value : ℕ) → most ≡ min (length bytes) 11 → AreDigitsInFront (take most bytes) many value → many < length bytes → get_or bytes many 0 ≡ 10
    → 0 < many → (get_or bytes 0 0 ≡ 48 → many ≡ 1) → value < 2 ^ 32 → bytes ≡ decimal value ++ 10 ∷ drop (many + 1) bytes
number-read bytes most many value is_most front below newline some lead small =
    let room : many ≤ most = omega (arith, front.within, length-take most bytes) in
    let same : take many (take most bytes) ≡ take many bytes = take-take many most bytes room in
    let long : length (take many bytes) ≡ many = length-take-le many bytes (omega (arith, below)) in
    let first : get_or (take many bytes) 0 0 ≡ get_or bytes 0 0 = get_or-take many bytes 0 0 some in
    ended-number bytes many value below newline
    (value-some (take many bytes) value (subst (λ (l : List ℕ). AllDigits 10 l) same front.digits) (front.value_is ∙ ap (digits_value 10) same) small (omega (arith, long, some)) (λ zero_. long ∙ lead (sym first ∙ zero_)))

-- ---- a word in front, and what stands behind it

behind-is : (word bytes rest : List ℕ) → behind word bytes ≡ Some rest → bytes ≡ word ++ rest
behind-is [] bytes rest e = cc
behind-is (w ∷ word) [] rest e = absurd cc
behind-is (w ∷ word) (b ∷ bytes) rest e = by (b == w) refl e (behind-is word bytes rest) where
  by : (same : Bool) → same ≡ (b == w) → cond same (behind word bytes) None ≡ Some rest → (behind word bytes ≡ Some rest → bytes ≡ word ++ rest) → b ∷ bytes ≡ w ∷ word ++ rest
  by true is f inner = ap (λ (c : ℕ). c ∷ bytes) (eqb-true b w (sym is)) ∙ ap (λ (l : List ℕ). w ∷ l) (inner f)
  by false is f inner = absurd cc

-- a place behind a word, up to the end of its line
pub placed-line : (word bytes place : List ℕ) (i v : ℕ) (later : List ℕ) → behind word bytes ≡ Some place → place ≡ place_words i v ++ 10 ∷ later
    → bytes ≡ ((word ++ place_words i v) ++ 10 ∷ []) ++ later
placed-line word bytes place i v later e f =
    behind-is word bytes place e ∙ ap (λ (l : List ℕ). word ++ l) f ∙ sym (append_assoc word (place_words i v) (10 ∷ later))
    ∙ sym (append_assoc (word ++ place_words i v) (10 ∷ []) later)

pub numbered-line : (word bytes number : List ℕ) (v : ℕ) (later : List ℕ) → behind word bytes ≡ Some number → number ≡ decimal v ++ 10 ∷ later
    → bytes ≡ ((word ++ decimal v) ++ 10 ∷ []) ++ later
numbered-line word bytes number v later e f =
    behind-is word bytes number e ∙ ap (λ (l : List ℕ). word ++ l) f ∙ sym (append_assoc word (decimal v) (10 ∷ later))
    ∙ sym (append_assoc (word ++ decimal v) (10 ∷ []) later)
