-- Where the lines of a text end, by the places of its newlines.
use Rattle.std.proofs.Common.{◌≡◌, ◌∙◌, ap, ℕ, ◌<◌, ◌≤◌, ◌-◌, ◌+◌, List, [], ◌∷◌, ◌++◌, append_assoc, length, get_or, drop, take, arith}
use Rattle.std.specs.Prelude.{Option, not}
use Rattle.std.specs.List.{after_last, cons_option, filter_map, position_or_len, suffix_len}
use Rattle.std.proofs.lemmas.List.{take_more}
use Rattle.std.proofs.lemmas.List.Elements.{filter_map-append}
use Rattle.std.proofs.lemmas.Bool.{ne_eqb}
use Rattle.std.proofs.lemmas.List.Sums.{position_or_len_is, suffix_len_is}
use Rattle.plain_pages.specs.Excerpt.{is_newline}

-- the last line begins behind a newline after which none stands
pub after_last-newline : (text : List ℕ) (start : ℕ) → start ≤ length text
    → ((k : ℕ) → start ≤ k → k < length text → get_or text k 0 ≡ 10 → ⊥) → (0 < start → get_or text (start - 1) 0 ≡ 10)
    → after_last is_newline text ≡ drop start text
after_last-newline text start within none newline =
    let suffix : suffix_len (λ byte. not (is_newline byte)) text ≡ length text - start =
    suffix_len_is (λ byte. not (is_newline byte)) text start 0 within
    (λ k from below. ap not (ne_eqb (get_or text k 0) 10 (none k from below)))
    (λ some. ap (λ (byte : ℕ). not (is_newline byte)) (newline some)) in
    let place : length text - suffix_len (λ byte. not (is_newline byte)) text ≡ start = omega arith in
    ap (λ (n : ℕ). drop n text) place

-- the first line ends at a newline before which none stands, or at the end
pub position_or_len-newline : (text : List ℕ) (end : ℕ) → end ≤ length text
    → ((k : ℕ) → k < end → get_or text k 0 ≡ 10 → ⊥) → (end < length text → get_or text end 0 ≡ 10)
    → position_or_len is_newline text ≡ end
position_or_len-newline text end within none newline =
    position_or_len_is is_newline text end 0 within
    (λ k below. ne_eqb (get_or text k 0) 10 (none k below))
    (λ some. ap is_newline (newline some))

-- a page that gained what a function makes of each of the first bytes, and then what it makes of the next
pub filter_map-take_more : (f : ℕ → Option ℕ) (bytes first before after : List ℕ) (i : ℕ) (made : Option ℕ) → i < length bytes
    → before ≡ first ++ filter_map f (take i bytes) → made ≡ f (get_or bytes i 0) → after ≡ before ++ cons_option made []
    → after ≡ first ++ filter_map f (take (i + 1) bytes)
filter_map-take_more f bytes first before after i made below so_far next gains =
    rw (take_more bytes i 0 below, filter_map-append f (take i bytes) (get_or bytes i 0 ∷ []))
    (gains ∙ ap (λ (page : List ℕ). page ++ cons_option made []) so_far
    ∙ append_assoc first (filter_map f (take i bytes)) (cons_option made [])
    ∙ ap (λ (it : Option ℕ). first ++ (filter_map f (take i bytes) ++ cons_option it [])) next)
