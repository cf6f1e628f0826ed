-- Forms with variables more: how many they have, and how large their numbers are.
use Rattle.std.proofs.Common.{◌≡◌, sym, ◌∙◌, ap, ℕ, ◌+◌, ◌<◌, ◌≤◌, List, [], ◌∷◌, ◌++◌, length, map, replicate, take, drop, get_or, append-nil, arith}
use Rattle.std.specs.List.{AllByRecursion}
use Rattle.std.proofs.Math.IntN.{ℤ, pos}
use Rattle.std.proofs.lemmas.List.{append_assoc, drop_all, length-append, length-drop, length-take, length-replicate}
use Rattle.base_laws.proofs.Lists.{All-append, All-replicate, rest_at, All-drop, All-take}
use Rattle.iolb_model.specs.Form.{AffineForm}
use Rattle.affine_form.specs.Form.{variables, IsSmall, IsSmallForm}
use Rattle.affine_form.specs.System.{AllOver}
use Rattle.footprint_pieces.specs.DisjointClaims.{moved}

-- the variables of a form that was moved
pub length-moved : (place more : ℕ) (form : AffineForm) → place ≤ variables form → variables (moved place more form) ≡ variables form + more
length-moved place more form h = omega (
  arith,
  length-append (take place form.coefficients ++ replicate more (pos 0)) (drop place form.coefficients),
  length-append (take place form.coefficients) (replicate more (pos 0)),
  length-take place form.coefficients,
  length-drop place form.coefficients,
  length-replicate more (pos 0),
)

pub moved-over : (place more own : ℕ) (forms : List AffineForm) → AllOver (place + own) forms → AllOver (place + more + own) (map (moved place more) forms)
moved-over place more own [] over = tt
moved-over place more own (form ∷ forms) over = (omega (arith, length-moved place more form (omega (arith, over.0)), over.0), moved-over place more own forms over.1)

-- their numbers
pub moved-numbers : (limit place more : ℕ) (coefficients : List ℤ) → IsSmall limit (pos 0) → AllByRecursion (IsSmall limit) coefficients
    → AllByRecursion (IsSmall limit) (take place coefficients ++ replicate more (pos 0) ++ drop place coefficients)
moved-numbers limit place more coefficients none h =
    All-append (IsSmall limit) (take place coefficients ++ replicate more (pos 0)) (drop place coefficients)
    (All-append (IsSmall limit) (take place coefficients) (replicate more (pos 0)) (All-take (IsSmall limit) place coefficients h) (All-replicate (IsSmall limit) more (pos 0) none))
    (All-drop (IsSmall limit) place coefficients h)

pub moved-small : (limit place more : ℕ) (forms : List AffineForm) → IsSmall limit (pos 0) → AllByRecursion (IsSmallForm limit) forms → AllByRecursion (IsSmallForm limit) (map (moved place more) forms)
moved-small limit place more [] none h = tt
moved-small limit place more (form ∷ forms) none h = ((moved-numbers limit place more form.coefficients none h.0.0, h.0.1), moved-small limit place more forms none h.1)

pub over-within : (many vars : ℕ) (forms : List AffineForm) → many ≤ vars → AllOver many forms → AllByRecursion (λ (form : AffineForm). variables form ≤ vars) forms
over-within many vars [] few over = tt
over-within many vars (form ∷ forms) few over = (omega (arith, over.0, few), over-within many vars forms few over.1)

-- one item more of a list of which each has an image
pub mapped-more : {X Y : Type 0} (f : X → Y) (xs : List X) (i : ℕ) (x : X) (y : Y) (old new : List Y) → i < length xs → x ≡ get_or xs i x → y ≡ f x → new ≡ old ++ y ∷ []
    → old ++ map f (drop i xs) ≡ map f xs → new ++ map f (drop (i + 1) xs) ≡ map f xs
mapped-more {X} {Y} f xs i x y old new below read is pushed h =
    let rest : List Y = map f (drop (i + 1) xs) in
    ap (λ (l : List Y). l ++ rest) pushed ∙ append_assoc old (y ∷ []) rest ∙ ap (λ (z : Y). old ++ z ∷ rest) is ∙ ap (λ (l : List X). old ++ map f l) (sym (rest_at xs i x below read)) ∙ h

-- all of them
pub mapped-all : {X Y : Type 0} (f : X → Y) (xs : List X) (i : ℕ) (old : List Y) → length xs ≤ i → old ++ map f (drop i xs) ≡ map f xs → old ≡ map f xs
mapped-all {X} {Y} f xs i old past h = sym (append-nil old) ∙ ap (λ (l : List X). old ++ map f l) (sym (drop_all i xs past)) ∙ h
