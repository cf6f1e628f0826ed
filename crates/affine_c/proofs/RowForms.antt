-- The terms of a form, rows whose numbers are combined, and forms back from their rows.
use Rattle.std.proofs.Common.{◌≡◌, refl, sym, ap, subst, ◌∙◌, ℕ, zero, suc, ◌≤◌, Bool, true, false, cond, List, [], ◌∷◌, ◌++◌, append_assoc, length, take, drop, arith, length-take, ◌<◌, get_or, replicate, ℤ, pos, ◌+◌, map}
use Rattle.std.specs.Prelude.{ℤ, ⊤, zip, filter, ◌+ℤ◌, ◌-ℤ◌, ◌*ℤ◌, set, Some}
use Rattle.std.specs.List.{AllByRecursion}
use Rattle.base_laws.proofs.Lists.{All-append, All-left, All-right}
use Rattle.iolb_model.specs.Form.{AffineForm}
use Rattle.iolb_model.specs.Printed.{nonzero}
use Rattle.affine_c.specs.Tree.{form_terms}
use Rattle.affine_c.proofs.Roles.{padded, IsSmall, IsSmallForm, widened, widened_access, widened_statement}
use Rattle.c_tokens.specs.Names.{IsName}
use Rattle.iolb_model.specs.declared.limits.TheConstants.{PARAMETERS, LOOPS}
use Rattle.std.proofs.lemmas.Bool.Decides.{nat_tests}
use Rattle.std.proofs.lemmas.Int.{ints}
use Rattle.c_reading.specs.Numbers.{is_small, if_small, small_number, number_before, plus_times, combined, single, width, most_parameters, most_loops}
use Rattle.std.proofs.lemmas.List.{take-append-le, take-append-drop, take_all, drop_at, length-take-le, length-drop}
use Rattle.iolb_model.specs.Program.{Access as ModelAccess, Statement as ModelStatement, IsOver}
use Rattle.c_grammar.specs.Program.{narrowed, narrowed_access, narrowed_statement}

-- a variable's name, or nothing for the constant
abbrev pub IsVariable : List ℕ → Type 0
IsVariable [] = ⊤
IsVariable (b ∷ name) = IsName (b ∷ name)

-- a small number with a variable
abbrev pub IsTerm : ℤ × List ℕ → Type 0
IsTerm t = IsSmall t.0 × IsVariable t.1

-- each is a term
abbrev pub AreTerms : List (ℤ × List ℕ) → Type 0
AreTerms terms = AllByRecursion IsTerm terms

-- ---- elements of lists

-- an element is kept, or not
pub All_kept : {X : Type 0} (P : X → Type 0) (b : Bool) (x : X) (xs : List X) → P x → AllByRecursion P xs → AllByRecursion P (cond b (x ∷ xs) xs)
All_kept P true x xs p q = (p, q)
All_kept P false x xs p q = q

-- what holds of each that is kept
pub All_filter : {X : Type 0} (P : X → Type 0) (test : X → Bool) (xs : List X) → AllByRecursion P xs → AllByRecursion P (filter test xs)
All_filter P test [] p = tt
All_filter P test (x ∷ xs) p = All_kept P (test x) x (filter test xs) p.0 (All_filter P test xs p.1)

-- ---- names with their coefficients

-- names behind names
pub zip-append : (ns : List ℤ) (names more : List (List ℕ)) → zip ns (names ++ more) ≡ zip (take (length names) ns) names ++ zip (drop (length names) ns) more
zip-append ns [] more = refl
zip-append [] (name ∷ names) more = refl
zip-append (n ∷ ns) (name ∷ names) more = ap (λ ts. (n, name) ∷ ts) (zip-append ns names more)

-- no names
zip-none : (ns : List ℤ) (names : List (List ℕ)) → names ≡ [] → zip ns names ≡ []
zip-none (n ∷ ns) (name ∷ names) e = cc
zip-none _ _ e = refl

-- only as many numbers as names count
pub zip-take : (ns : List ℤ) (names : List (List ℕ)) (k : ℕ) → length names ≤ k → zip (take k ns) names ≡ zip ns names
zip-take ns [] k few = zip-none (take k ns) [] refl ∙ sym (zip-none ns [] refl)
zip-take [] (name ∷ names) zero few = refl
zip-take [] (name ∷ names) (suc k) few = refl
zip-take (n ∷ ns) (name ∷ names) zero few = absurd (omega arith)
zip-take (n ∷ ns) (name ∷ names) (suc k) few = ap (λ ts. (n, name) ∷ ts) (zip-take ns names k (omega arith))

-- the terms of the parameters, then those of the loops, then the constant
pub form_terms-parts : (parameters around : List (List ℕ)) (form : AffineForm)
    → form_terms (parameters ++ around) form ≡ nonzero (zip (take (length parameters) form.coefficients) parameters ++ (zip (take (length around) (drop (length parameters) form.coefficients)) around ++ (form.constant, []) ∷ []))
form_terms-parts parameters around form =
    ap (λ ts. nonzero (ts ++ (form.constant, []) ∷ [])) (zip-append form.coefficients parameters around ∙ ap (λ ts. zip (take (length parameters) form.coefficients) parameters ++ ts) (sym (zip-take (drop (length parameters) form.coefficients) around (length around) (omega arith))))
    ∙ ap nonzero (append_assoc (zip (take (length parameters) form.coefficients) parameters) (zip (take (length around) (drop (length parameters) form.coefficients)) around) ((form.constant, []) ∷ []))

-- ---- they are terms

-- numbers of a row that is small
small_padded : (k : ℕ) (ns : List ℤ) → length ns ≤ k → AllByRecursion IsSmall (padded k ns) → AllByRecursion IsSmall ns
small_padded zero (n ∷ ns) few h = absurd (omega arith)
small_padded (suc k) (n ∷ ns) few h = (h.0, small_padded k ns (omega arith) h.1)
small_padded _ [] few h = tt

-- a name is a variable
IsName-variable : (name : List ℕ) → IsName name → IsVariable name
IsName-variable [] h = tt
IsName-variable (b ∷ name) h = h

-- names with small numbers are terms
zip_terms : (ns : List ℤ) (names : List (List ℕ)) → AllByRecursion IsSmall ns → AllByRecursion IsName names → AreTerms (zip ns names)
zip_terms (n ∷ ns) (name ∷ names) small named = ((small.0, IsName-variable name named.0), zip_terms ns names small.1 named.1)
zip_terms _ _ small named = tt

-- a form's terms are terms
pub form_terms-are : (parameters around : List (List ℕ)) (form : AffineForm) → AllByRecursion IsName parameters → AllByRecursion IsName around → length parameters ≤ PARAMETERS → length around ≤ LOOPS
    → IsSmallForm (length parameters) (length around) form → AreTerms (form_terms (parameters ++ around) form)
form_terms-are parameters around form named loops few deep small =
    let first : List ℤ = take (length parameters) form.coefficients in
    let second : List ℤ = take (length around) (drop (length parameters) form.coefficients) in
    let a : AllByRecursion IsSmall first = small_padded PARAMETERS first (omega (arith, length-take (length parameters) form.coefficients)) (All-left IsSmall (padded PARAMETERS first) (padded LOOPS second) small.1) in
    let b : AllByRecursion IsSmall second = small_padded LOOPS second (omega (arith, length-take (length around) (drop (length parameters) form.coefficients))) (All-right IsSmall (padded PARAMETERS first) (padded LOOPS second) small.1) in
    subst AreTerms (sym (form_terms-parts parameters around form))
    (All_filter IsTerm _ _ (All-append IsTerm (zip first parameters) _ (zip_terms first parameters a named) (All-append IsTerm (zip second around) _ (zip_terms second around b loops) ((small.0, tt), tt))))

-- a small number passes the reader's test
pub small_is : (n : ℤ) → IsSmall n → is_small n ≡ true
small_is n h = grind (arith, nat_tests)

-- a sum that is small
pub small_number_is : (k x y n : ℤ) → (x +ℤ (k *ℤ y)) -ℤ pos 0 ≡ n → IsSmall n → small_number k (pos 0) x y ≡ Some n
unfolding small_number
small_number_is k x y n e h = let small : is_small n ≡ true = small_is n h in ap if_small e ∙ rw small refl

-- 0 is added
no_change : (k x : ℤ) → (x +ℤ (k *ℤ pos 0)) -ℤ pos 0 ≡ x
no_change k x = omega (arith, ints)

-- nothing is added
pub plus_none : (k : ℤ) (xs : List ℤ) → AllByRecursion IsSmall xs → plus_times k xs (replicate (length xs) (pos 0)) ≡ Some xs
plus_none k [] small = refl
plus_none k (x ∷ xs) small =
    ap (λ o. number_before o (plus_times k xs (replicate (length xs) (pos 0)))) (small_number_is k x (pos 0) x (no_change k x) small.0) ∙ ap (number_before (Some x)) (plus_none k xs small.1)

-- a multiple is added at one place
pub plus_single : (k : ℤ) (xs : List ℤ) (slot : ℕ) (n m : ℤ) → AllByRecursion IsSmall xs → slot < length xs → (get_or xs slot (pos 0) +ℤ (k *ℤ n)) -ℤ pos 0 ≡ m → IsSmall m
    → plus_times k xs (set (replicate (length xs) (pos 0)) slot n) ≡ Some (set xs slot m)
plus_single k [] slot n m small within is fits = absurd (omega arith)
plus_single k (x ∷ xs) zero n m small within is fits =
    ap (λ o. number_before o (plus_times k xs (replicate (length xs) (pos 0)))) (small_number_is k x n m is fits) ∙ ap (number_before (Some m)) (plus_none k xs small.1)
plus_single k (x ∷ xs) (suc slot) n m small within is fits =
    ap (λ o. number_before o (plus_times k xs (set (replicate (length xs) (pos 0)) slot n))) (small_number_is k x (pos 0) x (no_change k x) small.0)
    ∙ ap (number_before (Some x)) (plus_single k xs slot n m small.1 (omega arith) is fits)

-- nothing less on the first number
pub combined-plus : (k : ℤ) (xs ys : List ℤ) → combined k (pos 0) xs ys ≡ plus_times k xs ys
combined-plus k [] ys = refl
combined-plus k (x ∷ xs) [] = refl
combined-plus k (x ∷ xs) (y ∷ ys) = refl

-- the same of rows
pub combined_single : (k : ℤ) (xs : List ℤ) (slot : ℕ) (n m : ℤ) → length xs ≡ width → AllByRecursion IsSmall xs → slot < width → (get_or xs slot (pos 0) +ℤ (k *ℤ n)) -ℤ pos 0 ≡ m → IsSmall m
    → combined k (pos 0) xs (single slot n) ≡ Some (set xs slot m)
combined_single k xs slot n m long small within is fits =
    combined-plus k xs (single slot n) ∙ ap (λ l. plus_times k xs (set (replicate l (pos 0)) slot n)) (sym long) ∙ plus_single k xs slot n m small (omega arith) is fits

-- ---- numbers that are padded

-- so many numbers
pub length-padded : (k : ℕ) (ns : List ℤ) → length (padded k ns) ≡ k
length-padded zero ns = refl
length-padded (suc k) [] = ap suc (length-padded k [])
length-padded (suc k) (n ∷ ns) = ap suc (length-padded k ns)

take-padded : (m k : ℕ) (ns : List ℤ) → length ns ≡ m → m ≤ k → take m (padded k ns) ≡ ns
take-padded zero k [] e h = refl
take-padded (suc m) zero ns e h = absurd (omega (arith, h))
take-padded (suc m) (suc k) (n ∷ ns) e h = ap (λ (xs : List ℤ). n ∷ xs) (take-padded m k ns (omega (arith, e)) (omega (arith, h)))
take-padded _ _ _ e h = absurd (omega (arith, e))

-- ---- rows and forms

-- a form over so many variables is the form of its widened row
pub form_back : (p d : ℕ) (form : AffineForm) → p ≤ most_parameters → d ≤ most_loops → IsOver (p + d) form → narrowed p d (widened p d form) ≡ form
form_back p d form few inner over =
    let cs = form.coefficients in
    let front = padded most_parameters (take p cs) in
    let back = padded most_loops (take d (drop p cs)) in
    let first : length (take p cs) ≡ p = length-take-le p cs (omega (arith, over)) in
    let last : length (drop p cs) ≡ d = omega (arith, over, length-drop p cs) in
    let cut : take d (drop p cs) ≡ drop p cs = take_all d (drop p cs) (omega (arith, last)) in
    let parameters : take p (front ++ back) ≡ take p cs =
    take-append-le p front back (omega (arith, few, length-padded most_parameters (take p cs))) ∙ take-padded p most_parameters (take p cs) first few in
    let loops : take d (drop most_parameters (front ++ back)) ≡ drop p cs =
    ap (take d) (drop_at front back most_parameters (length-padded most_parameters (take p cs)) ∙ ap (padded most_loops) cut) ∙ take-padded d most_loops (drop p cs) last inner in
    let whole : take p (front ++ back) ++ take d (drop most_parameters (front ++ back)) ≡ cs =
    ap (λ (ns : List ℤ). ns ++ take d (drop most_parameters (front ++ back))) parameters ∙ ap (λ (ns : List ℤ). take p cs ++ ns) loops ∙ take-append-drop p cs in
    λ i. record { coefficients = whole i; constant = form.constant }

-- ---- references and statements

pub forms_back : (p d : ℕ) (forms : List AffineForm) → p ≤ most_parameters → d ≤ most_loops → AllByRecursion (IsOver (p + d)) forms → map (narrowed p d) (map (widened p d) forms) ≡ forms
forms_back p d [] few inner h = refl
forms_back p d (form ∷ forms) few inner h =
    ap (λ (f : AffineForm). f ∷ map (narrowed p d) (map (widened p d) forms)) (form_back p d form few inner h.0) ∙ ap (λ fs. form ∷ fs) (forms_back p d forms few inner h.1)

abbrev pub HasForms : ℕ → ℕ → ModelAccess → Type 0
HasForms p d a = AllByRecursion (IsOver (p + d)) a.subscripts

form_access_back : (p d : ℕ) (a : ModelAccess) → p ≤ most_parameters → d ≤ most_loops → HasForms p d a → narrowed_access p d (widened_access p d a) ≡ a
form_access_back p d a few inner h = let forms = forms_back p d a.subscripts few inner h in λ i. record { array = a.array; subscripts = forms i }

form_accesses_back : (p d : ℕ) (all : List ModelAccess) → p ≤ most_parameters → d ≤ most_loops → AllByRecursion (HasForms p d) all → map (narrowed_access p d) (map (widened_access p d) all) ≡ all
form_accesses_back p d [] few inner h = refl
form_accesses_back p d (a ∷ all) few inner h =
    ap (λ (x : ModelAccess). x ∷ map (narrowed_access p d) (map (widened_access p d) all)) (form_access_back p d a few inner h.0) ∙ ap (λ xs. a ∷ xs) (form_accesses_back p d all few inner h.1)

pub form_statement_back : (p d : ℕ) (s : ModelStatement) → p ≤ most_parameters → d ≤ most_loops → HasForms p d s.writes → AllByRecursion (HasForms p d) s.reads → narrowed_statement p d (widened_statement p d s) ≡ s
form_statement_back p d s few inner h k =
    let writes = form_access_back p d s.writes few inner h in
    let reads = form_accesses_back p d s.reads few inner k in
    λ i. record { writes = writes i; reads = reads i }
