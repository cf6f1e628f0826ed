-- One step of a walk along lists of forms.
use Rattle.std.proofs.Common.{◌≡◌, sym, ◌∙◌, ap, ℕ, zero, suc, ◌+◌, ◌-◌, ◌<◌, ◌≤◌, List, [], ◌∷◌, ◌++◌, length, get_or, take, drop, arith}
use Rattle.std.proofs.Math.IntN.{ℤ, pos}
use Rattle.std.proofs.lemmas.List.{drop_all, take_all, append_assoc, append-nil}
use Rattle.base_laws.proofs.Lists.{rest_at}
use Rattle.iolb_model.specs.Form.{AffineForm}
use Rattle.iolb_model.specs.Program.{Direction}
use Rattle.affine_form.specs.Rows.{difference, earlier_row, order_rows}

pub below-more : (n i : ℕ) → i < n → n - i ≡ suc (n - (i + 1))
below-more n i h = omega arith

pub order-step : (vars level i : ℕ) (loops : List Direction) (direction : Direction) (ys xs : List AffineForm) (y x : AffineForm) (rows more whole : List AffineForm)
    → i < level → i < length loops → i < length ys → i < length xs → direction ≡ get_or loops i direction → y ≡ get_or ys i y → x ≡ get_or xs i x
    → more ≡ rows ++ difference vars y x (pos 0) ∷ difference vars x y (pos 0) ∷ []
    → rows ++ order_rows vars (drop i loops) (level - i) (drop i ys) (drop i xs) ≡ whole
    → more ++ order_rows vars (drop (i + 1) loops) (level - (i + 1)) (drop (i + 1) ys) (drop (i + 1) xs) ≡ whole
order-step vars level i loops direction ys xs y x rows more whole p q r s d a b pushed h =
    let rest : List AffineForm = order_rows vars (drop (i + 1) loops) (level - (i + 1)) (drop (i + 1) ys) (drop (i + 1) xs) in
    let first : order_rows vars (drop i loops) (level - i) (drop i ys) (drop i xs) ≡ difference vars y x (pos 0) ∷ difference vars x y (pos 0) ∷ rest =
    ap (λ (ds : List Direction). order_rows vars ds (level - i) (drop i ys) (drop i xs)) (rest_at loops i direction q d)
    ∙ ap (λ (n : ℕ). order_rows vars (direction ∷ drop (i + 1) loops) n (drop i ys) (drop i xs)) (below-more level i p)
    ∙ ap (λ (zs : List AffineForm). order_rows vars (direction ∷ drop (i + 1) loops) (suc (level - (i + 1))) zs (drop i xs)) (rest_at ys i y r a)
    ∙ ap (λ (zs : List AffineForm). order_rows vars (direction ∷ drop (i + 1) loops) (suc (level - (i + 1))) (y ∷ drop (i + 1) ys) zs) (rest_at xs i x s b) in
    ap (λ (zs : List AffineForm). zs ++ rest) pushed ∙ append_assoc rows (difference vars y x (pos 0) ∷ difference vars x y (pos 0) ∷ []) rest ∙ ap (λ (zs : List AffineForm). rows ++ zs) (sym first) ∙ h

-- the row of the loop in which the values differ
pub order-last : (vars level i : ℕ) (loops : List Direction) (direction : Direction) (ys xs : List AffineForm) (y x : AffineForm) (rows more whole : List AffineForm)
    → i ≡ level → level < length loops → level < length ys → level < length xs → direction ≡ get_or loops level direction → y ≡ get_or ys level y → x ≡ get_or xs level x
    → more ≡ rows ++ earlier_row vars direction y x ∷ []
    → rows ++ order_rows vars (drop i loops) (level - i) (drop i ys) (drop i xs) ≡ whole
    → more ≡ whole
order-last vars level i loops direction ys xs y x rows more whole e q r s d a b pushed h =
    pushed ∙ ap (λ (zs : List AffineForm). rows ++ zs) (sym first) ∙ h where
      none : (n m : ℕ) → n ≡ m → m - n ≡ zero
      none n m p = omega arith

      first : order_rows vars (drop i loops) (level - i) (drop i ys) (drop i xs) ≡ earlier_row vars direction y x ∷ []
      first =
          ap (λ (n : ℕ). order_rows vars (drop i loops) n (drop i ys) (drop i xs)) (none i level e)
          ∙ ap (λ (n : ℕ). order_rows vars (drop n loops) zero (drop n ys) (drop n xs)) e
          ∙ ap (λ (ds : List Direction). order_rows vars ds zero (drop level ys) (drop level xs)) (rest_at loops level direction q d)
          ∙ ap (λ (zs : List AffineForm). order_rows vars (direction ∷ drop (level + 1) loops) zero zs (drop level xs)) (rest_at ys level y r a)
          ∙ ap (λ (zs : List AffineForm). order_rows vars (direction ∷ drop (level + 1) loops) zero (y ∷ drop (level + 1) ys) zs) (rest_at xs level x s b)

-- no loop is left
pub order-none : (vars level i : ℕ) (loops : List Direction) (ys xs : List AffineForm) (rows whole : List AffineForm) → i ≡ level → length loops ≤ level
    → rows ++ order_rows vars (drop i loops) (level - i) (drop i ys) (drop i xs) ≡ whole → rows ≡ whole
order-none vars level i loops ys xs rows whole e q h =
    sym (append-nil rows)
    ∙ ap (λ (ds : List Direction). rows ++ order_rows vars ds (level - i) (drop i ys) (drop i xs)) (sym (drop_all i loops (omega arith)))
    ∙ h

-- what a push gives
pub pushed-one : (rows one : List AffineForm) (f first : AffineForm) → one ≡ rows ++ f ∷ [] → f ≡ first → one ≡ rows ++ first ∷ []
pushed-one rows one f first p a = cc

-- no member is left
pub at_end : {X Y : Type 0} (left : List X → List Y) (xs : List X) (i : ℕ) (rows whole : List Y) → length xs ≤ i → left [] ≡ [] → rows ++ left (drop i xs) ≡ whole → rows ≡ whole
at_end left xs i rows whole past none h =
    sym (append-nil rows) ∙ ap (λ zs. rows ++ zs) (sym (ap left (drop_all i xs past) ∙ none)) ∙ h

pub at_count_end : {Y : Type 0} (left : ℕ → List Y) (n : ℕ) (rows whole : List Y) → n ≡ 0 → left 0 ≡ [] → rows ++ left n ≡ whole → rows ≡ whole
at_count_end left n rows whole past none h =
    sym (append-nil rows) ∙ ap (λ zs. rows ++ zs) (sym (ap left past ∙ none)) ∙ h

-- a form that has another's coefficients, as far as they go, and its constant
pub form_is : (form result : AffineForm) (coefs : List ℤ) (k : ℕ) (x : ℤ) → coefs ≡ take k form.coefficients → length form.coefficients ≤ k → x ≡ form.constant
    → result ≡ record { coefficients = coefs; constant = x } → result ≡ form
form_is form result coefs k x so_far past constant is =
    is ∙ ap (λ (xs : List ℤ). record { coefficients = xs; constant = x }) (so_far ∙ take_all k form.coefficients past) ∙ ap (λ (y : ℤ). record { coefficients = form.coefficients; constant = y }) constant
