-- Points of writers, and forms of candidates.
use Rattle.std.proofs.Common.{◌≡◌, sym, ◌∙◌, ap, subst, ℕ, zero, suc, ◌+◌, ◌<◌, Bool, true, false, List, [], ◌∷◌, ◌++◌, length, map, drop, get_or, arith}
use Rattle.std.specs.Prelude.{if◌then◌else◌, Option, Some, None, Vec}
use Rattle.std.specs.Global.{Global}
use Rattle.std.specs.List.{AllByRecursion}
use Rattle.base_laws.proofs.Lists.{there, rest_at, All-left, All-right}
use Rattle.iolb_model.specs.Form.{AffineForm}
use Rattle.iolb_model.specs.Program.{AffineProgram}
use Rattle.affine_form.specs.Rows.{IsSmallOver, BoundsFit}
use Rattle.affine_form.specs.declared.form.Form.{Form}
use Rattle.dep_quast.specs.Context.{ReadOf, variables_at}
use Rattle.flow_deps.specs.Candidates.{direction_at, last_bound, subscript_for, is_name, loop_value, values_along, point_from, FindsPoint}

-- ---- subscripts

pub subscript-next : (place i : ℕ) (written read : List AffineForm) (w : AffineForm) → i < length written → i < length read → w ≡ get_or written i w → is_name place w ≡ false
    → subscript_for place (drop i written) (drop i read) ≡ subscript_for place (drop (i + 1) written) (drop (i + 1) read)
subscript-next place i written read w below inside is other =
    let r = there read i inside in
    ap (λ (ws : List AffineForm). subscript_for place ws (drop i read)) (rest_at written i w below is)
    ∙ ap (λ (rs : List AffineForm). subscript_for place (w ∷ drop (i + 1) written) rs) (rest_at read i r.0 inside r.1)
    ∙ ap (λ (b : Bool). if b then Some r.0 else subscript_for place (drop (i + 1) written) (drop (i + 1) read)) other

-- what holds of all subscripts holds of the one that is found
chosen-has : (P : AffineForm → Type 0) (b : Bool) (r value : AffineForm) (others : Option AffineForm) → (if b then Some r else others) ≡ Some value → P r → (others ≡ Some value → P value) → P value
chosen-has P true r value others e h g = let same : r ≡ value = cc in subst P same h
chosen-has P false r value others e h g = g e

pub subscript-has : (P : AffineForm → Type 0) (place : ℕ) (written read : List AffineForm) (value : AffineForm) → subscript_for place written read ≡ Some value → AllByRecursion P read → P value
subscript-has P place [] read value e h = absurd cc
subscript-has P place (w ∷ written) [] value e h = absurd cc
subscript-has P place (w ∷ written) (r ∷ read) value e h =
    chosen-has P (is_name place w) r value (subscript_for place written read) e h.0 (λ later. subscript-has P place written read value later h.1)

-- ---- forms of candidates

-- the bounds of a loop fit
pub bound-fits : (many : ℕ) (bounds : List (AffineForm × AffineForm)) (k : ℕ) (pair : AffineForm × AffineForm) → BoundsFit many bounds → k < length bounds → pair ≡ get_or bounds k pair
    → IsSmallOver (many + k) pair.0 × IsSmallOver (many + k) pair.1
bound-fits many [] k pair fit below is = absurd (omega arith)
bound-fits many (b ∷ bounds) zero pair fit below is =
    let P : AffineForm × AffineForm → Type 0 = λ p. IsSmallOver (many + 0) p.0 × IsSmallOver (many + 0) p.1 in
    subst P (sym is) (subst (λ (n : ℕ). IsSmallOver n b.0 × IsSmallOver n b.1) none fit.0) where
      none : many ≡ many + 0
      none = omega arith
bound-fits many (b ∷ bounds) (suc k) pair fit below is =
    subst (λ (n : ℕ). IsSmallOver n pair.0 × IsSmallOver n pair.1) moved (bound-fits (suc many) bounds k pair fit.1 (omega arith) is) where
      moved : suc many + k ≡ many + suc k
      moved = omega arith

-- a member of a list whatever stands past its end
pub any-past : {X : Type 0} (xs : List X) (k : ℕ) (x past : X) → k < length xs → x ≡ get_or xs k x → get_or xs k past ≡ x
any-past [] k x past below is = absurd (omega arith)
any-past (y ∷ xs) zero x past below is = sym is
any-past (y ∷ xs) (suc k) x past below is = any-past xs k x past (omega arith) is

-- ---- points

module _ (program : AffineProgram) (reader : ReadOf) (writer : ℕ) where
  -- the value of the next loop, and the loops behind it
  pub along-next : (loops : List (AffineForm × AffineForm)) (k : ℕ) (bound : AffineForm) (values more : List AffineForm) (value : AffineForm)
      → k < length loops → length values ≡ k → ((none : AffineForm × AffineForm) → bound ≡ last_bound (direction_at program writer k) (get_or loops k none))
      → value ≡ loop_value program reader writer bound values → more ≡ values ++ value ∷ []
      → values_along program reader writer (drop k loops) values ≡ values_along program reader writer (drop (k + 1) loops) more
  along-next loops k bound values more value below many is is_value pushed =
      let here = there loops k below in
      let last : bound ≡ last_bound (direction_at program writer (length values)) here.0 =
      is here.0 ∙ ap (λ (n : ℕ). last_bound (direction_at program writer n) (get_or loops k here.0)) (sym many) ∙ ap (last_bound (direction_at program writer (length values))) (sym here.1) in
      ap (λ (rest : List (AffineForm × AffineForm)). values_along program reader writer rest values) (rest_at loops k here.0 below here.1)
      ∙ ap (λ (v : AffineForm). values_along program reader writer (drop (k + 1) loops) (values ++ v ∷ [])) (ap (λ (b : AffineForm). loop_value program reader writer b values) (sym last) ∙ sym is_value)
      ∙ ap (λ (vs : List AffineForm). values_along program reader writer (drop (k + 1) loops) vs) (sym pushed)

  -- what holds of all values holds of the first ones
  pub along-first : (P : AffineForm → Type 0) (loops : List (AffineForm × AffineForm)) (values : List AffineForm) → AllByRecursion P (values_along program reader writer loops values) → AllByRecursion P values
  along-first P [] values h = h
  along-first P (bounds ∷ loops) values h =
      let value : AffineForm = loop_value program reader writer (last_bound (direction_at program writer (length values)) bounds) values in
      All-left P values (value ∷ []) (along-first P loops (values ++ value ∷ []) h)

  pub along-last : (P : AffineForm → Type 0) (loops : List (AffineForm × AffineForm)) (values : List AffineForm) (value : AffineForm)
      → AllByRecursion P (values_along program reader writer loops (values ++ value ∷ [])) → P value
  along-last P loops values value h = (All-right P values (value ∷ []) (along-first P loops (values ++ value ∷ []) h)).0

-- a test isn't both
pub not-both : (b : Bool) → b ≡ false → b ≡ true → ⊥
not-both true e t = cc
not-both false e t = cc

-- what a search for a point found
pub point-none : (program : AffineProgram) (reader : ReadOf) (writer : ℕ) (given : List AffineForm) (found : Option (Vec Form Global)) → found ≡ None → FindsPoint program reader writer given found
    → ¬ AllByRecursion (IsSmallOver (variables_at program reader)) (point_from program reader writer given)
point-none program reader writer given found e h = subst (FindsPoint program reader writer given) e h

pub point-some : (program : AffineProgram) (reader : ReadOf) (writer : ℕ) (given : List AffineForm) (found : Option (Vec Form Global)) (values : Vec Form Global) → found ≡ Some values
    → FindsPoint program reader writer given found → values.items ≡ point_from program reader writer given
point-some program reader writer given found values e h = (subst (FindsPoint program reader writer given) e h).0
