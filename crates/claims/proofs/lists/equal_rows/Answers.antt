use Rattle.std.proofs.Common.{◌≡◌, refl, sym, ◌∙◌, ap, ℕ, zero, suc, ◌+◌, ◌<◌, ◌≤◌, min, List, [], ◌∷◌, ◌++◌, length, drop, get_or, append-nil, arith}
use Rattle.std.proofs.Math.Nat.{min-le_left, min-le_right}
use Rattle.std.proofs.lemmas.List.{append_assoc}
use Rattle.base_laws.proofs.Lists.{All-read, rest_at}
use Rattle.iolb_model.specs.Form.{AffineForm}
use Rattle.affine_form.specs.Form.{variables, IsSmallForm}
use Rattle.affine_form.specs.Rows.{equality_rows}
use Rattle.iolb_model.specs.declared.limits.TheConstants.{PUT_SIZE}
use Rattle.claims.proofs.lists.equal_rows.Goals as goal

none-right : (vars : ℕ) (fs : List AffineForm) → equality_rows vars fs [] ≡ []
none-right vars [] = refl
none-right vars (f ∷ fs) = refl

-- where either list has ended, no more are equal
ended : (vars i : ℕ) (fs gs : List AffineForm) → min (length fs) (length gs) ≤ i → equality_rows vars (drop i fs) (drop i gs) ≡ []
ended vars zero [] gs h = refl
ended vars zero (f ∷ fs) [] h = refl
ended vars zero (f ∷ fs) (g ∷ gs) h = absurd (omega arith)
ended vars (suc i) [] gs h = refl
ended vars (suc i) (f ∷ fs) [] h = none-right vars (drop i fs)
ended vars (suc i) (f ∷ fs) (g ∷ gs) h = ended vars i fs gs (omega arith)

-- the rows of one pair more
pair-more : (vars i : ℕ) (fs gs : List AffineForm) (f g : AffineForm) (rows new whole : List AffineForm) → i < length fs → i < length gs → f ≡ get_or fs i f → g ≡ get_or gs i g
    → new ≡ rows ++ equality_rows vars (f ∷ []) (g ∷ []) → rows ++ equality_rows vars (drop i fs) (drop i gs) ≡ whole → new ++ equality_rows vars (drop (i + 1) fs) (drop (i + 1) gs) ≡ whole
pair-more vars i fs gs f g rows new whole a b p q pushed h =
    let here : List AffineForm = equality_rows vars (f ∷ []) (g ∷ []) in
    let rest : List AffineForm = equality_rows vars (drop (i + 1) fs) (drop (i + 1) gs) in
    let first : equality_rows vars (drop i fs) (drop i gs) ≡ here ++ rest =
    ap (λ (xs : List AffineForm). equality_rows vars xs (drop i gs)) (rest_at fs i f a p) ∙ ap (equality_rows vars (f ∷ drop (i + 1) fs)) (rest_at gs i g b q) in
    ap (λ (xs : List AffineForm). xs ++ rest) pushed ∙ append_assoc rows here rest ∙ ap (λ (xs : List AffineForm). rows ++ xs) (sym first) ∙ h

-- a place below the end of the shorter list is in both
in_both : (i end n m : ℕ) → end ≡ min n m → i < end → (i < n) × (i < m)
in_both i end n m e h = (omega (arith, e, h, min-le_left n m), omega (arith, e, h, min-le_right n m))

pub push_equal-requires-clause-one_within : goal.push_equal-requires-clause-one_within
push_equal-requires-clause-one_within c =
    All-read (λ (form : AffineForm). variables form ≤ c.args.vars) c.args.one.now c.loop-i.i c.index-one-i.result c.requires.one_within
    (in_both c.loop-i.i c.min-i-end.result (length c.args.one.now) (length c.args.other.now) c.min-i-end.ensures c.loop-i-test.true).0 c.index-one-i.is

pub push_equal-requires-clause-other_within : goal.push_equal-requires-clause-other_within
push_equal-requires-clause-other_within c =
    All-read (λ (form : AffineForm). variables form ≤ c.args.vars) c.args.other.now c.loop-i.i c.index-other-i.result c.requires.other_within
    (in_both c.loop-i.i c.min-i-end.result (length c.args.one.now) (length c.args.other.now) c.min-i-end.ensures c.loop-i-test.true).1 c.index-other-i.is

pub push_equal-requires-clause-one_small : goal.push_equal-requires-clause-one_small
push_equal-requires-clause-one_small c =
    All-read (IsSmallForm PUT_SIZE) c.args.one.now c.loop-i.i c.index-one-i.result c.requires.one_small
    (in_both c.loop-i.i c.min-i-end.result (length c.args.one.now) (length c.args.other.now) c.min-i-end.ensures c.loop-i-test.true).0 c.index-one-i.is

pub push_equal-requires-clause-other_small : goal.push_equal-requires-clause-other_small
push_equal-requires-clause-other_small c =
    All-read (IsSmallForm PUT_SIZE) c.args.other.now c.loop-i.i c.index-other-i.result c.requires.other_small
    (in_both c.loop-i.i c.min-i-end.result (length c.args.one.now) (length c.args.other.now) c.min-i-end.ensures c.loop-i-test.true).1 c.index-other-i.is

pub loop-i-init : goal.loop-i-init
loop-i-init c = ap (λ (rows : List AffineForm). rows ++ equality_rows c.args.vars c.args.one.now c.args.other.now) c.new-rows.ensures.items

pub loop-i-preserved : goal.loop-i-preserved
loop-i-preserved c =
    let both = in_both c.loop-i.i c.min-i-end.result (length c.args.one.now) (length c.args.other.now) c.min-i-end.ensures c.loop-i-test.true in
    pair-more c.args.vars c.loop-i.i c.args.one.now c.args.other.now c.index-one-i.result c.index-other-i.result c.loop-i.rows.items c.push_equal.new.rows.items
    (equality_rows c.args.vars c.args.one.now c.args.other.now) both.0 both.1 c.index-one-i.is c.index-other-i.is c.in_ok-push_equal.ensures c.loop-i.invariant

pub returns : goal.returns
returns c =
    let none : equality_rows c.args.vars (drop c.loop-i.i c.args.one.now) (drop c.loop-i.i c.args.other.now) ≡ [] =
    ended c.args.vars c.loop-i.i c.args.one.now c.args.other.now (omega (arith, c.min-i-end.ensures, c.loop-i-test.false)) in
    sym (append-nil c.loop-i.rows.items) ∙ ap (λ (rows : List AffineForm). c.loop-i.rows.items ++ rows) (sym none) ∙ c.loop-i.invariant
