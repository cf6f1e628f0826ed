-- Weights on different rows, put into the order of their rows.
use Rattle.std.proofs.Common.{◌≡◌, refl, ◌∙◌, ap, ℕ, suc, ◌<◌, ◌≢◌, List, [], ◌∷◌, inl, inr, length, arith}
use Rattle.std.specs.List.{AllByRecursion}
use Rattle.std.proofs.Math.IntN.{ℤ, pos, ◌+ℤ◌}
use Rattle.std.proofs.lemmas.Int.{ints}
use Rattle.std.proofs.lemmas.Bool.{cases_order}
use Rattle.base_laws.proofs.Lists.{All-weaken}
use Rattle.iolb_model.specs.Form.{AffineForm}
use Rattle.affine_form.specs.Combination.{add_lists, add_forms, scale_form, combination}
use Rattle.affine_form.specs.Multipliers.{RowsRise}
use Rattle.affine_form.specs.Shown.{row_at, weighted_rows}
use Rattle.int_sets.specs.ShortList.{RowsDiffer}

add_lists-swapped : (xs ys : List ℤ) → add_lists xs ys ≡ add_lists ys xs
add_lists-swapped [] [] = refl
add_lists-swapped [] (y ∷ ys) = refl
add_lists-swapped (x ∷ xs) [] = refl
add_lists-swapped (x ∷ xs) (y ∷ ys) =
    let sum : x +ℤ y ≡ y +ℤ x = omega (arith, ints) in
    ap (λ (z : ℤ). z ∷ add_lists xs ys) sum ∙ ap (λ (zs : List ℤ). (y +ℤ x) ∷ zs) (add_lists-swapped xs ys)

add_lists-exchanged : (xs ys zs : List ℤ) → add_lists xs (add_lists ys zs) ≡ add_lists ys (add_lists xs zs)
add_lists-exchanged [] ys zs = refl
add_lists-exchanged (x ∷ xs) [] zs = refl
add_lists-exchanged (x ∷ xs) (y ∷ ys) [] = add_lists-swapped (x ∷ xs) (y ∷ ys)
add_lists-exchanged (x ∷ xs) (y ∷ ys) (z ∷ zs) =
    let sum : x +ℤ (y +ℤ z) ≡ y +ℤ (x +ℤ z) = omega (arith, ints) in
    ap (λ (w : ℤ). w ∷ add_lists xs (add_lists ys zs)) sum ∙ ap (λ (ws : List ℤ). (y +ℤ (x +ℤ z)) ∷ ws) (add_lists-exchanged xs ys zs)

-- in a sum of three the first two may change places
add_forms-exchanged : (f g h : AffineForm) → add_forms f (add_forms g h) ≡ add_forms g (add_forms f h)
add_forms-exchanged f g h =
    let sum : f.constant +ℤ (g.constant +ℤ h.constant) ≡ g.constant +ℤ (f.constant +ℤ h.constant) = omega (arith, ints) in
    ap (λ (xs : List ℤ). record { coefficients = xs; constant = f.constant +ℤ (g.constant +ℤ h.constant) }) (add_lists-exchanged f.coefficients g.coefficients h.coefficients)
    ∙ ap (λ (x : ℤ). record { coefficients = add_lists g.coefficients (add_lists f.coefficients h.coefficients); constant = x }) sum

-- other weights with the same members, in the order of their rows, with the same sum
pub record IsOrdered (rows : List AffineForm) (ws us : List (ℕ × ℕ)) : Type 1 where
  pub rising : RowsRise us
  pub as_many : length us ≡ length ws
  pub members : (P : ℕ × ℕ → Type 0) → AllByRecursion P ws → AllByRecursion P us
  pub sum : (start : AffineForm) → combination (weighted_rows rows us) start ≡ combination (weighted_rows rows ws) start

-- a weight put into its place
inserted : (rows : List AffineForm) (w : ℕ × ℕ) (vs : List (ℕ × ℕ)) → RowsRise vs → AllByRecursion (λ (v : ℕ × ℕ). w.0 ≢ v.0) vs
    → (us : List (ℕ × ℕ)) × IsOrdered rows (w ∷ vs) us
inserted rows w [] rise apart = (w ∷ [], record { rising = (tt, tt); as_many = refl; members = λ P h. h; sum = λ start. refl })
inserted rows w (v ∷ vs) rise apart = elim (cases_order w.0 v.0) [
  | inl same ↦ absurd (apart.0 same)
  | inr (inl less) ↦ (
    w ∷ v ∷ vs,
    record {
      rising = ((less, All-weaken (λ (u : ℕ × ℕ). v.0 < u.0) (λ (u : ℕ × ℕ). w.0 < u.0) vs (λ u h. omega arith) rise.0), rise);
      as_many = refl;
      members = λ P h. h;
      sum = λ start. refl;
    },
  )
  | inr (inr more) ↦
      let rest = inserted rows w vs rise.1 apart.1 in (
        v ∷ rest.0,
        record {
          rising = (rest.1.members (λ (u : ℕ × ℕ). v.0 < u.0) (more, rise.0), rest.1.rising);
          as_many = ap suc rest.1.as_many;
          members = λ P h. (h.1.0, rest.1.members P (h.0, h.1.1));
          sum = λ start. ap (add_forms (scale_form (pos v.1) (row_at rows v.0))) (rest.1.sum start)
              ∙ add_forms-exchanged (scale_form (pos v.1) (row_at rows v.0)) (scale_form (pos w.1) (row_at rows w.0)) (combination (weighted_rows rows vs) start);
        },
      )
]

-- weights on different rows can be ordered
pub ordered : (rows : List AffineForm) (ws : List (ℕ × ℕ)) → RowsDiffer ws → (us : List (ℕ × ℕ)) × IsOrdered rows ws us
ordered rows [] different = ([], record { rising = tt; as_many = refl; members = λ P h. h; sum = λ start. refl })
ordered rows (w ∷ ws) different =
    let rest = ordered rows ws different.1 in
    let placed = inserted rows w rest.0 rest.1.rising (rest.1.members (λ (v : ℕ × ℕ). w.0 ≢ v.0) different.0) in (
      placed.0,
      record {
        rising = placed.1.rising;
        as_many = placed.1.as_many ∙ ap suc rest.1.as_many;
        members = λ P h. placed.1.members P (h.0, rest.1.members P h.1);
        sum = λ start. placed.1.sum start ∙ ap (add_forms (scale_form (pos w.1) (row_at rows w.0))) (rest.1.sum start);
      },
    )
