-- The vertex of a wavefront term depends on the outer variables alone, and different points have different words.
use Rattle.std.proofs.Common.{◌≡◌, refl, sym, ◌∙◌, ap, subst, ℕ, suc, true, false, List, [], ◌∷◌, ◌++◌, length, drop, arith}
use Rattle.std.specs.Prelude.{Option, Some, None, Bool}
use Rattle.std.specs.List.{AllByRecursion}
use Rattle.std.proofs.Math.IntN.{ℤ, pos, ◌+ℤ◌, ◌*ℤ◌}
use Rattle.std.proofs.lemmas.Int.{ints}
use Rattle.std.proofs.lemmas.List.{append_assoc, map-append}
use Rattle.base_laws.proofs.Ring.{zero-mul}
use Rattle.base_laws.proofs.Lists.{cons-same}
use Rattle.iolb_model.specs.Form.{AffineForm, dot, form_value}
use Rattle.iolb_model.specs.Program.{AffineProgram}
use Rattle.iolb_model.specs.Domain.{IsAt}
use Rattle.iolb_model.specs.Execution.{Instance, execution}
use Rattle.iolb_model.specs.Graph.{input_cells, vertex_of}
use Rattle.iolb_model.specs.Source.{Cell, Source, same_cell, input, read_cell}
use Rattle.execution_laws.proofs.Cells.{same_cell-equal, position-apart}
use Rattle.execution_laws.proofs.Members.{Member}
use Rattle.execution_laws.proofs.Undone.{dot-append}
use Rattle.pebble_game.proofs.InputVertices.{Member-input_cells}
use Rattle.claims.specs.Claims.{AllHold, numbered}
use Rattle.claims.specs.declared.place.Step.{Step}
use Rattle.affine_form.specs.Substitution.{values_at}
use Rattle.affine_form.proofs.Meaning.{values-front, values_at-put_in}
use Rattle.dep_quast.specs.Context.{parameter_point, reference_of}
use Rattle.reuse_paths.specs.Arrival.{instance_of}
use Rattle.reuse_paths.specs.Walks.{SpotForms}
use Rattle.wavefront.specs.FrontClaims.{front_variables, IsWithoutPast, outer_claim, user_point, telling_forms}
use Rattle.wavefront.specs.FrontTerm.{WavefrontTerm, user_read}
use Rattle.wavefront.specs.Fronts.{spot_values, word_vertex, IsThereAt, IsSoundAt}
use Rattle.reuse_paths.specs.Places.{place_of}

-- ---- the outer variables

dot-zeros : (cs xs : List ℤ) → AllByRecursion (λ (c : ℤ). c ≡ pos 0) cs → dot cs xs ≡ pos 0
dot-zeros [] xs h = refl
dot-zeros (c ∷ cs) [] h = refl
dot-zeros (c ∷ cs) (x ∷ xs) h = ap (λ (z : ℤ). (z *ℤ x) +ℤ dot cs xs) h.0 ∙ omega (arith, ints, zero-mul x, dot-zeros cs xs h.1)

-- a form without the variables past a point's has the same value whatever they are
without-value : (form : AffineForm) (front one other : List ℤ) → IsWithoutPast (length front) form → form_value form (front ++ one) ≡ form_value form (front ++ other)
without-value form front one other h =
    equal (dot form.coefficients (front ++ one)) (dot form.coefficients (front ++ other)) (dot form.coefficients front)
    (dot (drop (length front) form.coefficients) one) (dot (drop (length front) form.coefficients) other) form.constant
    (dot-append form.coefficients front one) (dot-append form.coefficients front other)
    (dot-zeros (drop (length front) form.coefficients) one h) (dot-zeros (drop (length front) form.coefficients) other h) where
      equal : (a b p x y c : ℤ) → a ≡ p +ℤ x → b ≡ p +ℤ y → x ≡ pos 0 → y ≡ pos 0 → a +ℤ c ≡ b +ℤ c
      equal a b p x y c e f g h = omega (arith, ints)

without-values : (forms : List AffineForm) (front one other : List ℤ) → AllByRecursion (IsWithoutPast (length front)) forms → values_at forms (front ++ one) ≡ values_at forms (front ++ other)
without-values [] front one other h = refl
without-values (form ∷ forms) front one other h = cons-same _ _ _ _ (without-value form front one other h.0) (without-values forms front one other h.1)

all-without : (variables : ℕ) (place : List Step) (index : ℕ) (forms : List AffineForm) → AllHold (numbered (outer_claim variables place) index forms) → AllByRecursion (IsWithoutPast variables) forms
all-without variables place index [] h = tt
all-without variables place index (form ∷ forms) h = (h.0, all-without variables place (suc index) forms h.1)

-- a spot whose forms are without the variables past so many is one instance for one value of these
pub one-instance : (spot : SpotForms) (variables : ℕ) (place : List Step) (parameters front one other : List ℤ) → AllHold (numbered (outer_claim variables place) 0 spot.point)
    → length (parameters ++ front) ≡ variables → instance_of spot parameters (front ++ one) ≡ instance_of spot parameters (front ++ other)
one-instance spot variables place parameters front one other h long =
    let forms : AllByRecursion (IsWithoutPast (length (parameters ++ front))) spot.point =
    subst (λ (n : ℕ). AllByRecursion (IsWithoutPast n) spot.point) (sym long) (all-without variables place 0 spot.point h) in
    let values : values_at spot.point (parameters ++ front ++ one) ≡ values_at spot.point (parameters ++ front ++ other) = without-values spot.point (parameters ++ front) one other forms in
    let moved : values_at spot.point (parameters ++ (front ++ one)) ≡ values_at spot.point (parameters ++ (front ++ other)) =
    ap (values_at spot.point) (sym (append_assoc parameters front one)) ∙ values ∙ ap (values_at spot.point) (append_assoc parameters front other) in
    λ i. record { statement = spot.statement; values = moved i }

-- ---- different words

-- the parameters and the loop values of the user, at a point
pub user-at : (program : AffineProgram) (term : WavefrontTerm) (parameters u : List ℤ) → length parameters ≡ length program.parameters
    → values_at (user_point program term) (parameters ++ u) ≡ parameters ++ spot_values term.user parameters u
user-at program term parameters u e =
    map-append (λ form. form_value form (parameters ++ u)) (parameter_point program (front_variables program term)) term.user.point
    ∙ ap (λ (q : List ℤ). q ++ values_at term.user.point (parameters ++ u)) (values-front (front_variables program term) (length program.parameters) parameters u (sym e) (omega arith))

module _ (program : AffineProgram) (term : WavefrontTerm) (parameters : List ℤ) (wide : length parameters ≡ length program.parameters) where
  abbrev at_source : Source → ℕ
  at_source z = vertex_of (length (execution program parameters)) (input_cells program parameters) z

  abbrev pub cell : List ℤ → Cell
  cell u = read_cell program parameters term.user.statement term.read (spot_values term.user parameters u)

  -- the cell that the user reads
  pub cell-is : (u : List ℤ) → values_at (telling_forms program term None) (parameters ++ u) ≡ (cell u).subscripts
  cell-is u =
      values_at-put_in (user_point program term) (reference_of program (user_read term)).subscripts (parameters ++ u)
      ∙ ap (values_at (reference_of program (user_read term)).subscripts) (user-at program term parameters u wide)

  pub input-there : (u : List ℤ) (vertex : ℕ) → IsSoundAt program term parameters u → IsThereAt program term parameters u vertex None → Member (cell u) (input_cells program parameters)
  input-there u vertex at h =
      Member-input_cells program parameters term.user.statement term.read (spot_values term.user parameters u)
      (record {
        there = at.read.read;
        place = place_of program parameters (instance_of term.user parameters u);
        executed = at.user;
        source = h;
      })

  -- points with one word have the same values of the forms that tell the words apart
  pub told : (source : Option SpotForms) (u w : List ℤ) (v v' : ℕ) → IsSoundAt program term parameters u → IsSoundAt program term parameters w
      → IsThereAt program term parameters u v source → IsThereAt program term parameters w v' source
      → word_vertex program term parameters u ≡ word_vertex program term parameters w
      → values_at (telling_forms program term source) (parameters ++ u) ≡ values_at (telling_forms program term source) (parameters ++ w)
  told None u w v v' at_u at_w h g e =
      let both : at_source (input (cell u)) ≡ at_source (input (cell w)) = sym (ap at_source h) ∙ e ∙ ap at_source g in
      let same : cell u ≡ cell w =
      by (same_cell (cell u) (cell w)) refl (λ apart. position-apart (cell u) (cell w) (input_cells program parameters)
      (input-there u v at_u h) (input-there w v' at_w g) apart (omega (arith, both))) in
      cell-is u ∙ ap (λ (c : Cell). c.subscripts) same ∙ sym (cell-is w) where
        by : (b : Bool) → same_cell (cell u) (cell w) ≡ b → (same_cell (cell u) (cell w) ≡ false → ⊥) → cell u ≡ cell w
        by true is never = same_cell-equal (cell u) (cell w) is
        by false is never = absurd (never is)
  told (Some spot) u w v v' at_u at_w h g e =
      let both : place_of program parameters (instance_of spot parameters u) ≡ place_of program parameters (instance_of spot parameters w) = sym (ap at_source h.1) ∙ e ∙ ap at_source g.1 in
      same_values (instance_of spot parameters u) (instance_of spot parameters w) (place_of program parameters (instance_of spot parameters u)) h.0
      (subst (λ (n : ℕ). IsAt program parameters n (instance_of spot parameters w)) (sym both) g.0) where
        same_values : (a b : Instance) (n : ℕ) → IsAt program parameters n a → IsAt program parameters n b → a.values ≡ b.values
        same_values a b n p q = ap (λ (i : Instance). i.values) (one a b (sym p ∙ q)) where
          one : (x y : Instance) → Some x ≡ Some y → x ≡ y
          one x y f = cc
