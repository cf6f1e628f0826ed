-- Where a matrix turns the subscripts back, different points of a nest read different cells.
use Rattle.std.proofs.Common.{◌≡◌, sym, ◌∙◌, ap, ℕ, ◌≤◌, false, List, [], ◌∷◌, ◌++◌, length, map, arith}
use Rattle.std.proofs.Math.IntN.{ℤ}
use Rattle.std.specs.List.{AllByRecursion, IsDistinct}
use Rattle.std.proofs.lemmas.Bool.{false_from_ne_true}
use Rattle.std.proofs.lemmas.List.{map-append}
use Rattle.iolb_model.specs.Form.{form_value}
use Rattle.iolb_model.specs.Program.{AffineProgram}
use Rattle.iolb_model.specs.Source.{Cell, same_cell, read_cell}
use Rattle.execution_laws.proofs.Cells.{same_cell-equal}
use Rattle.execution_laws.proofs.Different.{Differ}
use Rattle.affine_form.specs.Substitution.{values_at}
use Rattle.affine_form.proofs.Meaning.{values-front, values_at-put_in}
use Rattle.dep_quast.specs.Context.{reference_of}
use Rattle.wavefront.specs.Term.{ColdTerm, nest_variables, instance_point, cell_forms}
use Rattle.wavefront.specs.Inverse.{AreUndone}
use Rattle.wavefront.specs.Loads.{instance_values}
use Rattle.wavefront.proofs.Undone.{undone-same}

-- the instance's point at a point of the nest
pub instance-at : (program : AffineProgram) (term : ColdTerm) (values u : List ℤ) → length values ≡ length program.parameters
    → values_at (instance_point program term) (values ++ u) ≡ values ++ instance_values term values u
instance-at program term values u e =
    map-append (λ form. form_value form (values ++ u)) _ term.point
    ∙ ap (λ (q : List ℤ). q ++ values_at term.point (values ++ u)) (values-front (nest_variables program term) (length program.parameters) values u (sym e) (omega arith))

-- the cell that the instance reads
pub cell-is : (program : AffineProgram) (term : ColdTerm) (values u : List ℤ) → length values ≡ length program.parameters
    → values_at (cell_forms program term) (values ++ u) ≡ (read_cell program values term.reader.statement term.reader.read (instance_values term values u)).subscripts
cell-is program term values u e =
    values_at-put_in (instance_point program term) (reference_of program term.reader).subscripts (values ++ u)
    ∙ ap (values_at (reference_of program term.reader).subscripts) (instance-at program term values u e)

-- the matrix turns the subscripts back
abbrev pub CellsAreUndone : AffineProgram → ColdTerm → Type 0
CellsAreUndone program term = AreUndone term.matrix term.scale (length program.parameters) (length term.nest) (cell_forms program term)

-- different points read different cells
cells-same : (program : AffineProgram) (term : ColdTerm) (values : List ℤ) → length values ≡ length program.parameters → 1 ≤ term.scale → CellsAreUndone program term
    → (xs ys : List ℤ) → length xs ≡ length term.nest → length ys ≡ length term.nest
    → read_cell program values term.reader.statement term.reader.read (instance_values term values xs) ≡ read_cell program values term.reader.statement term.reader.read (instance_values term values ys) → xs ≡ ys
cells-same program term values wide some undone xs ys wide_x wide_y e =
    undone-same term.matrix term.scale (length program.parameters) (length term.nest) (cell_forms program term) values xs ys wide some undone wide_x wide_y
    (cell-is program term values xs wide ∙ ap (λ (c : Cell). c.subscripts) e ∙ sym (cell-is program term values ys wide))

apart_images : (f : List ℤ → Cell) (size : ℕ) → ((x y : List ℤ) → length x ≡ size → length y ≡ size → f x ≡ f y → x ≡ y)
    → (x : List ℤ) (xs : List (List ℤ)) → length x ≡ size → AllByRecursion (λ (y : List ℤ). x ≡ y → ⊥) xs → AllByRecursion (λ (y : List ℤ). length y ≡ size) xs
    → AllByRecursion (λ (c : Cell). same_cell (f x) c ≡ false) (map f xs)
apart_images f size injective x [] wide apart h = tt
apart_images f size injective x (y ∷ xs) wide apart h =
    (false_from_ne_true (same_cell (f x) (f y)) (λ e. apart.0 (injective x y wide h.0 (same_cell-equal (f x) (f y) e))), apart_images f size injective x xs wide apart.1 h.1)

distinct_images : (f : List ℤ → Cell) (size : ℕ) → ((x y : List ℤ) → length x ≡ size → length y ≡ size → f x ≡ f y → x ≡ y)
    → (xs : List (List ℤ)) → Differ xs → AllByRecursion (λ (x : List ℤ). length x ≡ size) xs → IsDistinct same_cell (map f xs)
unfolding IsDistinct
distinct_images f size injective [] h wide = tt
distinct_images f size injective (x ∷ xs) h wide = (apart_images f size injective x xs wide.0 h.0 wide.1, distinct_images f size injective xs h.1 wide.1)

-- the cells of different points of the right size differ
pub cells-differ : (program : AffineProgram) (term : ColdTerm) (values : List ℤ) → length values ≡ length program.parameters → 1 ≤ term.scale → CellsAreUndone program term
    → (points : List (List ℤ)) → Differ points → AllByRecursion (λ (x : List ℤ). length x ≡ length term.nest) points
    → IsDistinct same_cell (map (λ (x : List ℤ). read_cell program values term.reader.statement term.reader.read (instance_values term values x)) points)
cells-differ program term values wide some undone points differ lengths =
    distinct_images (λ (x : List ℤ). read_cell program values term.reader.statement term.reader.read (instance_values term values x)) (length term.nest)
    (cells-same program term values wide some undone) points differ lengths
