-- The order of execution, by the loops that two statements have in common. (Feautrier 1991; the levels of Allen and Kennedy 1987.)
use Rattle.std.specs.Prelude.{◌≡◌, ℕ, zero, suc, ◌<◌, ℤ, ◌<ℤ◌, Bool, ◌&&◌, if◌then◌else◌, is_some, List, [], ◌∷◌}
use Rattle.iolb_model.specs.Path.{item_path}
use Rattle.iolb_model.specs.Program.{Direction, upward, downward, Item, assign, loop, guard, Row, done, next, AffineProgram}
use Rattle.iolb_model.specs.Execution.{Instance}

-- whether both statements are in the item
abbrev pub has_both : Item → ℕ → ℕ → Bool
has_both item t s = is_some (item_path item t) && is_some (item_path item s)

-- The loops around both of two statements, outermost first, by their directions: those of the item that has both.
abbrev mutual
  pub item_common : Item → ℕ → ℕ → List Direction
  item_common (assign number) t s = []
  item_common (loop name direction lower upper body) t s = direction ∷ row_common body t s
  item_common (guard rows body) t s = row_common body t s

  pub row_common : Row → ℕ → ℕ → List Direction
  row_common done t s = []
  row_common (next item row) t s = if has_both item t s then item_common item t s else row_common row t s

-- the loops around both of two statements of a program
abbrev pub common_loops : AffineProgram → ℕ → ℕ → List Direction
common_loops program t s = row_common program.tree t s

-- one value of a loop comes before another: it is less where the loop runs upward, and greater where it runs downward
abbrev pub GoesBefore : Direction → ℤ → ℤ → Type 0
GoesBefore upward y x = y <ℤ x
GoesBefore downward y x = x <ℤ y

-- Loop values ys of statement t come before loop values xs of statement s at a level, where these loops are around
-- both: in as many loops as the level says the values are equal, and in the next loop y comes before x. At the last
-- level the values are equal in all loops, and t stands before s in the text.
abbrev pub Precedes : List Direction → ℕ → ℕ → ℕ → List ℤ → List ℤ → Type 0
Precedes [] zero t s ys xs = t < s
Precedes [] (suc level) t s ys xs = ⊥
Precedes (direction ∷ loops) level t s [] xs = ⊥
Precedes (direction ∷ loops) level t s (y ∷ ys) [] = ⊥
Precedes (direction ∷ loops) zero t s (y ∷ ys) (x ∷ xs) = GoesBefore direction y x
Precedes (direction ∷ loops) (suc level) t s (y ∷ ys) (x ∷ xs) = (y ≡ x) × Precedes loops level t s ys xs

-- one instance comes before another at a level of the loops around both
abbrev pub PrecedesAt : AffineProgram → ℕ → Instance → Instance → Type 0
PrecedesAt program level a b = Precedes (common_loops program a.statement b.statement) level a.statement b.statement a.values b.values
