-- What all source trees of a program claim.
use Rattle.std.specs.Prelude.{ℕ, suc, ⊤, List, [], ◌∷◌, ◌++◌, codes}
use Rattle.iolb_model.specs.Program.{AffineProgram}
use Rattle.claims.specs.declared.place.Step.{Step}
use Rattle.claims.specs.declared.place.Step.TheVariants.{Key, Index}
use Rattle.dep_quast.specs.Claims.{claims}
use Rattle.claims.specs.Claims.{Claim}
use Rattle.dep_quast.specs.Context.{ReadOf}
use Rattle.dep_quast.specs.Tree.{SelectionTree}
use Rattle.dep_quast.specs.Truth.{ReadFits, TreeFits, IsTrueTree}

-- a read
abbrev pub read_of : ℕ → ℕ → ReadOf
read_of statement read = record { statement = statement; read = read }

-- the place of a source tree in a certificate: /quasts/statement/read
abbrev pub tree_place : ℕ → ℕ → List Step
tree_place statement read = Key (codes "quasts") ∷ Index statement ∷ Index read ∷ []

-- what the trees of a statement's reads claim, from a read on
abbrev pub row_claims : AffineProgram → ℕ → ℕ → List SelectionTree → List Claim
row_claims program statement read [] = []
row_claims program statement read (tree ∷ trees) =
    claims program (read_of statement read) [] (tree_place statement read) tree ++ row_claims program statement (suc read) trees

-- what the trees of all statements claim, from a statement on
abbrev pub rows_claims : AffineProgram → ℕ → List (List SelectionTree) → List Claim
rows_claims program statement [] = []
rows_claims program statement (row ∷ rows) = row_claims program statement 0 row ++ rows_claims program (suc statement) rows

-- the reads are there and the trees fit
abbrev pub RowFits : AffineProgram → ℕ → ℕ → List SelectionTree → Type 0
RowFits program statement read [] = ⊤
RowFits program statement read (tree ∷ trees) =
    (ReadFits program (read_of statement read) × TreeFits program (read_of statement read) tree) × RowFits program statement (suc read) trees

abbrev pub RowsFit : AffineProgram → ℕ → List (List SelectionTree) → Type 0
RowsFit program statement [] = ⊤
RowsFit program statement (row ∷ rows) = RowFits program statement 0 row × RowsFit program (suc statement) rows

-- the trees are true
abbrev pub RowIsTrue : AffineProgram → ℕ → ℕ → List SelectionTree → Type 0
RowIsTrue program statement read [] = ⊤
RowIsTrue program statement read (tree ∷ trees) = IsTrueTree program (read_of statement read) tree × RowIsTrue program statement (suc read) trees

abbrev pub RowsAreTrue : AffineProgram → ℕ → List (List SelectionTree) → Type 0
RowsAreTrue program statement [] = ⊤
RowsAreTrue program statement (row ∷ rows) = RowIsTrue program statement 0 row × RowsAreTrue program (suc statement) rows
