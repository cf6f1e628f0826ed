-- What a source tree claims: a list, leaf by leaf, `yes` before `no`.
use Rattle.std.specs.Prelude.{◌≡◌, List, [], ◌∷◌, ◌++◌, length, codes}
use Rattle.iolb_model.specs.Form.{AffineForm}
use Rattle.iolb_model.specs.Program.{AffineProgram, statement_at}
use Rattle.iolb_model.specs.Order.{common_loops}
use Rattle.claims.specs.Claims.{Claim, AllHold}
use Rattle.claims.specs.Shown.{IsFew, IsPointless, follow_claims, pointless_claims}
use Rattle.claims.specs.declared.place.Step.{Step}
use Rattle.claims.specs.declared.place.Step.TheVariants.{Key, Index}
use Rattle.affine_form.specs.Multipliers.{FarkasMultipliers}
use Rattle.affine_form.specs.System.{AffineSystem}
use Rattle.affine_form.specs.Rows.{equality_rows, put_in, order_rows}
use Rattle.affine_program.specs.Domain.{domain_rows}
use Rattle.dep_quast.specs.Tree.{SourceClaim, Leaf, source, input, empty, blank, SelectionTree, leaf, test}
use Rattle.dep_quast.specs.Context.{ReadOf, reference_of, variables_at, no_row, context, reader_point, parameter_point, reader_values, earlier_writes, writes_between}

-- the first member of the lists of a source, and the leaf itself if they have none
abbrev pub first_shown : List Step → List FarkasMultipliers → List FarkasMultipliers → List FarkasMultipliers → List Step
first_shown place (m ∷ inside) cell before = place ++ Key (codes "domain") ∷ Index 0 ∷ []
first_shown place [] (m ∷ cell) before = place ++ Key (codes "cell") ∷ Index 0 ∷ []
first_shown place [] [] (m ∷ before) = place ++ Key (codes "before") ∷ Index 0 ∷ []
first_shown place [] [] [] = place

-- the system of a leaf
abbrev pub context_system : AffineProgram → ReadOf → List AffineForm → AffineSystem
context_system program reader tests = record { vars = variables_at program reader; rows = context program reader tests }

-- the rows which say that the source is in its statement's domain
abbrev pub inside_goals : AffineProgram → ReadOf → SourceClaim → List AffineForm
inside_goals program reader claim =
    let vars = variables_at program reader in domain_rows program claim.statement vars (parameter_point program vars) claim.point

-- the rows which say that the source writes the cell that is read
abbrev pub cell_goals : AffineProgram → ReadOf → SourceClaim → List AffineForm
cell_goals program reader claim =
    let vars = variables_at program reader in
    equality_rows vars (put_in (parameter_point program vars ++ claim.point) (statement_at program claim.statement).writes.subscripts)
    (put_in (reader_point program reader vars) (reference_of program reader).subscripts)

-- the rows which say that the source comes before the reader at its level
abbrev pub before_goals : AffineProgram → ReadOf → SourceClaim → List AffineForm
before_goals program reader claim =
    let vars = variables_at program reader in
    order_rows vars (common_loops program claim.statement reader.statement) claim.level claim.point (reader_values program reader vars)

-- What a source claims of its point: that it is in its statement's domain (condition 3); its statement writes the array
-- that is read, and in it the cell (4); and it comes before the reader (5).
abbrev pub point_claims : AffineProgram → ReadOf → AffineSystem → List Step → SourceClaim → List Claim
point_claims program reader system place claim =
    follow_claims 3 (place ++ Key (codes "domain") ∷ []) system 0 (inside_goals program reader claim) claim.inside
    ++ record { condition = 4; place = place ++ Key (codes "statement") ∷ []; statement = (statement_at program claim.statement).writes.array ≡ (reference_of program reader).array }
    ∷ follow_claims 4 (place ++ Key (codes "cell") ∷ []) system 0 (cell_goals program reader claim) claim.cell
    ++ follow_claims 5 (place ++ Key (codes "before") ∷ []) system 0 (before_goals program reader claim) claim.before

-- What a source claims: that the system has few rows (condition 2); what it claims of its point; and that no write of
-- the cell lies between (6).
abbrev pub source_claims : AffineProgram → ReadOf → List AffineForm → List Step → SourceClaim → List Claim
source_claims program reader tests place claim =
    let system = context_system program reader tests in
    record { condition = 2; place = first_shown place claim.inside claim.cell claim.before; statement = IsFew (length system.rows) }
    ∷ point_claims program reader system place claim
    ++ pointless_claims 6 (place ++ Key (codes "between") ∷ []) 0 (writes_between program reader (context program reader tests) claim) claim.between

-- What a leaf claims: an input that no write of the cell is earlier (condition 6), an empty leaf that no point comes
-- there (7), and each that its system has few rows (2).
abbrev pub leaf_claims : AffineProgram → ReadOf → List AffineForm → List Step → Leaf → List Claim
leaf_claims program reader tests place (source claim) = source_claims program reader tests place claim
leaf_claims program reader tests place (input shown) =
    record { condition = 2; place = place; statement = IsFew (length (context program reader tests)) }
    ∷ pointless_claims 6 (place ++ Key (codes "input") ∷ []) 0 (earlier_writes program reader (context program reader tests)) shown
leaf_claims program reader tests place (empty shown) =
    record { condition = 2; place = place ++ Key (codes "empty") ∷ []; statement = IsFew (length (context program reader tests)) }
    ∷ record { condition = 7; place = place ++ Key (codes "empty") ∷ []; statement = IsPointless (context_system program reader tests) shown } ∷ []
leaf_claims program reader tests place blank = record { condition = 2; place = place; statement = IsFew (length (context program reader tests)) } ∷ []

-- what a tree claims under these tests, at this place
abbrev pub claims : AffineProgram → ReadOf → List AffineForm → List Step → SelectionTree → List Claim
claims program reader tests place (leaf chosen) = leaf_claims program reader tests place chosen
claims program reader tests place (test form above below) =
    claims program reader (tests ++ form ∷ []) (place ++ Key (codes "yes") ∷ []) above
    ++ claims program reader (tests ++ no_row (variables_at program reader) form ∷ []) (place ++ Key (codes "no") ∷ []) below

-- the tree is valid: every claim that it makes at a place holds
abbrev pub IsValid : AffineProgram → ReadOf → List Step → SelectionTree → Type 0
IsValid program reader place tree = AllHold (claims program reader [] place tree)
