-- What is asked of source trees: that their lists and forms have the lengths that the program calls for, and what they
-- name is there. A statement that isn't there counts as one without loops.
use Rattle.std.specs.Prelude.{ℕ, ◌*◌, nat_lt, if◌then◌else◌, List, [], ◌∷◌, ◌++◌, length, codes}
use Rattle.iolb_model.specs.Program.{AffineProgram, statement_at}
use Rattle.iolb_model.specs.Order.{common_loops}
use Rattle.claims.specs.declared.place.Step.{Step}
use Rattle.claims.specs.declared.place.Step.TheVariants.{Key, Index}
use Rattle.affine_program.specs.Domain.{depth_of, domain_size}
use Rattle.dep_quast.specs.Context.{ReadOf, reference_of, variables_at}
use Rattle.dep_quast.specs.Levels.{level_count, writers, order_count, levels_before, levels_between}
use Rattle.dep_quast.specs.Tree.{SourceClaim, Leaf, source, input, empty, blank, SelectionTree, leaf, test}
use Rattle.claims.specs.Claims.{Claim, numbered}
use Rattle.certificate_fit.specs.FitClaims.{so_many, names}
use Rattle.certificate_fit.specs.PartFit.{form_fits, forms_fit, shown_fit}

-- how many rows say that one instance comes before another at a level; a level that doesn't exist has none
abbrev pub order_rows_at : AffineProgram → ℕ → ℕ → ℕ → ℕ
order_rows_at program t s level =
    if nat_lt level (level_count program t s) then order_count (length (common_loops program t s)) level else 0

-- a source's lists, its level, and how many loop values it has
abbrev pub source_lists_fit : AffineProgram → ReadOf → SourceClaim → List Step → List Claim
source_lists_fit program reader claim place =
    let t = claim.statement in
    let s = reader.statement in
    shown_fit (order_rows_at program t s claim.level) (place ++ Key (codes "before") ∷ []) claim.before
    ∷ shown_fit (length (levels_between program t (writers program (reference_of program reader).array) s)) (place ++ Key (codes "between") ∷ []) claim.between
    ∷ shown_fit (2 * length (reference_of program reader).subscripts) (place ++ Key (codes "cell") ∷ []) claim.cell
    ∷ shown_fit (domain_size program t) (place ++ Key (codes "domain") ∷ []) claim.inside
    ∷ names (place ++ Key (codes "level") ∷ []) claim.level (level_count program t s)
    ∷ so_many (place ++ Key (codes "point") ∷ []) (length claim.point) (depth_of program t) ∷ []

-- A source, its members in the order of their keys.
abbrev pub source_fit : AffineProgram → ReadOf → List Step → SourceClaim → List Claim
source_fit program reader place claim =
    source_lists_fit program reader claim place ++ forms_fit (variables_at program reader) (place ++ Key (codes "point") ∷ []) claim.point
    ++ names (place ++ Key (codes "statement") ∷ []) claim.statement (length program.statements) ∷ []

abbrev pub leaf_fit : AffineProgram → ReadOf → List Step → Leaf → List Claim
leaf_fit program reader place (source claim) = source_fit program reader place claim
leaf_fit program reader place (input shown) =
    shown_fit (length (levels_before program (writers program (reference_of program reader).array) reader.statement)) (place ++ Key (codes "input") ∷ []) shown ∷ []
leaf_fit program reader place (empty shown) = []
leaf_fit program reader place blank = []

-- A tree: its form, then the tree below, then the one above, in the order of their keys.
abbrev pub tree_fit : AffineProgram → ReadOf → List Step → SelectionTree → List Claim
tree_fit program reader place (leaf chosen) = leaf_fit program reader place chosen
tree_fit program reader place (test form above below) =
    form_fits (variables_at program reader) (place ++ Key (codes "form") ∷ []) form
    ∷ tree_fit program reader (place ++ Key (codes "no") ∷ []) below ++ tree_fit program reader (place ++ Key (codes "yes") ∷ []) above

-- the trees of a statement's reads
abbrev pub tree_at : AffineProgram → List Step → ℕ → ℕ → SelectionTree → List Claim
tree_at program place statement read tree = tree_fit program (record { statement = statement; read = read }) (place ++ Index read ∷ []) tree

abbrev pub row_fit : AffineProgram → List Step → ℕ → List SelectionTree → List Claim
row_fit program place statement row = numbered (tree_at program place statement) 0 row

-- the trees of all statements' reads: a tree for each read
abbrev pub row_at : AffineProgram → List Step → ℕ → List SelectionTree → List Claim
row_at program place statement row =
    so_many (place ++ Index statement ∷ []) (length row) (length (statement_at program statement).reads)
    ∷ row_fit program (place ++ Index statement ∷ []) statement row

-- the source trees: a row for each statement
abbrev pub trees_fit : AffineProgram → List (List SelectionTree) → List Claim
trees_fit program trees =
    so_many (Key (codes "quasts") ∷ []) (length trees) (length program.statements) ∷ numbered (row_at program (Key (codes "quasts") ∷ [])) 0 trees
