-- Source trees that stand fit their program, what they claim holds, and they are within the limits of certificates.
use Rattle.std.proofs.Common.{Bool, true, false, ◌≡◌, sym, ◌∙◌, ap, inl, inr, ℕ, suc, ◌+◌, ◌<◌, List, [], ◌∷◌, ◌++◌, length, map, arith, Vec, Global}
use Rattle.std.specs.Prelude.{nat_lt, if◌then◌else◌, codes}
use Rattle.std.specs.List.{AllByRecursion}
use Rattle.std.proofs.lemmas.Bool.{lt-ltb}
use Rattle.iolb_model.specs.Form.{AffineForm}
use Rattle.iolb_model.specs.Program.{AffineProgram, IsWellFormed, statement_at}
use Rattle.iolb_model.specs.Order.{common_loops}
use Rattle.claims.specs.Claims.{Claim, AllHold, numbered}
use Rattle.claims.specs.declared.place.Step.{Step}
use Rattle.claims.specs.declared.place.Step.TheVariants.{Key, Index}
use Rattle.claims.proofs.Laws.{AllHold-append}
use Rattle.affine_form.proofs.RowLemmas.{length-variables}
use Rattle.affine_program.specs.Domain.{depth_of}
use Rattle.dep_quast.specs.Claims.{before_goals, claims}
use Rattle.dep_quast.specs.Context.{ReadOf, variables_at, no_row, context, reader_values}
use Rattle.dep_quast.specs.Levels.{level_count, order_count}
use Rattle.dep_quast.specs.declared.quast.Quast.{Quast}
use Rattle.dep_quast.specs.Tree.{SourceClaim, Leaf as TreeLeaf, source, input, empty, blank, SelectionTree, leaf, test, tree_of}
use Rattle.dep_quast.specs.Truth.{ReadFits, IsLevel, LeafFits, FitsUnder}
use Rattle.dep_quast.proofs.Counts.{earlier-many, between-many, order-many, level-within}
use Rattle.dep_quast.proofs.Fits.{common-first, common-second}
use Rattle.certificate_fit.specs.FitClaims.{names, so_many}
use Rattle.certificate_fit.specs.Limits.{IsSmallTree}
use Rattle.certificate_fit.specs.PartFit.{forms_fit}
use Rattle.certificate_fit.specs.TreeFit.{order_rows_at, source_lists_fit, leaf_fit, tree_fit, tree_at, row_at, trees_fit}
use Rattle.certificate_fit.proofs.FormsFit.{forms-hold}
use Rattle.dep_quast.specs.declared.quasts.Quasts.{Quasts}
use Rattle.dep_quast.specs.Quasts.{row_trees, trees_of}
use Rattle.dep_quast.specs.Trees.{read_of, row_claims, rows_claims, tree_place}
use Rattle.flow_deps.specs.Standing.{AllStand, AreStanding, AreStandingRows}

-- a level is below their number
level-below : (program : AffineProgram) (t s level : ℕ) → IsLevel program t s level → level < level_count program t s
level-below program t s level (inl common) = by (nat_lt t s) where
  by : (b : Bool) → level < length (common_loops program t s) + (if b then 1 else 0)
  by true = omega (arith, common)
  by false = omega (arith, common)
level-below program t s level (inr (last, earlier)) =
    let more = ap (λ (b : Bool). length (common_loops program t s) + (if b then 1 else 0)) (lt-ltb t s earlier) in omega (arith, last, more)

module _ (program : AffineProgram) (well : IsWellFormed program) where
  module _ (reader : ReadOf) (fits : ReadFits program reader) where
    -- as many rows as show the order at a level
    before-many : (claim : SourceClaim) → claim.statement < length program.statements → IsLevel program claim.statement reader.statement claim.level
        → length claim.point ≡ depth_of program claim.statement → length (before_goals program reader claim) ≡ order_rows_at program claim.statement reader.statement claim.level
    before-many claim there level point =
        let vars = variables_at program reader in
        let t = claim.statement in
        let s = reader.statement in
        order-many vars (common_loops program t s) claim.level claim.point (reader_values program reader vars)
        (level-within program t s claim.level level)
        (omega (arith, common-first program t s well there, point))
        (omega (arith, common-second program t s well fits.statement, length-variables vars (length program.parameters) (depth_of program s)))
        ∙ sym (ap (λ (b : Bool). if b then order_count (length (common_loops program t s)) claim.level else 0) (lt-ltb claim.level (level_count program t s) (level-below program t s claim.level level)))

    leaf-holds : (place : List Step) (tests : List AffineForm) (chosen : TreeLeaf) → LeafFits program reader tests chosen → AllHold (leaf_fit program reader place chosen)
    leaf-holds place tests (source claim) h =
        let lists : List Claim = source_lists_fit program reader claim place in
        let forms : List Claim = forms_fit (variables_at program reader) (place ++ Key (codes "point") ∷ []) claim.point in
        let last : List Claim = names (place ++ Key (codes "statement") ∷ []) claim.statement (length program.statements) ∷ [] in
        let point : AllHold (so_many (place ++ Key (codes "point") ∷ []) (length claim.point) (depth_of program claim.statement) ∷ []) = (h.there.point, tt) in
        let each : AllHold lists = (
          h.lists.before ∙ before-many claim h.there.statement h.there.level h.there.point,
          (
            h.lists.between ∙ between-many program reader (context program reader tests) claim,
            (h.lists.cell, (h.lists.inside, (level-below program claim.statement reader.statement claim.level h.there.level, point))),
          ),
        ) in
        AllHold-append (lists ++ forms) last
        (AllHold-append lists forms each (forms-hold (variables_at program reader) (place ++ Key (codes "point") ∷ []) 0 claim.point h.there.forms)) (h.there.statement, tt)
    leaf-holds place tests (input shown) h = (h ∙ earlier-many program reader (context program reader tests), tt)
    leaf-holds place tests (empty shown) h = tt
    leaf-holds place tests blank h = tt

    tree-holds : (place : List Step) (tests : List AffineForm) (tree : SelectionTree) → FitsUnder program reader tests tree → AllHold (tree_fit program reader place tree)
    tree-holds place tests (leaf chosen) h = leaf-holds place tests chosen h
    tree-holds place tests (test form above below) h =
        let low : List Claim = tree_fit program reader (place ++ Key (codes "no") ∷ []) below in
        let high : List Claim = tree_fit program reader (place ++ Key (codes "yes") ∷ []) above in (
          h.0.over,
          AllHold-append low high (tree-holds (place ++ Key (codes "no") ∷ []) (tests ++ no_row (variables_at program reader) form ∷ []) below h.2)
              (tree-holds (place ++ Key (codes "yes") ∷ []) (tests ++ form ∷ []) above h.1),
        )

  -- the trees of a statement's reads fit
  row-holds : (place : List Step) (statement read : ℕ) (row : List SelectionTree) → statement < length program.statements → read + length row ≡ length (statement_at program statement).reads
      → AreStanding program statement read row → AllHold (numbered (tree_at program place statement) read row)
  row-holds place statement read [] there many stand = tt
  row-holds place statement read (tree ∷ row) there many stand =
      let reader : ReadOf = read_of statement read in
      AllHold-append (tree_at program place statement read tree) (numbered (tree_at program place statement) (suc read) row)
      (tree-holds reader (record { statement = there; read = omega arith }) (place ++ Index read ∷ []) [] tree stand.0.stands.fits)
      (row-holds place statement (suc read) row there (omega arith) stand.1)

  -- and those of all
  rows-hold : (place : List Step) (first : ℕ) (rows : List (List SelectionTree)) → first + length rows ≡ length program.statements
      → AreStandingRows program first rows → AllHold (numbered (row_at program place) first rows)
  rows-hold place first [] many stand = tt
  rows-hold place first (row ∷ rows) many stand =
      AllHold-append (row_at program place first row) (numbered (row_at program place) (suc first) rows)
      (stand.0.many, row-holds (place ++ Index first ∷ []) first 0 row (omega arith) (omega (arith, stand.0.many)) stand.0.each)
      (rows-hold place (suc first) rows (omega arith) stand.1)

  -- what the trees claim holds
  row-valid : (statement read : ℕ) (row : List SelectionTree) → AreStanding program statement read row → AllHold (row_claims program statement read row)
  row-valid statement read [] stand = tt
  row-valid statement read (tree ∷ row) stand =
      AllHold-append (claims program (read_of statement read) [] (tree_place statement read) tree) (row_claims program statement (suc read) row)
      (stand.0.stands.valid (tree_place statement read)) (row-valid statement (suc read) row stand.1)

  rows-valid : (first : ℕ) (rows : List (List SelectionTree)) → AreStandingRows program first rows → AllHold (rows_claims program first rows)
  rows-valid first [] stand = tt
  rows-valid first (row ∷ rows) stand =
      AllHold-append (row_claims program first 0 row) (rows_claims program (suc first) rows) (row-valid first 0 row stand.0.each) (rows-valid (suc first) rows stand.1)

  -- the trees fit
  pub trees-fit : (trees : List (List SelectionTree)) → AllStand program trees → AllHold (trees_fit program trees)
  trees-fit trees has = (has.many, rows-hold (Key (codes "quasts") ∷ []) 0 trees (omega (arith, has.many)) has.rows)

  pub trees-valid : (trees : List (List SelectionTree)) → AllStand program trees → AllHold (rows_claims program 0 trees)
  trees-valid trees has = rows-valid 0 trees has.rows

-- ---- within the limits

small-row : (program : AffineProgram) (statement read : ℕ) (row : List Quast) → AreStanding program statement read (map tree_of row) → AllByRecursion (λ quast. IsSmallTree (tree_of quast)) row
small-row program statement read [] stand = tt
small-row program statement read (quast ∷ row) stand = (record { nested = stand.0.stands.small; few = stand.0.few }, small-row program statement (suc read) row stand.1)

small-rows : (program : AffineProgram) (first : ℕ) (rows : List (Vec Quast Global)) → AreStandingRows program first (map row_trees rows)
    → AllByRecursion (λ (row : Vec Quast Global). AllByRecursion (λ quast. IsSmallTree (tree_of quast)) row.items) rows
small-rows program first [] stand = tt
small-rows program first (row ∷ rows) stand = (small-row program first 0 row.items stand.0.each, small-rows program (suc first) rows stand.1)

pub trees-small : (program : AffineProgram) (quasts : Quasts) → AllStand program (trees_of quasts) → AllByRecursion (λ (row : Vec Quast Global). AllByRecursion (λ quast. IsSmallTree (tree_of quast)) row.items) quasts.rows.items
trees-small program quasts has = small-rows program 0 quasts.rows.items has.rows
