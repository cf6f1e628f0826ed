-- Where what is asked of source trees holds, they fit the program.
use Rattle.std.proofs.Common.{Bool, true, false, ◌≡◌, refl, sym, ◌∙◌, ap, inl, inr, ℕ, zero, suc, ◌+◌, ◌<◌, ◌≤◌, List, [], ◌∷◌, ◌++◌, length, map, arith, Vec, Global}
use Rattle.std.specs.Prelude.{nat_lt, if◌then◌else◌, ◌⊎◌, codes}
use Rattle.std.specs.List.{AllByRecursion}
use Rattle.std.proofs.lemmas.Bool.{lt-ltb, ltb-true}
use Rattle.iolb_model.specs.Form.{AffineForm}
use Rattle.iolb_model.specs.Program.{AffineProgram, IsWellFormed, statement_at}
use Rattle.iolb_model.specs.Order.{common_loops}
use Rattle.claims.specs.declared.place.Step.{Step}
use Rattle.claims.specs.declared.place.Step.TheVariants.{Key, Index}
use Rattle.affine_form.specs.Rows.{IsSmallOver}
use Rattle.affine_form.proofs.RowLemmas.{length-variables}
use Rattle.affine_program.specs.Domain.{depth_of}
use Rattle.dep_quast.specs.declared.quast.Quast.{Quast}
use Rattle.dep_quast.specs.Claims.{before_goals}
use Rattle.dep_quast.specs.Context.{ReadOf, variables_at, no_row, context, reader_values}
use Rattle.dep_quast.specs.Levels.{level_count, order_count}
use Rattle.dep_quast.specs.Tree.{SourceClaim, Leaf as TreeLeaf, source, input, empty, blank, SelectionTree, leaf, test, tree_of}
use Rattle.dep_quast.specs.Truth.{ReadFits, IsLevel, LeafFits, FitsUnder}
use Rattle.dep_quast.proofs.Counts.{earlier-many, between-many, order-many, level-within}
use Rattle.dep_quast.proofs.Fits.{common-first, common-second}
use Rattle.claims.proofs.Laws.{AllHold-left, AllHold-right}
use Rattle.std.proofs.lemmas.List.{length-map}
use Rattle.dep_quast.specs.Quasts.{row_trees}
use Rattle.dep_quast.specs.Trees.{RowFits, RowsFit}
use Rattle.certificate_fit.specs.Limits.{AreSmall, IsSmallTreeLeaf, IsNestedTree, IsSmallTree}
use Rattle.claims.specs.Claims.{Claim, AllHold, numbered}
use Rattle.certificate_fit.specs.FitClaims.{names}
use Rattle.certificate_fit.specs.PartFit.{form_at, forms_fit}
use Rattle.certificate_fit.specs.TreeFit.{order_rows_at, source_lists_fit, leaf_fit, tree_fit, tree_at, row_at}

-- small forms that are over so many variables
pub forms-over : (vars : ℕ) (place : List Step) (index : ℕ) (forms : List AffineForm) → AreSmall forms → AllHold (numbered (form_at vars place) index forms) → AllByRecursion (IsSmallOver vars) forms
forms-over vars place index [] small h = tt
forms-over vars place index (form ∷ forms) small h = (record { over = h.0; small = small.0 }, forms-over vars place (suc index) forms small.1 h.1)

-- a level below their number is one of the levels
level-is : (program : AffineProgram) (t s level : ℕ) → level < level_count program t s → IsLevel program t s level
level-is program t s level h = by (nat_lt t s) refl h where
  common : ℕ
  common = length (common_loops program t s)

  last : (c : ℕ) → level < c + 1 → t < s → (level < c) ⊎ ((level ≡ c) × (t < s))
  last c below less = elim (cases level c (omega arith)) [ inl less_than ↦ inl less_than | inr same ↦ inr (same, less) ] where
    cases : (m n : ℕ) → m ≤ n → (m < n) ⊎ (m ≡ n)
    cases zero zero p = inr refl
    cases zero (suc n) p = inl (omega arith)
    cases (suc m) zero p = absurd (omega arith)
    cases (suc m) (suc n) p = elim (cases m n (omega arith)) [ inl l ↦ inl (omega arith) | inr e ↦ inr (ap suc e) ]

  by : (b : Bool) → nat_lt t s ≡ b → level < length (common_loops program t s) + (if b then 1 else 0) → IsLevel program t s level
  by true e below = last (length (common_loops program t s)) below (ltb-true t s e)
  by false e below = inl (omega arith)

module _ (program : AffineProgram) (well : IsWellFormed program) where
  module _ (reader : ReadOf) (fits : ReadFits program reader) where
    -- as many rows as show the order at a level
    before-many : (claim : SourceClaim) → claim.statement < length program.statements → claim.level < level_count program claim.statement reader.statement
        → length claim.point ≡ depth_of program claim.statement → order_rows_at program claim.statement reader.statement claim.level ≡ length (before_goals program reader claim)
    before-many claim there below point =
        let vars = variables_at program reader in
        let t = claim.statement in
        let s = reader.statement in
        ap (λ (b : Bool). if b then order_count (length (common_loops program t s)) claim.level else 0) (lt-ltb claim.level (level_count program t s) below)
        ∙ sym (order-many vars (common_loops program t s) claim.level claim.point (reader_values program reader vars)
        (level-within program t s claim.level (level-is program t s claim.level below))
        (omega (arith, common-first program t s well there, point))
        (omega (arith, common-second program t s well fits.statement, length-variables vars (length program.parameters) (depth_of program s))))

    leaf-fits : (place : List Step) (tests : List AffineForm) (chosen : TreeLeaf) → IsSmallTreeLeaf chosen → AllHold (leaf_fit program reader place chosen) → LeafFits program reader tests chosen
    leaf-fits place tests (source claim) small h =
        let lists : List Claim = source_lists_fit program reader claim place in
        let forms : List Claim = forms_fit (variables_at program reader) (place ++ Key (codes "point") ∷ []) claim.point in
        let last : List Claim = names (place ++ Key (codes "statement") ∷ []) claim.statement (length program.statements) ∷ [] in
        let front : AllHold (lists ++ forms) = AllHold-left (lists ++ forms) last h in
        let each : AllHold lists = AllHold-left lists forms front in
        let there : claim.statement < length program.statements = (AllHold-right (lists ++ forms) last h).0 in
        let below : claim.level < level_count program claim.statement reader.statement = each.1.1.1.1.0 in
        let point : length claim.point ≡ depth_of program claim.statement = each.1.1.1.1.1.0 in
        record {
          there = record {
            statement = there;
            level = level-is program claim.statement reader.statement claim.level below;
            point = point;
            forms = forms-over (variables_at program reader) (place ++ Key (codes "point") ∷ []) 0 claim.point small.point (AllHold-right lists forms front);
          };
          lists = record {
            inside = each.1.1.1.0;
            cell = each.1.1.0;
            before = each.0 ∙ before-many claim there below point;
            between = each.1.0 ∙ sym (between-many program reader (context program reader tests) claim);
          };
        }
    leaf-fits place tests (input shown) small h = h.0 ∙ sym (earlier-many program reader (context program reader tests))
    leaf-fits place tests (empty shown) small h = tt
    leaf-fits place tests blank small h = tt

    tree-fits : (nested : ℕ) (place : List Step) (tests : List AffineForm) (tree : SelectionTree) → IsNestedTree nested tree → AllHold (tree_fit program reader place tree) → FitsUnder program reader tests tree
    tree-fits nested place tests (leaf chosen) small h = leaf-fits place tests chosen small h
    tree-fits zero place tests (test form above below) small h = absurd small
    tree-fits (suc nested) place tests (test form above below) small h =
        let low : List Claim = tree_fit program reader (place ++ Key (codes "no") ∷ []) below in
        let high : List Claim = tree_fit program reader (place ++ Key (codes "yes") ∷ []) above in (
          record { over = h.0; small = small.0 },
          tree-fits nested (place ++ Key (codes "yes") ∷ []) (tests ++ form ∷ []) above small.1 (AllHold-right low high h.1),
          tree-fits nested (place ++ Key (codes "no") ∷ []) (tests ++ no_row (variables_at program reader) form ∷ []) below small.2 (AllHold-left low high h.1),
        )

  -- the trees of a statement's reads
  row-fits : (place : List Step) (statement read : ℕ) (row : List Quast) → statement < length program.statements → read + length row ≡ length (statement_at program statement).reads
      → AllByRecursion (λ quast. IsSmallTree (tree_of quast)) row → AllHold (numbered (tree_at program place statement) read (map tree_of row)) → RowFits program statement read (map tree_of row)
  row-fits place statement read [] there many small h = tt
  row-fits place statement read (quast ∷ row) there many small h =
      let reader : ReadOf = record { statement = statement; read = read } in
      let here : List Claim = tree_at program place statement read (tree_of quast) in
      let rest : List Claim = numbered (tree_at program place statement) (suc read) (map tree_of row) in
      let fits : ReadFits program reader = record { statement = there; read = omega arith } in (
        (fits, tree-fits reader fits 16 (place ++ Index read ∷ []) [] (tree_of quast) small.0.nested (AllHold-left here rest h)),
        row-fits place statement (suc read) row there (omega arith) small.1 (AllHold-right here rest h),
      )

  -- those of all
  pub rows-fit : (place : List Step) (first : ℕ) (rows : List (Vec Quast Global)) → first + length rows ≡ length program.statements
      → AllByRecursion (λ (row : Vec Quast Global). AllByRecursion (λ quast. IsSmallTree (tree_of quast)) row.items) rows → AllHold (numbered (row_at program place) first (map row_trees rows)) → RowsFit program first (map row_trees rows)
  rows-fit place first [] many small h = tt
  rows-fit place first (row ∷ rows) many small h =
      let here : List Claim = row_at program place first (row_trees row) in
      let rest : List Claim = numbered (row_at program place) (suc first) (map row_trees rows) in
      let fits : AllHold here = AllHold-left here rest h in (
        row-fits (place ++ Index first ∷ []) first 0 row.items (omega arith) (omega (arith, fits.0, length-map row.items tree_of)) small.0 fits.1,
        rows-fit place (suc first) rows (omega arith) small.1 (AllHold-right here rest h),
      )
