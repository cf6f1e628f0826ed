-- What a program says of statements that aren't there.
use Rattle.std.proofs.Common.{Bool, true, false, ◌≡◌, refl, sym, ◌∙◌, ap, subst, ℕ, ◌+◌, ◌<◌, ◌≤◌, List, [], ◌∷◌, ◌++◌, length, map, arith}
use Rattle.std.specs.Prelude.{Option, Some, None, IsSomeAnd, is_some, unwrap_or, ◌&&◌, nat_lt, if◌then◌else◌, flat_map}
use Rattle.std.specs.List.{AllByRecursion, range_with_len}
use Rattle.std.proofs.lemmas.Bool.{ltb-true}
use Rattle.std.proofs.lemmas.List.{length-map}
use Rattle.iolb_model.specs.Path.{PathStep, bounds_on, guards_on, first_of, item_path, row_path}
use Rattle.iolb_model.specs.Program.{Direction, Row, done, next}
use Rattle.iolb_model.specs.Order.{common_loops, item_common, row_common}
use Rattle.execution_laws.proofs.Domains.{way-below}
use Rattle.affine_form.specs.Rows.{widened}
use Rattle.affine_program.specs.Domain.{depth_of, domain_size, guards_at}
use Rattle.affine_program.specs.Parts.{ProgramParts, IsProgram, meaning, statement_of}
use Rattle.dep_quast.specs.Levels.{level_count, levels, levels_between, order_count, IsWriter}
use Rattle.certificate_fit.specs.TreeFit.{order_rows_at}

both-none : (o p : Option (List PathStep)) → first_of o p ≡ None → (o ≡ None) × (p ≡ None)
both-none None p e = (refl, e)
both-none (Some path) p e = absurd cc

-- two statements have no loops in common where there is no way to the first
no-common : (row : Row) (t s : ℕ) → row_path row t ≡ None → row_common row t s ≡ []
no-common done t s e = refl
no-common (next item row) t s e =
    let both = both-none (item_path item t) (row_path row t) e in
    ap (λ (o : Option (List PathStep)). if is_some o && is_some (item_path item s) then item_common item t s else row_common row t s) both.0 ∙ no-common row t s both.1

not-below : (t s : ℕ) → s ≤ t → nat_lt t s ≡ false
not-below t s h = by (nat_lt t s) refl where
  by : (b : Bool) → nat_lt t s ≡ b → b ≡ false
  by false e = refl
  by true e = absurd (let below : t < s = ltb-true t s e in omega arith)

module _ (parts : ProgramParts) (is : IsProgram parts) (t : ℕ) (past : length parts.statements ≤ t) where
  no-way : row_path (meaning parts).tree t ≡ None
  no-way = by (row_path (meaning parts).tree t) refl where
    by : (o : Option (List PathStep)) → row_path (meaning parts).tree t ≡ o → o ≡ None
    by None e = refl
    by (Some path) e =
        absurd (let below : t < length (meaning parts).statements = way-below (meaning parts) t (λ path. Unit {0}) is.well_formed (subst (λ (o : Option (List PathStep)). IsSomeAnd o (λ path. Unit {0})) (sym e) tt) in
        omega (arith, length-map parts.statements statement_of))

  -- no loops are around it
  pub no-depth : depth_of (meaning parts) t ≡ 0
  no-depth = ap (λ (o : Option (List PathStep)). length (bounds_on (unwrap_or o []))) no-way

  -- and no rows say that values are in its domain
  pub no-size : domain_size (meaning parts) t ≡ 0
  no-size = omega (arith, no-depth, none) where
    none : length (guards_at (meaning parts) t) ≡ 0
    none = ap (λ (o : Option (List PathStep)). length (map (widened (length parts.params + depth_of (meaning parts) t)) (guards_on (unwrap_or o [])))) no-way

  -- it comes before no statement at any level
  pub no-levels : (s : ℕ) → s < length parts.statements → level_count (meaning parts) t s ≡ 0
  no-levels s below =
      ap (λ (loops : List Direction). length loops + (if nat_lt t s then 1 else 0)) (no-common (meaning parts).tree t s no-way)
      ∙ ap (λ (b : Bool). 0 + (if b then 1 else 0)) (not-below t s (omega arith))

  -- and no rows say so
  pub no-rows : (s level : ℕ) → s < length parts.statements → order_rows_at (meaning parts) t s level ≡ 0
  no-rows s level below =
      ap (λ (n : ℕ). if nat_lt level n then order_count (length (common_loops (meaning parts) t s)) level else 0) (no-levels s below)
      ∙ ap (λ (b : Bool). if b then order_count (length (common_loops (meaning parts) t s)) level else 0) (not-below level 0 (omega arith))

  -- nothing lies between it and a statement
  pub no-pairs : (s array : ℕ) (writers : List ℕ) → AllByRecursion (IsWriter (meaning parts) array) writers → length (levels_between (meaning parts) t writers s) ≡ 0
  no-pairs s array [] h = refl
  no-pairs s array (w ∷ writers) h =
      ap (λ (n : ℕ). length (flat_map (λ after. levels (meaning parts) w s) (range_with_len 0 n) ++ levels_between (meaning parts) t writers s))
      (no-levels w (omega (arith, h.0.0, length-map parts.statements statement_of))) ∙ no-pairs s array writers h.1
