-- The pieces of a family's walks fit.
use Rattle.std.proofs.Common.{◌≡◌, refl, sym, ◌∙◌, ap, subst, ℕ, ◌+◌, ◌-◌, ◌≤◌, List, [], ◌∷◌, ◌++◌, length, map, take, replicate, append_assoc, arith, zero-add}
use Rattle.std.specs.List.{AllByRecursion}
use Rattle.std.proofs.Math.IntN.{ℤ, pos, negsuc}
use Rattle.std.proofs.Math.Seq.{take-append_seam}
use Rattle.std.proofs.lemmas.List.{length-append, length-map, append-nil}
use Rattle.base_laws.proofs.Lists.{All-append, All-weaken}
use Rattle.iolb_model.specs.Form.{AffineForm}
use Rattle.iolb_model.specs.Program.{IsOver}
use Rattle.affine_form.specs.Form.{variables, IsSmallForm}
use Rattle.affine_form.specs.Rows.{IsSmallOver, variables_from, widened, within_rows}
use Rattle.affine_form.specs.System.{AllOver}
use Rattle.affine_form.proofs.RowLemmas.{length-difference, length-variables, small-wider, variables-over}
use Rattle.affine_program.specs.Domain.{depth_of, domain_rows}
use Rattle.dep_quast.specs.Context.{reference_of, no_row, parameter_point}
use Rattle.dep_quast.specs.Truth.{ReadFits, TreeFits}
use Rattle.reuse_paths.specs.FewContexts.{TakenFits, TakesFit}
use Rattle.reuse_paths.specs.LeafClaims.{LeafClaim, no_point, stops, is_credited, goes_on, arrives}
use Rattle.dep_quast.specs.OpenLeaves.{LeafOrigin, written, as_input, unknown, OpenLeaf, form_at}
use Rattle.footprint_pieces.specs.declared.piece.Target.TheVariants.{Cell, Instance}
use Rattle.footprint_pieces.specs.Pieces.{FootprintPiece, PieceFits}
use Rattle.dep_quast.specs.Quasts.{tree_for}
use Rattle.dep_quast.specs.Trees.{read_of, RowsFit}
use Rattle.reuse_paths.specs.WalkClaims.{leaves_at}
use Rattle.reuse_paths.specs.WalkPieces.{word_pieces, entry_pieces, leaves_pieces, walk_pieces}
use Rattle.reuse_paths.specs.WalkSettings.{WalkSetting, reading_point, region_context, region_values, region_variables, spot_variables}
use Rattle.reuse_paths.specs.WalkViews.{OpenLeafFits, OriginFits}
use Rattle.reuse_paths.specs.Walks.{WalkTree, take as take_read, test}
use Rattle.reuse_paths.proofs.OpenLeaves.{open-fits}
use Rattle.reuse_paths.proofs.Renamed.{forms_at-small}
use Rattle.dep_quast.proofs.TreeLemmas.{rows-fit-at}
use Rattle.iolb_model.specs.declared.limits.TheConstants.{NEST_VARIABLES, PUT_SIZE}

-- a form over all of so many variables is read over them as it is
pub as-wide : (many : ℕ) (form : AffineForm) → variables form ≡ many → widened many form ≡ form
as-wide many form e =
    ap (λ (n : ℕ). record form { coefficients = form.coefficients ++ replicate n (pos 0) }) (nothing many (length form.coefficients) e)
    ∙ ap (λ (cs : List ℤ). record form { coefficients = cs }) (append-nil form.coefficients) where
      nothing : (n m : ℕ) → m ≡ n → n - m ≡ 0
      nothing n m e = omega (arith, e)

module _ (walk : WalkSetting) (s : ℕ) (flat : length walk.nest ≡ 0) (few : depth_of walk.program s ≤ NEST_VARIABLES) where
  abbrev params : ℕ
  params = length walk.program.parameters

  abbrev depth : ℕ
  depth = depth_of walk.program s

  abbrev vars : ℕ
  vars = region_variables walk s

  abbrev point : List AffineForm
  point = reading_point walk s

  narrow : vars ≡ params + depth
  narrow = omega (arith, flat)

  -- ---- rows begin with the assumptions

  abbrev assumed : List AffineForm
  assumed = map (widened (params + depth)) walk.program.assumptions

  abbrev pub Begins : List AffineForm → Type 0
  Begins rows = (own : List AffineForm) × (rows ≡ assumed ++ own)

  pub begins-more : (rows more : List AffineForm) → Begins rows → Begins (rows ++ more)
  begins-more rows more b = (b.0 ++ more, ap (λ (rs : List AffineForm). rs ++ more) b.1 ∙ append_assoc assumed b.0 more)

  begins-take : (rows : List AffineForm) → Begins rows → take (length walk.program.assumptions) rows ≡ assumed
  begins-take rows b =
      ap (λ (n : ℕ). take n rows) (sym (length-map walk.program.assumptions (widened (params + depth)))) ∙ ap (take (length assumed)) b.1 ∙ take-append_seam assumed b.0

  in-front : (forms inner outer rest : List AffineForm) → AllByRecursion (IsOver params) forms
      → (map (widened vars) (map (widened (params + length walk.nest)) forms ++ inner) ++ outer) ++ rest ≡ map (widened (params + depth)) forms ++ ((map (widened vars) inner ++ outer) ++ rest)
  in-front [] inner outer rest over = refl
  in-front (form ∷ forms) inner outer rest over =
      ap (λ (f : AffineForm). f ∷ ((map (widened vars) (map (widened (params + length walk.nest)) forms ++ inner) ++ outer) ++ rest))
      (ap (widened vars) (as-wide (params + length walk.nest) form (omega (arith, flat, over.0))) ∙ ap (λ (n : ℕ). widened n form) narrow)
      ∙ ap (λ (fs : List AffineForm). widened (params + depth) form ∷ fs) (in-front forms inner outer rest over.1)

  pub context-begins : (rows : List AffineForm) → AllByRecursion (IsOver params) walk.program.assumptions → Begins (region_context walk s rows)
  context-begins rows over =
      let inner : List AffineForm = within_rows (params + length walk.nest) walk.nest (variables_from (params + length walk.nest) 0 params) (variables_from (params + length walk.nest) params (length walk.nest)) in
      let outer : List AffineForm = domain_rows walk.program s vars (parameter_point walk.program vars) (region_values walk s) in
      ((map (widened vars) inner ++ outer) ++ rows, in-front walk.program.assumptions inner outer rows over)

  -- ---- points are small

  pub reading-over : AllByRecursion (IsSmallOver vars) point
  reading-over =
      All-append (IsSmallOver vars) (variables_from vars 0 params) (region_values walk s) (variables-over vars 0 params) (variables-over vars (spot_variables walk) depth)

  reading-many : length point ≡ params + depth
  reading-many =
      length-append (variables_from vars 0 params) (region_values walk s)
      ∙ ap (λ (n : ℕ). n + length (region_values walk s)) (length-variables vars 0 params) ∙ ap (λ (n : ℕ). params + n) (length-variables vars (spot_variables walk) depth)

  put-over : (forms : List AffineForm) → AllByRecursion (IsSmallOver (params + depth)) forms → AllByRecursion (IsSmallOver vars) (map (form_at vars point) forms)
  put-over forms over =
      forms_at-small vars params (spot_variables walk) depth (omega arith) (omega arith) reading-over forms (subst (λ (n : ℕ). AllByRecursion (IsSmallOver n) forms) (sym reading-many) over)

  piece-fits : (rows : List AffineForm) → AllOver vars rows → Begins rows → (piece : FootprintPiece) → piece.vars ≡ depth → piece.rows ≡ rows
      → AllByRecursion (IsSmallOver vars) piece.point → PieceFits walk.program piece
  piece-fits rows over begins piece is same small = record {
    few = omega (arith, few, is);
    assumed = subst (λ (n : ℕ). take (length walk.program.assumptions) piece.rows ≡ map (widened (params + n)) walk.program.assumptions) (sym is)
        (ap (take (length walk.program.assumptions)) same ∙ begins-take rows begins);
    rows = subst (λ (n : ℕ). AllOver n piece.rows) wide (subst (AllOver vars) (sym same) over);
    point = subst (λ (n : ℕ). AllOver n piece.point) wide (All-weaken (IsSmallOver vars) (λ (f : AffineForm). variables f ≡ vars) piece.point (λ f h. h.over) small);
    small = All-weaken (IsSmallOver vars) (IsSmallForm PUT_SIZE) piece.point (λ f h. small-wider f h.small) small;
  } where
    wide : vars ≡ params + piece.vars
    wide = omega (arith, narrow, is)

  -- ---- the pieces of words, of leaves and of walks

  module _ (read-over : (read : ℕ) → ReadFits walk.program (read_of s read) → AllByRecursion (IsSmallOver (params + depth)) (reference_of walk.program (read_of s read)).subscripts)
      (trees-fit : RowsFit walk.program 0 walk.trees) where
    word-fits : (read : ℕ) → ReadFits walk.program (read_of s read) → (rows : List AffineForm) → AllOver vars rows → Begins rows → (origin : LeafOrigin) → OriginFits walk.program (params + depth) origin
        → AllByRecursion (PieceFits walk.program) (word_pieces walk (read_of s read) rows origin)
    word-fits read there rows over begins (written writer values) fits =
        let piece : FootprintPiece = record { target = Instance writer; vars = depth; rows = rows; point = map (form_at vars point) values } in
        (piece-fits rows over begins piece refl refl (put-over values fits.2), tt)
    word-fits read there rows over begins as_input fits =
        let piece : FootprintPiece = record {
          target = Cell (reference_of walk.program (read_of s read)).array;
          vars = depth;
          rows = rows;
          point = map (form_at vars point) (reference_of walk.program (read_of s read)).subscripts;
        } in
        (piece-fits rows over begins piece refl refl (put-over (reference_of walk.program (read_of s read)).subscripts (read-over read there)), tt)
    word-fits read there rows over begins unknown fits = tt

    entry-fits : (read : ℕ) → ReadFits walk.program (read_of s read) → (rows : List AffineForm) → AllOver vars rows → Begins rows → (origin : LeafOrigin) → OriginFits walk.program (params + depth) origin
        → (entry : LeafClaim) → AllByRecursion (PieceFits walk.program) (entry_pieces walk (read_of s read) rows origin entry)
    entry-fits read there rows over begins origin fits (no_point shown) = tt
    entry-fits read there rows over begins origin fits (stops label) = word-fits read there rows over begins origin fits
    entry-fits read there rows over begins origin fits (is_credited credit shown label) = word-fits read there rows over begins origin fits
    entry-fits read there rows over begins origin fits (goes_on shown label) = word-fits read there rows over begins origin fits
    entry-fits read there rows over begins origin fits (arrives equal) = word-fits read there rows over begins origin fits

    leaves-fit : (read : ℕ) → ReadFits walk.program (read_of s read) → (rows : List AffineForm) → AllOver vars rows → Begins rows → (leaves : List OpenLeaf) → AllByRecursion (OpenLeafFits walk s) leaves
        → (entries : List LeafClaim) → AllByRecursion (PieceFits walk.program) (leaves_pieces walk (read_of s read) rows leaves entries)
    leaves-fit read there rows over begins [] fit entries = tt
    leaves-fit read there rows over begins (l ∷ leaves) fit [] = tt
    leaves-fit read there rows over begins (l ∷ leaves) fit (entry ∷ entries) =
        All-append (PieceFits walk.program) (entry_pieces walk (read_of s read) (rows ++ l.tests) l.origin entry) (leaves_pieces walk (read_of s read) rows leaves entries)
        (entry-fits read there (rows ++ l.tests) (All-append (λ (row : AffineForm). variables row ≡ vars) rows l.tests over fit.0.tests) (begins-more rows l.tests begins) l.origin fit.0.origin entry)
        (leaves-fit read there rows over begins leaves fit.1 entries)

    open-leaves-fit : (read : ℕ) (entries : List LeafClaim) → TakenFits walk s read entries → AllByRecursion (OpenLeafFits walk s) (leaves_at walk (read_of s read))
    open-leaves-fit read entries taken =
        let fits : TreeFits walk.program (read_of s read) (tree_for walk.trees (read_of s read)) =
        subst (λ (n : ℕ). TreeFits walk.program (read_of n read) (tree_for walk.trees (read_of s read))) (zero-add s) (rows-fit-at walk.program 0 s read walk.trees (tree_for walk.trees (read_of s read)) trees-fit taken.there) in
        open-fits walk (read_of s read) reading-over [] [] (tree_for walk.trees (read_of s read)) fits reading-many tt

    pub walk-fits : (rows : List AffineForm) → AllOver vars rows → Begins rows → (tree : WalkTree) → TakesFit walk s tree → AllByRecursion (PieceFits walk.program) (walk_pieces walk s rows tree)
    walk-fits rows over begins (take_read read entries) taken = leaves-fit read taken.read_fits rows over begins (leaves_at walk (read_of s read)) (open-leaves-fit read entries taken) entries
    walk-fits rows over begins (test form above below) takes =
        All-append (PieceFits walk.program) (walk_pieces walk s (rows ++ form ∷ []) above) (walk_pieces walk s (rows ++ no_row vars form ∷ []) below)
        (walk-fits (rows ++ form ∷ []) (more form takes.0.over) (begins-more rows (form ∷ []) begins) above takes.1)
        (walk-fits (rows ++ no_row vars form ∷ []) (more (no_row vars form) no-over) (begins-more rows (no_row vars form ∷ []) begins) below takes.2) where
          more : (row : AffineForm) → variables row ≡ vars → AllOver vars (rows ++ row ∷ [])
          more row e = All-append (λ (r : AffineForm). variables r ≡ vars) rows (row ∷ []) over (e, tt)

          no-over : variables (no_row vars form) ≡ vars
          no-over = length-difference vars (record { coefficients = []; constant = pos 0 }) form (negsuc 0) (omega arith) (omega (arith, takes.0.over))
