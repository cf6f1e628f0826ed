-- Reads of inputs, by loops that run from 0 to below parameters, are plain; and what their opening terms count.
use Rattle.std.proofs.Common.{◌≡◌, ◌≢◌, refl, sym, ◌∙◌, ap, subst, inl, inr, ℕ, suc, ◌+◌, ◌^◌, ◌<◌, ◌≤◌, Bool, true, List, [], ◌∷◌, ◌++◌, length, map, filter, drop, get_or, arith, lit<, lit≤}
use Rattle.std.specs.Prelude.{◌⊎◌, flat_map, if◌then◌else◌, nat_eq}
use Rattle.std.specs.Global.{Global, Vec}
use Rattle.std.specs.List.{AllByRecursion, range_with_len}
use Rattle.std.proofs.Math.IntN.{ℤ, pos}
use Rattle.std.proofs.lemmas.Bool.{eq-eqb}
use Rattle.std.proofs.lemmas.List.{get_or-drop, length-append, length-map}
use Rattle.std.proofs.lemmas.List.FromFn.{get_or-map-range_with_len}
use denote.RawPtr.{null_ptr}
use Rattle.base_laws.proofs.Lists.{All-append, All-weaken}
use Rattle.iolb_model.specs.Form.{AffineForm, dot}
use Rattle.iolb_model.specs.Program.{AffineProgram}
use Rattle.affine_form.specs.Form.{IsSmallForm, variables}
use Rattle.affine_form.specs.Multipliers.{FarkasMultipliers}
use Rattle.affine_form.specs.Rows.{IsSmallOver, put_in, variable, variables_from, widened}
use Rattle.affine_form.specs.Substitution.{substitution, width}
use Rattle.affine_form.specs.System.{AffineSystem, AllOver}
use Rattle.affine_form.proofs.RowLemmas.{AllOver-width, length-variables, variables-over}
use Rattle.affine_form.proofs.SubstitutionLemmas.{length-substitution}
use Rattle.affine_program.specs.Domain.{depth_of, domain_rows, guards_at}
use Rattle.affine_program.specs.Parts.{ProgramParts, IsProgram, meaning, statement_of}
use Rattle.claims.specs.Shown.{IsFew}
use Rattle.cold_terms.specs.Outline.{ColdOutline, OutlineFits, outline_in}
use Rattle.projective_bounds.proofs.ColdParts.{IsUndone}
use Rattle.cold_terms.proofs.EntryLaws.{stop-closes}
use Rattle.dep_quast.specs.Context.{ReadOf, context, earlier_write, earlier_writes, reference_of, variables_at}
use Rattle.dep_quast.specs.Levels.{levels, writers}
use Rattle.dep_quast.specs.Tree.{SelectionTree, leaf, input}
use Rattle.dep_quast.specs.Truth.{ReadFits}
use Rattle.dep_quast.proofs.Fits.{depth-few}
use Rattle.domain_count.specs.Count.{IsCount, IsSumFrom}
use Rattle.domain_count.specs.Made.{AreMade}
use Rattle.domain_count.proofs.Claimed.{right-claims-give-one}
use Rattle.domain_count.proofs.WithinLimits.{made-one}
use Rattle.execution_laws.specs.Inverse.{column}
use Rattle.find_terms.specs.Openings.{AreNamed, IsOpeningTerm, IsPlainRead, is_named, named_loops, named_nest, nest_along, opening_outline}
use Rattle.find_terms.proofs.ColdLaws.{cold-shown}
use Rattle.find_terms.proofs.NameLaws.{named-few, named-many, named-same}
use Rattle.flow_deps.specs.declared.wanted.Wanted.TheVariants.{Short}
use Rattle.flow_deps.specs.Answers.{Answers, HasShortAnswer, Question, following, pointless}
use Rattle.flow_deps.specs.Candidates.{loop_variable}
use Rattle.flow_deps.specs.Plain.{IsPlain}
use Rattle.flow_deps.proofs.ShownLeaves.{input-shown}
use Rattle.int_sets.specs.ShortList.{IsShort}
use Rattle.poly_tree.specs.Expansion.{at}
use Rattle.poly_tree.specs.Poly.{Quotient}
use Rattle.projective.specs.Products.{IsProduct, RunBelow}
use Rattle.projective.proofs.ProjectiveFacts.{same-place}
use Rattle.projective.proofs.Summed.{whole}
use Rattle.projective.proofs.Times.{product_tree}
use Rattle.projective.proofs.Units.{unit, unit-at, unit-other, unit-same}
use Rattle.projective_bounds.specs.Loops.{parameters_of}
use Rattle.projective_bounds.specs.Outline.{value_among}
use Rattle.projective_bounds.proofs.Forms.{put-variable}
use Rattle.projective_bounds.proofs.LoopValues.{IsAt}
use Rattle.projective_bounds.proofs.ReaderLabels.{at-behind, none}
use Rattle.projective_bounds.proofs.Unequal.{differs}
use Rattle.reuse_paths.proofs.PiecesFit.{as-wide}
use Rattle.reuse_paths.specs.declared.leaf.Leaf.TheVariants.{Stop}
use Rattle.reuse_paths.specs.MatrixRows.{matrix_rows}
use Rattle.wavefront.specs.declared.cold.Cold.{Cold}
use Rattle.wavefront.specs.Inverse.{coefficients_past}
use Rattle.wavefront.specs.View.{term_of}
use Rattle.find_terms.specs.InputReads.{InputReadsArePlain, LoopsRunBelow, OpeningTermsCountProducts}
use Rattle.find_terms.proofs.products.NamedCounts.{claims, nest-counted, product-counts, product-sums}
use Rattle.find_terms.proofs.products.NamedInside.{inside-short}
use Rattle.find_terms.proofs.products.NamedLoops.{HasRoom, NamedLoops, bounds-fit, nest, ps, rising-value, rows-few, size, system, values, values-many, values-small, vars, way-many}
use Rattle.find_terms.proofs.products.NamedNests.{nest-along, state_after}
use Rattle.find_terms.proofs.products.Permutations.{order-product, all-named, passing-place, passing-below, passing-pass, passing-rises, order-undone, order_matrix, places, rising-differ}
use Rattle.find_terms.proofs.products.Summation.{sums_below}
use Rattle.iolb_model.specs.declared.limits.TheConstants.{NUMBER_SIZE, TREE_TESTS}
use Rattle.affine_program.proofs.Domains.{length-domain_rows}

-- a vector of these items
abbrev vec_of : {A : Type 0} (alloc : Global) (xs : List A) → length xs < 2 ^ 63 → Vec A
vec_of alloc xs few = record { ptr = null_ptr; len = length xs; cap = length xs; alloc = alloc; items = xs; ok = (refl, omega arith); small = few }

-- a list for each question
short-answers : (questions : List Question) → AllByRecursion HasShortAnswer questions → (shown : List FarkasMultipliers) × Answers Short questions shown × (length shown ≡ length questions)
short-answers [] h = ([], record { each = tt; as_short = tt }, refl)
short-answers (question ∷ questions) h =
    let rest = short-answers questions h.1 in
    let m : FarkasMultipliers = h.0.1.0 in
    let short : IsShort m = h.0.1.1 in (
      m ∷ rest.0,
      record { each = ((h.0.0, (omega (arith, short.scale), h.0.1.2)), rest.1.each); as_short = (short, rest.1.as_short) },
      ap suc rest.2,
    )

module _ (program : AffineProgram) (reader : ReadOf) (loops below : List ℕ) (named : AreNamed program reader loops) (run : LoopsRunBelow program reader.statement below) (room : HasRoom program reader.statement) where
  abbrev p : ℕ
  p = length program.parameters

  abbrev d : ℕ
  d = depth_of program reader.statement

  abbrev names : List ℕ
  names = named_loops program reader loops

  abbrev r : NamedLoops
  r = record {
    program = program;
    statement = reader.statement;
    below = below;
    run = run;
    room = room;
    loops = names;
    rising = passing-rises (is_named loops) 0 d;
    there = passing-below (is_named loops) d 0 d (omega arith);
    few = named-few program reader loops;
  }

  -- ---- the source tree

  abbrev tree : SelectionTree
  tree = leaf (input [])

  abbrev wide : List AffineForm
  wide = map (widened (variables_at program reader)) program.assumptions

  abbrev rows : List AffineForm
  rows = domain_rows program reader.statement (variables_at program reader) (variables_from (variables_at program reader) 0 p) (variables_from (variables_at program reader) p d)

  few : guards_at program reader.statement ≡ [] → IsFew (length (context program reader []))
  few bare = long where
    long : length ((wide ++ rows) ++ []) ≤ 128
    long = omega (
      arith,
      length-append (wide ++ rows) [],
      length-append wide rows,
      length-map program.assumptions (widened (variables_at program reader)),
      length-domain_rows program reader.statement (variables_at program reader) (variables_from (variables_at program reader) 0 p) (variables_from (variables_at program reader) p d) (length-variables (variables_at program reader) p d),
      ap (λ (guards : List AffineForm). length guards) bare,
      room.assumptions,
      room.depth,
    )

  -- ---- the outline

  nest-is : named_nest program reader loops ≡ state_after program below names d
  nest-is =
      ap (λ (bounds : List (AffineForm × AffineForm)). nest_along program reader.statement loops 0 bounds (record { nest = []; values = [] })) (sym run.around)
      ∙ nest-along program below reader.statement run.upward loops run.bounds below [] 0 (subst (λ (n : ℕ). RunBelow program n run.bounds below) (more p) run.run) (λ i. ap (λ (n : ℕ). get_or below n 0) (front i)) tt
      ∙ ap (λ (n : ℕ). state_after program below (filter (is_named loops) (range_with_len 0 n)) (0 + n)) (way-many r)
      ∙ ap (state_after program below names) (sym (front d)) where
        more : (n : ℕ) → n ≡ n + 0
        more n = omega arith

        front : (n : ℕ) → n ≡ 0 + n
        front n = omega arith

  outline-is : opening_outline program reader loops ≡ record { reader = reader; nest = nest r; point = values r; matrix = order_matrix loops names; scale = 1 }
  outline-is = λ i. record { reader = reader; nest = (nest-is i).nest; point = (nest-is i).values; matrix = order_matrix loops names; scale = 1 }

  -- ---- the matrix

  abbrev point : List AffineForm
  point = variables_from (vars r) 0 p ++ values r

  point-many : length point ≡ p + d
  point-many = omega (arith, length-append (variables_from (vars r) 0 p) (values r), length-variables (vars r) 0 p, values-many r)

  point-small : AllByRecursion (IsSmallOver (vars r)) point
  point-small = All-append (IsSmallOver (vars r)) (variables_from (vars r) 0 p) (values r) (variables-over (vars r) 0 p) (values-small r)

  point-over : AllOver (vars r) point
  point-over = All-weaken (IsSmallOver (vars r)) (λ (f : AffineForm). variables f ≡ vars r) point (λ f g. g.over) point-small

  width-of : (forms : List AffineForm) → 0 < length forms → AllOver (vars r) forms → width forms ≡ vars r
  width-of [] some over = absurd (omega arith)
  width-of (f ∷ forms) some over = over.0

  -- the loop of a subscript is a variable of the nest
  cell-at : (loop k : ℕ) → loop < d → k < length names → get_or names k 0 ≡ loop → substitution (loop_variable program reader loop) point ≡ variable (vars r) (p + k)
  cell-at loop k there inside is =
      let form : AffineForm = loop_variable program reader loop in
      let many : length point ≡ variables form = point-many ∙ sym (variables-over (p + d) (p + loop) 1).0.over in
      let wide : variables (substitution form point) ≡ vars r =
      length-substitution form point many (AllOver-width (vars r) point point-small) ∙ width-of point (omega (arith, point-many, there)) point-over in
      sym (as-wide (vars r) (substitution form point) wide)
      ∙ put-variable (vars r) (p + d) (p + loop) point none point-many (omega (arith, there)) point-over
      ∙ at-behind (variables_from (vars r) 0 p) (values r) p loop none (length-variables (vars r) 0 p)
      ∙ get_or-map-range_with_len (value_among (vars r) p names) 0 d loop loop none there (omega arith)
      ∙ ap (value_among (vars r) p names) (sym is) ∙ rising-value (vars r) p names k r.rising inside

  abbrev IsNamed : ℕ → Type 0
  IsNamed loop = (loop < d) × (is_named loops loop ≡ true)

  named-both : (ls : List ℕ) → AllByRecursion (λ (loop : ℕ). loop < d) ls → AllByRecursion (λ (loop : ℕ). is_named loops loop ≡ true) ls → AllByRecursion IsNamed ls
  named-both [] there each = tt
  named-both (l ∷ ls) there each = ((there.0, each.0), named-both ls there.1 each.1)

  -- its coefficient of a variable says whether the variable is the loop's
  entry-at : (loop col : ℕ) → IsNamed loop → col < length names → get_or (drop p (substitution (loop_variable program reader loop) point).coefficients) col (pos 0) ≡ (if nat_eq (get_or names col 0) loop then pos 1 else pos 0)
  entry-at loop col is_one inside =
      let place : IsAt loop names = passing-place (is_named loops) loop d is_one.0 is_one.1 in
      let k : ℕ = place.0 in
      get_or-drop p (substitution (loop_variable program reader loop) point).coefficients col (pos 0)
      ∙ ap (λ (form : AffineForm). get_or form.coefficients (p + col) (pos 0)) (cell-at loop k is_one.0 place.1 place.2)
      ∙ unit-at (vars r) (p + k) (p + col) (omega (arith, place.1, size r)) ∙ by k place.1 place.2 (same-place k col) where
        by : (k : ℕ) → k < length names → get_or names k 0 ≡ loop → (k ≡ col) ⊎ (k ≢ col) → unit (p + k) (p + col) ≡ (if nat_eq (get_or names col 0) loop then pos 1 else pos 0)
        by k there is (inl same) =
            ap (λ (n : ℕ). unit (p + n) (p + col)) same ∙ unit-same (p + col)
            ∙ sym (ap (λ (b : Bool). if b then pos 1 else pos 0) (eq-eqb (get_or names col 0) loop (ap (λ (n : ℕ). get_or names n 0) (sym same) ∙ is)))
        by k there is (inr apart) =
            unit-other (p + k) (p + col) (λ e. apart (omega (arith, e)))
            ∙ sym (ap (λ (b : Bool). if b then pos 1 else pos 0) (differs (get_or names col 0) loop (λ e. rising-differ names col k r.rising inside there (λ f. apart (sym f)) (e ∙ sym is))))

  column-of : (col : ℕ) (ls : List ℕ) → col < length names → AllByRecursion IsNamed ls
      → column col (coefficients_past p (put_in point (map (loop_variable program reader) ls))) ≡ places (get_or names col 0) ls
  column-of col [] inside each = refl
  column-of col (l ∷ ls) inside each =
      ap (λ (x : ℤ). x ∷ column col (coefficients_past p (put_in point (map (loop_variable program reader) ls)))) (entry-at l col each.0 inside)
      ∙ ap (λ (xs : List ℤ). (if nat_eq (get_or names col 0) l then pos 1 else pos 0) ∷ xs) (column-of col ls inside each.1)

  matrix-undone : IsUndone program (record { reader = reader; nest = nest r; point = values r; matrix = order_matrix loops names; scale = 1 })
  matrix-undone row col there inside =
      ap (λ (forms : List AffineForm). dot (get_or (matrix_rows (order_matrix loops names)) row []) (column col (coefficients_past p (put_in point forms)))) named.subscripts
      ∙ ap (dot (get_or (matrix_rows (order_matrix loops names)) row [])) (column-of col loops (omega (arith, inside, size r)) (named-both loops named.there (all-named loops)))
      ∙ order-undone loops names named.different r.rising (passing-pass (is_named loops) 0 d) row col (omega (arith, there, size r)) (omega (arith, inside, size r))

  -- ---- its term

  abbrev goals : List AffineForm
  goals = domain_rows program reader.statement (vars r) (variables_from (vars r) 0 p) (values r)

  shown : guards_at program reader.statement ≡ [] → (ms : List FarkasMultipliers) × Answers Short (following (system r) goals) ms × (length ms ≡ length (following (system r) goals))
  shown bare = short-answers (following (system r) goals) (inside-short r bare)

  shown-few : (bare : guards_at program reader.statement ≡ []) → length (shown bare).0 < 2 ^ 63
  shown-few bare = omega (
    arith,
    (shown bare).2,
    length-map goals (λ (goal : AffineForm). let question : Question = record { system = system r; goal = goal } in question),
    length-domain_rows program reader.statement (vars r) (variables_from (vars r) 0 p) (values r) (values-many r),
    ap (λ (guards : List AffineForm). length guards) bare,
    room.depth,
  )

  module _ (alloc : Global) (read : ReadFits program reader) (unwritten : writers program (reference_of program reader).array ≡ []) (bare : guards_at program reader.statement ≡ []) where
    none-earlier : earlier_writes program reader (context program reader []) ≡ []
    none-earlier = ap (λ (all : List ℕ). flat_map (λ writer. map (earlier_write program reader (context program reader []) writer) (levels program writer reader.statement)) all) unwritten

    tree-plain : IsPlain program reader tree
    tree-plain = inl (input-shown Short program reader [] TREE_TESTS [] (few bare)
        (subst (λ (systems : List AffineSystem). Answers Short (map pointless systems) []) (sym none-earlier) (record { each = tt; as_short = tt })))

    abbrev cold : Cold
    cold = record {
      statement = reader.statement;
      read = reader.read;
      nest = nest r;
      sums = claims r;
      point = vec_of alloc (values r) (omega (arith, values-many r, room.depth));
      inside = vec_of alloc (shown bare).0 (shown-few bare);
      inverse = record { matrix = order_matrix loops names; scale = 1 };
      leaves = vec_of alloc (Stop (vec_of alloc [] (lit< tt)) ∷ []) (lit< tt);
    }

    fits-outline : OutlineFits program (outline_in (term_of cold))
    fits-outline = record {
      read = read;
      few = omega (arith, size r, r.few, room.depth);
      bounds = bounds-fit r;
      point = values-many r;
      forms = values-small r;
      rows = sym (size r);
      columns = λ some. sym (named-many program reader loops named);
      some_scale = lit≤ tt;
      scale = lit≤ tt;
    }

    pub input-plain : IsPlainRead program reader
    input-plain = (
      cold,
      record {
        read = read;
        tree = tree;
        plain = tree-plain;
        outline = (loops, named, sym outline-is);
        shown = cold-shown Short program tree cold fits-outline tt matrix-undone (shown bare).1
            (stop-closes Short _ true (omega (arith, rows-few r, length-append (system r).rows [])) refl, tt) (nest-counted r);
      },
    )

  -- ---- what it counts

  pub opening-counts : (term : Cold) (count : Quotient) → IsOpeningTerm program reader term → IsCount program term.nest term.sums count → IsProduct (parameters_of below loops) count
  opening-counts term count opens right = record {
    legal = total.legal;
    whole = total.whole;
    value = λ point. total.value point ∙ order-product (λ level. get_or below level 0) (at point) loops d named.different named.there;
  } where
    same : term.nest ≡ nest r
    same =
        ap (λ (o : ColdOutline). o.nest) opens.outline.2 ∙ ap (λ (ls : List ℕ). (named_nest program reader ls).nest) (named-same program reader opens.outline.0 loops opens.outline.1 named)
        ∙ (λ i. (nest-is i).nest)

    here : IsCount program (nest r) term.sums count
    here = subst (λ (n : List (AffineForm × AffineForm)). IsCount program n term.sums count) same right

    made : AreMade p (nest r) term.sums.sums
    made = subst (λ (n : List (AffineForm × AffineForm)). AreMade p n term.sums.sums) same opens.shown.made

    sums : term.sums.sums ≡ sums_below p (ps r)
    sums = made-one program (nest r) term.sums.sums (sums_below p (ps r)) made (nest-counted r).made

    is : count ≡ whole (product_tree (ps r))
    is =
        right-claims-give-one program (nest r) (record { shown = term.sums.shown; sums = sums_below p (ps r) }) count (whole (product_tree (ps r)))
        (record { shown = here.shown; sums = subst (λ (all : List Quotient). IsSumFrom p (nest r) all count) sums here.sums })
        (record { shown = here.shown; sums = product-sums r })

    total : IsProduct (ps r) count
    total = subst (IsProduct (ps r)) (sym is) (product-counts r)

-- ---- programs

small-over : (many : ℕ) (forms : List AffineForm) → AllOver many forms → AllByRecursion (IsSmallForm NUMBER_SIZE) forms → AllByRecursion (IsSmallOver many) forms
small-over many [] over small = tt
small-over many (f ∷ forms) over small = (record { over = over.0; small = small.0 }, small-over many forms over.1 small.1)

-- programs are within their limits
program-room : (parts : ProgramParts) → IsProgram parts → (statement : ℕ) → statement < length parts.statements → HasRoom (meaning parts) statement
program-room parts is statement there = record {
  parameters = is.limits.parameters;
  assumptions = is.limits.assumptions;
  assumed = small-over (length parts.params) (meaning parts).assumptions is.well_formed.assumptions is.limits.assumed;
  depth = depth-few parts is statement there;
}

pub inputs-plain : Global → InputReadsArePlain
inputs-plain alloc parts reader loops below is h =
    input-plain (meaning parts) reader loops below h.named h.run (program-room parts is reader.statement (omega (arith, h.read.statement, length-map parts.statements statement_of))) alloc h.read h.unwritten h.unguarded

pub openings-count : OpeningTermsCountProducts
openings-count parts reader loops below is named run cold count opens right =
    opening-counts (meaning parts) reader loops below named run (program-room parts is reader.statement (omega (arith, opens.read.statement, length-map parts.statements statement_of))) cold count opens right
