-- The pieces of a cold term fit, and cover its footprint.
use Rattle.std.specs.Prelude.{codes}
use Rattle.std.proofs.Common.{◌≡◌, refl, sym, ◌∙◌, ap, subst, inl, inr, ℕ, suc, ◌+◌, ◌-◌, ◌<◌, ◌≤◌, Bool, true, false, if◌then◌else◌, List, [], ◌∷◌, ◌++◌, length, map, replicate, get_or, take, drop, append_assoc, arith}
use Rattle.std.specs.List.{AllByRecursion}
use Rattle.std.proofs.Math.IntN.{ℤ, pos}
use lib.Signed.{◌≤ℤ◌}
use Rattle.std.proofs.lemmas.List.{length-map, map-append}
use Rattle.base_laws.proofs.Lists.{All-append, All-replicate, rest_at}
use Rattle.iolb_model.specs.Form.{AffineForm, form_value}
use Rattle.iolb_model.specs.Program.{AffineProgram, IsWellFormed}
use Rattle.iolb_model.specs.Bound.{IsAdmitted}
use Rattle.iolb_model.specs.Domain.{IsWithin}
use Rattle.iolb_model.specs.Source.{read_cell}
use Rattle.iolb_model.specs.Graph.{input_vertex}
use Rattle.iolb_model.specs.Game.{stands_in}
use Rattle.execution_laws.proofs.Members.{Member}
use Rattle.execution_laws.proofs.Ordered.{All-member, Member-map_from}
use Rattle.pebble_game.specs.Cold.{ReadsInput}
use Rattle.pebble_game.proofs.Marks.{standing-member}
use Rattle.pebble_game.proofs.InputVertices.{Member-input_cells}
use Rattle.claims.specs.Claims.{AllHold}
use Rattle.claims.specs.declared.place.Step.{Step}
use Rattle.claims.specs.declared.place.Step.TheVariants.{Key}
use Rattle.claims.proofs.Laws.{AllHold-left, AllHold-right}
use Rattle.affine_form.specs.Form.{variables, IsSmall, IsSmallForm}
use Rattle.affine_form.specs.Rows.{widened, variables_from, within_rows}
use Rattle.affine_form.specs.Substitution.{values_at}
use Rattle.affine_form.specs.System.{AllOver, IsMet}
use Rattle.affine_form.proofs.RowLemmas.{length-widened}
use Rattle.affine_form.proofs.ShownLemmas.{Shows-none}
use Rattle.claims.specs.Shown.{IsFew}
use Rattle.dep_quast.specs.Context.{reference_of}
use Rattle.dep_quast.specs.Tree.{Leaf as TreeLeaf, source, input as input_leaf, empty, blank, SelectionTree, leaf_at}
use Rattle.dep_quast.specs.Truth.{IsTrueTree, IsTrueLeaf}
use Rattle.execution_laws.proofs.Ways.{within-length}
use Rattle.domain_count.specs.Count.{rows_before}
use Rattle.domain_count.specs.Points.{points}
use Rattle.footprint_pieces.specs.declared.piece.Target.TheVariants.{Cell}
use Rattle.reuse_paths.specs.declared.leaf.Leaf.{Leaf}
use Rattle.footprint_pieces.specs.declared.piece.Piece.{Piece}
use Rattle.reuse_paths.specs.LeafClaims.{LeafClaim, claim_of, is_stop, no_point, stops, is_credited, goes_on, arrives}
use Rattle.footprint_pieces.specs.Pieces.{FootprintPiece, piece_of, IsVertexOf, IsInPieces, PieceFits}
use Rattle.wavefront.specs.Term.{ColdTerm, nest_variables, nest_system, instance_point, cell_forms}
use Rattle.dep_quast.specs.OpenLeaves.{OpenLeaf, is_input}
use Rattle.wavefront.specs.Leaves.{IsClosed, leaves_claims, inside_claims, term_leaves}
use Rattle.wavefront.specs.Loads.{TermFits, ColdFits, instance_values, all_instances, footprint_of}
use Rattle.wavefront.specs.ColdClaims.{matrix_claims, instance_claims}
use Rattle.wavefront.specs.ColdPieces.{rows_at_leaf, leaf_piece, stop_pieces, leaves_of, cold_pieces, LeavesAreFew, ColdPiecesCover}
use Rattle.reuse_paths.proofs.NestPoints.{points-within, nest-met}
use Rattle.footprint_pieces.proofs.PieceVertices.{wide-values, cell-vertex}
use Rattle.dep_quast.proofs.ChosenLeaves.{StandsAmong, chosen-stands}
use Rattle.wavefront.proofs.ColdCells.{instance-at, cell-is}
use Rattle.wavefront.proofs.ColdLoads.{all-read}
use Rattle.iolb_model.specs.declared.limits.TheConstants.{PUT_SIZE}

-- ---- pieces fit

-- what stands first in a list whose first part is an image
take-mapped : {X Y : Type 0} (f : X → Y) (xs : List X) (ys zs : List Y) → take (length xs) (map f xs ++ ys ++ zs) ≡ map f xs
take-mapped f [] ys zs = refl
take-mapped f (x ∷ xs) ys zs = ap (λ rest. f x ∷ rest) (take-mapped f xs ys zs)

-- the rows of a nest begin with the assumptions, whatever rows follow
pub assumed-first : (program : AffineProgram) (nest : List (AffineForm × AffineForm)) (more : List AffineForm)
    → take (length program.assumptions) ((rows_before program nest).rows ++ more) ≡ map (widened (length program.parameters + length nest)) program.assumptions
assumed-first program nest more =
    let params : ℕ = length program.parameters in
    let vars : ℕ = params + length nest in
    take-mapped (widened vars) program.assumptions (within_rows vars nest (variables_from vars 0 params) (variables_from vars params (length nest))) more

pub wide-over : (vars : ℕ) (forms : List AffineForm) → AllByRecursion (λ (form : AffineForm). variables form ≤ vars) forms → AllOver vars (map (widened vars) forms)
wide-over vars [] h = tt
wide-over vars (form ∷ forms) h = (length-widened vars form h.0, wide-over vars forms h.1)

pub wide-small : (limit vars : ℕ) (forms : List AffineForm) → IsSmall limit (pos 0) → AllByRecursion (IsSmallForm limit) forms → AllByRecursion (IsSmallForm limit) (map (widened vars) forms)
wide-small limit vars [] none h = tt
wide-small limit vars (form ∷ forms) none h = (
  (
    All-append (IsSmall limit) form.coefficients (replicate (vars - length form.coefficients) (pos 0)) h.0.0
        (All-replicate (IsSmall limit) (vars - length form.coefficients) (pos 0) none),
    h.0.1,
  ),
  wide-small limit vars forms none h.1,
)

-- a piece fits where the nest's rows, the tests and the cell's forms are over the nest's variables, and the last are small
pub leaf-fits : (program : AffineProgram) (term : ColdTerm) (tests : List AffineForm) → TermFits program term → AllOver (nest_variables program term) (nest_system program term).rows
    → AllOver (nest_variables program term) tests → AllOver (nest_variables program term) (map (widened (nest_variables program term)) (cell_forms program term))
    → AllByRecursion (IsSmallForm PUT_SIZE) (map (widened (nest_variables program term)) (cell_forms program term)) → PieceFits program (leaf_piece program term tests)
leaf-fits program term tests fits nest over cell small =
    let vars : ℕ = nest_variables program term in record {
      few = fits.few;
      assumed = assumed-first program term.nest tests;
      rows = All-append (λ (row : AffineForm). variables row ≡ vars) (nest_system program term).rows tests nest over;
      point = cell;
      small = small;
    }

-- ---- rows are few

pub few-from : (program : AffineProgram) (term : ColdTerm) (place : List Step) (index : ℕ) (leaves : List OpenLeaf) (entries : List LeafClaim) → length leaves ≤ length entries
    → AllHold (leaves_claims (nest_variables program term) (nest_system program term).rows place index leaves entries)
    → AllByRecursion (λ (l : OpenLeaf). IsFew (length (rows_at_leaf program term l.tests))) leaves
few-from program term place index [] entries le h = tt
few-from program term place index (l ∷ leaves) [] le h = absurd (omega (arith, le))
few-from program term place index (l ∷ leaves) (e ∷ entries) le h = (h.0, few-from program term place (suc index) leaves entries (omega (arith, le)) h.1.1)

-- ---- the pieces from a leaf on

module _ (program : AffineProgram) (term : ColdTerm) (leaves : List OpenLeaf) (entries : List Leaf) (i : ℕ) (l : OpenLeaf) (e : Leaf) (below : i < length leaves) (same : length entries ≡ length leaves)
    (is : l ≡ get_or leaves i l) (is_e : e ≡ get_or entries i e) where
  split : (b : Bool) → is_stop (claim_of e) ≡ b → stop_pieces program term (drop i leaves) (map claim_of (drop i entries))
      ≡ (if b then leaf_piece program term l.tests ∷ stop_pieces program term (drop (i + 1) leaves) (map claim_of (drop (i + 1) entries))
      else stop_pieces program term (drop (i + 1) leaves) (map claim_of (drop (i + 1) entries)))
  split b h =
      ap (λ (ls : List OpenLeaf). stop_pieces program term ls (map claim_of (drop i entries))) (rest_at leaves i l below is)
      ∙ ap (λ (es : List Leaf). stop_pieces program term (l ∷ drop (i + 1) leaves) (map claim_of es)) (rest_at entries i e (omega arith) is_e)
      ∙ ap (λ (c : Bool). if c then leaf_piece program term l.tests ∷ stop_pieces program term (drop (i + 1) leaves) (map claim_of (drop (i + 1) entries))
      else stop_pieces program term (drop (i + 1) leaves) (map claim_of (drop (i + 1) entries))) h

  -- a walk stops there
  pub stop-more : (pieces more : List Piece) (piece : Piece) (whole : List FootprintPiece) → is_stop (claim_of e) ≡ true → more ≡ pieces ++ piece ∷ [] → piece_of piece ≡ leaf_piece program term l.tests
      → map piece_of pieces ++ stop_pieces program term (drop i leaves) (map claim_of (drop i entries)) ≡ whole
      → map piece_of more ++ stop_pieces program term (drop (i + 1) leaves) (map claim_of (drop (i + 1) entries)) ≡ whole
  stop-more pieces more piece whole h p q w =
      let rest : List FootprintPiece = stop_pieces program term (drop (i + 1) leaves) (map claim_of (drop (i + 1) entries)) in
      ap (λ (ps : List Piece). map piece_of ps ++ rest) p ∙ ap (λ (fs : List FootprintPiece). fs ++ rest) (map-append piece_of pieces (piece ∷ []))
      ∙ append_assoc (map piece_of pieces) (piece_of piece ∷ []) rest ∙ ap (λ (f : FootprintPiece). map piece_of pieces ++ (f ∷ rest)) q
      ∙ ap (λ (fs : List FootprintPiece). map piece_of pieces ++ fs) (sym (split true h)) ∙ w

  -- none does
  pub stop-less : (pieces : List Piece) (whole : List FootprintPiece) → is_stop (claim_of e) ≡ false
      → map piece_of pieces ++ stop_pieces program term (drop i leaves) (map claim_of (drop i entries)) ≡ whole
      → map piece_of pieces ++ stop_pieces program term (drop (i + 1) leaves) (map claim_of (drop (i + 1) entries)) ≡ whole
  stop-less pieces whole h w = ap (λ (fs : List FootprintPiece). map piece_of pieces ++ fs) (sym (split false h)) ∙ w

-- ---- a point of the nest is in the piece of the leaf to which it comes

module _ (program : AffineProgram) (term : ColdTerm) (parameters u : List ℤ) (vertex where_ : ℕ) (place : List Step) (wide : length u ≡ length term.nest)
    (rows-met : IsMet (nest_system program term).rows (parameters ++ u)) (at_point : values_at (instance_point program term) (parameters ++ u) ≡ parameters ++ instance_values term parameters u)
    (there : IsVertexOf program parameters (Cell (reference_of program term.reader).array) (values_at (map (widened (nest_variables program term)) (cell_forms program term)) (parameters ++ u)) vertex) where
  met-with : (tests : List AffineForm) → IsMet tests (parameters ++ u) → IsMet (rows_at_leaf program term tests) (parameters ++ u)
  met-with tests met = All-append (λ (row : AffineForm). pos 0 ≤ℤ form_value row (parameters ++ u)) (nest_system program term).rows tests rows-met met

  -- an entry that closes a leaf which is reached says that a walk stops
  closed-stops : (is_input : Bool) (e : LeafClaim) (tests : List AffineForm) → IsClosed (record { vars = nest_variables program term; rows = rows_at_leaf program term tests }) is_input e
      → IsMet tests (parameters ++ u) → is_stop e ≡ true
  closed-stops is_input (no_point shown) tests h met =
      absurd (Shows-none (record { vars = nest_variables program term; rows = rows_at_leaf program term tests }) shown h.0 h.1 (parameters ++ u) (met-with tests met))
  closed-stops is_input (stops label) tests h met = refl
  closed-stops is_input (is_credited credit rs label) tests h met = absurd h
  closed-stops is_input (goes_on rs label) tests h met = absurd h
  closed-stops is_input (arrives equal) tests h met = absurd h

  -- it is in the piece of a leaf whose tests are met
  member-in : (index : ℕ) (leaves : List OpenLeaf) (entries : List LeafClaim) (l : OpenLeaf) → length leaves ≤ length entries
      → AllHold (leaves_claims (nest_variables program term) (nest_system program term).rows place index leaves entries) → Member l leaves → IsMet l.tests (parameters ++ u)
      → IsInPieces program parameters (stop_pieces program term leaves entries) vertex
  member-in index [] entries l le h m met = absurd m
  member-in index (x ∷ leaves) [] l le h m met = absurd (omega (arith, le))
  member-in index (x ∷ leaves) (e ∷ entries) l le h (inl same) met =
      let here : IsMet x.tests (parameters ++ u) = subst (λ (o : OpenLeaf). IsMet o.tests (parameters ++ u)) same met in
      let rest : List FootprintPiece = stop_pieces program term leaves entries in
      subst (λ (b : Bool). IsInPieces program parameters (if b then leaf_piece program term x.tests ∷ rest else rest) vertex) (sym (closed-stops (is_input x.origin) e x.tests h.1.0 here))
      (inl (record { values = u; each = wide; met = met-with x.tests here; there = there }))
  member-in index (x ∷ leaves) (e ∷ entries) l le h (inr m) met = later (is_stop e) (member-in (suc index) leaves entries l (omega (arith, le)) h.1.1 m met) where
    later : (b : Bool) → IsInPieces program parameters (stop_pieces program term leaves entries) vertex
        → IsInPieces program parameters (if b then leaf_piece program term x.tests ∷ stop_pieces program term leaves entries else stop_pieces program term leaves entries) vertex
    later true h = inr h
    later false h = h

  -- the leaf that is chosen is one of those
  chosen-leaf : (leaves : List OpenLeaf) (chosen : TreeLeaf) → IsTrueLeaf program parameters term.reader where_ (instance_values term parameters u) chosen
      → StandsAmong (nest_variables program term) (instance_point program term) (parameters ++ u) (parameters ++ instance_values term parameters u) at_point leaves chosen
      → (l : OpenLeaf) × (Member l leaves × IsMet l.tests (parameters ++ u))
  chosen-leaf leaves (source claim) true_leaf among = (among.leaf, (among.member, among.met))
  chosen-leaf leaves (input_leaf shown) true_leaf among = (among.leaf, (among.member, among.met))
  chosen-leaf leaves (empty shown) true_leaf among = absurd true_leaf
  chosen-leaf leaves blank true_leaf among = (among.leaf, (among.member, among.met))

  tree-in : (tree : SelectionTree) → length (leaves_of program tree term) ≤ length term.leaves
      → AllHold (leaves_claims (nest_variables program term) (nest_system program term).rows place 0 (leaves_of program tree term) term.leaves)
      → IsTrueLeaf program parameters term.reader where_ (instance_values term parameters u) (leaf_at tree (parameters ++ instance_values term parameters u))
      → IsInPieces program parameters (cold_pieces program tree term) vertex
  tree-in tree le h true_leaf =
      let point : List ℤ = parameters ++ instance_values term parameters u in
      let l = chosen-leaf (leaves_of program tree term) (leaf_at tree point) true_leaf
      (chosen-stands (nest_variables program term) (instance_point program term) (parameters ++ u) point at_point [] tree tt) in
      member-in 0 (leaves_of program tree term) term.leaves l.0 le h l.1.0 l.1.1

-- ---- a cold term's pieces

module _ (program : AffineProgram) (place : List Step) (tree : SelectionTree) (term : ColdTerm) (formed : IsWellFormed program) (fits : ColdFits program tree term)
    (true_tree : IsTrueTree program term.reader tree) (holds : AllHold (instance_claims program place tree term)) where
  at-leaves : AllHold (term_leaves program place tree term)
  at-leaves = AllHold-right (inside_claims program place term) (term_leaves program place tree term)
      (AllHold-left (inside_claims program place term ++ term_leaves program place tree term) (matrix_claims program place term) holds)

  are-few : LeavesAreFew program tree term
  are-few = few-from program term (place ++ Key (codes "leaves") ∷ []) 0 (leaves_of program tree term) term.leaves (omega (arith, fits.leaves)) at-leaves

  module _ (parameters : List ℤ) (admitted : IsAdmitted program parameters) where
    -- the cell of a point of the nest
    cell-there : (u : List ℤ) → ReadsInput program parameters term.reader.statement term.reader.read (instance_values term parameters u)
        → IsVertexOf program parameters (Cell (reference_of program term.reader).array) (values_at (map (widened (nest_variables program term)) (cell_forms program term)) (parameters ++ u))
        (input_vertex program parameters (read_cell program parameters term.reader.statement term.reader.read (instance_values term parameters u)))
    cell-there u read =
        let values : List ℤ = instance_values term parameters u in
        cell-vertex program parameters (values_at (map (widened (nest_variables program term)) (cell_forms program term)) (parameters ++ u))
        (read_cell program parameters term.reader.statement term.reader.read values)
        (Member-input_cells program parameters term.reader.statement term.reader.read values read)
        (wide-values (nest_variables program term) (cell_forms program term) (parameters ++ u) ∙ cell-is program term parameters u admitted.each)

    point-in : (u : List ℤ) → IsWithin term.nest parameters u → ReadsInput program parameters term.reader.statement term.reader.read (instance_values term parameters u)
        → IsInPieces program parameters (cold_pieces program tree term) (input_vertex program parameters (read_cell program parameters term.reader.statement term.reader.read (instance_values term parameters u)))
    point-in u within read =
        let values : List ℤ = instance_values term parameters u in
        tree-in program term parameters u (input_vertex program parameters (read_cell program parameters term.reader.statement term.reader.read values)) read.place (place ++ Key (codes "leaves") ∷ [])
        (within-length term.nest parameters u within)
        (nest-met program term.nest parameters u formed admitted within) (instance-at program term parameters u admitted.each) (cell-there u read)
        tree (omega (arith, fits.leaves)) at-leaves (true_tree parameters read.place values admitted read.executed)

    footprint-in : (vertex : ℕ) → stands_in (footprint_of program term parameters) vertex ≡ true → IsInPieces program parameters (cold_pieces program tree term) vertex
    footprint-in vertex stands =
        let cell_vertex : List ℤ → ℕ = λ values. input_vertex program parameters (read_cell program parameters term.reader.statement term.reader.read values) in
        let a = Member-map_from cell_vertex vertex (all_instances term parameters) (standing-member (footprint_of program term parameters) vertex stands) in
        let b = Member-map_from (instance_values term parameters) a.0 (points term.nest parameters) a.1.0 in
        let u : List ℤ = b.0 in
        let within : IsWithin term.nest parameters u = All-member (λ (x : List ℤ). IsWithin term.nest parameters x) (points term.nest parameters) u (points-within term.nest parameters) b.1.0 in
        let read : ReadsInput program parameters term.reader.statement term.reader.read (instance_values term parameters u) =
        subst (ReadsInput program parameters term.reader.statement term.reader.read) b.1.1
        (All-member (ReadsInput program parameters term.reader.statement term.reader.read) (all_instances term parameters) a.0
        (all-read program place tree term formed fits true_tree holds parameters admitted) a.1.0) in
        subst (IsInPieces program parameters (cold_pieces program tree term)) (sym (a.1.1 ∙ ap cell_vertex b.1.1)) (point-in u within read)

pub pieces-cover : ColdPiecesCover
pieces-cover program place tree term formed fits true_tree holds = (
  are-few program place tree term formed fits true_tree holds,
  λ parameters vertex admitted stands. footprint-in program place tree term formed fits true_tree holds parameters admitted vertex stands,
)
