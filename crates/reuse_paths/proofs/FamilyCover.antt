-- The pieces of a family whose claims hold cover its footprint.
use Rattle.std.proofs.Common.{◌≡◌, refl, sym, ◌∙◌, ap, subst, inl, inr, ℕ, zero, suc, ◌+◌, true, false, List, [], ◌∷◌, ◌++◌, length, map, zero-add}
use Rattle.std.specs.Prelude.{◌⊎◌, Option, Some, None, slice_get, IsSomeAnd, codes}
use Rattle.std.specs.List.{AllByRecursion}
use Rattle.std.proofs.Math.IntN.{ℤ}
use Rattle.std.proofs.Math.Nat.{add-zero}
use Rattle.iolb_model.specs.Form.{AffineForm}
use Rattle.iolb_model.specs.Program.{AffineProgram, IsWellFormed}
use Rattle.iolb_model.specs.Bound.{IsAdmitted}
use Rattle.iolb_model.specs.Domain.{IsWithin, IsAt}
use Rattle.iolb_model.specs.Execution.{Instance, execution}
use Rattle.iolb_model.specs.Graph.{input_cells, vertex_of}
use Rattle.iolb_model.specs.Source.{Cell as InputCell, Source, read_cell}
use Rattle.execution_laws.proofs.Members.{Member, Member-append_left, Member-append_right}
use Rattle.execution_laws.proofs.Ordered.{All-member, Member-map_from}
use Rattle.pebble_game.proofs.InputVertices.{Member-input_cells}
use Rattle.pebble_game.proofs.Marks.{standing-member}
use Rattle.claims.specs.Claims.{AllHold, numbered}
use Rattle.claims.specs.declared.place.Step.{Step}
use Rattle.claims.proofs.Members.{suc-moved}
use Rattle.affine_form.specs.Substitution.{values_at}
use Rattle.affine_form.specs.System.{IsMet}
use Rattle.affine_form.proofs.ShownLemmas.{Shows-none}
use Rattle.affine_program.specs.Domain.{depth_of}
use Rattle.dep_quast.specs.Context.{ReadOf, reference_of, no_row}
use Rattle.dep_quast.specs.Tree.{SelectionTree}
use Rattle.dep_quast.specs.Truth.{ReadFits, source_at}
use Rattle.domain_count.specs.Points.{points}
use Rattle.footprint_pieces.specs.declared.piece.Target.{Target}
use Rattle.footprint_pieces.specs.declared.piece.Target.TheVariants.{Cell, Instance as InstanceOf}
use Rattle.reuse_paths.specs.EntryClaims.{keeping_claims}
use Rattle.reuse_paths.specs.Families.{CreditedNest, FamilyForms, node_label, node_region}
use Rattle.reuse_paths.specs.FamilyClaims.{family_setting, node_walk, start_rows, start_tree}
use Rattle.reuse_paths.specs.FamilyFits.{WalksFit}
use Rattle.reuse_paths.specs.FamilyFootprint.{instances_in, word_of, family_footprint}
use Rattle.reuse_paths.specs.FamilyPieces.{family_pieces, regions_pieces, region_pieces, FamilyPiecesCover, WalkPiecesCover}
use Rattle.reuse_paths.specs.LeafClaims.{LeafClaim, no_point, stops, is_credited, goes_on, arrives}
use Rattle.dep_quast.specs.OpenLeaves.{LeafOrigin, written, as_input, unknown, OpenLeaf, form_at}
use Rattle.footprint_pieces.specs.Pieces.{FootprintPiece, IsVertexOf, IsInPiece, IsInPieces}
use Rattle.reuse_paths.specs.Places.{place_of, IsExecuted}
use Rattle.reuse_paths.specs.SoundFamilies.{read_taken, IsInside}
use Rattle.dep_quast.specs.Trees.{read_of, RowsFit, RowsAreTrue}
use Rattle.reuse_paths.specs.WalkClaims.{leaves_at}
use Rattle.reuse_paths.specs.WalkPieces.{word_pieces, entry_pieces, leaves_pieces, walk_pieces}
use Rattle.reuse_paths.specs.WalkSettings.{KeptLabels, WalkSetting, region_variables, reading_point, region_context, region_at}
use Rattle.reuse_paths.specs.Walks.{WalkTree, take, test, WalkRegion}
use Rattle.dep_quast.proofs.ChosenLeaves.{forms_at-values}
use Rattle.reuse_paths.proofs.FamilyWalks.{in-front, start-taken, region-taken, holds-nodes-of, holds-start-of, walks-fit}
use Rattle.claims.specs.declared.place.Step.TheVariants.{Key}
use Rattle.reuse_paths.proofs.FamilyWords.{StartWord, RegionWord, word-cases}
use Rattle.reuse_paths.proofs.NestPoints.{points-within}
use Rattle.footprint_pieces.proofs.PieceVertices.{cell-vertex, in-pieces}
use Rattle.reuse_paths.proofs.Regions.{reading-there, values-many}
use Rattle.reuse_paths.proofs.WordsTaken.{IsTrueOrigin, Takes}

-- pieces don't depend on what is asked of the walk
module _ (program : AffineProgram) (trees : List (List SelectionTree)) (family : FamilyForms) (these those : List CreditedNest) (one other : List AffineForm) where
  abbrev first : WalkSetting
  first = family_setting program trees these family one

  abbrev second : WalkSetting
  second = family_setting program trees those family other

  same-word : (reader : ReadOf) (rows : List AffineForm) (origin : LeafOrigin) → word_pieces first reader rows origin ≡ word_pieces second reader rows origin
  same-word reader rows (written writer values) = refl
  same-word reader rows as_input = refl
  same-word reader rows unknown = refl

  same-entry : (reader : ReadOf) (rows : List AffineForm) (origin : LeafOrigin) (entry : LeafClaim) → entry_pieces first reader rows origin entry ≡ entry_pieces second reader rows origin entry
  same-entry reader rows origin (no_point shown) = refl
  same-entry reader rows origin (stops label) = same-word reader rows origin
  same-entry reader rows origin (is_credited credit shown label) = same-word reader rows origin
  same-entry reader rows origin (goes_on shown label) = same-word reader rows origin
  same-entry reader rows origin (arrives equal) = same-word reader rows origin

  same-leaves : (reader : ReadOf) (rows : List AffineForm) (leaves : List OpenLeaf) (entries : List LeafClaim) → leaves_pieces first reader rows leaves entries ≡ leaves_pieces second reader rows leaves entries
  same-leaves reader rows [] entries = refl
  same-leaves reader rows (l ∷ leaves) [] = refl
  same-leaves reader rows (l ∷ leaves) (entry ∷ entries) =
      ap (λ (ps : List FootprintPiece). ps ++ leaves_pieces first reader rows leaves entries) (same-entry reader (rows ++ l.tests) l.origin entry)
      ∙ ap (λ (ps : List FootprintPiece). entry_pieces second reader (rows ++ l.tests) l.origin entry ++ ps) (same-leaves reader rows leaves entries)

  pub same-pieces : (statement : ℕ) (rows : List AffineForm) (tree : WalkTree) → walk_pieces first statement rows tree ≡ walk_pieces second statement rows tree
  same-pieces statement rows (take read entries) = same-leaves (read_of statement read) rows (leaves_at first (read_of statement read)) entries
  same-pieces statement rows (test form above below) =
      ap (λ (ps : List FootprintPiece). ps ++ walk_pieces first statement (rows ++ no_row (region_variables first statement) form ∷ []) below) (same-pieces statement (rows ++ form ∷ []) above)
      ∙ ap (λ (ps : List FootprintPiece). walk_pieces second statement (rows ++ form ∷ []) above ++ ps) (same-pieces statement (rows ++ no_row (region_variables first statement) form ∷ []) below)

-- the pieces of a region are among those of all
region-among : (walk : WalkSetting) (first s : ℕ) (nodes : List (Option WalkRegion)) (region : WalkRegion) → region_at nodes s ≡ Some region
    → (piece : FootprintPiece) → Member piece (walk_pieces walk (first + s) (region_context walk (first + s) region.rows) region.tree) → Member piece (regions_pieces walk first nodes)
region-among walk first s [] region e piece m = absurd cc
region-among walk first zero (r ∷ nodes) region e piece m =
    Member-append_left piece (region_pieces walk first r) (regions_pieces walk (suc first) nodes)
    (subst (λ (o : Option WalkRegion). Member piece (region_pieces walk first o)) (sym e)
    (subst (λ (k : ℕ). Member piece (walk_pieces walk k (region_context walk k region.rows) region.tree)) (add-zero first) m))
region-among walk first (suc s) (r ∷ nodes) region e piece m =
    Member-append_right piece (region_pieces walk first r) (regions_pieces walk (suc first) nodes)
    (region-among walk (suc first) s nodes region e piece
    (subst (λ (k : ℕ). Member piece (walk_pieces walk k (region_context walk k region.rows) region.tree)) (sym (suc-moved first s)) m))

module _ (program : AffineProgram) (trees : List (List SelectionTree)) (credits : List CreditedNest) (family : FamilyForms) (reader : List AffineForm)
    (values : List ℤ) (formed : IsWellFormed program) (admitted : IsAdmitted program values) (trees-fit : RowsFit program 0 trees) (trees-true : RowsAreTrue program 0 trees)
    (n s : ℕ) (x : List ℤ) (here : IsAt program values n (record { statement = s; values = x })) where
  abbrev walk : WalkSetting
  walk = family_setting program trees credits family reader

  abbrev forms : List AffineForm
  forms = reading_point walk s

  abbrev vars : ℕ
  vars = region_variables walk s

  abbrev point : List ℤ
  point = (values ++ []) ++ x

  -- the values of forms at the reader
  numbers-are : (these : List AffineForm) → values_at (map (form_at vars forms) these) (values ++ x) ≡ values_at these (values ++ x)
  numbers-are these =
      ap (values_at (map (form_at vars forms) these)) (sym (in-front values x)) ∙ forms_at-values vars forms these point (values ++ x) (reading-there walk values [] formed admitted tt n s x here)

  module _ (read : ℕ) (fits : ReadFits program (read_of s read)) (rows : List AffineForm) (met : IsMet rows point) where
    abbrev vertex : ℕ
    vertex = vertex_of (length (execution program values)) (input_cells program values) (source_at program values (read_of s read) n x)

    at-vertex : Source → ℕ
    at-vertex z = vertex_of (length (execution program values)) (input_cells program values) z

    abbrev Among : List FootprintPiece → Type 0
    Among pieces = (piece : FootprintPiece) × (Member piece pieces × IsInPiece program values piece vertex)

    wide : length x ≡ depth_of program s
    wide = sym (values-many walk values [] formed admitted tt n s x here)

    met-here : IsMet rows (values ++ x)
    met-here = subst (IsMet rows) (in-front values x) met

    -- a word that was written, and one that is an input, are in their pieces
    written-in : (writer : ℕ) (fs : List AffineForm) → IsTrueOrigin program values (read_of s read) n x (written writer fs) → Among (word_pieces walk (read_of s read) rows (written writer fs))
    written-in writer fs says = (
      record { target = InstanceOf writer; vars = depth_of program s; rows = rows; point = map (form_at vars forms) fs },
      (
        inl refl,
        record {
          values = x;
          each = wide;
          met = met-here;
          there = subst (λ (z : Source). IsAt program values (vertex_of (length (execution program values)) (input_cells program values) z) (record { statement = writer; values = values_at (map (form_at vars forms) fs) (values ++ x) })) (sym says.1.1)
              (subst (λ (v : List ℤ). IsAt program values says.0 (record { statement = writer; values = v })) (sym (numbers-are fs)) says.1.0);
        },
      ),
    )

    input-in : IsTrueOrigin program values (read_of s read) n x as_input → Among (word_pieces walk (read_of s read) rows as_input)
    input-in says =
        let cell : InputCell = read_cell program values s read x in
        let target : Target = Cell (reference_of program (read_of s read)).array in
        let numbers : List ℤ = values_at (map (form_at vars forms) (reference_of program (read_of s read)).subscripts) (values ++ x) in (
          record { target = target; vars = depth_of program s; rows = rows; point = map (form_at vars forms) (reference_of program (read_of s read)).subscripts },
          (
            inl refl,
            record {
              values = x;
              each = wide;
              met = met-here;
              there = subst (λ (z : Source). IsVertexOf program values target numbers (vertex_of (length (execution program values)) (input_cells program values) z)) (sym says)
                  (cell-vertex program values numbers cell
                  (Member-input_cells program values s read x (record { there = fits.read; place = n; executed = here; source = says }))
                  (numbers-are (reference_of program (read_of s read)).subscripts));
            },
          ),
        )

    no-input : false ≡ true → ⊥
    no-input e = cc

    no-credit : (found : Option CreditedNest) → IsSomeAnd found (λ (nest : CreditedNest). ⊥) → ⊥
    no-credit None h = h
    no-credit (Some nest) h = h

    entry-in : (kept : KeptLabels) (place : List Step) (origin : LeafOrigin) → IsTrueOrigin program values (read_of s read) n x origin → (entry : LeafClaim)
        → AllHold (keeping_claims 15 walk kept (read_of s read) place (record { vars = vars; rows = rows }) forms origin entry)
        → Among (entry_pieces walk (read_of s read) rows origin entry)
    entry-in kept place origin says (no_point shown) h = absurd (Shows-none (record { vars = vars; rows = rows }) shown h.0.0 h.0.1 point met)
    entry-in kept place (written writer fs) says (stops label) h = written-in writer fs says
    entry-in kept place as_input says (stops label) h = input-in says
    entry-in kept place unknown says (stops label) h = absurd (no-input h.0)
    entry-in kept place (written writer fs) says (is_credited credit shown label) h = written-in writer fs says
    entry-in kept place as_input says (is_credited credit shown label) h = input-in says
    entry-in kept place unknown says (is_credited credit shown label) h = absurd (no-credit (slice_get kept.credits credit) h.0)
    entry-in kept place (written writer fs) says (goes_on shown label) h = written-in writer fs says
    entry-in kept place as_input says (goes_on shown label) h = input-in says
    entry-in kept place unknown says (goes_on shown label) h = absurd h.0
    entry-in kept place origin says (arrives equal) h = absurd h.0

  -- what a walk takes is in its pieces
  taken-in : (read : ℕ) (all : List FootprintPiece) (taken : Takes 15 walk values [] formed admitted tt trees-fit trees-true n s x here read all)
      → IsInPieces program values all (vertex_of (length (execution program values)) (input_cells program values) (source_at program values (read_of s read) n x))
  taken-in read all taken =
      let found = entry-in read taken.read_fits taken.rows taken.met
      (record { reader = reader; instances = map node_label family.nodes; cells = family.inputs; credits = credits }) taken.place taken.origin taken.says taken.entry taken.hold in
      in-pieces program values all found.0 (vertex_of (length (execution program values)) (input_cells program values) (source_at program values (read_of s read) n x)) (taken.pieces found.0 found.1.0) found.1.1

module _ (program : AffineProgram) (trees : List (List SelectionTree)) (statement : ℕ) (nest : List (AffineForm × AffineForm)) (credits : List CreditedNest) (family : FamilyForms) (size : ℕ)
    (start-place nodes-place : List Step) (formed : IsWellFormed program) (trees-fit : RowsFit program 0 trees) (trees-true : RowsAreTrue program 0 trees)
    (fits : WalksFit program trees statement credits family size) (holds-start : AllHold (start_tree program trees statement nest credits family start-place))
    (holds-nodes : AllHold (numbered (node_walk program trees credits family nodes-place) 0 family.nodes))
    (values : List ℤ) (admitted : IsAdmitted program values) (executed : AllByRecursion (IsExecuted program values) (instances_in statement nest values)) where
  abbrev plain : WalkSetting
  plain = family_setting program trees [] family family.start_label

  abbrev all : List FootprintPiece
  all = family_pieces program trees statement nest family

  abbrev start-pieces : List FootprintPiece
  start-pieces = walk_pieces plain statement (region_context plain statement (start_rows plain statement nest)) family.start

  -- pieces among others
  among-in : (some more : List FootprintPiece) (vertex : ℕ) → ((piece : FootprintPiece) → Member piece some → Member piece more) → IsInPieces program values some vertex → IsInPieces program values more vertex
  among-in [] more vertex wider inside = absurd inside
  among-in (p ∷ some) more vertex wider (inl here) = in-pieces program values more p vertex (wider p (inl refl)) here
  among-in (p ∷ some) more vertex wider (inr later) = among-in some more vertex (λ piece m. wider piece (inr m)) later

  start-in : (vertex : ℕ) → StartWord program statement nest family values vertex → IsInPieces program values all vertex
  start-in vertex from =
      let counted : List Instance = instances_in statement nest values in
      let point = Member-map_from (λ (x : List ℤ). record { statement = statement; values = x }) from.0 (points nest values) from.1.0 in
      let x : List ℤ = point.0 in
      let within : IsWithin nest values x = All-member (λ (u : List ℤ). IsWithin nest values u) (points nest values) x (points-within nest values) point.1.0 in
      let there : IsExecuted program values from.0 = All-member (IsExecuted program values) counted from.0 executed from.1.0 in
      let instance : Instance = record { statement = statement; values = x } in
      let here : IsAt program values (place_of program values instance) instance = subst (λ (i : Instance). IsAt program values (place_of program values i) i) point.1.1 there in
      let taken = start-taken program trees statement nest credits family size start-place nodes-place formed trees-fit trees-true fits holds-start holds-nodes values admitted x (place_of program values instance) within here in
      let inside : IsInPieces program values (walk_pieces (family_setting program trees credits family family.start_label) statement (region_context plain statement (start_rows plain statement nest)) family.start)
      (vertex_of (length (execution program values)) (input_cells program values) (source_at program values (read_of statement (read_taken family.start ((values ++ []) ++ x))) (place_of program values instance) x)) =
      taken-in program trees credits family family.start_label values formed admitted trees-fit trees-true (place_of program values instance) statement x here (read_taken family.start ((values ++ []) ++ x)) _ taken in
      let plainly : IsInPieces program values start-pieces (word_of program values family.start (place_of program values instance) instance) =
      subst (λ (p : List ℤ). IsInPieces program values start-pieces
      (vertex_of (length (execution program values)) (input_cells program values) (source_at program values (read_of statement (read_taken family.start p)) (place_of program values instance) x))) (in-front values x)
      (subst (λ (ps : List FootprintPiece). IsInPieces program values ps
      (vertex_of (length (execution program values)) (input_cells program values) (source_at program values (read_of statement (read_taken family.start ((values ++ []) ++ x))) (place_of program values instance) x)))
      (same-pieces program trees family credits [] family.start_label family.start_label statement (region_context plain statement (start_rows plain statement nest)) family.start) inside) in
      subst (IsInPieces program values all) (sym (from.1.1 ∙ ap (λ (i : Instance). word_of program values family.start (place_of program values i) i) point.1.1))
      (among-in start-pieces all (word_of program values family.start (place_of program values instance) instance)
      (λ piece m. Member-append_left piece start-pieces (regions_pieces plain 0 (map node_region family.nodes)) m) plainly)

  region-in : (n : ℕ) (instance : Instance) → IsAt program values n instance → (inside : IsInside family values instance) → IsInPieces program values all (word_of program values inside.region.tree n instance)
  region-in n instance here inside =
      let s : ℕ = instance.statement in
      let x : List ℤ = instance.values in
      let tree : WalkTree = inside.region.tree in
      let region = region-taken program trees statement nest credits family size start-place nodes-place formed trees-fit trees-true fits holds-start holds-nodes values admitted n instance here inside in
      let rows : List AffineForm = region_context plain s inside.region.rows in
      let inside-pieces : IsInPieces program values (walk_pieces (family_setting program trees credits family region.label) s rows tree)
      (vertex_of (length (execution program values)) (input_cells program values) (source_at program values (read_of s (read_taken tree ((values ++ []) ++ x))) n x)) =
      taken-in program trees credits family region.label values formed admitted trees-fit trees-true n s x here (read_taken tree ((values ++ []) ++ x)) _ region.takes in
      let plainly : IsInPieces program values (walk_pieces plain s rows tree) (word_of program values tree n instance) =
      subst (λ (p : List ℤ). IsInPieces program values (walk_pieces plain s rows tree)
      (vertex_of (length (execution program values)) (input_cells program values) (source_at program values (read_of s (read_taken tree p)) n x))) (in-front values x)
      (subst (λ (ps : List FootprintPiece). IsInPieces program values ps
      (vertex_of (length (execution program values)) (input_cells program values) (source_at program values (read_of s (read_taken tree ((values ++ []) ++ x))) n x)))
      (same-pieces program trees family credits [] region.label family.start_label s rows tree) inside-pieces) in
      among-in (walk_pieces plain s rows tree) all (word_of program values tree n instance)
      (λ piece m. Member-append_right piece start-pieces (regions_pieces plain 0 (map node_region family.nodes))
      (region-among plain 0 s (map node_region family.nodes) inside.region inside.is piece
      (subst (λ (k : ℕ). Member piece (walk_pieces plain k (region_context plain k inside.region.rows) tree)) (sym (zero-add s)) m))) plainly

  footprint-in : (vertex : ℕ) → StartWord program statement nest family values vertex ⊎ RegionWord program family values vertex → IsInPieces program values all vertex
  footprint-in vertex (inl from) = start-in vertex from
  footprint-in vertex (inr from) = subst (IsInPieces program values all) (sym from.is) (region-in from.place from.instance from.at from.inside)

-- so the pieces of walks cover their footprint, wherever their trees stand
pub walks-covered : WalkPiecesCover
walks-covered program trees statement nest credits family size start-place nodes-place formed trees-fit trees-true fits holds-start holds-nodes executed values vertex admitted stands =
    footprint-in program trees statement nest credits family size start-place nodes-place formed trees-fit trees-true fits holds-start holds-nodes values admitted (executed values admitted) vertex
    (word-cases program statement nest family values vertex (standing-member (family_footprint program statement nest family values) vertex stands))

pub family-covered : FamilyPiecesCover
family-covered program trees statement nest matrix credits family place formed trees-fit trees-true fits holds =
    walks-covered program trees statement nest credits family (length family.set) (place ++ Key (codes "start") ∷ Key (codes "tree") ∷ []) (place ++ Key (codes "nodes") ∷ []) formed trees-fit trees-true
    (walks-fit program trees statement nest matrix credits family place fits holds) (holds-start-of program trees statement nest matrix credits family place fits holds)
    (holds-nodes-of program trees statement nest matrix credits family place fits holds)
