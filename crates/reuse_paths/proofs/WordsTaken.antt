-- What a walk takes from an instance whose claims hold: a word whose entry's claims hold, and of which the source tree is true.
use Rattle.std.proofs.Common.{◌≡◌, refl, subst, ℕ, if◌then◌else◌, Bool, true, false, List, [], ◌∷◌, ◌++◌, length, map, arith, zero-add}
use Rattle.std.specs.Prelude.{◌<ℤ◌, codes}
use Rattle.std.proofs.Math.IntN.{ℤ, pos, negsuc}
use lib.Signed.{◌≤ℤ◌}
use Rattle.std.proofs.lemmas.Int.{ints}
use Rattle.base_laws.proofs.Lists.{All-append}
use Rattle.iolb_model.specs.Form.{AffineForm, form_value}
use Rattle.iolb_model.specs.Program.{AffineProgram, IsWellFormed}
use Rattle.iolb_model.specs.Printed.{is_below_zero}
use Rattle.iolb_model.specs.Bound.{IsAdmitted}
use Rattle.iolb_model.specs.Domain.{IsWithin, IsAt}
use Rattle.iolb_model.specs.Source.{written_at, input as as_it_was, read_cell}
use Rattle.execution_laws.proofs.Members.{Member, Member-append_left, Member-append_right}
use Rattle.claims.specs.Claims.{Claim, AllHold}
use Rattle.claims.specs.declared.place.Step.{Step}
use Rattle.claims.specs.declared.place.Step.TheVariants.{Key, Index}
use Rattle.claims.proofs.Laws.{AllHold-left, AllHold-right}
use Rattle.affine_form.specs.Substitution.{values_at}
use Rattle.affine_form.specs.System.{IsMet}
use Rattle.affine_program.specs.Domain.{depth_of}
use Rattle.dep_quast.specs.Context.{ReadOf, no_row, variables_at}
use Rattle.dep_quast.specs.Tree.{Leaf, source, input, empty, blank, SelectionTree, leaf, test as tree_test, leaf_at}
use Rattle.dep_quast.specs.Truth.{ReadFits, TreeFits, FitsUnder, LeafFits, IsTrueLeaf, IsTrueTree, source_at}
use Rattle.reuse_paths.specs.EntryClaims.{aimed_claims}
use Rattle.reuse_paths.specs.LeafClaims.{LeafClaim}
use Rattle.dep_quast.specs.OpenLeaves.{LeafOrigin, written, as_input, unknown, OpenLeaf}
use Rattle.dep_quast.specs.Quasts.{tree_for}
use Rattle.footprint_pieces.specs.Pieces.{FootprintPiece}
use Rattle.reuse_paths.specs.SoundFamilies.{read_taken}
use Rattle.dep_quast.specs.Trees.{read_of, RowsFit, RowsAreTrue}
use Rattle.reuse_paths.specs.WalkClaims.{leaves_claims, leaves_at, walk_claims}
use Rattle.reuse_paths.specs.WalkFits.{EntryFits, TakeFits, WalkFits}
use Rattle.reuse_paths.specs.WalkPieces.{entry_pieces, leaves_pieces, walk_pieces}
use Rattle.reuse_paths.specs.WalkSettings.{WalkSetting, region_variables, reading_point}
use Rattle.reuse_paths.specs.Walks.{WalkTree, take, test}
use Rattle.dep_quast.proofs.ChosenLeaves.{IsAmong, StandsAmong, chosen-stands, no_row-met}
use Rattle.reuse_paths.proofs.Entries.{HasEntry, has-entry}
use Rattle.reuse_paths.proofs.Regions.{reading-there}
use Rattle.dep_quast.proofs.TreeLemmas.{rows-at, rows-fit-at}

-- the leaf that a tree chooses fits under some tests
chosen-fits : (program : AffineProgram) (reader : ReadOf) (tests : List AffineForm) (tree : SelectionTree) (point : List ℤ) → FitsUnder program reader tests tree
    → (under : List AffineForm) × LeafFits program reader under (leaf_at tree point)
chosen-fits program reader tests (leaf chosen) point h = (tests, h)
chosen-fits program reader tests (tree_test form above below) point h =
    by (is_below_zero (form_value form point)) (chosen-fits program reader (tests ++ form ∷ []) above point h.1) (chosen-fits program reader (tests ++ no_row (variables_at program reader) form ∷ []) below point h.2) where
      by : (b : Bool) → (under : List AffineForm) × LeafFits program reader under (leaf_at above point) → (under : List AffineForm) × LeafFits program reader under (leaf_at below point)
          → (under : List AffineForm) × LeafFits program reader under (if b then leaf_at below point else leaf_at above point)
      by true up down = down
      by false up down = up

-- where a word comes from is true of the reader at this place with these loop values
abbrev pub IsTrueOrigin : AffineProgram → List ℤ → ReadOf → ℕ → List ℤ → LeafOrigin → Type 0
IsTrueOrigin program parameters reader place values (written statement point) = (at : ℕ)
    × (IsAt program parameters at (record { statement = statement; values = values_at point (parameters ++ values) })
    × (source_at program parameters reader place values ≡ written_at at) × (length point ≡ depth_of program statement))
IsTrueOrigin program parameters reader place values as_input =
    source_at program parameters reader place values ≡ as_it_was (read_cell program parameters reader.statement reader.read values)
IsTrueOrigin program parameters reader place values unknown = Unit {0}

module _ (condition : ℕ) (walk : WalkSetting) (values u : List ℤ) (formed : IsWellFormed walk.program) (admitted : IsAdmitted walk.program values)
    (within : IsWithin walk.nest values u) (trees-fit : RowsFit walk.program 0 walk.trees) (trees-true : RowsAreTrue walk.program 0 walk.trees)
    (n s : ℕ) (x : List ℤ) (here : IsAt walk.program values n (record { statement = s; values = x })) where
  abbrev point : List ℤ
  point = (values ++ u) ++ x

  -- What the walk takes: the read is there, at a leaf of its source tree an entry's claims hold, and the leaf's pieces are among
  -- these.
  pub record Takes (read : ℕ) (all : List FootprintPiece) : Type 0 where
    pub read_fits : ReadFits walk.program (read_of s read)
    pub origin : LeafOrigin
    pub says : IsTrueOrigin walk.program values (read_of s read) n x origin
    pub place : List Step
    pub rows : List AffineForm
    pub met : IsMet rows point
    pub entry : LeafClaim
    pub fits : EntryFits walk (read_of s read) origin entry
    pub hold : AllHold (aimed_claims condition walk walk.aim (read_of s read) place (record { vars = region_variables walk s; rows = rows }) (reading_point walk s) origin entry)
    pub pieces : (piece : FootprintPiece) → Member piece (entry_pieces walk (read_of s read) rows origin entry) → Member piece all

  there : values_at (reading_point walk s) point ≡ values ++ x
  there = reading-there walk values u formed admitted within n s x here

  module _ (read : ℕ) (rows : List AffineForm) (rows-met : IsMet rows point) (at : List Step) (entries : List LeafClaim) (taken : TakeFits walk s read entries)
      (holds : AllHold (leaves_claims condition walk (read_of s read) at rows 0 (leaves_at walk (read_of s read)) entries)) where
    abbrev tree : SelectionTree
    tree = tree_for walk.trees (read_of s read)

    abbrev Among : LeafOrigin → Type 0
    Among origin = IsAmong (region_variables walk s) (reading_point walk s) point (values ++ x) there (leaves_at walk (read_of s read)) origin

    abbrev Has : OpenLeaf → Type 0
    Has l = HasEntry condition walk (read_of s read) at rows (leaves_at walk (read_of s read)) entries l

    entry-of : (l : OpenLeaf) (origin : LeafOrigin) → Has l → l.origin ≡ origin → Has (record { tests = l.tests; origin = origin })
    entry-of l origin h e = subst (λ (o : LeafOrigin). Has (record { tests = l.tests; origin = o })) e h

    abbrev TakesHere : Type 0
    TakesHere = Takes read (leaves_pieces walk (read_of s read) rows (leaves_at walk (read_of s read)) entries)

    takes : (origin : LeafOrigin) → IsTrueOrigin walk.program values (read_of s read) n x origin → Among origin → TakesHere
    takes origin says among =
        let found : Has (record { tests = among.leaf.tests; origin = origin }) =
        entry-of among.leaf origin (has-entry condition walk (read_of s read) at rows 0 (leaves_at walk (read_of s read)) entries among.leaf taken.entries_fit holds among.member) among.says in record {
          read_fits = taken.read_fits;
          origin = origin;
          says = says;
          place = at ++ Index found.index ∷ [];
          rows = rows ++ among.leaf.tests;
          met = All-append (λ (row : AffineForm). pos 0 ≤ℤ form_value row point) rows among.leaf.tests rows-met among.met;
          entry = found.entry;
          fits = found.fits;
          hold = found.hold.1;
          pieces = found.pieces;
        }

    chosen-taken : (chosen : Leaf) → IsTrueLeaf walk.program values (read_of s read) n x chosen → ((under : List AffineForm) × LeafFits walk.program (read_of s read) under chosen)
        → StandsAmong (region_variables walk s) (reading_point walk s) point (values ++ x) there (leaves_at walk (read_of s read)) chosen → TakesHere
    chosen-taken (source claim) true-leaf leaf-fits stands =
        takes (written claim.statement claim.point) (true-leaf.0, (true-leaf.1.0, true-leaf.1.1, leaf-fits.1.there.point)) stands
    chosen-taken (input shown) true-leaf leaf-fits stands = takes as_input true-leaf stands
    chosen-taken (empty shown) true-leaf leaf-fits stands = absurd true-leaf
    chosen-taken blank true-leaf leaf-fits stands = takes unknown tt stands

    read-taken : TakesHere
    read-taken =
        chosen-taken (leaf_at tree (values ++ x))
        ((subst (λ (k : ℕ). IsTrueTree walk.program (read_of k read) tree) (zero-add s) (rows-at walk.program 0 s read walk.trees tree trees-true taken.there)) values n x admitted here)
        (chosen-fits walk.program (read_of s read) [] tree (values ++ x) (subst (λ (k : ℕ). TreeFits walk.program (read_of k read) tree) (zero-add s) (rows-fit-at walk.program 0 s read walk.trees tree trees-fit taken.there)))
        (chosen-stands (region_variables walk s) (reading_point walk s) point (values ++ x) there [] tree tt)

  wider : {read : ℕ} {some all : List FootprintPiece} → Takes read some → ((piece : FootprintPiece) → Member piece some → Member piece all) → Takes read all
  wider t more = record {
    read_fits = t.read_fits;
    origin = t.origin;
    says = t.says;
    place = t.place;
    rows = t.rows;
    met = t.met;
    entry = t.entry;
    fits = t.fits;
    hold = t.hold;
    pieces = λ piece m. more piece (t.pieces piece m);
  }

  -- A walk takes a read from an instance that meets its rows.
  pub walk-takes : (at : List Step) (rows : List AffineForm) (tree : WalkTree) → IsMet rows point → WalkFits walk s tree → AllHold (walk_claims condition walk s at rows tree)
      → Takes (read_taken tree point) (walk_pieces walk s rows tree)
  walk-takes at rows (take read entries) met fits holds = read-taken read rows met (at ++ Key (codes "leaves") ∷ []) entries fits holds
  walk-takes at rows (test form above below) met fits holds =
      let yes : List AffineForm = rows ++ form ∷ [] in
      let no : List AffineForm = rows ++ no_row (region_variables walk s) form ∷ [] in
      let first : List FootprintPiece = walk_pieces walk s yes above in
      let second : List FootprintPiece = walk_pieces walk s no below in
      let upper : List Claim = walk_claims condition walk s (at ++ Key (codes "yes") ∷ []) yes above in
      let lower : List Claim = walk_claims condition walk s (at ++ Key (codes "no") ∷ []) no below in
      choose (form_value form point) refl
      (λ more. wider {some = first} {all = first ++ second} (walk-takes (at ++ Key (codes "yes") ∷ []) yes above more fits.1 (AllHold-left upper lower holds)) (λ piece m. Member-append_left piece first second m))
      (λ more. wider {some = second} {all = first ++ second} (walk-takes (at ++ Key (codes "no") ∷ []) no below more fits.2 (AllHold-right upper lower holds)) (λ piece m. Member-append_right piece first second m)) where
        met-with : (row : AffineForm) → pos 0 ≤ℤ form_value row point → IsMet (rows ++ row ∷ []) point
        met-with row h = All-append (λ (r : AffineForm). pos 0 ≤ℤ form_value r point) rows (row ∷ []) met (h, tt)

        choose : (v : ℤ) → v ≡ form_value form point → (IsMet (rows ++ form ∷ []) point → Takes (read_taken above point) (walk_pieces walk s rows (test form above below)))
            → (IsMet (rows ++ no_row (region_variables walk s) form ∷ []) point → Takes (read_taken below point) (walk_pieces walk s rows (test form above below)))
            → Takes (if is_below_zero v then read_taken below point else read_taken above point) (walk_pieces walk s rows (test form above below))
        choose (pos k) e up down = up (met-with form (subst (λ (z : ℤ). pos 0 ≤ℤ z) e (omega (arith, ints))))
        choose (negsuc k) e up down = down (met-with (no_row (region_variables walk s) form) (no_row-met (region_variables walk s) form point (subst (λ (z : ℤ). z <ℤ pos 0) e (omega (arith, ints)))))
