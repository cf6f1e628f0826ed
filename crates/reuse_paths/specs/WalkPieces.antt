-- The pieces of a walk: the vertices that it takes.
use Rattle.std.specs.Prelude.{List, ℕ, [], ◌∷◌, ◌++◌, map}
use Rattle.iolb_model.specs.Form.{AffineForm}
use Rattle.affine_program.specs.Domain.{depth_of}
use Rattle.dep_quast.specs.Context.{ReadOf, reference_of, no_row}
use Rattle.footprint_pieces.specs.declared.piece.Target.TheVariants.{Cell, Instance}
use Rattle.reuse_paths.specs.LeafClaims.{LeafClaim, no_point, stops, is_credited, goes_on, arrives}
use Rattle.dep_quast.specs.OpenLeaves.{LeafOrigin, written, as_input, unknown, OpenLeaf, form_at}
use Rattle.footprint_pieces.specs.Pieces.{FootprintPiece}
use Rattle.dep_quast.specs.Trees.{read_of}
use Rattle.reuse_paths.specs.WalkClaims.{leaves_at}
use Rattle.reuse_paths.specs.WalkSettings.{WalkSetting, region_variables, reading_point}
use Rattle.reuse_paths.specs.Walks.{WalkTree, take, test}

-- The vertices of a word of readers that meet these rows: of the instances that wrote it, or of the input cells; none where
-- the leaf doesn't say.
abbrev pub word_pieces : WalkSetting → ReadOf → List AffineForm → LeafOrigin → List FootprintPiece
word_pieces walk reader rows (written writer values) = record {
  target = Instance writer;
  vars = depth_of walk.program reader.statement;
  rows = rows;
  point = map (form_at (region_variables walk reader.statement) (reading_point walk reader.statement)) values;
} ∷ []
word_pieces walk reader rows as_input = record {
  target = Cell (reference_of walk.program reader).array;
  vars = depth_of walk.program reader.statement;
  rows = rows;
  point = map (form_at (region_variables walk reader.statement) (reading_point walk reader.statement)) (reference_of walk.program reader).subscripts;
} ∷ []
word_pieces walk reader rows unknown = []

-- those of a leaf, unless no point comes there
abbrev pub entry_pieces : WalkSetting → ReadOf → List AffineForm → LeafOrigin → LeafClaim → List FootprintPiece
entry_pieces walk reader rows origin (no_point shown) = []
entry_pieces walk reader rows origin (stops label) = word_pieces walk reader rows origin
entry_pieces walk reader rows origin (is_credited credit shown label) = word_pieces walk reader rows origin
entry_pieces walk reader rows origin (goes_on shown label) = word_pieces walk reader rows origin
entry_pieces walk reader rows origin (arrives equal) = word_pieces walk reader rows origin

-- those of leaves, each with its entry, of readers that meet these rows
abbrev pub leaves_pieces : WalkSetting → ReadOf → List AffineForm → List OpenLeaf → List LeafClaim → List FootprintPiece
leaves_pieces walk reader rows [] entries = []
leaves_pieces walk reader rows (l ∷ leaves) [] = []
leaves_pieces walk reader rows (l ∷ leaves) (entry ∷ entries) = entry_pieces walk reader (rows ++ l.tests) l.origin entry ++ leaves_pieces walk reader rows leaves entries

-- those of a walk from the instances of a statement which meet these rows
abbrev pub walk_pieces : WalkSetting → ℕ → List AffineForm → WalkTree → List FootprintPiece
walk_pieces walk statement rows (take read entries) = let reader = read_of statement read in leaves_pieces walk reader rows (leaves_at walk reader) entries
walk_pieces walk statement rows (test form above below) =
    walk_pieces walk statement (rows ++ form ∷ []) above ++ walk_pieces walk statement (rows ++ no_row (region_variables walk statement) form ∷ []) below
