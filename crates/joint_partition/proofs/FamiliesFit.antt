-- Families that fit have walks that do.
use Rattle.std.proofs.Common.{◌≡◌, refl, ℕ, suc, ◌<◌, List, [], ◌∷◌, length, map, arith}
use Rattle.std.specs.Prelude.{Option, None, Some}
use Rattle.std.specs.List.{AllByRecursion}
use Rattle.std.proofs.lemmas.List.{length-map}
use Rattle.base_laws.proofs.Lists.{All-weaken}
use Rattle.iolb_model.specs.Form.{AffineForm}
use Rattle.iolb_model.specs.Program.{AffineProgram}
use Rattle.dep_quast.specs.Tree.{SelectionTree}
use Rattle.dep_quast.specs.Trees.{RowsFit}
use Rattle.footprint_pieces.specs.Pieces.{PieceFits}
use Rattle.reuse_paths.specs.Families.{NodeForms}
use Rattle.reuse_paths.specs.FamilyFits.{NodesFit, WalksFit}
use Rattle.reuse_paths.specs.WalkFits.{CreditFits}
use Rattle.reuse_paths.specs.Walks.{WalkTree}
use Rattle.joint_partition.specs.Claims.{family_pieces}
use Rattle.joint_partition.specs.FamiliesFit.{FitsFamily, StartFits, StartsFit, WayFits}
use Rattle.joint_partition.specs.JointFits.{JointFamilyFits}
use Rattle.joint_partition.specs.Term.{JointFamily, JointTerm, PartTerm, PartWalks, StartTerm, WayTerm, credited_nests, labels_of, part_walks, start_label, walks_from, walks_with, way_at, way_walks}
use Rattle.joint_partition.proofs.WaySettings.{kept-fit, way-fits}

-- ---- starts, one for each part

starts-many : (program : AffineProgram) (trees : List (List SelectionTree)) (term : JointTerm) (family : JointFamily) (parts : List PartTerm) (starts : List StartTerm)
    → StartsFit program trees term family parts starts → length starts ≡ length parts
starts-many program trees term family [] [] h = refl
starts-many program trees term family [] (start ∷ starts) h = absurd h
starts-many program trees term family (part ∷ parts) [] h = absurd h
starts-many program trees term family (part ∷ parts) (start ∷ starts) h = omega (arith, starts-many program trees term family parts starts h.1)

starts-enter : (program : AffineProgram) (trees : List (List SelectionTree)) (term : JointTerm) (family : JointFamily) (parts : List PartTerm) (starts : List StartTerm)
    → StartsFit program trees term family parts starts → AllByRecursion (λ (start : StartTerm). start.way < length family.ways) starts
starts-enter program trees term family [] [] h = tt
starts-enter program trees term family [] (start ∷ starts) h = absurd h
starts-enter program trees term family (part ∷ parts) [] h = absurd h
starts-enter program trees term family (part ∷ parts) (start ∷ starts) h = (h.0.entered, starts-enter program trees term family parts starts h.1)

module _ (program : AffineProgram) (trees : List (List SelectionTree)) (term : JointTerm) (trees-fit : RowsFit program 0 trees) (credits : AllByRecursion (CreditFits program) (credited_nests term))
    (family : JointFamily) (fits : FitsFamily program trees term family) where
  -- regions fit whatever the label and the tree of a start
  nodes-same : (way : WayTerm) (one other : List AffineForm) (tree another : WalkTree) (first : ℕ) (nodes : List (Option NodeForms))
      → NodesFit program trees (credited_nests term) (walks_with family (labels_of family way.labels) way.regions one tree) first nodes
      → NodesFit program trees (credited_nests term) (walks_with family (labels_of family way.labels) way.regions other another) first nodes
  nodes-same way one other tree another first [] h = tt
  nodes-same way one other tree another first (None ∷ nodes) h = (tt, nodes-same way one other tree another (suc first) nodes h.1)
  nodes-same way one other tree another first (Some node ∷ nodes) h = (h.0, nodes-same way one other tree another (suc first) nodes h.1)

  walks-fit : (part : PartTerm) (start : StartTerm) → StartFits program trees term family part start
      → WalksFit program trees part.statement (credited_nests term) (walks_from family part start).walks (length family.set)
  walks-fit part start h =
      let way : WayTerm = way_at family start.way in
      let fits-way : WayFits program trees term family way = way-fits program trees term family start.way fits h.entered in record {
        start_label = length-map family.set _;
        labels = kept-fit program trees term family way trees-fit credits fits fits-way (start_label part family);
        start = h.walk;
        regions = nodes-same way [] (start_label part family) (way_walks family way).start start.tree 0 (way_walks family way).nodes fits-way.walks;
      }

  all-walks : (parts : List PartTerm) (starts : List StartTerm) → StartsFit program trees term family parts starts
      → AllByRecursion (λ (from : PartWalks). WalksFit program trees from.part.statement (credited_nests term) from.walks (length family.set)) (part_walks family parts starts)
  all-walks [] starts h = tt
  all-walks (part ∷ parts) [] h = absurd h
  all-walks (part ∷ parts) (start ∷ starts) h = (walks-fit part start h.0, all-walks parts starts h.1)

  pub family-fits : JointFamilyFits program trees term family
  family-fits = record {
    scale = fits.scale;
    one_each = starts-many program trees term family term.parts family.starts fits.starts;
    entered = starts-enter program trees term family term.parts family.starts fits.starts;
    labeled = All-weaken (WayFits program trees term family) (λ (way : WayTerm). way.labels < length family.labels) family.ways (λ way h. h.there) fits.ways;
    walks = all-walks term.parts family.starts fits.starts;
  }

-- the pieces of each family fit where all lists of pieces do
pub pieces-fit : (program : AffineProgram) (trees : List (List SelectionTree)) (term : JointTerm) (families : List JointFamily)
    → AllByRecursion (AllByRecursion (PieceFits program)) (map (family_pieces program trees term) families)
    → AllByRecursion (λ (family : JointFamily). AllByRecursion (PieceFits program) (family_pieces program trees term family)) families
pieces-fit program trees term [] h = tt
pieces-fit program trees term (family ∷ families) h = (h.0, pieces-fit program trees term families h.1)
