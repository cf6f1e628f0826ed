-- The settings of a family's walks fit, and what is found in the claims of its start label.
use Rattle.std.proofs.Common.{◌≡◌, refl, sym, ◌∙◌, ap, subst, ℕ, zero, suc, ◌+◌, ◌<◌, ◌≤◌, List, [], ◌∷◌, ◌++◌, length, map, get_or, drop, arith, zero-add}
use Rattle.std.specs.Prelude.{Option, Some, None, Result}
use Rattle.std.specs.List.{AllByRecursion}
use Rattle.std.proofs.lemmas.List.{length-map, drop_all}
use Rattle.base_laws.proofs.Lists.{rest_at, add-one}
use Rattle.iolb_model.specs.Form.{AffineForm}
use Rattle.iolb_model.specs.Program.{AffineProgram}
use Rattle.claims.specs.Claims.{Claim, AllHold, Decides, IsRefusal, IsRefusalAt}
use Rattle.claims.specs.declared.place.Step.{Step}
use Rattle.claims.specs.declared.place.Step.TheVariants.{Index}
use Rattle.claims.specs.declared.refused.Refused.{Refused}
use Rattle.claims.proofs.Found.{refused-here, decides-later}
use Rattle.claims.proofs.Members.{suc-moved}
use Rattle.affine_form.specs.Form.{IsSmallForm}
use Rattle.affine_form.specs.Matrix.{IntegerMatrix}
use Rattle.affine_form.specs.Rows.{IsSmallOver}
use Rattle.affine_form.specs.System.{AllOver}
use Rattle.affine_program.specs.Domain.{depth_of}
use Rattle.dep_quast.specs.Tree.{SelectionTree}
use Rattle.reuse_paths.specs.Families.{CreditedNest, FamilyForms, NodeForms, node_label, node_region}
use Rattle.reuse_paths.specs.FamilyClaims.{family_setting, label_rows, IsScaledRow}
use Rattle.reuse_paths.specs.FamilyFits.{FamilyFits, NodeFits, NodesFit}
use Rattle.dep_quast.specs.Trees.{RowsFit}
use Rattle.reuse_paths.specs.WalkFits.{AreInstanceLabels, IsLabel, IsLabelIf, LabelsFit, RegionFits, RegionRowsFit}
use Rattle.reuse_paths.specs.WalkSettings.{KeptLabels, WalkSetting, region_variables}
use Rattle.reuse_paths.specs.WalkViews.{ReadingFits, SettingFits}
use Rattle.reuse_paths.specs.Walks.{WalkRegion}
use Rattle.reuse_paths.proofs.FamilyLabels.{own-reads}
use Rattle.iolb_model.specs.declared.limits.TheConstants.{PUT_SIZE}

module _ (program : AffineProgram) (trees : List (List SelectionTree)) (credits : List CreditedNest) (family : FamilyForms) where
  -- the setting of walks from readers with a label
  abbrev from : List AffineForm → WalkSetting
  from reader = family_setting program trees credits family reader

  abbrev kept : List AffineForm → KeptLabels
  kept reader = record { reader = reader; instances = map node_label family.nodes; cells = family.inputs; credits = credits }

  -- its regions have rows over their variables
  more-rows : (reader label : List AffineForm) (first : ℕ) (region : Option WalkRegion) (regions : List (Option WalkRegion)) → RegionFits (from label) first region
      → RegionRowsFit (from reader) (suc first) regions → RegionRowsFit (from reader) first (region ∷ regions)
  more-rows reader label first None regions fits rows = rows
  more-rows reader label first (Some region) regions fits rows = (fits.0, rows)

  pub nodes-rows : (reader : List AffineForm) (first : ℕ) (nodes : List (Option NodeForms)) → NodesFit program trees credits family first nodes → RegionRowsFit (from reader) first (map node_region nodes)
  nodes-rows reader first [] fits = tt
  nodes-rows reader first (None ∷ nodes) fits = nodes-rows reader (suc first) nodes fits.1
  nodes-rows reader first (Some node ∷ nodes) fits = more-rows reader node.label first node.region (map node_region nodes) fits.0 (nodes-rows reader (suc first) nodes fits.1)

  other-rows : (reader label : List AffineForm) (first : ℕ) (regions : List (Option WalkRegion)) → RegionRowsFit (from label) first regions → RegionRowsFit (from reader) first regions
  other-rows reader label first [] rows = tt
  other-rows reader label first (None ∷ regions) rows = other-rows reader label (suc first) regions rows
  other-rows reader label first (Some region ∷ regions) rows = (rows.0, other-rows reader label (suc first) regions rows.1)

  flat : (n : ℕ) → n ≡ n + 0
  flat n = omega arith

  -- a label over the parameters and a statement's loop values is over the variables of its region
  reads : (reader label : List AffineForm) (statement : ℕ) → AllByRecursion (IsSmallOver (length program.parameters + depth_of program statement)) label
      → AllOver (region_variables (from reader) statement) label × AllByRecursion (IsSmallForm PUT_SIZE) label
  reads reader label statement over =
      own-reads (region_variables (from reader) statement) label (subst (λ (n : ℕ). AllByRecursion (IsSmallOver (n + depth_of program statement)) label) (flat (length program.parameters)) over)

  -- the setting of the walks from instances that are counted fits
  pub counted-reading : (statement : ℕ) (nest : List (AffineForm × AffineForm)) (matrix : IntegerMatrix) → RowsFit program 0 trees → FamilyFits program trees statement nest matrix credits family
      → ReadingFits (from family.start_label) statement
  counted-reading statement nest matrix rows fits = record {
    setting = record {
      ends = record {
        nest = record { few = omega arith; bounds = tt };
        aim = (refl, subst (λ (n : ℕ). LabelsFit program n (kept family.start_label)) (sym fits.start_label.each) fits.labels);
      };
      trees = rows;
      each = length-map family.nodes node_region ∙ sym (length-map family.nodes node_label) ∙ fits.labels.each;
      rows = nodes-rows family.start_label 0 family.nodes fits.regions;
    };
    there = fits.counted.there;
    reader = reads family.start_label family.start_label statement fits.start_label.over;
  }

  label-at : (size first i : ℕ) (nodes : List (Option NodeForms)) (node : NodeForms) (d : Option NodeForms) → AreInstanceLabels program size first (map node_label nodes) → i < length nodes
      → d ≡ get_or nodes i d → d ≡ Some node → IsLabel size (length program.parameters + depth_of program (first + i)) node.label
  label-at size first i [] node d fit below is e = absurd (omega (arith, below))
  label-at size first zero (here ∷ nodes) node d fit below is e =
      subst (λ (n : ℕ). IsLabel size (length program.parameters + depth_of program n) node.label) (flat first)
      (subst (λ (o : Option NodeForms). IsLabelIf size (length program.parameters + depth_of program first) (node_label o)) (sym is ∙ e) fit.0)
  label-at size first (suc i) (here ∷ nodes) node d fit below is e =
      subst (λ (n : ℕ). IsLabel size (length program.parameters + depth_of program n) node.label) (suc-moved first i) (label-at size (suc first) i nodes node d fit.1 (omega (arith, below)) is e)

  -- and so does that from the instances of a node's region
  pub node-reading : (i : ℕ) (node : NodeForms) (d : Option NodeForms) → SettingFits (from family.start_label) → i < length family.nodes → d ≡ get_or family.nodes i d → d ≡ Some node
      → ReadingFits (from node.label) i
  node-reading i node d fits below is e =
      let labels : LabelsFit program (length family.start_label) (kept family.start_label) = fits.ends.aim.1 in
      let label : IsLabel (length family.start_label) (length program.parameters + depth_of program i) node.label =
      subst (λ (n : ℕ). IsLabel (length family.start_label) (length program.parameters + depth_of program n) node.label) (zero-add i)
      (label-at (length family.start_label) 0 i family.nodes node d labels.instances below is e) in
      let others : LabelsFit program (length family.start_label) (kept node.label) = record { instances = labels.instances; each = labels.each; cells = labels.cells; credits = labels.credits } in record {
        setting = record {
          ends = record { nest = fits.ends.nest; aim = (fits.ends.aim.0, subst (λ (n : ℕ). LabelsFit program n (kept node.label)) (sym label.each) others) };
          trees = fits.trees;
          each = fits.each;
          rows = other-rows node.label family.start_label 0 (map node_region family.nodes) fits.rows;
        };
        there = omega (arith, below, fits.each, length-map family.nodes node_region);
        reader = reads node.label node.label i label.over;
      }

  -- the region of a node fits
  pub node-fits : (first i : ℕ) (nodes : List (Option NodeForms)) (d : Option NodeForms) → NodesFit program trees credits family first nodes → i < length nodes → d ≡ get_or nodes i d
      → NodeFits program trees credits family (first + i) d
  node-fits first i [] d fits below is = absurd (omega (arith, below))
  node-fits first zero (here ∷ nodes) d fits below is =
      subst (λ (n : ℕ). NodeFits program trees credits family n d) (flat first) (subst (NodeFits program trees credits family first) (sym is) fits.0)
  node-fits first (suc i) (here ∷ nodes) d fits below is =
      subst (λ (n : ℕ). NodeFits program trees credits family n d) (suc-moved first i) (node-fits (suc first) i nodes d fits.1 (omega (arith, below)) is)

-- ---- what is found in the claims of a start label, form by form

module _ (matrix : IntegerMatrix) (scale parameters loops : ℕ) (place : List Step) (set : List ℕ) (label : List AffineForm) where
  abbrev rows-from : ℕ → List Claim
  rows-from i = label_rows matrix scale parameters loops place i (drop i set) (drop i label)

  pub rows-ended : (i : ℕ) → length set ≤ i → AllHold (rows-from i)
  rows-ended i past = subst (λ (s : List ℕ). AllHold (label_rows matrix scale parameters loops place i s (drop i label))) (sym (drop_all i set past)) tt

  module _ (i row : ℕ) (form : AffineForm) (is : drop i set ≡ row ∷ drop (i + 1) set) (below : i < length label) (is_form : form ≡ get_or label i form) where
    abbrev claim : Claim
    claim = record { condition = 13; place = place ++ Index i ∷ []; statement = IsScaledRow matrix scale parameters loops row form }

    split : rows-from i ≡ claim ∷ rows-from (i + 1)
    split =
        ap (λ (s : List ℕ). label_rows matrix scale parameters loops place i s (drop i label)) is
        ∙ ap (λ (l : List AffineForm). label_rows matrix scale parameters loops place i (row ∷ drop (i + 1) set) l) (rest_at label i form below is_form)
        ∙ ap (λ (n : ℕ). claim ∷ label_rows matrix scale parameters loops place n (drop (i + 1) set) (drop (i + 1) label)) (add-one i)

    pub row-fails : (r : Refused) → (IsScaledRow matrix scale parameters loops row form → ⊥) → IsRefusalAt 13 (place ++ Index i ∷ []) r → IsRefusal (rows-from i) r
    row-fails r fails at = subst (λ (cs : List Claim). IsRefusal cs r) (sym split) (refused-here claim (rows-from (i + 1)) r fails at)

    pub row-holds : (answer : Result (Unit {0}) Refused) → IsScaledRow matrix scale parameters loops row form → Decides (rows-from (i + 1)) answer → Decides (rows-from i) answer
    row-holds answer holds h = subst (λ (cs : List Claim). Decides cs answer) (sym split) (decides-later (claim ∷ []) (rows-from (i + 1)) answer (holds, tt) h)
