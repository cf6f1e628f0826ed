-- Where what a wavefront term claims at the leaves of its edge holds, the word is what the term says.
use Rattle.std.proofs.Common.{◌≡◌, sym, ◌∙◌, ap, subst, inl, inr, ℕ, suc, List, [], ◌∷◌, ◌++◌, length, arith}
use Rattle.std.specs.Prelude.{Option, Some, None}
use Rattle.std.proofs.Math.IntN.{ℤ, pos}
use lib.Signed.{◌≤ℤ◌}
use Rattle.std.proofs.lemmas.List.{length-map}
use Rattle.base_laws.proofs.Lists.{All-append}
use Rattle.iolb_model.specs.Form.{AffineForm, form_value}
use Rattle.iolb_model.specs.Path.{row_path}
use Rattle.iolb_model.specs.Program.{AffineProgram, IsWellFormed}
use Rattle.iolb_model.specs.Domain.{IsAt, LeadAlong}
use Rattle.iolb_model.specs.Execution.{Instance}
use Rattle.iolb_model.specs.Source.{written_at, input, read_cell}
use Rattle.execution_laws.proofs.Domains.{domains_executed}
use Rattle.execution_laws.proofs.Members.{Member}
use Rattle.affine_form.specs.Multipliers.{FarkasMultipliers}
use Rattle.affine_form.specs.Substitution.{substitution, values_at}
use Rattle.affine_form.specs.System.{AffineSystem, IsMet}
use Rattle.affine_form.specs.Rows.{equality_rows, put_in}
use Rattle.affine_form.proofs.Meaning.{equality_rows-say, values_at-put_in}
use Rattle.affine_form.proofs.ShownLemmas.{Shows-follows, Shows-none}
use Rattle.affine_program.specs.Domain.{bounds_at, depth_of}
use Rattle.claims.specs.Claims.{AllHold}
use Rattle.claims.specs.declared.place.Step.{Step}
use Rattle.dep_quast.specs.Context.{ReadOf}
use Rattle.dep_quast.specs.Tree.{Leaf, SourceClaim, source as source_leaf, input as input_leaf, empty, blank}
use Rattle.dep_quast.specs.Truth.{IsTrueLeaf, source_at}
use Rattle.execution_laws.proofs.Ways.{there-holds, within-length}
use Rattle.reuse_paths.specs.Arrival.{instance_of}
use Rattle.reuse_paths.specs.LeafClaims.{LeafClaim, no_point, stops, is_credited, goes_on, arrives}
use Rattle.dep_quast.specs.OpenLeaves.{LeafOrigin, written, as_input, unknown, OpenLeaf}
use Rattle.reuse_paths.specs.Walks.{SpotForms}
use Rattle.dep_quast.proofs.ChosenLeaves.{StandsAmong}
use Rattle.wavefront.specs.FrontClaims.{AllFollow, IsEdge, edges_claims}

-- goals that follow are met where the rows are
pub follow-met : (system : AffineSystem) (goals : List AffineForm) (shown : List FarkasMultipliers) (point : List ℤ) → AllFollow system goals shown → IsMet system.rows point → IsMet goals point
follow-met system [] shown point h met = tt
follow-met system (goal ∷ goals) [] point h met = absurd h
follow-met system (goal ∷ goals) (m ∷ shown) point h met = (Shows-follows system goal m h.0.0 h.0.1 point met, follow-met system goals shown point h.1 met)

-- an instance that is executed has a value for each loop around it
pub executed-long : (program : AffineProgram) (parameters : List ℤ) (n : ℕ) (instance : Instance) → IsWellFormed program → IsAt program parameters n instance
    → length instance.values ≡ depth_of program instance.statement
executed-long program parameters n instance formed at =
    within-length (bounds_at program instance.statement) parameters instance.values
    (there-holds (row_path program.tree instance.statement) (λ path. LeadAlong path parameters instance.values) ((domains_executed program parameters instance formed).0 (n, at))).0

module _ (vars : ℕ) (rows forms : List AffineForm) (source : Option SpotForms) (place : List Step) where
  -- an open leaf has an entry whose claim holds
  pub record HasEdge (leaf : OpenLeaf) : Type 0 where
    pub entry : LeafClaim
    pub claimed : IsEdge (record { vars = vars; rows = rows ++ leaf.tests }) forms source leaf.origin entry

  pub has-edge : (index : ℕ) (leaves : List OpenLeaf) (entries : List LeafClaim) (leaf : OpenLeaf) → length entries ≡ length leaves
      → AllHold (edges_claims vars rows forms source place index leaves entries) → Member leaf leaves → HasEdge leaf
  has-edge index [] entries leaf e h m = absurd m
  has-edge index (l ∷ leaves) [] leaf e h m = absurd (omega (arith, e))
  has-edge index (l ∷ leaves) (entry ∷ entries) leaf e h (inl same) = subst HasEdge (sym same) (record { entry = entry; claimed = h.1.0 })
  has-edge index (l ∷ leaves) (entry ∷ entries) leaf e h (inr m) = has-edge (suc index) leaves entries leaf (omega (arith, e)) h.1.1 m

module _ (program : AffineProgram) (parameters u : List ℤ) (formed : IsWellFormed program) (reader : ReadOf) (n : ℕ) (x : List ℤ) (vars : ℕ) (rows forms : List AffineForm)
    (met : IsMet rows (parameters ++ u)) (there : values_at forms (parameters ++ u) ≡ parameters ++ x) where
  -- the word is what a term says: an input, or the instance of a spot
  abbrev pub IsSaid : Option SpotForms → Type 0
  IsSaid None = source_at program parameters reader n x ≡ input (read_cell program parameters reader.statement reader.read x)
  IsSaid (Some spot) = (m : ℕ) × (IsAt program parameters m (instance_of spot parameters u) × (source_at program parameters reader n x ≡ written_at m))

  -- the loop values of the spot that the term says, where it says one, are as many as its statement has loops
  abbrev pub IsLong : Option SpotForms → Type 0
  IsLong None = Unit {0}
  IsLong (Some spot) = length spot.point ≡ depth_of program spot.statement

  rows-met : (tests : List AffineForm) → IsMet tests (parameters ++ u) → IsMet (rows ++ tests) (parameters ++ u)
  rows-met tests h = All-append (λ (row : AffineForm). pos 0 ≤ℤ form_value row (parameters ++ u)) rows tests met h

  abbrev system : List AffineForm → AffineSystem
  system tests = record { vars = vars; rows = rows ++ tests }

  -- at a leaf that says an input
  input-said : (source : Option SpotForms) (tests : List AffineForm) (entry : LeafClaim) → IsEdge (system tests) forms source as_input entry → IsMet tests (parameters ++ u)
      → source_at program parameters reader n x ≡ input (read_cell program parameters reader.statement reader.read x) → IsSaid source
  input-said source tests (no_point shown) h more is = absurd (Shows-none (system tests) shown h.0 h.1 (parameters ++ u) (rows-met tests more))
  input-said None tests (stops label) h more is = is
  input-said (Some spot) tests (stops label) h more is = absurd h
  input-said source tests (is_credited credit rs label) h more is = absurd h
  input-said source tests (goes_on rs label) h more is = absurd h
  input-said None tests (arrives equal) h more is = absurd h
  input-said (Some spot) tests (arrives equal) h more is = absurd h.0

  -- at a leaf that says nothing
  unknown-said : (source : Option SpotForms) (tests : List AffineForm) (entry : LeafClaim) → IsEdge (system tests) forms source unknown entry → IsMet tests (parameters ++ u) → IsSaid source
  unknown-said source tests (no_point shown) h more = absurd (Shows-none (system tests) shown h.0 h.1 (parameters ++ u) (rows-met tests more))
  unknown-said None tests (stops label) h more = absurd cc
  unknown-said (Some spot) tests (stops label) h more = absurd h
  unknown-said source tests (is_credited credit rs label) h more = absurd h
  unknown-said source tests (goes_on rs label) h more = absurd h
  unknown-said None tests (arrives equal) h more = absurd h
  unknown-said (Some spot) tests (arrives equal) h more = absurd h.0

  -- at a leaf that says an instance
  written-said : (source : Option SpotForms) → IsLong source → (tests : List AffineForm) (entry : LeafClaim) (claim : SourceClaim)
      → IsEdge (system tests) forms source (written claim.statement claim.point) entry → IsMet tests (parameters ++ u)
      → (m : ℕ) × (IsAt program parameters m (record { statement = claim.statement; values = values_at claim.point (parameters ++ x) }) × (source_at program parameters reader n x ≡ written_at m))
      → IsSaid source
  written-said source long tests (no_point shown) claim h more is = absurd (Shows-none (system tests) shown h.0 h.1 (parameters ++ u) (rows-met tests more))
  written-said None long tests (stops label) claim h more is = absurd cc
  written-said (Some spot) long tests (stops label) claim h more is = absurd h
  written-said source long tests (is_credited credit rs label) claim h more is = absurd h
  written-said source long tests (goes_on rs label) claim h more is = absurd h
  written-said None long tests (arrives equal) claim h more is = absurd h
  written-said (Some spot) long tests (arrives equal) claim h more is =
      let fs : List AffineForm = put_in forms claim.point in
      let many : length (values_at claim.point (parameters ++ x)) ≡ depth_of program claim.statement =
      executed-long program parameters is.0 (record { statement = claim.statement; values = values_at claim.point (parameters ++ x) }) formed is.1.0 in
      let depth : depth_of program claim.statement ≡ depth_of program spot.statement = ap (depth_of program) h.0 in
      let same_long : length fs ≡ length spot.point =
      length-map claim.point (λ (form : AffineForm). substitution form forms) ∙ sym (length-map claim.point (λ (form : AffineForm). form_value form (parameters ++ x))) ∙ many ∙ depth ∙ sym long in
      let equal_there : values_at fs (parameters ++ u) ≡ values_at spot.point (parameters ++ u) =
      equality_rows-say vars fs spot.point (parameters ++ u) same_long (follow-met (system tests) (equality_rows vars fs spot.point) equal (parameters ++ u) h.1 (rows-met tests more)) in
      let values : values_at claim.point (parameters ++ x) ≡ values_at spot.point (parameters ++ u) =
      sym (values_at-put_in forms claim.point (parameters ++ u) ∙ ap (values_at claim.point) there) ∙ equal_there in
      let one : record { statement = claim.statement; values = values_at claim.point (parameters ++ x) } ≡ instance_of spot parameters u = λ i. record { statement = h.0 i; values = values i } in
      (is.0, (subst (IsAt program parameters is.0) one is.1.0, is.1.1))

  pub said : (source : Option SpotForms) → IsLong source → (place : List Step) (leaves : List OpenLeaf) (entries : List LeafClaim) (chosen : Leaf)
      → length entries ≡ length leaves → AllHold (edges_claims vars rows forms source place 0 leaves entries)
      → StandsAmong vars forms (parameters ++ u) (parameters ++ x) there leaves chosen → IsTrueLeaf program parameters reader n x chosen → IsSaid source
  said source long place leaves entries (source_leaf claim) e h among is =
      let edge = has-edge vars rows forms source place 0 leaves entries among.leaf e h among.member in
      written-said source long among.leaf.tests edge.entry claim (subst (λ (o : LeafOrigin). IsEdge (system among.leaf.tests) forms source o edge.entry) among.says edge.claimed) among.met is
  said source long place leaves entries (input_leaf shown) e h among is =
      let edge = has-edge vars rows forms source place 0 leaves entries among.leaf e h among.member in
      input-said source among.leaf.tests edge.entry (subst (λ (o : LeafOrigin). IsEdge (system among.leaf.tests) forms source o edge.entry) among.says edge.claimed) among.met is
  said source long place leaves entries (empty shown) e h among is = absurd is
  said source long place leaves entries blank e h among is =
      let edge = has-edge vars rows forms source place 0 leaves entries among.leaf e h among.member in
      unknown-said source among.leaf.tests edge.entry (subst (λ (o : LeafOrigin). IsEdge (system among.leaf.tests) forms source o edge.entry) among.says edge.claimed) among.met
