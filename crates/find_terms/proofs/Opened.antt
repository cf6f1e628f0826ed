-- Source trees that stand, with the opening branch: within the limits, and plain where the branch names their reads.
use Rattle.std.proofs.Common.{Bool, true, false, ◌≡◌, refl, sym, ◌∙◌, ap, subst, inl, inr, ℕ, zero, suc, ◌+◌, ◌<◌, List, [], ◌∷◌, ◌++◌, length, map, arith, Bor}
use Rattle.std.specs.Prelude.{◌==◌, ◌&&◌, Option, None, Some, IfNone, IfSome, option_and_then, slice_get}
use Rattle.std.specs.List.{AllByRecursion, list_any}
use Rattle.std.proofs.lemmas.Bool.{eq-eqb, or_left, or_right}
use Rattle.iolb_model.specs.Program.{AffineProgram}
use Rattle.claims.specs.Claims.{FirstFails}
use Rattle.claims.specs.declared.refused.FailedCondition.{FailedCondition}
use Rattle.claims.proofs.Laws.{accepted-stand}
use Rattle.affine_program.specs.Parts.{ProgramParts, IsProgram, meaning}
use Rattle.dep_quast.specs.Context.{ReadOf}
use Rattle.dep_quast.specs.Tree.{SelectionTree}
use Rattle.dep_quast.specs.Truth.{ReadFits}
use Rattle.flow_deps.specs.Standing.{AllStand}
use Rattle.dep_quast.specs.declared.quasts.Quasts.{Quasts}
use Rattle.dep_quast.specs.Quasts.{tree_at, tree_for, tree_or_blank, trees_of}
use Rattle.dep_quast.specs.Trees.{read_of}
use Rattle.wavefront.specs.declared.cold.Cold.{Cold}
use Rattle.iolb_check.specs.declared.term.Term.{Term}
use Rattle.iolb_check.specs.declared.term.Term.TheVariants as terms
use Rattle.iolb_check.specs.declared.term.Branch.{Branch}
use Rattle.iolb_check.specs.Conditions.{conditions}
use Rattle.iolb_check.specs.Limits.{CertificateParts, IsWithinLimits}
use Rattle.find_terms.specs.Accepted.{HasPlainTree, OpeningsAreWithinLimits, OpeningsMeetConditions, alone}
use Rattle.find_terms.specs.Openings.{FindsOpening, IsFirstOpening, IsOpeningBranch}
use Rattle.projective_bounds.specs.HeldColds.{reader_of}
use Rattle.find_terms.specs.AcceptedCertificates.{IsAccepted, IsRefused}
use Rattle.find_terms.specs.declared.accepted.Accepted.{Accepted}
use Rattle.find_terms.specs.Opened.{BeginsWithOpening, HasTreesFor, NamesBranch, NamesTerm}
use Rattle.find_terms.specs.Trees.{HasRow, HasTrees, IsSourceTree, RowStands, RowsStand, is_of_read}
use Rattle.find_terms.specs.declared.trees.Scope.{Scope}
use Rattle.find_terms.specs.declared.trees.Scope.TheVariants.{Few}
use Rattle.flow_deps.proofs.StandingTrees.{trees-fit, trees-small, trees-valid}
use Rattle.find_terms.proofs.Standing.{all-standing, bare-stands}

no-more : (n : ℕ) → n + 0 ≡ n
no-more n = omega arith

shift : (m n : ℕ) → suc m + n ≡ m + suc n
shift m n = omega arith

from-none : (n : ℕ) → 0 + n ≡ n
from-none n = omega arith

module _ (program : AffineProgram) (scope : Scope) where
  -- ---- the tree of a read

  row-at : (first k : ℕ) (rows : List (List SelectionTree)) → k < length rows → RowsStand program scope first rows
      → (row : List SelectionTree) × (slice_get rows k ≡ Some row) × HasRow program scope (first + k) row
  row-at first k [] below stand = absurd (omega arith)
  row-at first zero (row ∷ rows) below stand = (row, refl, subst (λ (n : ℕ). HasRow program scope n row) (sym (no-more first)) stand.0)
  row-at first (suc k) (row ∷ rows) below stand =
      let later = row-at (suc first) k rows (omega arith) stand.1 in (later.0, later.1, subst (λ (n : ℕ). HasRow program scope n later.0) (shift first k) later.2)

  tree-in : (statement first k : ℕ) (row : List SelectionTree) → k < length row → RowStands program scope statement first row
      → (tree : SelectionTree) × (slice_get row k ≡ Some tree) × IsSourceTree program scope (read_of statement (first + k)) tree
  tree-in statement first k [] below stand = absurd (omega arith)
  tree-in statement first zero (tree ∷ row) below stand = (tree, refl, subst (λ (n : ℕ). IsSourceTree program scope (read_of statement n) tree) (sym (no-more first)) stand.0)
  tree-in statement first (suc k) (tree ∷ row) below stand =
      let later = tree-in statement (suc first) k row (omega arith) stand.1 in
      (later.0, later.1, subst (λ (n : ℕ). IsSourceTree program scope (read_of statement n) later.0) (shift first k) later.2)

  pub tree-stands : (reader : ReadOf) (trees : List (List SelectionTree)) → ReadFits program reader → HasTrees program scope trees → IsSourceTree program scope reader (tree_for trees reader)
  tree-stands reader trees fits has =
      let row = row-at 0 reader.statement trees (omega (arith, fits.statement, has.many)) has.stand in
      let stand : HasRow program scope reader.statement row.0 = subst (λ (n : ℕ). HasRow program scope n row.0) (from-none reader.statement) row.2 in
      let tree = tree-in reader.statement 0 reader.read row.0 (omega (arith, fits.read, stand.many)) stand.stand in
      let found : tree_at trees reader.statement reader.read ≡ Some tree.0 =
      ap (λ (o : Option (List SelectionTree)). option_and_then (λ (r : List SelectionTree). slice_get r reader.read) o) row.1 ∙ tree.1 in
      subst (λ (t : SelectionTree). IsSourceTree program scope reader t) (sym (ap tree_or_blank found))
      (subst (λ (n : ℕ). IsSourceTree program scope (read_of reader.statement n) tree.0) (from-none reader.read) tree.2)

  -- the trees of the reads of opening terms are plain
  plain-trees : (trees : List (List SelectionTree)) (colds : List Cold) → HasTrees program scope trees → AllByRecursion (IsFirstOpening program) colds → AllByRecursion (NamesTerm scope) (map terms.Cold colds)
      → AllByRecursion (HasPlainTree program trees) (map terms.Cold colds)
  plain-trees trees [] has each named = tt
  plain-trees trees (cold ∷ colds) has each named = (
    (tree-stands (reader_of cold) trees each.0.opens.read has).plain named.0 each.0.opens.tree each.0.opens.plain,
    plain-trees trees colds has each.1 named.1,
  )

-- ---- the opening branch

pub opening-small : OpeningsAreWithinLimits → (program : AffineProgram) (quasts : Quasts) (branch : Branch) → HasTreesFor program (Some branch) (trees_of quasts) → IsOpeningBranch program branch
    → IsWithinLimits (record { quasts = quasts; branches = branch ∷ [] })
opening-small law program quasts branch (scope, has, named) opening = law program quasts branch opening (trees-small program quasts (all-standing program scope (trees_of quasts) has))

pub opening-stands : OpeningsMeetConditions → (program : ProgramParts) (trees : List (List SelectionTree)) (branch : Branch) (failed : FailedCondition) → IsProgram program
    → HasTreesFor (meaning program) (Some branch) trees → IsOpeningBranch (meaning program) branch → FirstFails (conditions (meaning program) (alone trees branch)) failed → ⊥
opening-stands law program trees branch failed kept (scope, has, named) opening fails =
    let P : AffineProgram = meaning program in
    let stand : AllStand P trees = all-standing P scope trees has in
    let plain : AllByRecursion (HasPlainTree P trees) branch.terms.items =
    subst (λ (all : List Term). AllByRecursion (HasPlainTree P trees) all) (sym opening.2)
    (plain-trees P scope trees opening.0 has opening.1.each (subst (λ (all : List Term). AllByRecursion (NamesTerm scope) all) opening.2 named)) in
    accepted-stand (conditions P (alone trees branch)) failed
    (law program trees branch kept opening (trees-fit P kept.well_formed trees stand) (trees-valid P kept.well_formed trees stand) plain) fails

-- ---- certificates that aren't refused

pub bare-small : (program : AffineProgram) (quasts : Quasts) (branches : List Branch) → ((scope : Scope) × HasTrees program scope (trees_of quasts)) → branches ≡ []
    → IsWithinLimits (record { quasts = quasts; branches = branches })
bare-small program quasts branches (scope, has) none =
    subst (λ (all : List Branch). IsWithinLimits (record { quasts = quasts; branches = all })) (sym none) (record { trees = trees-small program quasts (all-standing program scope (trees_of quasts) has); few = omega arith; branches = tt })

pub refused : (program : ProgramParts) (certificate : CertificateParts) (found : Option Accepted) → found ≡ None → IfNone found (IsRefused program certificate) → IsRefused program certificate
refused program certificate found none h = subst (λ (o : Option Accepted). IfNone o (IsRefused program certificate)) none h

-- the parts of a certificate that was accepted
pub parts-of : (program : ProgramParts) (found : Option Accepted) (accepted : Accepted) (certificate parts : CertificateParts) → found ≡ Some accepted
    → IfSome found (λ (a : Accepted). IsAccepted program a × (a.certificate ≡ certificate)) → certificate ≡ parts → accepted.certificate ≡ parts
parts-of program found accepted certificate parts some h is =
    (subst (λ (o : Option Accepted). IfSome o (λ (a : Accepted). IsAccepted program a × (a.certificate ≡ certificate))) some h).1 ∙ is

pub bare-accepted : (program : ProgramParts) (certificate : CertificateParts) (quasts : Quasts) (branches : List Branch) (found : Option Accepted) → IsProgram program
    → ((scope : Scope) × HasTrees (meaning program) scope (trees_of quasts)) → certificate ≡ record { quasts = quasts; branches = branches } → branches ≡ [] → found ≡ None
    → IfNone found (IsRefused program certificate) → ⊥
bare-accepted program certificate quasts branches found kept (scope, has) is empty none h =
    let at : IsRefused program (record { quasts = quasts; branches = [] }) =
    subst (λ (all : List Branch). IsRefused program (record { quasts = quasts; branches = all })) empty
    (subst (λ (c : CertificateParts). IsRefused program c) is (refused program certificate found none h)) in
    bare-stands (meaning program) kept.well_formed (trees_of quasts) at.0 (all-standing (meaning program) scope (trees_of quasts) has) at.1

pub opening-accepted : OpeningsMeetConditions → (program : ProgramParts) (certificate : CertificateParts) (quasts : Quasts) (branches : List Branch) (branch : Branch) (found : Option Accepted) → IsProgram program
    → HasTreesFor (meaning program) (Some branch) (trees_of quasts) → IsOpeningBranch (meaning program) branch → certificate ≡ record { quasts = quasts; branches = branches } → branches ≡ branch ∷ [] → found ≡ None
    → IfNone found (IsRefused program certificate) → ⊥
opening-accepted law program certificate quasts branches branch found kept has opening is one none h =
    let at : IsRefused program (record { quasts = quasts; branches = branch ∷ [] }) =
    subst (λ (all : List Branch). IsRefused program (record { quasts = quasts; branches = all })) one
    (subst (λ (c : CertificateParts). IsRefused program c) is (refused program certificate found none h)) in
    opening-stands law program (trees_of quasts) branch at.0 kept has opening at.1

-- the opening branch alone
pub begins-opened : (program : AffineProgram) (opening : Option Branch) (branch : Branch) (branches : List Branch) → opening ≡ Some branch → FindsOpening program opening → branches ≡ branch ∷ []
    → BeginsWithOpening program branches
begins-opened program opening branch branches some finds is =
    let found : FindsOpening program (Some branch) = subst (λ (o : Option Branch). FindsOpening program o) some finds in inr (branch, [], is, found.0, found.1)

-- what begins with the opening branch does so with a branch more at the end
pub begins-pushed : (program : AffineProgram) (branches : List Branch) (branch : Branch) → BeginsWithOpening program branches → BeginsWithOpening program (branches ++ branch ∷ [])
begins-pushed program branches branch (inl never) = inl never
begins-pushed program branches branch (inr (first, later, is, opens, some)) = inr (first, later ++ branch ∷ [], ap (λ (all : List Branch). all ++ branch ∷ []) is, opens, some)

-- ---- named reads

-- a cold term is one of its read
own-read : (cold : Cold) → is_of_read (reader_of cold) (terms.Cold cold) ≡ true
own-read cold =
    ap (λ (b : Bool). b && cold.read == cold.read) (eq-eqb cold.statement cold.statement refl) ∙ eq-eqb cold.read cold.read refl

names-few : (slice : Bor (List Term)) (all : List Term) → ((reader : ReadOf) → list_any (is_of_read reader) all ≡ true → list_any (is_of_read reader) slice.now ≡ true) → AllByRecursion (NamesTerm (Few slice)) all
names-few slice [] reach = tt
names-few slice (terms.Cold cold ∷ all) reach = (
  reach (reader_of cold) (or_left (is_of_read (reader_of cold) (terms.Cold cold)) (list_any (is_of_read (reader_of cold)) all) (own-read cold)),
  names-few slice all (λ reader h. reach reader (or_right (is_of_read reader (terms.Cold cold)) (list_any (is_of_read reader) all) h)),
)
names-few slice (terms.Partition partition ∷ all) reach = (tt, names-few slice all reach)
names-few slice (terms.Wavefront front ∷ all) reach = (tt, names-few slice all reach)
names-few slice (terms.Joint joint ∷ all) reach = (tt, names-few slice all reach)

pub own-named : (slice : Bor (List Term)) (branch : Branch) → slice.now ≡ branch.terms.items → NamesBranch (Few slice) (Some branch)
own-named slice branch is = subst (λ (all : List Term). AllByRecursion (NamesTerm (Few slice)) all) is (names-few slice slice.now (λ reader h. h))

-- trees with those of a branch's reads are trees for it
pub short-for : (program : AffineProgram) (opening : Option Branch) (branch : Branch) (slice : Bor (List Term)) (trees : List (List SelectionTree)) → opening ≡ Some branch → slice.now ≡ branch.terms.items
    → HasTrees program (Few slice) trees → HasTreesFor program opening trees
short-for program opening branch slice trees is same has = subst (λ (o : Option Branch). HasTreesFor program o trees) (sym is) (Few slice, has, own-named slice branch same)
