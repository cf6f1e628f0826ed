-- What is asked of entries at the leaves of source trees. A read that isn't there counts as one without leaves.
use Rattle.std.specs.Prelude.{ℕ, ◌*◌, nat_lt, if◌then◌else◌, List, [], ◌∷◌, ◌++◌, length, Option, None, Some, slice_get, slice_index_or, codes}
use Rattle.iolb_model.specs.Program.{AffineProgram, statement_at}
use Rattle.claims.specs.declared.place.Step.{Step}
use Rattle.claims.specs.declared.place.Step.TheVariants.{Key, Index}
use Rattle.dep_quast.specs.Context.{ReadOf}
use Rattle.dep_quast.specs.Tree.{Leaf as TreeLeaf, SelectionTree, leaf, test, source, input, empty, blank}
use Rattle.reuse_paths.specs.Families.{CreditedNest}
use Rattle.reuse_paths.specs.LeafClaims.{LeafClaim, no_point, stops, is_credited, goes_on, arrives}
use Rattle.dep_quast.specs.Quasts.{tree_at}
use Rattle.claims.specs.Claims.{Claim, numbered}
use Rattle.certificate_fit.specs.FitClaims.{names}
use Rattle.certificate_fit.specs.PartFit.{shown_fit}

-- the statement that a leaf names which isn't empty, if it names one
abbrev pub named : TreeLeaf → List (Option ℕ)
named (source claim) = Some claim.statement ∷ []
named (input shown) = None ∷ []
named (empty shown) = []
named blank = None ∷ []

-- those of a tree's leaves, `yes` before `no`
abbrev pub names_in : SelectionTree → List (Option ℕ)
names_in (leaf chosen) = named chosen
names_in (test form above below) = names_in above ++ names_in below

abbrev pub names_if : Option SelectionTree → List (Option ℕ)
names_if None = []
names_if (Some tree) = names_in tree

-- those of the tree of a read
abbrev pub leaf_names : AffineProgram → List (List SelectionTree) → ReadOf → List (Option ℕ)
leaf_names program trees reader =
    if nat_lt reader.read (length (statement_at program reader.statement).reads) then names_if (tree_at trees reader.statement reader.read) else []

-- ---- entries

-- What gives the lists of entries their lengths: how many loops are around the target of walks, how many forms a label has,
-- and the nests in which walks may stop.
pub record EntryAim : Type 0 where
  pub loops : ℕ
  pub label : ℕ
  pub credits : List CreditedNest

-- where there are no labels and no credits
abbrev pub unlabelled : ℕ → EntryAim
unlabelled loops = record { loops = loops; label = 0; credits = [] }

-- how many variables a credited nest has; one that isn't there has none
abbrev pub nest_variables : Option CreditedNest → ℕ
nest_variables None = 0
nest_variables (Some credit) = length credit.nest

-- An entry for a leaf, where so many rows say that a walk may go on: two multipliers for each form of the label, also for
-- each variable of a credited nest and for each loop around the target.
abbrev pub aimed_fit : EntryAim → ℕ → LeafClaim → List Step → List Claim
aimed_fit aim called (no_point shown) place = []
aimed_fit aim called (stops label) place = shown_fit (2 * aim.label) (place ++ Key (codes "stop") ∷ []) label ∷ []
aimed_fit aim called (is_credited credit rows label) place =
    names (place ++ Key (codes "credit") ∷ []) credit (length aim.credits) ∷ shown_fit (2 * aim.label) (place ++ Key (codes "label") ∷ []) label
    ∷ shown_fit (2 * nest_variables (slice_get aim.credits credit)) (place ++ Key (codes "rows") ∷ []) rows ∷ []
aimed_fit aim called (goes_on rows label) place = shown_fit (2 * aim.label) (place ++ Key (codes "label") ∷ []) label ∷ shown_fit called (place ++ Key (codes "rows") ∷ []) rows ∷ []
aimed_fit aim called (arrives equal) place = shown_fit (2 * aim.loops) (place ++ Key (codes "arrive") ∷ []) equal ∷ []

abbrev pub aimed_at : EntryAim → List ℕ → List Step → ℕ → LeafClaim → List Claim
aimed_at aim called place index entry = aimed_fit aim (slice_index_or called index 0) entry (place ++ Index index ∷ [])

-- Entries, of which each has so many rows to show that a walk may go on, or none behind the list's end.
abbrev pub aimed_entries_fit : EntryAim → List ℕ → List Step → List LeafClaim → List Claim
aimed_entries_fit aim called place entries = numbered (aimed_at aim called place) 0 entries

-- those where there are no labels and no credits, and so many loops around the target
abbrev pub entry_at : ℕ → List ℕ → List Step → ℕ → LeafClaim → List Claim
entry_at loops called place index entry = aimed_at (unlabelled loops) called place index entry

abbrev pub entries_fit : ℕ → List ℕ → List Step → List LeafClaim → List Claim
entries_fit loops called place entries = aimed_entries_fit (unlabelled loops) called place entries
