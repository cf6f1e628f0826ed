-- Entries at the leaves of source trees: that a walk stops at an input, and that no point comes to another leaf.
use Rattle.std.specs.Prelude.{◌≡◌, ℕ, Bool, true, false, ⊤, List, [], ◌∷◌, ◌++◌, length, map, Option, Some, None, Vec}
use Rattle.std.specs.Global.{Global}
use Rattle.std.specs.List.{AllByRecursion}
use Rattle.iolb_model.specs.Form.{AffineForm}
use Rattle.affine_form.specs.System.{AffineSystem}
use Rattle.flow_deps.specs.declared.wanted.Wanted.{Wanted}
use Rattle.flow_deps.specs.declared.wanted.Wanted.TheVariants.{Short}
use Rattle.flow_deps.specs.Answers.{IsAsShort}
use Rattle.claims.specs.Shown.{IsFew}
use Rattle.reuse_paths.specs.declared.leaf.Leaf.{Leaf}
use Rattle.reuse_paths.specs.LeafClaims.{LeafClaim, no_point, stops, is_credited, goes_on, arrives, claim_of}
use Rattle.dep_quast.specs.OpenLeaves.{OpenLeaf, is_input}
use Rattle.wavefront.specs.Leaves.{IsClosed}

-- ---- entries, by themselves

-- At an input the walk stops, with no label; every other leaf is claimed to have no point.
abbrev pub IsEntry : Bool → LeafClaim → Type 0
IsEntry input (no_point shown) = input ≡ false
IsEntry input (stops label) = (input ≡ true) × (label ≡ [])
IsEntry input (is_credited credit rows label) = ⊥
IsEntry input (goes_on rows label) = ⊥
IsEntry input (arrives equal) = ⊥

-- one for each leaf
abbrev pub AreEntries : List OpenLeaf → List LeafClaim → Type 0
AreEntries [] [] = ⊤
AreEntries [] (entry ∷ entries) = ⊥
AreEntries (l ∷ leaves) [] = ⊥
AreEntries (l ∷ leaves) (entry ∷ entries) = IsEntry (is_input l.origin) entry × AreEntries leaves entries

-- their multipliers are as short as is wanted
abbrev pub IsEntryAsShort : Wanted → LeafClaim → Type 0
IsEntryAsShort wanted (no_point shown) = IsAsShort wanted shown
IsEntryAsShort wanted (stops label) = AllByRecursion (IsAsShort wanted) label
IsEntryAsShort wanted (is_credited credit rows label) = AllByRecursion (IsAsShort wanted) rows × AllByRecursion (IsAsShort wanted) label
IsEntryAsShort wanted (goes_on rows label) = AllByRecursion (IsAsShort wanted) rows × AllByRecursion (IsAsShort wanted) label
IsEntryAsShort wanted (arrives equal) = AllByRecursion (IsAsShort wanted) equal

-- ---- entries that close leaves

-- an entry closes a leaf whose system has few rows: it stops at an input, and shows another leaf to have no point, by
-- multipliers as short as is wanted
pub record Closes (wanted : Wanted) (system : AffineSystem) (input : Bool) (entry : LeafClaim) : Type 0 where
  pub few : IsFew (length system.rows)
  pub closed : IsClosed system input entry
  pub is_entry : IsEntry input entry
  pub as_short : IsEntryAsShort wanted entry

-- the system of a leaf: these rows, and its tests
abbrev pub system_at : ℕ → List AffineForm → OpenLeaf → AffineSystem
system_at vars rows l = record { vars = vars; rows = rows ++ l.tests }

-- each leaf is closed by the entry in its place
abbrev pub AreClosed : Wanted → ℕ → List AffineForm → List OpenLeaf → List LeafClaim → Type 0
AreClosed wanted vars rows [] [] = ⊤
AreClosed wanted vars rows [] (entry ∷ entries) = ⊥
AreClosed wanted vars rows (l ∷ leaves) [] = ⊥
AreClosed wanted vars rows (l ∷ leaves) (entry ∷ entries) = Closes wanted (system_at vars rows l) (is_input l.origin) entry × AreClosed wanted vars rows leaves entries

-- what a search for an entry finds: one that closes the leaf; or nothing, and then no short lists do
abbrev pub FindsEntry : Wanted → AffineSystem → Bool → Option Leaf → Type 0
FindsEntry wanted system input None = (entry : LeafClaim) → ¬ Closes Short system input entry
FindsEntry wanted system input (Some entry) = Closes wanted system input (claim_of entry)

-- and for entries at all leaves
abbrev pub FindsEntries : Wanted → ℕ → List AffineForm → List OpenLeaf → Option (Vec Leaf Global) → Type 0
FindsEntries wanted vars rows leaves None = (entries : List LeafClaim) → ¬ AreClosed Short vars rows leaves entries
FindsEntries wanted vars rows leaves (Some entries) = AreClosed wanted vars rows leaves (map claim_of entries.items)
