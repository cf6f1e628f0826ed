-- What is claimed at the leaves of source trees.
use Rattle.std.specs.Prelude.{ℕ, Bool, true, false, List}
use Rattle.affine_form.specs.Multipliers.{FarkasMultipliers}
use Rattle.reuse_paths.specs.declared.leaf.Leaf.{Leaf}
use Rattle.reuse_paths.specs.declared.leaf.Leaf.TheVariants.{Empty, Stop, Credit, Go, Arrive}

-- What is claimed at a leaf: that no point comes there; that a walk stops there at an input with the walk's label; that
-- it stops there in a credited nest; that it goes on there; that it arrives there.
pub data LeafClaim : Type 0 where
  no_point : FarkasMultipliers → LeafClaim
  stops : List FarkasMultipliers → LeafClaim
  is_credited : ℕ → List FarkasMultipliers → List FarkasMultipliers → LeafClaim
  goes_on : List FarkasMultipliers → List FarkasMultipliers → LeafClaim
  arrives : List FarkasMultipliers → LeafClaim

-- whether it is that a walk stops
abbrev pub is_stop : LeafClaim → Bool
is_stop (no_point shown) = false
is_stop (stops label) = true
is_stop (is_credited credit rows label) = false
is_stop (goes_on rows label) = false
is_stop (arrives equal) = false

-- the claim that the code holds
abbrev pub claim_of : Leaf → LeafClaim
claim_of (Empty shown) = no_point shown
claim_of (Stop label) = stops label.items
claim_of (Credit credit rows label) = is_credited credit rows.items label.items
claim_of (Go rows label) = goes_on rows.items label.items
claim_of (Arrive equal) = arrives equal.items
