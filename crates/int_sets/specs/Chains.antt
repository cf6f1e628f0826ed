-- Chains of halves with like values. (Hashing with chains: Knuth, The Art of Computer Programming, volume 3, section 6.4.)
use Rattle.std.specs.Prelude.{◌≡◌, ℕ, suc, ◌/◌, ◌%◌, ◌^◌, ◌≤◌, ◌<◌, ℤ, pos, ◌≤ℤ◌, List, [], length, slice_index_or}
use Rattle.std.specs.Int.{cast_unsigned}
use mir.Syntax.{w128}
use Rattle.int_sets.specs.declared.half.Half.{Half}
use Rattle.int_sets.specs.declared.chains.Chains.{Chains}
use Rattle.int_sets.specs.declared.chains.Link.{Link}
use Rattle.int_sets.specs.declared.chains.TheConstants.{CHAINS}

-- the chain of a value
abbrev pub chain_of : ℤ → ℕ
chain_of value = cast_unsigned w128 value / 2 ^ 20 % CHAINS

-- the half at a place
abbrev pub half_at : List Half → ℕ → Half
half_at halves k = slice_index_or halves k (record { rows = []; count = 0; value = pos 0; constant = pos 0 })

-- the link at a place
abbrev pub link_at : List Link → ℕ → Link
link_at links k = slice_index_or links k (record { next = 0; least = pos 0 })

-- A chain from a number on leads to a place: the number is the place's, or that of a link from which the chain leads there
-- (places are numbered from 1). No link on the way says that all constants behind it are above this one.
pub data Leads (links : List Link) (constant : ℤ) : ℕ → ℕ → Type 0 where
  here : (k : ℕ) → (link_at links k).least ≤ℤ constant → Leads links constant (suc k) k
  later : (n k : ℕ) → (link_at links n).least ≤ℤ constant → Leads links constant (link_at links n).next k → Leads links constant (suc n) k

-- Chains of the first so many halves: each of these halves is led to from the start of its value's chain.
pub record AreChainsOf (count : ℕ) (halves : List Half) (starts : List ℕ) (links : List Link) : Type 0 where
  pub one_each : length links ≡ count
  pub chains : length starts ≡ CHAINS
  pub falls : (n : ℕ) → n < count → (link_at links n).next ≤ n
  pub within : (chain : ℕ) → slice_index_or starts chain 0 ≤ count
  pub leads : (k : ℕ) → k < count → Leads links (half_at halves k).constant (slice_index_or starts (chain_of (half_at halves k).value) 0) k

-- chains of all halves
abbrev pub AreChains : List Half → Chains → Type 0
AreChains halves chains = AreChainsOf (length halves) halves chains.starts.items chains.links.items
