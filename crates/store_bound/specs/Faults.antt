-- What is answered of a program, a certificate and stores.
use Rattle.std.specs.Prelude.{◌≡◌, ⊤, ℕ, ◌+◌, ◌≤◌, ℤ, List, Result, Ok, Err}
use Rattle.affine_program.specs.Assumptions.{IsFirstUnmet}
use Rattle.affine_program.specs.Parts.{ProgramParts, meaning}
use Rattle.claims.specs.Claims.{FirstFails}
use Rattle.iolb_check.specs.Bounds.{BoundParts, bound_of}
use Rattle.iolb_check.specs.Claims.{claim_of_certificate}
use Rattle.iolb_check.specs.Conditions.{MeetsConditions, conditions}
use Rattle.iolb_check.specs.Limits.{CertificateParts}
use Rattle.iolb_check.specs.declared.bound.Value.{Value}
use Rattle.iolb_model.specs.Bound.{AreMet, bound_value}
use Rattle.iolb_model.specs.declared.game.Move.{Move}
use Rattle.iolb_model.specs.Game.{IsCompletePebbling, loads, stores}
use Rattle.iolb_model.specs.Graph.{computation_graph}
use Rattle.iolb_model.specs.Program.{AffineProgram}
use Rattle.poly_tree.specs.Poly.{Quotient}
use Rattle.store_bound.specs.Conditions.{MeetStores, stores_conditions}
use Rattle.store_bound.specs.Counted.{counted_values}
use Rattle.store_bound.specs.Values.{IsWideTraffic, store_value}
use Rattle.store_bound.specs.declared.fault.Traffic.{Traffic}
use Rattle.store_bound.specs.declared.fault.TrafficFault.{TrafficFault}
use Rattle.store_bound.specs.declared.fault.TrafficFault.TheVariants.{Refused, StoresRefused, OutsideAssumption, Wide, Memory}
use Rattle.store_terms.specs.Claims.{claim_of_stores}
use Rattle.store_terms.specs.Limits.{StoresParts}

-- Moves make at least so many loads and at least so many stores, so at least their sum of both together.
pub record IsTransferred (least_loads least_stores : ℕ) (moves : List Move) : Type 0 where
  pub loaded : least_loads ≤ loads moves
  pub stored : least_stores ≤ stores moves
  pub together : least_loads + least_stores ≤ loads moves + stores moves

-- every complete pebbling at these parameter values does
abbrev pub MakesTraffic : AffineProgram → List ℤ → ℕ → ℕ → ℕ → Type 0
MakesTraffic program values s least_loads least_stores = (moves : List Move) → IsCompletePebbling (computation_graph program values) s moves
    → IsTransferred least_loads least_stores moves

-- the values of a certificate's terms, by branch: it meets the conditions with these alone
abbrev pub HasValues : ProgramParts → CertificateParts → List (List Value) → Type 0
HasValues program certificate branches = MeetsConditions (meaning program) (claim_of_certificate certificate) branches

-- the counts of the outputs of stores, likewise
abbrev pub HasCounts : ProgramParts → CertificateParts → StoresParts → List Quotient → Type 0
HasCounts program certificate stores counts = MeetStores (meaning program) (claim_of_certificate certificate) (claim_of_stores stores) counts

-- the value of the bound of a program and of terms' values, and that of the stores beside it
abbrev pub loads_at : ProgramParts → List (List Value) → List ℤ → ℕ → ℕ
loads_at program branches sizes s = let parts : BoundParts = record { assumed = program.assumed; branches = branches } in bound_value (bound_of parts) sizes s

abbrev pub stores_at : CertificateParts → StoresParts → List (List Value) → List Quotient → List ℤ → ℕ → ℕ
stores_at certificate stores branches counts sizes s = store_value counts (counted_values (claim_of_certificate certificate) stores.branch branches) sizes s

abbrev pub IsWideAtSizes : ProgramParts → CertificateParts → StoresParts → List ℤ → ℕ → List (List Value) → List Quotient → Type 0
IsWideAtSizes program certificate stores sizes s branches counts =
    IsWideTraffic sizes s branches counts (loads_at program branches sizes s + stores_at certificate stores branches counts sizes s)

-- The first condition of the certificate that fails; where all are met, the first of the stores; where all are, the first
-- assumption that isn't met; where all are, that something is wide, or else the values.
abbrev pub AnswersTraffic : ProgramParts → CertificateParts → StoresParts → List ℤ → ℕ → Result Traffic TrafficFault → Type 0
AnswersTraffic program certificate stores sizes s (Ok traffic) =
    (branches : List (List Value)) × (counts : List Quotient) × (HasValues program certificate branches × HasCounts program certificate stores counts
    × AreMet program.assumed.rows sizes × (¬ IsWideAtSizes program certificate stores sizes s branches counts)
    × (traffic.loads ≡ loads_at program branches sizes s) × (traffic.stores ≡ stores_at certificate stores branches counts sizes s))
AnswersTraffic program certificate stores sizes s (Err (Refused failed)) = FirstFails (conditions (meaning program) (claim_of_certificate certificate)) failed
AnswersTraffic program certificate stores sizes s (Err (StoresRefused failed)) =
    (branches : List (List Value)) × (HasValues program certificate branches
    × FirstFails (stores_conditions (meaning program) (claim_of_certificate certificate) (claim_of_stores stores)) failed)
AnswersTraffic program certificate stores sizes s (Err (OutsideAssumption number)) =
    (branches : List (List Value)) × (counts : List Quotient) × (HasValues program certificate branches × HasCounts program certificate stores counts
    × IsFirstUnmet program.assumed.rows sizes number)
AnswersTraffic program certificate stores sizes s (Err Wide) =
    (branches : List (List Value)) × (counts : List Quotient) × (HasValues program certificate branches × HasCounts program certificate stores counts
    × AreMet program.assumed.rows sizes × IsWideAtSizes program certificate stores sizes s branches counts)
AnswersTraffic program certificate stores sizes s (Err Memory) = ⊤
