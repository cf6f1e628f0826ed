-- How the faults of a summation are taken.
use Rattle.std.specs.Prelude.{◌≡◌, ◌≢◌, ⊤, ℕ, List}
use Rattle.claims.specs.declared.place.Step.{Step}
use Rattle.claims.specs.declared.refused.Refused.{Refused}
use Rattle.claims.specs.declared.refused.Refused.TheVariants.{Failed, Memory as NoMemory}
use Rattle.poly_tree.specs.declared.fault.PolyFault.{PolyFault}
use Rattle.poly_tree.specs.declared.fault.PolyFault.TheVariants.{Wide, Memory}
use Rattle.domain_count.specs.declared.summation.SumFault.{SumFault}
use Rattle.domain_count.specs.declared.summation.SumFault.TheVariants.{Wide as SumWide, Differs, Memory as SumMemory}

-- an operation that passes its limit, or has no memory
abbrev pub fault_of : PolyFault → SumFault
fault_of Wide = SumWide
fault_of Memory = SumMemory

-- the condition that a fault breaks
abbrev pub condition_of : SumFault → ℕ
condition_of SumWide = 2
condition_of Differs = 9
condition_of SumMemory = 0

-- where there was memory, it is this fault that is refused at this place
abbrev pub IsFaultRefusal : List Step → SumFault → Refused → Type 0
IsFaultRefusal place fault (Failed failed) = (fault ≢ SumMemory) × (failed ≡ record { condition = condition_of fault; place = place })
IsFaultRefusal place fault NoMemory = ⊤
