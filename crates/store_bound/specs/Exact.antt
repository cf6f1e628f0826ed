-- What stores claim beside a program and a certificate has one answer.
use Rattle.std.specs.Prelude.{◌≡◌, List}
use Rattle.claims.specs.Claims.{AllHold, FirstFails}
use Rattle.claims.specs.declared.refused.FailedCondition.{FailedCondition}
use Rattle.iolb_check.specs.Claims.{CertificateClaim}
use Rattle.iolb_model.specs.Program.{AffineProgram}
use Rattle.poly_tree.specs.Poly.{Quotient}
use Rattle.store_bound.specs.Conditions.{MeetStores, stores_conditions}
use Rattle.store_terms.specs.Claims.{StoresClaim}

-- Where all conditions hold, the stores aren't refused.
abbrev pub ValidStoresStand : Type 0
ValidStoresStand = (program : AffineProgram) (certificate : CertificateClaim) (stores : StoresClaim) (failed : FailedCondition)
    → AllHold (stores_conditions program certificate stores) → FirstFails (stores_conditions program certificate stores) failed → ⊥

-- Their outputs have counts then.
abbrev pub ValidStoresHaveCounts : Type 0
ValidStoresHaveCounts = (program : AffineProgram) (certificate : CertificateClaim) (stores : StoresClaim)
    → AllHold (stores_conditions program certificate stores) → (counts : List Quotient) × MeetStores program certificate stores counts

-- They meet the conditions with one list of counts.
abbrev pub ValidStoresGiveOne : Type 0
ValidStoresGiveOne = (program : AffineProgram) (certificate : CertificateClaim) (stores : StoresClaim) (one two : List Quotient)
    → MeetStores program certificate stores one → MeetStores program certificate stores two → one ≡ two

-- What doesn't is refused by one condition at one place.
abbrev pub StoresRefusalsAreOne : Type 0
StoresRefusalsAreOne = (program : AffineProgram) (certificate : CertificateClaim) (stores : StoresClaim) (one two : FailedCondition)
    → FirstFails (stores_conditions program certificate stores) one → FirstFails (stores_conditions program certificate stores) two → one ≡ two
