-- What stores claim has one answer.
use Rattle.std.proofs.Common.{◌≡◌, refl, ℕ, suc, List, [], ◌∷◌, ◌++◌}
use Rattle.base_laws.proofs.Lists.{cons-same}
use Rattle.iolb_model.specs.Program.{AffineProgram}
use Rattle.claims.specs.Claims.{AllHold, Claim, numbered}
use Rattle.claims.proofs.Laws.{AllHold-left, AllHold-right, accepted-stand, refused-one}
use Rattle.domain_count.specs.CountClaims.{count_claims}
use Rattle.domain_count.proofs.Claimed.{claims-count, right-claims-give-one}
use Rattle.poly_tree.specs.Poly.{Quotient}
use Rattle.last_writers.specs.OutputClaims.{instance_claims}
use Rattle.store_bound.specs.Conditions.{AreCountsOf, apart_claims, output_claims_at, stores_conditions}
use Rattle.store_bound.specs.Exact.{StoresRefusalsAreOne, ValidStoresGiveOne, ValidStoresHaveCounts, ValidStoresStand}
use Rattle.store_bound.specs.StoresFit.{output_place, stores_fit}
use Rattle.store_terms.specs.Claims.{OutputClaim}

counts-same : (program : AffineProgram) (outputs : List OutputClaim) (one other : List Quotient) → AreCountsOf program outputs one → AreCountsOf program outputs other → one ≡ other
counts-same program [] [] [] h g = refl
counts-same program [] [] (w ∷ other) h g = absurd g
counts-same program [] (v ∷ one) other h g = absurd h
counts-same program (o ∷ outputs) [] other h g = absurd h
counts-same program (o ∷ outputs) (v ∷ one) [] h g = absurd g
counts-same program (o ∷ outputs) (v ∷ one) (w ∷ other) h g =
    cons-same v w one other (right-claims-give-one program o.nest o.count v w h.0 g.0) (counts-same program outputs one other h.1 g.1)

counts-there : (program : AffineProgram) (index : ℕ) (outputs : List OutputClaim) → AllHold (numbered (output_claims_at program) index outputs) → (counts : List Quotient) × AreCountsOf program outputs counts
counts-there program index [] h = ([], tt)
counts-there program index (o ∷ outputs) h =
    let here : List Claim = output_claims_at program index o in
    let others : List Claim = numbered (output_claims_at program) (suc index) outputs in
    let first = claims-count program o.nest o.count (output_place index)
    (AllHold-left (count_claims program o.nest o.count (output_place index)) (instance_claims program (output_place index) o) (AllHold-left here others h)) in
    let rest = counts-there program (suc index) outputs (AllHold-right here others h) in
    (first.0 ∷ rest.0, (first.1, rest.1))

pub stores-stand : ValidStoresStand
stores-stand program certificate stores failed holds fails = accepted-stand (stores_conditions program certificate stores) failed holds fails

pub stores-have-counts : ValidStoresHaveCounts
stores-have-counts program certificate stores holds =
    let fit : List Claim = stores_fit program certificate stores in
    let outputs : List Claim = numbered (output_claims_at program) 0 stores.outputs in
    let given = counts-there program 0 stores.outputs (AllHold-right fit outputs (AllHold-left (fit ++ outputs) (apart_claims program certificate stores) holds)) in
    (given.0, record { accepted = holds; counted = given.1 })

pub stores-give-one : ValidStoresGiveOne
stores-give-one program certificate stores one two h g = counts-same program stores.outputs one two h.counted g.counted

pub refusals-once : StoresRefusalsAreOne
refusals-once program certificate stores one two f g = refused-one (stores_conditions program certificate stores) one two f g
