-- The parts of a wavefront term's claims, one after another.
use Rattle.std.proofs.Common.{◌≡◌, sym, subst, List, ◌++◌}
use Rattle.iolb_model.specs.Program.{AffineProgram}
use Rattle.claims.specs.Claims.{Claim, AllHold, IsRefusal}
use Rattle.claims.specs.declared.place.Step.{Step}
use Rattle.claims.specs.declared.refused.Refused.{Refused}
use Rattle.claims.proofs.Found.{refused-first, refused-later}
use Rattle.claims.proofs.Laws.{AllHold-append}
use Rattle.dep_quast.specs.Tree.{SelectionTree}
use Rattle.dep_quast.specs.Quasts.{tree_for}
use Rattle.wavefront.specs.FrontClaims.{front_back, front_claims, front_counts, front_reach, point_claims, wave_claims}
use Rattle.wavefront.specs.FrontTerm.{WavefrontTerm, user_read}

module _ (program : AffineProgram) (place : List Step) (trees : List (List SelectionTree)) (term : WavefrontTerm) (tree : SelectionTree) (is : tree_for trees (user_read term) ≡ tree) where
  abbrev counts : List Claim
  counts = front_counts program place term

  abbrev points : List Claim
  points = point_claims program place (tree_for trees (user_read term)) term

  abbrev reach : List Claim
  reach = front_reach program place trees term

  abbrev back : List Claim
  back = front_back program place trees term

  abbrev waves : List Claim
  waves = wave_claims program place trees term

  points-hold : AllHold (point_claims program place tree term) → AllHold points
  points-hold h = subst (λ (t : SelectionTree). AllHold (point_claims program place t term)) (sym is) h

  pub stop-counts : (r : Refused) → IsRefusal counts r → IsRefusal (front_claims program place trees term) r
  stop-counts r h = refused-first counts waves r h

  pub stop-points : (r : Refused) → AllHold counts → IsRefusal (point_claims program place tree term) r → IsRefusal (front_claims program place trees term) r
  stop-points r h refused =
      refused-later counts waves r h
      (refused-first (points ++ reach) back r (refused-first points reach r (subst (λ (t : SelectionTree). IsRefusal (point_claims program place t term) r) (sym is) refused)))

  pub stop-reach : (r : Refused) → AllHold counts → AllHold (point_claims program place tree term) → IsRefusal reach r → IsRefusal (front_claims program place trees term) r
  stop-reach r h hp refused = refused-later counts waves r h (refused-first (points ++ reach) back r (refused-later points reach r (points-hold hp) refused))

  pub stop-back : (r : Refused) → AllHold counts → AllHold (point_claims program place tree term) → AllHold reach → IsRefusal back r → IsRefusal (front_claims program place trees term) r
  stop-back r h hp hr refused = refused-later counts waves r h (refused-later (points ++ reach) back r (AllHold-append points reach (points-hold hp) hr) refused)

  pub waves-hold : AllHold (point_claims program place tree term) → AllHold reach → AllHold back → AllHold waves
  waves-hold hp hr hb = AllHold-append (points ++ reach) back (AllHold-append points reach (points-hold hp) hr) hb

  pub all-hold : AllHold counts → AllHold waves → AllHold (front_claims program place trees term)
  all-hold h w = AllHold-append counts waves h w
