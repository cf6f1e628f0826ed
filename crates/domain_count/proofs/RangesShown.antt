-- Ranges that are shown to be whole, one after another.
use Rattle.std.proofs.Common.{◌≡◌, sym, ◌∙◌, subst, ℕ, ◌+◌, ◌<◌, ◌≤◌, List, [], length, take, drop, get_or, arith}
use Rattle.std.specs.Prelude.{Result, Ok, Err, codes}
use Rattle.std.proofs.lemmas.List.{get_or_default, drop_all}
use Rattle.iolb_model.specs.Form.{AffineForm}
use Rattle.iolb_model.specs.Program.{AffineProgram}
use Rattle.affine_form.specs.Multipliers.{FarkasMultipliers}
use Rattle.claims.specs.Claims.{AllHold, Decides, IsRefusal, IsRefusalAt, numbered}
use Rattle.claims.specs.declared.place.Step.{Step}
use Rattle.claims.specs.declared.refused.Refused.{Refused}
use Rattle.claims.proofs.Found.{refused-here}
use Rattle.claims.proofs.Members.{numbered-ended, numbered-next, numbered-stop}
use Rattle.domain_count.specs.Count.{ShowsRange, multipliers_at}
use Rattle.domain_count.specs.CountClaims.{member_place, range_claim}

module _ (program : AffineProgram) (nest : List (AffineForm × AffineForm)) (shown : List FarkasMultipliers) (place : List Step) where
  -- what decides the claims from a variable on decides all
  abbrev IsReached : ℕ → Type 0
  IsReached k = (answer : Result (Unit {0}) Refused) → Decides (numbered (range_claim program nest shown place) k (drop k nest)) answer
      → Decides (numbered (range_claim program nest shown place) 0 nest) answer

  module _ (k : ℕ) (b : AffineForm × AffineForm) (m : FarkasMultipliers) (below : k < length nest) (here : b ≡ get_or nest k b) (there : m ≡ get_or shown k m)
      (one_each : length shown ≡ length nest) (reached : IsReached k) where
    multipliers : m ≡ multipliers_at shown k
    multipliers = there ∙ get_or_default shown k m (multipliers_at [] 0) (omega arith)

    pub range-further : ShowsRange program (take k nest) b m → IsReached (k + 1)
    range-further shows answer h =
        reached answer (numbered-next (range_claim program nest shown place) nest k b below here answer (subst (ShowsRange program (take k nest) b) multipliers shows, tt) h)

    pub range-refused : (r : Refused) (inner : List Step) → inner ≡ member_place place (codes "shown") k → (ShowsRange program (take k nest) b m → ⊥) → IsRefusalAt 8 inner r
        → IsRefusal (numbered (range_claim program nest shown place) 0 nest) r
    range-refused r inner at fails is =
        reached (Err r) (numbered-stop (range_claim program nest shown place) nest k b below here r
        (refused-here (record { condition = 8; place = member_place place (codes "shown") k; statement = ShowsRange program (take k nest) b (multipliers_at shown k) }) [] r
        (λ shows. fails (subst (ShowsRange program (take k nest) b) (sym multipliers) shows)) (subst (λ (p : List Step). IsRefusalAt 8 p r) at is)))

  pub ranges-ended : (k : ℕ) → length nest ≤ k → IsReached k → AllHold (numbered (range_claim program nest shown place) 0 nest)
  ranges-ended k over reached = reached (Ok tt) (numbered-ended (range_claim program nest shown place) nest k (drop_all k nest over))
