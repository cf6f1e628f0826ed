-- A split whose claims hold leaves no point.
use Rattle.std.proofs.Common.{inl, inr, List, [], ◌∷◌, ◌++◌, arith}
use Rattle.std.specs.Prelude.{◌⊎◌, ◌<ℤ◌, codes}
use Rattle.std.proofs.Math.IntN.{ℤ, pos, negsuc}
use lib.Signed.{◌≤ℤ◌}
use Rattle.std.proofs.lemmas.Int.{ints}
use Rattle.base_laws.proofs.Lists.{All-append}
use Rattle.iolb_model.specs.Form.{AffineForm, form_value}
use Rattle.affine_form.specs.System.{IsMet}
use Rattle.affine_form.proofs.ShownLemmas.{Shows-none}
use Rattle.claims.specs.Claims.{Claim}
use Rattle.claims.specs.declared.place.Step.TheVariants.{Key}
use Rattle.claims.proofs.Laws.{AllHold-left, AllHold-right}
use Rattle.dep_quast.specs.Context.{no_row}
use Rattle.dep_quast.proofs.ChosenLeaves.{no_row-met}
use Rattle.joint_partition.specs.Splits.{SplitsShow, empty, split, split_claims}

either-side : (v : ℤ) → (pos 0 ≤ℤ v) ⊎ (v <ℤ pos 0)
either-side (pos n) = inl (omega (arith, ints))
either-side (negsuc n) = inr (omega (arith, ints))

pub splits-show : SplitsShow
splits-show condition place vars rows (empty shown) hold point met = Shows-none (record { vars = vars; rows = rows }) shown hold.0.0 hold.0.1 point met
splits-show condition place vars rows (split form above below) hold point met =
    by (either-side (form_value form point))
    (λ least. splits-show condition (place ++ Key (codes "yes") ∷ []) vars (rows ++ form ∷ []) above (AllHold-left first second hold) point (with-row form least))
    (λ most. splits-show condition (place ++ Key (codes "no") ∷ []) vars (rows ++ no_row vars form ∷ []) below (AllHold-right first second hold) point
    (with-row (no_row vars form) (no_row-met vars form point most))) where
      first : List Claim
      first = split_claims condition (place ++ Key (codes "yes") ∷ []) vars (rows ++ form ∷ []) above

      second : List Claim
      second = split_claims condition (place ++ Key (codes "no") ∷ []) vars (rows ++ no_row vars form ∷ []) below

      with-row : (row : AffineForm) → pos 0 ≤ℤ form_value row point → IsMet (rows ++ row ∷ []) point
      with-row row least = All-append (λ (r : AffineForm). pos 0 ≤ℤ form_value r point) rows (row ∷ []) met (least, tt)

      by : (pos 0 ≤ℤ form_value form point) ⊎ (form_value form point <ℤ pos 0) → (pos 0 ≤ℤ form_value form point → ⊥) → (form_value form point <ℤ pos 0 → ⊥) → ⊥
      by (inl least) here there = here least
      by (inr most) here there = there most
