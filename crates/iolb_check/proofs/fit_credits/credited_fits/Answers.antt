use Rattle.std.specs.Prelude.{codes}
use Rattle.std.proofs.Common.{◌≡◌, sym, ◌∙◌, ap, subst, List, [], ◌∷◌, ◌++◌, map}
use Rattle.affine_program.specs.Parts.{meaning}
use Rattle.claims.specs.Claims.{Claim, Decides, numbered}
use Rattle.claims.specs.declared.place.Step.{Step}
use Rattle.claims.specs.declared.place.Step.TheVariants.{Key}
use Rattle.k_partition.specs.View.{credit_term_of}
use Rattle.certificate_fit.specs.FamilyViews.{credits_fit as held_credits}
use Rattle.iolb_check.specs.PartitionFit.{credit_at}
use Rattle.iolb_check.proofs.FitPartitions.{credits-same}
use Rattle.iolb_check.proofs.fit_credits.credited_fits.Goals as goal

pub returns : goal.returns
returns c =
    let P = meaning c.args.program.now in
    let at : List Step = c.args.place.now ++ Key (codes "credits") ∷ [] in
    let same : held_credits P c.in_ok-list.list c.args.credits.now ≡ numbered (credit_at P at) 0 (map credit_term_of c.args.credits.now) =
    ap (λ (p : List Step). held_credits P p c.args.credits.now) c.in_ok-list.ensures ∙ sym (credits-same P at 0 c.args.credits.now) in
    subst (λ (claims : List Claim). Decides claims c.all_credits_fit.result) same c.all_credits_fit.ensures
