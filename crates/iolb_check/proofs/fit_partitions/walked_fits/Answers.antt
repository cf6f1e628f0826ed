use Rattle.std.specs.Prelude.{codes}
use Rattle.std.proofs.Common.{◌≡◌, ◌∙◌, ap, subst, List, [], ◌∷◌, ◌++◌, map}
use Rattle.affine_program.specs.Parts.{meaning}
use Rattle.claims.specs.Claims.{Claim, Decides}
use Rattle.claims.specs.declared.place.Step.{Step}
use Rattle.claims.specs.declared.place.Step.TheVariants.{Key}
use Rattle.k_partition.specs.Term.{credited_nests}
use Rattle.k_partition.specs.View.{partition_of}
use Rattle.reuse_paths.specs.declared.family.Family.{Family}
use Rattle.reuse_paths.specs.Families.{CreditedNest, credit_of, family_of}
use Rattle.dep_quast.specs.Quasts.{trees_of}
use Rattle.certificate_fit.specs.FamilyFit.{families_fit}
use Rattle.iolb_check.specs.PartitionFit.{walked_fit}
use Rattle.iolb_check.proofs.FitPartitions.{credits-held}
use Rattle.iolb_check.proofs.fit_partitions.walked_fits.Goals as goal

pub returns : goal.returns
returns c =
    let P = meaning c.args.program.now in
    let trees = trees_of c.args.quasts.now in
    let term = partition_of c.args.term.now in
    let place = c.args.place.now in
    let at : List Step = place ++ Key (codes "families") ∷ [] in
    let nests : List CreditedNest = map credit_of c.as_slice-credits.result.now in
    let held : nests ≡ credited_nests term = ap (map credit_of) c.as_slice-credits.ensures.value ∙ credits-held c.args.term.now.credits.items in
    let found_families = map family_of c.as_slice-families.result.now in
    let same : families_fit P trees term.statement nests c.in_ok-list.list found_families ≡ walked_fit P trees place term =
    ap (λ (p : List Step). families_fit P trees term.statement nests p found_families) c.in_ok-list.ensures
    ∙ ap (λ (n : List CreditedNest). families_fit P trees term.statement n at found_families) held
    ∙ ap (λ (f : List Family). families_fit P trees term.statement (credited_nests term) at (map family_of f)) c.as_slice-families.ensures.value in
    subst (λ (claims : List Claim). Decides claims c.all_families_fit.result) same c.all_families_fit.ensures
