use Rattle.std.proofs.Common.{rules, ◌≡◌, subst, sym, ℕ, List, length}
use Rattle.affine_program.specs.Parts.{meaning}
use Rattle.claims.specs.Claims.{AllHold, IsRefusal}
use Rattle.claims.specs.declared.place.Step.{Step}
use Rattle.dep_quast.specs.Quasts.{trees_of}
use Rattle.domain_count.specs.Points.{count}
use Rattle.poly_tree.specs.Expansion.{IsCanonical}
use Rattle.wavefront.specs.FrontClaims.{front_claims}
use Rattle.wavefront.specs.FrontTerm.{outer_nest}
use Rattle.wavefront.specs.View.{front_of}
use Rattle.iolb_check.proofs.Terms.{whole}
use Rattle.iolb_check.proofs.term_checks.check_front_term.Goals as goal

pub check_wavefront-requires : goal.check_wavefront-requires
check_wavefront-requires c = record {
  fits = c.requires.fits.fits;
  trees_fit = c.requires.trees_fit;
  trees_true = c.requires.are_true;
  count = c.requires.fits.count;
  outer_sums = c.requires.fits.outer_sums;
}

pub returns-clause-holds : goal.returns-clause-holds
returns-clause-holds c =
    let program = c.args.program.now in
    let term = front_of c.args.front.now in
    let kept : program.assumed.vars ≡ length program.params = c.params-params.ensures.kept.assumed in
    let counts = c.in_ok-counts.counts in
    record {
      paid = c.in_ok-counts.ensures.footprint;
      covered = c.front_pieces_cover.ensures (meaning program) term c.params-params.ensures.kept.well_formed c.in_ok-counts.ensures.sound;
      counted = (c.in_ok-counts.ensures.counts, c.in_ok-counts.ensures.outer_counts);
      counting = (
        record {
          parameters = subst (λ (n : ℕ). IsCanonical n counts.0.tree) (sym kept) c.in_ok-counts.ensures.parameters;
          whole = whole program (count term.nest) counts.0 kept c.in_ok-counts.ensures.counts;
        },
        record {
          parameters = subst (λ (n : ℕ). IsCanonical n counts.1.tree) (sym kept) c.in_ok-counts.ensures.outer_parameters;
          whole = whole program (count (outer_nest term)) counts.1 kept c.in_ok-counts.ensures.outer_counts;
        },
      );
    }

pub returns-in_err-counts-clause-refused : goal.returns-in_err-counts-clause-refused
returns-in_err-counts-clause-refused c =
    let refused =
    subst (λ (place : List Step). IsRefusal (front_claims (meaning c.args.program.now) place (trees_of c.args.quasts.now) (front_of c.args.front.now)) c.in_err-counts.field-0.0) c.in-Ok.ensures
    c.in_err-counts.ensures.refused in
    search rules

pub returns-clause-accepted : goal.returns-clause-accepted
returns-clause-accepted c =
    subst (λ (place : List Step). AllHold (front_claims (meaning c.args.program.now) place (trees_of c.args.quasts.now) (front_of c.args.front.now))) c.in-Ok.ensures c.in_ok-counts.ensures.holds
