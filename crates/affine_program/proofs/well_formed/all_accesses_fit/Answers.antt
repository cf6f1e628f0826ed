use Rattle.std.proofs.Common.{◌≡◌, ◌∙◌, ◌<◌, ap, sym, subst, true, map, length, get_or, arith}
use Rattle.std.proofs.lemmas.List.{length-map, get_or-map}
use Rattle.iolb_model.specs.Program.{AccessFits}
use Rattle.base_laws.proofs.Lists.{All-at}
use Rattle.affine_program.specs.Draft.{parts_of}
use Rattle.affine_program.specs.Parts.{meaning, access_of}
use Rattle.affine_program.proofs.well_formed.all_accesses_fit.Goals as goal

pub returns-then-not-access_fits : goal.returns-then-not-access_fits
returns-then-not-access_fits c = (
  λ t. absurd cc,
  λ h.
      let program = meaning (parts_of c.args.draft.now) in
      let refs = c.args.references.now in
      let k = c.loop-reference.reference-index in
      let item = c.reference-item.result in
      let below : k < length (map access_of refs) = omega (arith, length-map refs access_of, c.loop-reference-test.true) in
      let same : get_or (map access_of refs) k (access_of item) ≡ access_of item = get_or-map access_of refs k item (access_of item) c.loop-reference-test.true ∙ ap access_of (sym c.reference-item.is) in
      let yes : c.access_fits.result ≡ true = c.access_fits.ensures.1 (subst (AccessFits program c.args.variables) same (All-at (AccessFits program c.args.variables) (map access_of refs) k (access_of item) h below)) in
      absurd cc,
)
