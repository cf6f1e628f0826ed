use Rattle.std.proofs.Common.{◌∙◌, ap, sym, subst, Err}
use Rattle.affine_program.specs.Parts.{meaning}
use Rattle.projective_bounds.specs.Certified.{IsCertified}
use Rattle.find_terms.proofs.OfProjective.{none-reached}
use Rattle.find_terms.proofs.making.of_projective.Goals as goal

pub returns-in-Ok-clause-certified : goal.returns-in-Ok-clause-certified
returns-in-Ok-clause-certified c =
    let program = meaning c.args.program.now in
    let is : IsCertified program c.in_ok-certain-in-Ok.field-0.certificate = subst (IsCertified program) (sym c.in_ok-certain-in-Ok.ensures.certificate) c.in-Ok.ensures.certified in
    (is, c.certified_have_least_exponents.ensures program c.in_ok-certain-in-Ok.field-0.certificate is)

pub returns-in-Err-TooFine-clause-none : goal.returns-in-Err-TooFine-clause-none
returns-in-Err-TooFine-clause-none c = none-reached (meaning c.args.program.now) (c.certify.ensures.too_fine (c.in-Err-TooFine.is ∙ ap Err c.in-Err-TooFine.field-0-is))
