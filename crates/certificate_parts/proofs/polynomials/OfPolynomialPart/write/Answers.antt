use Rattle.std.proofs.Common.{subst, sym, ◌∙◌, ap, List}
use Rattle.std.specs.List.{AllByRecursion}
use Rattle.iolb_model.specs.Polynomial.{Term}
use Rattle.affine_form.specs.Form.{IsSmall}
use Rattle.poly_tree.specs.Terms.{terms_of}
use Rattle.certificate_parts.proofs.ReadPolynomials.{polynomial-read, polynomial-is}
use Rattle.certificate_parts.proofs.polynomials.OfPolynomialPart.write.Goals as goal
use Rattle.iolb_model.specs.declared.limits.TheConstants.{COEFFICIENT_SIZE}

pub write_terms-requires : goal.write_terms-requires
write_terms-requires c =
    subst (λ (terms : List Term). AllByRecursion (λ (term : Term). IsSmall COEFFICIENT_SIZE term.coefficient) terms)
    (sym (ap terms_of c.as_slice.ensures.value ∙ c.in_ok-found.ensures.terms))
    (c.in_ok-found.ensures.written.small COEFFICIENT_SIZE c.requires.numbers)

pub returns-clause-read : goal.returns-clause-read
returns-clause-read c = polynomial-read c.args.part.now c.requires c.den-den.ensures.legal.positive c.in_ok-found.ensures.written

pub returns-clause-is : goal.returns-clause-is
returns-clause-is c = polynomial-is c.args.part.now c.requires c.den-den.ensures.legal c.in_ok-found.ensures.written
